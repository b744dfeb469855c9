-- From what is read of the valid front of a source to its tokens or its first fault.
use Rattle.std.proofs.Common.{◌≡◌, ◌≤◌, ℕ, List, length, length-take, take_all, ap, ◌∙◌, subst, arith}
use Rattle.std.specs.Str.{IsUtf8, IsValidUpTo}
use Rattle.std.specs.Str.Lossy.{utf8_valid_len}
use Rattle.std.proofs.lemmas.Str.{utf8_valid_len-IsValidUpTo}
use Rattle.kf_lex.specs.declared.token.LexError.{LexError}
use Rattle.kf_lex.specs.declared.token.LexError.TheVariants as fault
use Rattle.kf_lex.specs.declared.token.Token.{Token}
use Rattle.kf_lex.specs.Cuts.{IsFirstWrong, IsFaultOrMem, valid_front}
use Rattle.kf_lex.specs.Readings.{Fault, IsFault, IsTokens, Reads, WrongFrom, place}
use Rattle.kf_lex.proofs.Faults.{before_end, front_length}
use Rattle.kf_lex.proofs.Following.{never_wrong}

-- the front of a source is all of it where it is as long
pub whole : (src text : List ℕ) → text ≡ valid_front src → length src ≤ length text → text ≡ src
whole src text e long =
    e ∙ take_all (utf8_valid_len src) src (omega (arith, ap length e, length-take (utf8_valid_len src) src, long))

pub tokens_of_whole : (src text : List ℕ) (tokens : List Token) → text ≡ valid_front src → length src ≤ length text → IsUtf8 text
    → Reads 0 text tokens → IsTokens src tokens
tokens_of_whole src text tokens e long utf8 reads =
    let same = whole src text e long in
    record { utf8 = subst IsUtf8 same utf8; reads = subst (λ x. Reads 0 x tokens) same reads }

-- a source that stops being UTF-8 has that as its fault, where nothing is wrong before
utf8_first : (src : List ℕ) (tokens : List Token) (at : ℕ) → IsValidUpTo src at → Reads 0 (valid_front src) tokens → (f : LexError) → Fault src f → at ≤ place f
utf8_first src tokens at valid reads (fault.Utf8 j) h = omega (arith, utf8_valid_len-IsValidUpTo src at valid, utf8_valid_len-IsValidUpTo src j h)
utf8_first src tokens at valid reads (fault.Char j) h = absurd (never_wrong 0 (valid_front src) tokens (fault.Char j) reads h)
utf8_first src tokens at valid reads (fault.Number j) h = absurd (never_wrong 0 (valid_front src) tokens (fault.Number j) reads h)
utf8_first src tokens at valid reads fault.Mem h = absurd h

pub utf8_fault : (src text : List ℕ) (tokens : List Token) → text ≡ valid_front src → IsValidUpTo src (length text) → Reads 0 text tokens
    → IsFault src (fault.Utf8 (length text))
utf8_fault src text tokens e valid reads = record {
  is = valid;
  first = utf8_first src tokens (length text) valid (subst (λ x. Reads 0 x tokens) e reads);
}

-- a wrong piece comes before the end of the front
wrong_first : (src : List ℕ) (e : LexError) → WrongFrom 0 (valid_front src) e
    → ((f : LexError) → WrongFrom 0 (valid_front src) f → place e ≤ place f) → (f : LexError) → Fault src f → place e ≤ place f
wrong_first src e w least (fault.Utf8 j) h = omega (arith, before_end (valid_front src) e w, front_length src, utf8_valid_len-IsValidUpTo src j h)
wrong_first src e w least (fault.Char j) h = least (fault.Char j) h
wrong_first src e w least (fault.Number j) h = least (fault.Number j) h
wrong_first src e w least fault.Mem h = absurd h

pub fault_of_front : (src : List ℕ) (e : LexError) → IsFirstWrong (valid_front src) e → IsFaultOrMem src e
fault_of_front src fault.Mem h = tt
fault_of_front src (fault.Utf8 i) h = absurd h.0.3
fault_of_front src (fault.Char i) h = record { is = h.0; first = wrong_first src (fault.Char i) h.0 h.1 }
fault_of_front src (fault.Number i) h = record { is = h.0; first = wrong_first src (fault.Number i) h.0 h.1 }

pub wrong_fault : (src text : List ℕ) (e : LexError) → text ≡ valid_front src → IsFirstWrong text e → IsFaultOrMem src e
wrong_fault src text e same h = fault_of_front src e (subst (λ x. IsFirstWrong x e) same h)
