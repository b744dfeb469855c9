-- A source has one first fault, and then no tokens.
use Rattle.std.proofs.Common.{◌≡◌, ◌<◌, ◌≤◌, ℕ, List, ◌++◌, length, length-append, length-take, drop, take_all, sym, ap, ◌∙◌, arith}
use Rattle.std.specs.Str.{IsUtf8, IsValidUpTo}
use Rattle.std.specs.Str.Lossy.{utf8_valid_len}
use Rattle.std.proofs.lemmas.Str.{utf8_valid_len-IsUtf8, utf8_valid_len-IsValidUpTo}
use Rattle.std.proofs.Math.Seq.{drop-append_seam}
use Rattle.kf_lex.specs.declared.token.LexError.{LexError}
use Rattle.kf_lex.specs.declared.token.LexError.TheVariants as fault
use Rattle.kf_lex.specs.declared.token.Token.{Token}
use Rattle.kf_lex.specs.Readings.{Fault, IsFault, IsTokens, WrongFrom, place}
use Rattle.kf_lex.specs.Cuts.{valid_front}
use Rattle.kf_lex.proofs.Following.{never_wrong, one_list, piece_length, reached, wrong_piece}

seam : (text front left : List ℕ) (at : ℕ) → text ≡ front ++ left → at ≡ length front → left ≡ drop at text
seam text front left at e h = sym (rw (e, h) (drop-append_seam front left))

-- what is left where a wrong piece stands
left_there : (text : List ℕ) (e : LexError) → (w : WrongFrom 0 text e) → w.0 ++ w.1 ≡ drop (place e) text
left_there text e w =
    let r = reached 0 (place e) text (w.0 ++ w.1) w.2 in
    seam text r.0 (w.0 ++ w.1) (place e) r.1 (omega (arith, r.2))

-- a wrong piece stands before the end of the text
pub before_end : (text : List ℕ) (e : LexError) → WrongFrom 0 text e → place e < length text
before_end text e w =
    let r = reached 0 (place e) text (w.0 ++ w.1) w.2 in
    omega (arith, ap length r.1, length-append r.0 (w.0 ++ w.1), length-append w.0 w.1, piece_length w.0 w.1 (wrong_piece e w.0 w.1 w.3), r.2)

pub front_length : (src : List ℕ) → length (valid_front src) ≤ utf8_valid_len src
front_length src = omega (arith, length-take (utf8_valid_len src) src)

utf8_apart : (src : List ℕ) (at : ℕ) (e : LexError) → IsValidUpTo src at → WrongFrom 0 (valid_front src) e → at ≡ place e → ⊥
utf8_apart src at e valid w h =
    absurd (omega (arith, before_end (valid_front src) e w, front_length src, utf8_valid_len-IsValidUpTo src at valid, h))

char_apart : (text : List ℕ) (i j : ℕ) → WrongFrom 0 text (fault.Char i) → WrongFrom 0 text (fault.Number j) → i ≡ j → ⊥
char_apart text i j v w h =
    let same = left_there text (fault.Char i) v ∙ ap (λ k. drop k text) h ∙ sym (left_there text (fault.Number j) w) in
    v.3.no_token w.0 w.1 same w.3.0.lexeme

-- faults at one place are one
same_fault : (src : List ℕ) (e f : LexError) → Fault src e → Fault src f → place e ≡ place f → e ≡ f
same_fault src (fault.Utf8 i) (fault.Utf8 j) p q h = ap fault.Utf8 h
same_fault src (fault.Utf8 i) (fault.Char j) p q h = absurd (utf8_apart src i (fault.Char j) p q h)
same_fault src (fault.Utf8 i) (fault.Number j) p q h = absurd (utf8_apart src i (fault.Number j) p q h)
same_fault src (fault.Utf8 i) fault.Mem p q h = absurd q
same_fault src (fault.Char i) (fault.Utf8 j) p q h = absurd (utf8_apart src j (fault.Char i) q p (sym h))
same_fault src (fault.Char i) (fault.Char j) p q h = ap fault.Char h
same_fault src (fault.Char i) (fault.Number j) p q h = absurd (char_apart (valid_front src) i j p q h)
same_fault src (fault.Char i) fault.Mem p q h = absurd q
same_fault src (fault.Number i) (fault.Utf8 j) p q h = absurd (utf8_apart src j (fault.Number i) q p (sym h))
same_fault src (fault.Number i) (fault.Char j) p q h = absurd (char_apart (valid_front src) j i q p (sym h))
same_fault src (fault.Number i) (fault.Number j) p q h = ap fault.Number h
same_fault src (fault.Number i) fault.Mem p q h = absurd q
same_fault src fault.Mem f p q h = absurd p

pub one_fault : (src : List ℕ) (e f : LexError) → IsFault src e → IsFault src f → e ≡ f
one_fault src e f p q = same_fault src e f p.is q.is (omega (arith, p.first f q.is, q.first e p.is))

pub one_tokens : (src : List ℕ) (ts us : List Token) → IsTokens src ts → IsTokens src us → ts ≡ us
one_tokens src ts us p q = one_list 0 src ts us p.reads q.reads

pub whole_front : (src : List ℕ) → IsUtf8 src → valid_front src ≡ src
whole_front src h = rw (utf8_valid_len-IsUtf8 src h) (take_all (length src) src (omega arith))

pub no_fault : (src : List ℕ) (ts : List Token) (e : LexError) → IsTokens src ts → Fault src e → ⊥
no_fault src ts (fault.Utf8 at) p q =
    absurd (omega (arith, utf8_valid_len-IsValidUpTo src at q, utf8_valid_len-IsUtf8 src p.utf8, q.short))
no_fault src ts (fault.Char at) p q = never_wrong 0 (valid_front src) ts (fault.Char at) (rw (whole_front src p.utf8) p.reads) q
no_fault src ts (fault.Number at) p q = never_wrong 0 (valid_front src) ts (fault.Number at) (rw (whole_front src p.utf8) p.reads) q
no_fault src ts fault.Mem p q = q
