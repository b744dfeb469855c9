-- Every source has tokens or a first fault, and one reading.
use Rattle.std.proofs.Common.{◌≡◌, ◌+◌, ◌≤◌, ◌⊎◌, ⊎_elim, inl, inr, ℕ, zero, suc, List, [], ◌∷◌, ◌++◌, length, length-append, length-take, refl, sym, ap, subst, arith}
use Rattle.std.specs.Str.{IsUtf8, IsValidUpTo}
use Rattle.std.specs.Str.Lossy.{utf8_valid_len}
use Rattle.kf_lex.specs.declared.token.LexError.{LexError}
use Rattle.kf_lex.specs.declared.token.LexError.TheVariants as fault
use Rattle.kf_lex.specs.declared.token.Token.{Token}
use Rattle.kf_lex.specs.Cuts.{IsBeginning, valid_front}
use Rattle.kf_lex.specs.Laws.{IsOneReading}
use Rattle.kf_lex.specs.Readings.{IsFault, IsTokens, Reads, WrongFrom, place}
use Rattle.kf_lex.proofs.Cutting.{beginning}
use Rattle.kf_lex.proofs.Faults.{no_fault, one_fault, one_tokens, whole_front}
use Rattle.kf_lex.proofs.Going.{Goes, first_of, past_blank, past_token, reads_all, starts}
use Rattle.kf_lex.proofs.Judging.{fault_of_front, utf8_fault}
use Rattle.kf_lex.proofs.ValidFront.{front_utf8, utf8_or_not}
use Rattle.kf_lex.proofs.EachPiece.{Told, blank, token, great, other, first_of_text, told_length}

-- a wrong piece of the text, before which there is none
record HasWrong (text : List ℕ) : Type 0 where
  fault : LexError
  first : WrongFrom 0 text fault × ((f : LexError) → WrongFrom 0 text f → place fault ≤ place f)

-- the tokens of the text, or its first wrong piece
abbrev IsRead : List ℕ → Type 0
IsRead text = ((ts : List Token) × Reads 0 text ts) ⊎ HasWrong text

nothing : (xs : List ℕ) → length xs ≤ 0 → xs ≡ []
nothing [] h = refl
nothing (x ∷ xs) h = absurd (omega arith)

-- a piece is passed, or it is wrong
past : (text left a rest : List ℕ) (at : ℕ) (tokens : List Token) → Goes text at left tokens → left ≡ a ++ rest → Told a rest
    → ((ts : List Token) → Goes text (at + length a) rest ts → IsRead text) → IsRead text
past text left a rest at tokens goes whole (blank b) onward = onward tokens (past_blank text left a rest at tokens goes whole b)
past text left a rest at tokens goes whole (token kind long spelt) onward =
    let t : Token = record { kind = kind; start = at; end = at + length a } in
    onward (tokens ++ t ∷ []) (past_token text left a rest at tokens t goes whole long spelt refl refl)
past text left a rest at tokens goes whole (great long number big) onward =
    inr (record { fault = fault.Number at; first = first_of text left a rest at tokens (fault.Number at) goes whole ((long, number, big), refl) })
past text left a rest at tokens goes whole (other o) onward =
    inr (record { fault = fault.Char at; first = first_of text left a rest at tokens (fault.Char at) goes whole (o, refl) })

-- each piece takes some text, so that there are no more pieces than bytes
goes_through : (n : ℕ) (text left : List ℕ) (at : ℕ) (tokens : List Token) → length left ≤ n → IsUtf8 left → Goes text at left tokens → IsRead text
goes_through zero text left at tokens short utf8 goes = inl (tokens, reads_all text left at tokens goes (nothing left short))
goes_through (suc n) text left at tokens short utf8 goes =
    ⊎_elim
    (λ (none : left ≡ []). inl (tokens, reads_all text left at tokens goes none))
    (λ (s : (c : ℕ) × IsBeginning c left).
    let f = first_of_text s.0 left utf8 s.1 in
    past text left f.front f.rest at tokens goes f.whole f.told
    (λ ts on. goes_through n text f.rest (at + length f.front) ts
    (omega (arith, ap length f.whole, length-append f.front f.rest, told_length f.front f.rest f.told, short)) f.utf8 on))
    (beginning left utf8.0 utf8.1.1 utf8.1.0)

fault_of : (src : List ℕ) (e : LexError) → WrongFrom 0 (valid_front src) e × ((f : LexError) → WrongFrom 0 (valid_front src) f → place e ≤ place f)
    → IsFault src e
fault_of src (fault.Utf8 i) h = absurd h.0.3
fault_of src (fault.Char i) h = fault_of_front src (fault.Char i) h
fault_of src (fault.Number i) h = fault_of_front src (fault.Number i) h
fault_of src fault.Mem h = absurd h.0.3

-- a source that stops being UTF-8, and has nothing wrong before
stops_there : (src : List ℕ) (ts : List Token) → IsValidUpTo src (utf8_valid_len src) → Reads 0 (valid_front src) ts → IsFault src (fault.Utf8 (length (valid_front src)))
stops_there src ts valid reads =
    let size : length (valid_front src) ≡ utf8_valid_len src = omega (arith, length-take (utf8_valid_len src) src, valid.short) in
    utf8_fault src (valid_front src) ts refl (subst (IsValidUpTo src) (sym size) valid) reads

pub each_source : (src : List ℕ) → ((ts : List Token) × IsTokens src ts) ⊎ ((e : LexError) × IsFault src e)
each_source src =
    let front = valid_front src in
    ⊎_elim
    (λ (r : (ts : List Token) × Reads 0 front ts). ⊎_elim
    (λ (utf8 : IsUtf8 src). inl (r.0, record { utf8 = utf8; reads = subst (λ x. Reads 0 x r.0) (whole_front src utf8) r.1 }))
    (λ (valid : IsValidUpTo src (utf8_valid_len src)). inr (fault.Utf8 (length front), stops_there src r.0 valid r.1))
    (utf8_or_not src))
    (λ (w : HasWrong front). inr (w.fault, fault_of src w.fault w.first))
    (goes_through (length front) front front 0 [] (omega arith) (front_utf8 src) (starts front))

pub IsOneReading-holds : IsOneReading
IsOneReading-holds = record { read = each_source; tokens = one_tokens; fault = one_fault; not_both = λ src ts e p q. no_fault src ts e p q.is }
