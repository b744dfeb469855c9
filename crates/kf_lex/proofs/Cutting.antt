-- What is cut off a text is its first piece.
use Rattle.std.proofs.Common.{◌≡◌, ◌≢◌, ◌+◌, ◌<◌, ◌⊎◌, ◌==◌, ⊎_elim, inl, inr, ℕ, suc, Bool, true, false, List, [], ◌∷◌, ◌++◌, length, append_assoc, get_or, take, drop, refl, sym, ap, ◌∙◌, subst, arith}
use Rattle.std.specs.Char.{IsScalar, encode_utf8, len_utf8}
use Rattle.std.specs.List.{AllByRecursion}
use Rattle.std.proofs.lemmas.List.{take-append-drop}
use Rattle.std.specs.Str.{IsCharBoundary, IsUtf8, NonePass, all_scalars, encode_utf8_all}
use Rattle.std.proofs.lemmas.Bool.{false≢true}
use Rattle.std.proofs.lemmas.Bool.Decides.{nat_tests}
use Rattle.std.proofs.lemmas.Str.{IsCharBoundary-past_char, NoCharPasses-byte, encode_ascii, encode_same, len_utf8_ascii, length-encode}
use Rattle.std.proofs.Math.Seq.{take-append_seam}
use Rattle.kf_lex.specs.declared.cuts.Cut.{Cut}
use Rattle.kf_lex.specs.declared.cuts.Piece.{Piece}
use Rattle.kf_lex.specs.Cuts.{IsBeginning, IsCut, IsOfKind, IsRun, is_in_line}
use Rattle.kf_lex.specs.Pieces.{IsBlank, IsLineEnd, is_separator}
use Rattle.kf_lex.proofs.Both.{and_first}
use Rattle.kf_lex.proofs.Runs.{no_char_in_nothing}
use Rattle.kf_lex.proofs.SamePiece.{same_head}

-- a cut is made of a piece's kind, its text and what follows
pub made : (text : List ℕ) (cut : Cut) (kind : Piece) (front rest : List ℕ) → cut.piece ≡ kind → cut.text.now ≡ front → cut.rest.now ≡ rest
    → text ≡ front ++ rest → IsUtf8 rest → IsOfKind kind front rest → IsCut text cut
made text cut kind front rest k e f whole utf8 is = record {
  whole = rw (e, f) whole;
  is_piece = rw (k, e, f) is;
  utf8 = rw f utf8;
}

-- the text may be cut behind its first character
pub beginning_boundary : (c n : ℕ) (text : List ℕ) → n ≡ len_utf8 c → IsUtf8 text → IsBeginning c text → IsCharBoundary text n
beginning_boundary c n text size utf8 begins =
    let same : 0 + len_utf8 c ≡ n = omega (arith, size) in
    subst (IsCharBoundary text) same (IsCharBoundary-past_char text begins.1.0 0 c (omega arith) utf8 begins.1.1)

-- and then what stands before the cut is that character
pub first_char : (c n : ℕ) (text : List ℕ) → IsBeginning c text → n ≡ len_utf8 c → take n text ≡ encode_utf8 c
first_char c n text begins size =
    let width : n ≡ length (encode_utf8 c) = size ∙ sym (length-encode c) in
    rw (width, begins.1.1) (take-append_seam (encode_utf8 c) begins.1.0)

pub ascii_text : (c : ℕ) (text : List ℕ) (begins : IsBeginning c text) → c < 128 → text ≡ c ∷ begins.1.0
ascii_text c text begins low = begins.1.1 ∙ ap (λ x. x ++ begins.1.0) (encode_ascii c low)

pub separator_low : (c : ℕ) → is_separator c ≡ true → c < 128
separator_low c h = grind (arith, nat_tests, h)

pub separator_boundary : (c : ℕ) (text : List ℕ) → IsUtf8 text → IsBeginning c text → is_separator c ≡ true → IsCharBoundary text 1
separator_boundary c text utf8 begins h = beginning_boundary c 1 text (sym (len_utf8_ascii c (separator_low c h))) utf8 begins

pub cut_separator : (c : ℕ) (text : List ℕ) → IsBeginning c text → is_separator c ≡ true → IsBlank (take 1 text) (drop 1 text)
cut_separator c text begins h = rw (ascii_text c text begins (separator_low c h)) (inl (h, refl))

pub cut_whole : (n : ℕ) (text : List ℕ) → text ≡ take n text ++ drop n text
cut_whole n text = sym (take-append-drop n text)

-- a run begins with the first character of the text, where that passes
run_chars : (p : ℕ → Bool) (c : ℕ) (text rest chars : List ℕ) → IsBeginning c text → p c ≡ true → text ≡ encode_utf8_all chars ++ rest
    → ((d : ℕ) (more : List ℕ) → IsScalar d → rest ≡ encode_utf8 d ++ more → p d ≡ false)
    → (ds : List ℕ) × (chars ≡ c ∷ ds)
run_chars p c text rest [] begins passes whole stops =
    absurd (false≢true (sym (stops c begins.1.0 begins.0 (sym whole ∙ begins.1.1)) ∙ passes))
run_chars p c text rest (d ∷ ds) begins passes whole stops =
    let e : encode_utf8 d ++ (encode_utf8_all ds ++ rest) ≡ encode_utf8 c ++ begins.1.0 =
    sym (append_assoc (encode_utf8 d) (encode_utf8_all ds) rest) ∙ sym whole ∙ begins.1.1 in
    (ds, ap (λ x. x ∷ ds) (encode_same d c (encode_utf8_all ds ++ rest) begins.1.0 e).0)

pub run_begins : (p : ℕ → Bool) (c : ℕ) (text front rest : List ℕ) → (run : IsRun p text front rest) → IsBeginning c text → p c ≡ true
    → (ds : List ℕ) × (run.chars ≡ c ∷ ds)
run_begins p c text front rest run begins passes =
    run_chars p c text rest run.chars begins passes (run.whole ∙ ap (λ x. x ++ rest) run.spelt) run.stops

-- the first character of a text
pub beginning : (text chars : List ℕ) → encode_utf8_all chars ≡ text → all_scalars chars ≡ true
    → (text ≡ []) ⊎ ((c : ℕ) × IsBeginning c text)
beginning text [] e h = inl (sym e)
beginning text (c ∷ cs) e h = inr (c, (and_first _ _ h, (encode_utf8_all cs, sym e)))

in_line_fails : (c : ℕ) → is_in_line c ≡ false → c ≡ 10
in_line_fails c h = grind (arith, nat_tests, h)

in_line_other : (c : ℕ) → is_in_line c ≡ true → (c == 10) ≡ false
in_line_other c h = grind (arith, nat_tests, h)

-- a line ends before LF, or with the text
line_end : (text : List ℕ) → IsUtf8 text → ((c : ℕ) (more : List ℕ) → IsScalar c → text ≡ encode_utf8 c ++ more → is_in_line c ≡ false) → IsLineEnd text
line_end [] utf8 stops = tt
line_end (b ∷ bs) utf8 stops =
    ⊎_elim (λ (e : b ∷ bs ≡ []). absurd cc)
    (λ (s : (c : ℕ) × IsBeginning c (b ∷ bs)).
    let lf : s.0 ≡ 10 = in_line_fails s.0 (stops s.0 s.1.1.0 s.1.0 s.1.1.1) in
    let text : b ∷ bs ≡ 10 ∷ s.1.1.0 = s.1.1.1 ∙ ap (λ c. encode_utf8 c ++ s.1.1.0) lf ∙ ap (λ x. x ++ s.1.1.0) (encode_ascii 10 (omega arith)) in
    same_head b 10 bs s.1.1.0 text)
    (beginning (b ∷ bs) utf8.0 utf8.1.1 utf8.1.0)

-- no byte of the characters of a line is LF
line_chars : (cs : List ℕ) → AllByRecursion (λ c. is_in_line c ≡ true) cs → NonePass (λ d. d == 10) cs
line_chars [] h = tt
line_chars (c ∷ cs) h = (in_line_other c h.0, line_chars cs h.1)

by_place : (bs : List ℕ) → ((i : ℕ) → i < length bs → get_or bs i 0 ≢ 10) → AllByRecursion (λ b. b ≢ 10) bs
by_place [] h = tt
by_place (b ∷ bs) h = (h 0 (omega arith), by_place bs (λ i below. h (suc i) (omega arith)))

line_bytes : (cs : List ℕ) → AllByRecursion (λ c. is_in_line c ≡ true) cs → AllByRecursion (λ b. b ≢ 10) (encode_utf8_all cs)
line_bytes cs h =
    by_place (encode_utf8_all cs) (λ i below e.
    let fails : (get_or (encode_utf8_all cs) i 0 == 10) ≡ false =
    NoCharPasses-byte (λ d. d == 10) (encode_utf8_all cs) i (cs, refl, line_chars cs h) below (omega (arith, e)) in
    false≢true (sym fails ∙ ap (λ b. b == 10) e))

pub cut_comment : (text front rest : List ℕ) → IsBeginning 35 text → IsRun is_in_line text front rest → IsBlank front rest
cut_comment text front rest begins run =
    let starts = run_begins is_in_line 35 text front rest run begins refl in
    let spelt : front ≡ 35 ∷ encode_utf8_all starts.0 =
    run.spelt ∙ ap encode_utf8_all starts.1 ∙ ap (λ x. x ++ encode_utf8_all starts.0) (encode_ascii 35 (omega arith)) in
    let passes = subst (AllByRecursion (λ c. is_in_line c ≡ true)) starts.1 run.passes in
    rw spelt (inr (refl, record { one_line = line_bytes starts.0 passes.1; ends = line_end rest run.utf8 run.stops }))

-- a text begins with a character where its bytes begin with that character's
pub starting : (text rest : List ℕ) (c : ℕ) → IsUtf8 text → text ≡ encode_utf8 c ++ rest → IsBeginning c text
starting text rest c utf8 e =
    ⊎_elim (λ (none : text ≡ []). absurd (no_char_in_nothing c rest (sym none ∙ e)))
    (λ (s : (d : ℕ) × IsBeginning d text).
    (subst IsScalar (encode_same s.0 c s.1.1.0 rest (sym s.1.1.1 ∙ e)).0 s.1.0, (rest, e)))
    (beginning text utf8.0 utf8.1.1 utf8.1.0)
