-- A text is spelled by one kind of token.
use Rattle.std.proofs.Common.{◌≡◌, ◌&&◌, ℕ, Bool, true, false, not, cond, eqb, List, [], ◌∷◌, Option, Some, None, IsSome, refl, sym, ap, ◌∙◌, subst, arith}
use Rattle.std.specs.List.{AllByRecursion}
use Rattle.std.proofs.lemmas.List.Elements.{All-from_recursion}
use Rattle.std.specs.Map.{lookup}
use Rattle.std.specs.Option.{option_and_then, option_or}
use Rattle.std.specs.Str.{bytes_eq}
use Rattle.std.proofs.lemmas.Slice.Eq.{bytes_eq-Decides}
use Rattle.std.proofs.lemmas.Bool.Decides.{nat_tests}
use Rattle.kf_ops.specs.Rows.{Row, operators}
use Rattle.kf_lex.specs.declared.cuts.TheConstants.{SIGNS}
use Rattle.kf_lex.specs.declared.token.Sign.{Sign}
use Rattle.kf_lex.specs.declared.token.Tok.{Tok}
use Rattle.kf_lex.specs.declared.token.Tok.TheVariants as tok
use Rattle.kf_lex.specs.declared.token.Word.{Word}
use Rattle.kf_lex.specs.Cuts.{first_sign}
use Rattle.kf_lex.specs.Words.{own_words, reserved, sign_text}
use Rattle.kf_lex.specs.Lexemes.{IsWord, Spells}
use Rattle.kf_lex.specs.Laws.{AreOperatorsReserved}
use Rattle.kf_lex.proofs.Both.{and_first, and_second}
use Rattle.kf_lex.proofs.SignSearch.{found_again}
use Rattle.kf_lex.proofs.FirstBytes.{Begins, number_sort, same_sort, sign_sort, sort, word_sort}
use Rattle.kf_lex.specs.Operators.{operator_word, own_word, operator_with, word_of}
use Rattle.kf_lex.proofs.Spelling.{in_two}

same_sign : (s t : Sign) (text : List ℕ) → text ≡ sign_text s → text ≡ sign_text t → s ≡ t
same_sign s t text e f =
    let one : Some s ≡ Some t = sym (found_again s) ∙ ap (first_sign SIGNS) (sym e ∙ f) ∙ found_again t in cc

-- letters begin as words do
abbrev pub is_lettered : List ℕ → Bool
is_lettered [] = false
is_lettered (b ∷ bs) = eqb (sort b) 2

pub lettered : (text : List ℕ) → is_lettered text ≡ true → Begins 2 text
lettered [] h = cc
lettered (b ∷ bs) h = record { byte = b; others = bs; is = refl; sorted = grind (arith, nat_tests, h) }

-- each word of the list is lettered
abbrev are_lettered : List (List ℕ × Word) → Bool
are_lettered [] = true
are_lettered (own ∷ owns) = is_lettered own.0 && are_lettered owns

looked_up : (owns : List (List ℕ × Word)) (text : List ℕ) (w : Word) → are_lettered owns ≡ true
    → lookup (λ letters. bytes_eq letters text) owns ≡ Some w → is_lettered text ≡ true
looked_up [] text w all h = cc
looked_up (own ∷ owns) text w all h =
    elim (bytes_eq own.0 text) as (λ t. bytes_eq own.0 text ≡ t → cond t (Some own.1) (lookup (λ letters. bytes_eq letters text) owns) ≡ Some w → is_lettered text ≡ true) [
      | true ↦ λ same _. subst (λ x. is_lettered x ≡ true) ((bytes_eq-Decides own.0 text).0 same) (and_first _ _ all)
      | false ↦ λ _ rest. looked_up owns text w (and_second _ _ all) rest
    ] refl h

-- where a row's operator has a word, its letters are lettered
abbrev is_lettered_row : Option Word → List ℕ → Bool
is_lettered_row None text = true
is_lettered_row (Some w) text = is_lettered text

abbrev are_lettered_rows : List Row → Bool
are_lettered_rows [] = true
are_lettered_rows (row ∷ rows) = is_lettered_row (word_of row.code) row.word && are_lettered_rows rows

lettered_row : (w : Option Word) (v : Word) (text : List ℕ) → is_lettered_row w text ≡ true → w ≡ Some v → is_lettered text ≡ true
lettered_row None v text h e = cc
lettered_row (Some w) v text h e = h

word_found : (rows : List Row) (text : List ℕ) (w : Word) → are_lettered_rows rows ≡ true
    → option_and_then word_of (operator_with rows text) ≡ Some w → is_lettered text ≡ true
word_found [] text w all h = cc
word_found (row ∷ rows) text w all h =
    elim (bytes_eq row.word text) as (λ t. bytes_eq row.word text ≡ t → option_and_then word_of (cond t (Some row.code) (operator_with rows text)) ≡ Some w → is_lettered text ≡ true) [
      | true ↦ λ same here. subst (λ x. is_lettered x ≡ true) ((bytes_eq-Decides row.word text).0 same) (lettered_row (word_of row.code) w row.word (and_first _ _ all) here)
      | false ↦ λ _ rest. word_found rows text w (and_second _ _ all) rest
    ] refl h

either_word : (a b : Option Word) (w : Word) (P : Type 0) → (a ≡ Some w → P) → (b ≡ Some w → P) → option_or a b ≡ Some w → P
either_word (Some v) b w P f g h = f h
either_word None b w P f g h = g h

pub reserved_sort : (text : List ℕ) (w : Word) → reserved text ≡ Some w → Begins 2 text
reserved_sort text w h =
    lettered text (either_word (own_word text) (operator_word text) w _ (looked_up own_words text w refl) (word_found operators text w refl) (sym (in_two text) ∙ h))

abbrev pub sort_of : Tok → ℕ
sort_of (tok.Number n) = 1
sort_of tok.Name = 2
sort_of (tok.Word w) = 2
sort_of (tok.Sign s) = 3

pub spelled_sort : (kind : Tok) (text : List ℕ) → Spells kind text → Begins (sort_of kind) text
spelled_sort (tok.Number n) text h = number_sort text h.0
spelled_sort tok.Name text h = word_sort text h.0
spelled_sort (tok.Word w) text h = reserved_sort text w h
spelled_sort (tok.Sign s) text h = subst (Begins 3) (sym h) (sign_sort s)

told_apart : (k l : Tok) (text : List ℕ) → Spells k text → Spells l text → sort_of k ≡ sort_of l → k ≡ l
told_apart (tok.Number n) (tok.Number m) text p q e = ap tok.Number (sym p.1 ∙ q.1)
told_apart tok.Name tok.Name text p q e = refl
told_apart (tok.Word w) (tok.Word v) text p q e = let one : Some w ≡ Some v = sym p ∙ q in cc
told_apart (tok.Sign s) (tok.Sign t) text p q e = ap tok.Sign (same_sign s t text p q)
told_apart tok.Name (tok.Word w) text p q e = let one : None ≡ Some w = sym p.1 ∙ q in cc
told_apart (tok.Word w) tok.Name text p q e = let one : None ≡ Some w = sym q.1 ∙ p in cc
told_apart (tok.Number n) tok.Name text p q e = cc
told_apart (tok.Number n) (tok.Word w) text p q e = cc
told_apart (tok.Number n) (tok.Sign s) text p q e = cc
told_apart tok.Name (tok.Number n) text p q e = cc
told_apart tok.Name (tok.Sign s) text p q e = cc
told_apart (tok.Word w) (tok.Number n) text p q e = cc
told_apart (tok.Word w) (tok.Sign s) text p q e = cc
told_apart (tok.Sign s) (tok.Number n) text p q e = cc
told_apart (tok.Sign s) tok.Name text p q e = cc
told_apart (tok.Sign s) (tok.Word w) text p q e = cc

pub same_kind : (k l : Tok) (text : List ℕ) → Spells k text → Spells l text → k ≡ l
same_kind k l text p q = told_apart k l text p q (same_sort (sort_of k) (sort_of l) text (spelled_sort k text p) (spelled_sort l text q))

-- a row whose operator has a word, or which begins as no word does
abbrev has_word_or_sign : Option Word → List ℕ → Bool
has_word_or_sign (Some w) text = true
has_word_or_sign None text = not (is_lettered text)

abbrev have_words_or_signs : List Row → Bool
have_words_or_signs [] = true
have_words_or_signs (row ∷ rows) = has_word_or_sign (word_of row.code) row.word && have_words_or_signs rows

lettered_begin : (text : List ℕ) → Begins 2 text → is_lettered text ≡ true
lettered_begin text b = rw (b.is, b.sorted) refl

some_word : (w : Option Word) (text : List ℕ) → has_word_or_sign w text ≡ true → Begins 2 text → IsSome w
some_word (Some w) text h b = refl
some_word None text h b = absurd (let e = lettered_begin text b in let f : not true ≡ true = rw e at h in cc)

rows_reserved : (rows : List Row) → have_words_or_signs rows ≡ true → AllByRecursion (λ row. IsWord row.word → IsSome (word_of row.code)) rows
rows_reserved [] h = tt
rows_reserved (row ∷ rows) h = (λ w. some_word (word_of row.code) row.word (and_first _ _ h) (word_sort row.word w), rows_reserved rows (and_second _ _ h))

pub AreOperatorsReserved-holds : AreOperatorsReserved
AreOperatorsReserved-holds = All-from_recursion (λ row. IsWord row.word → IsSome (word_of row.code)) operators (rows_reserved operators refl)
