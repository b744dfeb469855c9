-- Looking up reserved words.
use Rattle.std.proofs.Common.{◌≡◌, ℕ, zero, suc, ◌<◌, true, false, List, [], ◌∷◌, Option, Some, None, map, length, get_or, refl, sym, ap, ◌∙◌, arith}
use Rattle.std.specs.Prelude.{find, if◌then◌else◌}
use Rattle.std.specs.List.{position}
use Rattle.std.specs.Option.{option_and_then, option_or}
use Rattle.std.specs.Str.{bytes_eq}
use Rattle.std.proofs.lemmas.List.Quantifiers.{position-Some}
use Rattle.std.proofs.Math.ListN.{get_or-map}
use Rattle.std.proofs.lemmas.Slice.Eq.{bytes_eq-Decides}
use Rattle.kf_ops.specs.Rows.{Row, operators}
use Rattle.kf_ops.specs.Table.{has_word}
use Rattle.kf_ops.specs.declared.row.Op.{Op}
use Rattle.kf_lex.specs.Words.{reserved}
use Rattle.kf_lex.specs.Operators.{operator_with, operator_word, own_word, word_of}

-- a text that is not these letters fails the test for them
pub differs : (letters text : List ℕ) → (text ≡ letters → ⊥) → bytes_eq letters text ≡ false
differs letters text other =
    elim (bytes_eq letters text) as (λ b. bytes_eq letters text ≡ b → b ≡ false) [
      | true ↦ λ h. absurd (other (sym ((bytes_eq-Decides letters text).0 h)))
      | false ↦ λ h. refl
    ] refl

module _ (text : List ℕ) where
  -- the operator of the first row with the letters
  chosen : (rows : List Row) (i : ℕ) (d : Row) → i < length rows → has_word text (get_or rows i d) ≡ true
      → ((k : ℕ) → k < i → has_word text (get_or rows k d) ≡ false)
      → operator_with rows text ≡ Some (get_or rows i d).code
  chosen [] i d within here before = absurd (omega arith)
  chosen (row ∷ rows) zero d within here before = rw here refl
  chosen (row ∷ rows) (suc i) d within here before =
      rw (before 0 (omega arith)) (chosen rows i d (omega arith) here (λ k below. before (suc k) (omega arith)))

  -- no operator where no row has the letters
  pub unchosen : (rows : List Row) → ((k : ℕ) (d : Row) → k < length rows → has_word text (get_or rows k d) ≡ false)
      → operator_with rows text ≡ None
  unchosen [] fails = refl
  unchosen (row ∷ rows) fails = rw (fails 0 row (omega arith)) (unchosen rows (λ k d below. fails (suc k) d (omega arith)))

  -- what is asked of the first row's operator, by either search
  asked : {X : Type 0} (f : Op → Option X) (rows : List Row)
      → option_and_then (λ (row : Row). f row.code) (find (λ (row : Row). bytes_eq row.word text) rows) ≡ option_and_then f (operator_with rows text)
  asked f [] = refl
  asked f (row ∷ rows) =
      elim (bytes_eq row.word text) as (λ b. option_and_then (λ (r : Row). f r.code) (if b then Some row else find (λ (r : Row). bytes_eq r.word text) rows)
      ≡ option_and_then f (if b then Some row.code else operator_with rows text)) [
        | true ↦ refl
        | false ↦ asked f rows
      ]

  -- a reserved word is one that is no operator, or an operator's
  pub in_two : reserved text ≡ option_or (own_word text) (operator_word text)
  unfolding reserved
  in_two = ap (option_or (own_word text)) (asked word_of operators)

-- the operator of the row that the search finds; f says how a row of the code reads
pub found : {X : Type 0} (f : X → Row) (text : List ℕ) (table : List X) (i : ℕ) (d : X)
    → position (has_word text) (map f table) ≡ Some i → Some (f (get_or table i d)).code ≡ operator_with (map f table) text
found f text table i d h =
    let first = position-Some (has_word text) (map f table) i (f d) h in
    sym (chosen text (map f table) i (f d) first.0 first.1 first.2 ∙ ap (λ row. Some row.code) (get_or-map f table i d))
