-- A reserved word is written in one way: as the list of reserved words has it, or as the row of its operator does.
use denote.Enum.Bare.{sameb}
use Rattle.std.proofs.Common.{◌≡◌, true, false, ℕ, List, [], ◌∷◌, Option, Some, None, if◌then◌else◌, map, refl, sym, ap, ◌∙◌, subst}
use Rattle.std.specs.Map.{lookup}
use Rattle.std.specs.Option.{option_and_then, option_map, option_or}
use Rattle.std.specs.Str.{bytes_eq}
use Rattle.std.proofs.lemmas.Slice.Eq.{bytes_eq-Decides}
use Rattle.kf_ops.specs.Rows.{Row, operators}
use Rattle.kf_ops.specs.declared.row.Op.{Op}
use Rattle.kf_ops.specs.declared.row.Op.TheVariants as op
use Rattle.kf_ops.proofs.EachRow.{row_at}
use Rattle.kf_lex.specs.contracts.token.Word.{the_type}
use Rattle.kf_lex.specs.declared.token.Word.{Word}
use Rattle.kf_lex.specs.Laws.{HaveOneText}
use Rattle.kf_lex.specs.Operators.{op_of, operator_word, own_word, operator_with, word_of}
use Rattle.kf_lex.specs.Words.{own_words, reserved}
use Rattle.kf_lex.proofs.Spelling.{in_two}

abbrev letters_in : List (List ℕ × Word) → Word → List ℕ
letters_in [] w = []
letters_in (pair ∷ pairs) w = if sameb the_type pair.1 w then pair.0 else letters_in pairs w

abbrev letters_by : Option Op → Word → List ℕ
letters_by (Some o) w = (row_at o).word
letters_by None w = letters_in own_words w

-- how a word is written
abbrev letters : Word → List ℕ
letters w = letters_by (op_of w) w

-- ---- words of their own

abbrev AreWritten : List (List ℕ × Word) → Type 0
AreWritten pairs = map (λ pair. letters pair.1) pairs ≡ map (λ pair. pair.0) pairs

own_written : AreWritten own_words
own_written = refl

looked_up : (text : List ℕ) (pairs : List (List ℕ × Word)) (w : Word) → AreWritten pairs → lookup (λ l. bytes_eq l text) pairs ≡ Some w → letters w ≡ text
looked_up text [] w are h = absurd (cc)
looked_up text (pair ∷ pairs) w are h =
    let first : letters pair.1 ≡ pair.0 = cc in
    let others : AreWritten pairs = cc in
    elim (bytes_eq pair.0 text) as (λ b. bytes_eq pair.0 text ≡ b → (if b then Some pair.1 else lookup (λ l. bytes_eq l text) pairs) ≡ Some w → letters w ≡ text) [
      | true ↦ λ is one. let same : pair.1 ≡ w = cc in sym (ap letters same) ∙ first ∙ (bytes_eq-Decides pair.0 text).0 is
      | false ↦ λ is later. looked_up text pairs w others later
    ] refl h

-- ---- words of operators

abbrev AreRows : List Row → Type 0
AreRows rows = map (λ row. (row_at row.code).word) rows ≡ map (λ row. row.word) rows

operator_rows : AreRows operators
operator_rows = refl

in_row : (text : List ℕ) (rows : List Row) (o : Op) → AreRows rows → operator_with rows text ≡ Some o → (row_at o).word ≡ text
in_row text [] o are h = absurd (cc)
in_row text (row ∷ rows) o are h =
    let first : (row_at row.code).word ≡ row.word = cc in
    let others : AreRows rows = cc in
    elim (bytes_eq row.word text) as (λ b. bytes_eq row.word text ≡ b → (if b then Some row.code else operator_with rows text) ≡ Some o → (row_at o).word ≡ text) [
      | true ↦ λ is one. let same : row.code ≡ o = cc in sym (ap (λ p. (row_at p).word) same) ∙ first ∙ (bytes_eq-Decides row.word text).0 is
      | false ↦ λ is later. in_row text rows o others later
    ] refl h

-- a word of an operator is written as its row has it
as_in_row : (o : Op) → option_map letters (word_of o) ≡ option_map (λ w. (row_at o).word) (word_of o)
as_in_row op.Or = refl
as_in_row _ = refl

by_operator : (text : List ℕ) (w : Word) (found : Option Op) → found ≡ operator_with operators text → option_and_then word_of found ≡ Some w → letters w ≡ text
by_operator text w None is h = absurd (cc)
by_operator text w (Some o) is h =
    let both : Some (letters w) ≡ Some ((row_at o).word) = subst (λ v. option_map letters v ≡ option_map (λ u. (row_at o).word) v) h (as_in_row o) in
    let same : letters w ≡ (row_at o).word = cc in
    same ∙ in_row text operators o operator_rows (sym is)

by_word : (text : List ℕ) (w : Word) (own : Option Word) → own ≡ own_word text → option_or own (operator_word text) ≡ Some w → letters w ≡ text
by_word text w (Some v) is h = let same : v ≡ w = cc in looked_up text own_words w own_written (sym is ∙ ap Some same)
by_word text w None is h = by_operator text w (operator_with operators text) refl h

written : (text : List ℕ) (w : Word) → reserved text ≡ Some w → letters w ≡ text
written text w h = by_word text w (own_word text) refl (sym (in_two text) ∙ h)

pub have_one_text : HaveOneText
have_one_text text other w h k = sym (written text w h) ∙ written other w k
