-- Tokens and the words of operators: each step by looking at every operator, word or sign, by computation.
use Rattle.std.proofs.Common.{◌≡◌, ◌≢◌, ◌↔◌, ℕ, Bool, true, false, List, [], ◌∷◌, eqb, Option, Some, None, refl, sym, ap, ◌∙◌, subst}
use Rattle.std.specs.Prelude.{is_some}
use Rattle.std.specs.Option.{option_and_then, option_map, option_or}
use Rattle.std.proofs.lemmas.Bool.{eq-eqb}
use Rattle.kf_ops.specs.Places.{IsRow, number_of}
use Rattle.kf_ops.specs.Rows.{Row, operators}
use Rattle.kf_ops.specs.declared.row.Op.{Op}
use Rattle.kf_ops.specs.declared.row.Op.TheVariants as op
use Rattle.kf_ops.proofs.EachRow.{row_at, there}
use Rattle.kf_lex.specs.declared.token.Sign.{Sign}
use Rattle.kf_lex.specs.declared.token.Sign.TheVariants as sign
use Rattle.kf_lex.specs.declared.token.Tok.{Tok}
use Rattle.kf_lex.specs.declared.token.Tok.TheVariants as tok
use Rattle.kf_lex.specs.declared.token.Word.{Word}
use Rattle.kf_lex.specs.declared.token.Word.TheVariants as word
use Rattle.kf_lex.specs.Words.{reserved, sign_text}
use Rattle.kf_lex.specs.Operators.{op_of, operator_of, operator_with, word_of}
use Rattle.kf_lex.specs.Lexemes.{Spells}
use Rattle.kf_lex.specs.Cuts.{first_sign}
use Rattle.kf_lex.specs.Laws.{AreOperatorTokens}
use Rattle.kf_lex.specs.declared.cuts.TheConstants.{SIGNS}
use Rattle.kf_lex.proofs.FirstBytes.{Begins, number_sort, sort, word_sort}

-- the word's operator has a row with letters that spell the word
spelled_by : (w : Word) → option_and_then (λ o. reserved (row_at o).word) (op_of w) ≡ option_map (λ o. w) (op_of w)
unfolding reserved
spelled_by word.VarWord = refl
spelled_by _ = refl

-- an operator's letters are reserved for its word
reserved_for : (o : Op) → reserved (row_at o).word ≡ word_of o
unfolding reserved
reserved_for op.Or = refl
reserved_for _ = refl

back : (o : Op) → option_and_then op_of (word_of o) ≡ option_map (λ w. o) (word_of o)
back op.Or = refl
back _ = refl

signed_by : (s : Sign) → option_map (λ o. (row_at o).word) (operator_with operators (sign_text s)) ≡ option_map (λ o. sign_text s) (operator_with operators (sign_text s))
signed_by sign.Assign = refl
signed_by _ = refl

found : (o : Op) → operator_with operators (row_at o).word ≡ Some o
found op.Or = refl
found _ = refl

-- no operator is written as a number, and one that is written as a word has a word
abbrev is_of_sort : ℕ → List ℕ → Bool
is_of_sort n [] = false
is_of_sort n (b ∷ bs) = eqb (sort b) n

of_sort : (n : ℕ) (text : List ℕ) → Begins n text → is_of_sort n text ≡ true
of_sort n text b = rw (b.is, b.sorted) (eq-eqb n n refl)

no_number : (o : Op) → is_of_sort 1 (row_at o).word ≡ false
no_number op.Or = refl
no_number _ = refl

worded : (o : Op) → is_of_sort 2 (row_at o).word ≡ is_some (word_of o)
worded op.Or = refl
worded _ = refl

module _ (o : Op) where
  told : (k : Tok) → operator_of k ≡ Some o → Spells k (row_at o).word
  told tok.Name h = absurd (let no : None ≡ Some o = h in cc)
  told (tok.Number n) h = absurd (let no : None ≡ Some o = h in cc)
  told (tok.Word w) h = subst (λ v. option_and_then (λ p. reserved (row_at p).word) v ≡ option_map (λ p. w) v) h (spelled_by w)
  told (tok.Sign s) h =
      let same : Some (row_at o).word ≡ Some (sign_text s) = subst (λ v. option_map (λ p. (row_at p).word) v ≡ option_map (λ p. sign_text s) v) h (signed_by s) in
      cc

  spells : (k : Tok) → Spells k (row_at o).word → operator_of k ≡ Some o
  spells tok.Name h =
      let w = worded o in
      let none : word_of o ≡ None = sym (reserved_for o) ∙ h.1 in
      let yes : is_of_sort 2 (row_at o).word ≡ true = of_sort 2 (row_at o).word (word_sort (row_at o).word h.0) in
      absurd (let no : true ≡ false = sym yes ∙ w ∙ ap is_some none in cc)
  spells (tok.Number n) h =
      absurd (let no : true ≡ false = sym (of_sort 1 (row_at o).word (number_sort (row_at o).word h.0)) ∙ no_number o in cc)
  spells (tok.Word w) h =
      let is : word_of o ≡ Some w = sym (reserved_for o) ∙ h in
      subst (λ v. option_and_then op_of v ≡ option_map (λ u. o) v) is (back o)
  spells (tok.Sign s) h = subst (λ text. operator_with operators text ≡ Some o) h (found o)

-- there is one row at the operator's number
same_row : (o : Op) (row : Row) → IsRow (number_of o) row → row ≡ row_at o
same_row o row here = let one : Some row ≡ Some (row_at o) = sym here ∙ there o in cc

-- the reserved word or the sign that is written as the operator's row says
abbrev token_of : Op → Option Tok
token_of o = option_or (option_map tok.Word (word_of o)) (option_map tok.Sign (first_sign SIGNS (row_at o).word))

token_tells : (o : Op) → option_and_then operator_of (token_of o) ≡ option_map (λ k. o) (token_of o)
token_tells op.Or = refl
token_tells _ = refl

some_token : (o : Op) (v : Option Tok) → option_and_then operator_of v ≡ option_map (λ k. o) v → is_some v ≡ true → (k : Tok) × Spells k (row_at o).word
some_token o None h some = absurd (let no : false ≡ true = some in cc)
some_token o (Some k) h some = (k, told o k h)

each : (o : Op) → o ≢ op.Negate → (k : Tok) × Spells k (row_at o).word
each op.Negate other = absurd (other refl)
each o other = some_token o (token_of o) (token_tells o) refl

pub are_operator_tokens : AreOperatorTokens
are_operator_tokens = record {
  told = λ k o row here. subst (λ r. (operator_of k ≡ Some o) ↔ Spells k r.word) (sym (same_row o row here)) (told o k, spells o k);
  each = λ o row here other. subst (λ r. (k : Tok) × Spells k r.word) (sym (same_row o row here)) (each o other);
}
