-- Reading at a depth, or a number of sets, that isn't used up.
use Rattle.std.proofs.Common.{◌≡◌, ℕ, ◌-◌, suc, true, List, ◌∷◌, drop, refl, sym, ◌∙◌, ap, arith}
use Rattle.kf_lex.specs.declared.token.Token.{Token}
use Rattle.kf_lex.specs.declared.token.Tok.TheVariants as t
use Rattle.kf_lex.specs.declared.token.Word.TheVariants as w
use Rattle.kf_ast.specs.TypeForms.{TypeForm, type_at, SetOf}
use Rattle.kf_parse.specs.Tokens.{is}
use Rattle.kf_parse.specs.Outcomes.{Parser, and_then, ◌>>=◌, pure, if_first, expect, first, first_or}
use Rattle.kf_parse.specs.Builders.{Builder}
use Rattle.kf_parse.specs.Reading as r

module _ (type : Parser TypeForm) (n : ℕ) (ts : List Token) (some : n ≡ 0 → ⊥) where
  -- a type of sets, or another, where the number of sets isn't used up
  pub sets_step : r.sets type n ts ≡ if_first (is (t.Word w.SetWord)) (λ o. expect (is (t.Word w.OfWord)) (λ f. r.sets type (n - 1) >>= (λ x. pure (type_at o.start (SetOf x))))) (first (λ o. r.base_by type o o.kind)) ts
  unfolding r.sets
  sets_step = let e : n ≡ suc (n - 1) = omega arith in ap (λ m. r.sets type m ts) e

  pub sets_word : (o : Token) (us : List Token) → ts ≡ o ∷ drop 1 ts → is (t.Word w.SetWord) o.kind ≡ true → us ≡ drop 1 ts
      → r.sets type n ts ≡ expect (is (t.Word w.OfWord)) (λ f. λ vs. and_then (r.sets type (n - 1) vs) (λ x. pure (type_at o.start (SetOf x)))) us
  sets_word o us front there behind = sets_step ∙ word ts front behind
    where
      word : (ts : List Token) → ts ≡ o ∷ drop 1 ts → us ≡ drop 1 ts → if_first (is (t.Word w.SetWord)) (λ o'. expect (is (t.Word w.OfWord)) (λ f. r.sets type (n - 1) >>= (λ x. pure (type_at o'.start (SetOf x))))) (first (λ o'. r.base_by type o' o'.kind)) ts
          ≡ expect (is (t.Word w.OfWord)) (λ f. λ vs. and_then (r.sets type (n - 1) vs) (λ x. pure (type_at o.start (SetOf x)))) us
      word ts front behind = rw (front, there, behind) refl

pub type_step : (d : ℕ) (ts : List Token) → (d ≡ 0 → ⊥) → r.type d ts ≡ r.sets (r.type (d - 1)) d ts
unfolding r.type
type_step d ts some = let e : d ≡ suc (d - 1) = omega arith in ap (λ m. r.type m ts) e ∙ ap (λ m. r.sets (r.type (d - 1)) m ts) (sym e)

pub dist_step : (B : Builder) (src : List ℕ) (d : ℕ) (ts : List Token) → (d ≡ 0 → ⊥)
    → r.dist B src d ts ≡ first_or (λ o. r.dist_by B src (d - 1) o o.kind) (λ us. and_then (r.expr B src d us) (λ x. pure (B.sure x))) ts
unfolding r.dist
dist_step B src d ts some =
    let e : d ≡ suc (d - 1) = omega arith in
    ap (λ m. r.dist B src m ts) e ∙ ap (λ m. first_or (λ o. r.dist_by B src (d - 1) o o.kind) (λ us. and_then (r.expr B src m us) (λ x. pure (B.sure x))) ts) (sym e)

pub statements_step : (B : Builder) (src : List ℕ) (d : ℕ) (ts : List Token) → (d ≡ 0 → ⊥) → r.statements B src d ts ≡ r.all_statements B src (r.statements B src (d - 1)) d ts
unfolding r.statements
statements_step B src d ts some =
    let e : d ≡ suc (d - 1) = omega arith in
    ap (λ m. r.statements B src m ts) e ∙ ap (λ m. r.all_statements B src (r.statements B src (d - 1)) m ts) (sym e)
