-- What is read stands where the first of its tokens does.
use Rattle.std.proofs.Common.{◌≡◌, ℕ, suc, ℤ, List, ◌∷◌, ◌++◌, refl, ap, sym, ◌∙◌, subst}
use Rattle.kf_lex.specs.declared.token.Token.{Token}
use Rattle.kf_ast.specs.TypeForms.{TypeForm, type_at}
use Rattle.kf_ast.specs.Exprs.{ExprTree, expr_at, place, placed}
use Rattle.kf_ast.specs.Dists.{DistTree, dist_at}
use Rattle.kf_ast.specs.Stmts.{StmtTree, stmt_at}
use Rattle.kf_parse.specs.Grammar.{E, Chain, Parts, Operand, Whole, TypeOf, Dist}
use Rattle.kf_parse.specs.Grammar as g
use Rattle.kf_parse.specs.Programs.{Statement}
use Rattle.kf_parse.specs.Programs as p
use Rattle.kf_parse.specs.Laws.{BeginAt, StandsFirst}

here : (o : Token) (us : List Token) → BeginAt (o ∷ us) o.start
here o us = record { first = o; rest = us; whole = refl; stands = refl }

-- tokens begin where a front of them does
begun : (a b ts : List Token) (at at' : ℕ) → BeginAt a at → at' ≡ at → ts ≡ a ++ b → BeginAt ts at'
begun a b ts at at' h same e = record { first = h.first; rest = h.rest ++ b; whole = e ∙ ap (λ z. z ++ b) h.whole; stands = h.stands ∙ sym same }

placed_at : (at : ℕ) (x : ExprTree) → place (placed at x) ≡ at
placed_at at (expr_at from shape) = refl

parts_place : (x : ExprTree) (ts : List Token) (z : ExprTree) → Parts x ts z → place z ≡ place x
parts_place x ts z g.no_part = refl
parts_place x ts z (g.part {a = a} d n {y = y} h hd hn e) = parts_place x a y h

chain_place : (src : List ℕ) (l : ℕ) (x : ExprTree) (ts : List Token) (z : ExprTree) → Chain src l x ts z → place z ≡ place x
chain_place src l x ts z g.unchained = refl
chain_place src l x ts z (g.chained {a = a} o op {y = y} h i k e) = chain_place src l x a y h

operand_first : (src : List ℕ) (ts : List Token) (x : ExprTree) → Operand src ts x → BeginAt ts (place x)
operand_first src ts x (g.number n h) = here n _
operand_first src ts x (g.truth o h) = here o _
operand_first src ts x (g.untruth o h) = here o _
operand_first src ts x (g.variable n h) = here n _
operand_first src ts x (g.parens {ts = us} p q {x = y} hp h hq e) = subst (BeginAt (p ∷ us)) (sym (placed_at p.start y)) (here p us)
operand_first src ts x (g.tuple p c q hp h hc i j hq e) = here p _
operand_first src ts x (g.set p q hp h i hq e) = here p _
operand_first src ts x (g.call f p q op hf hp h i n hq e) = here f _

expr_first : (src : List ℕ) (l : ℕ) (ts : List Token) (x : ExprTree) → E src l ts x → BeginAt ts (place x)
expr_first src l ts x (g.chain {a = a} {b = b} {x = y} {z = z} other h c e) =
    begun a b ts (place y) (place z) (expr_first src (suc l) a y h) (chain_place src l y b z c) e
expr_first src l ts x (g.alone h) = expr_first src 5 ts x h
expr_first src l ts x (g.compare {a = a} {b = b} o op {x = y} h i k e) = begun a (o ∷ b) ts (place y) (place y) (expr_first src 5 a y h) refl e
expr_first src l ts x (g.prefix o op i h) = here o _
expr_first src l ts x (g.parts {a = a} {b = b} {x = y} {z = z} h k e) =
    begun a b ts (place y) (place z) (operand_first src a y h) (parts_place y b z k) e

whole_first : (ts : List Token) (at : ℕ) (n : ℤ) → Whole ts at n → BeginAt ts at
whole_first ts at n (g.plain o h) = here o _
whole_first ts at n (g.minus m o h k) = here m _

type_place : TypeForm → ℕ
type_place (type_at at shape) = at

type_first : (ts : List Token) (y : TypeForm) → TypeOf ts y → BeginAt ts (type_place y)
unfolding type_place
type_first ts y (g.boolean b h) = here b _
type_first ts y (g.range {a = a} {b = b} r {at = at} {lo = lo} h hr k e) = begun a (r ∷ b) ts at at (whole_first a at lo h) refl e
type_first ts y (g.tuple_type p c q hp h hc i j hq e) = here p _
type_first ts y (g.set_type o f ho hf h) = here o _

dist_place : DistTree → ℕ
dist_place (dist_at at shape) = at

dist_first : (src : List ℕ) (ts : List Token) (d : DistTree) → Dist src ts d → BeginAt ts (dist_place d)
unfolding dist_place
dist_first src ts d (g.sure {x = x} h) = expr_first src 1 ts x h
dist_first src ts d (g.uniform_set u hu h) = here u _
dist_first src ts d (g.uniform_range u r hu h hr k e) = here u _
dist_first src ts d (g.choose c p q hc hp h i hq e) = here c _
dist_first src ts d (g.flip f n o m hf hn ho hm) = here f _

stmt_place : StmtTree → ℕ
stmt_place (stmt_at at shape) = at

statement_first : (src : List ℕ) (ts : List Token) (s : StmtTree) → Statement src ts s → BeginAt ts (stmt_place s)
unfolding stmt_place
statement_first src ts s (p.skip k e hk he) = here k _
statement_first src ts s (p.assign n g e hn hg h he w) = here n _
statement_first src ts s (p.observe o e ho h he w) = here o _
statement_first src ts s (p.if_else i e hi h k he l w) = here i _
statement_first src ts s (p.while o ho h k w) = here o _

pub stands_first : StandsFirst
unfolding type_place dist_place stmt_place
stands_first = record {
  expr = expr_first;
  type = λ ts at y h. type_first ts (type_at at y) h;
  dist = λ src ts at d h. dist_first src ts (dist_at at d) h;
  statement = λ src ts at s h. statement_first src ts (stmt_at at s) h;
}
