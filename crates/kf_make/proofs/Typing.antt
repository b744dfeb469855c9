-- The made source breaks no rule, and has the made program.
use Rattle.std.proofs.Common.{◌≡◌, ℕ, zero, suc, ◌+◌, ◌*◌, ◌^◌, ◌≤◌, pos, false, List, [], ◌∷◌, map, codes, None, Ok, refl, ap, arith}
use Rattle.std.proofs.lemmas.List.Elements.{All-nil}
use Rattle.kf_value.specs.Kinds.{WholeKind}
use Rattle.kf_value.specs.Types.{Range}
use Rattle.kf_ops.specs.Places.{number_of}
use Rattle.kf_ops.specs.Rows.{binary, may_be_wide, may_divide_by_zero}
use Rattle.kf_ops.specs.declared.row.Op.TheVariants as op
use Rattle.kf_ops.specs.declared.row.Pat.TheVariants as pat
use Rattle.kf_ast.specs.Exprs.{ExprTree, expr_at, Apply, exprs}
use Rattle.kf_ast.specs.Sources.{SourceTree, source}
use Rattle.kf_ast.specs.Stmts.{StmtTree, stmts}
use Rattle.kf_check.specs.Kinds.{Known, IsResult, Judges, JudgesPair, JudgesCases}
use Rattle.kf_check.specs.Statements.{JudgesStmt, JudgesStmts}
use Rattle.kf_check.specs.Sources.{Variable, JudgesDecls, JudgesSource}
use Rattle.kf_check.specs.Translation.{st_of, all}
use Rattle.kf_make.specs.Made.{number_at, x_at, parity_at, made_cases, made_statement, made_statements, made_declaration, made_tree, made_body}
use Rattle.kf_make.specs.Laws.{MadeIsTyped}

-- the one variable
abbrev variables : List Variable
variables = record { name = codes "x"; type = Range (pos 0) (pos 63) } ∷ []

abbrev known : List Known
known = record { name = codes "x"; kind = WholeKind } ∷ []

-- ---- a line: a kind that is found doesn't depend on places, so that they are 0 here

-- an operator of two whole numbers
module _ (row : ℕ) (x y : ExprTree) (is : IsResult row (WholeKind ∷ WholeKind ∷ []) WholeKind) where
  abbrev of_two : ExprTree
  of_two = expr_at 0 (Apply row (exprs (x ∷ y ∷ [])))

  two_wholes : Judges known x (Ok WholeKind) → Judges known y (Ok WholeKind) → Judges known of_two (Ok WholeKind)
  two_wholes first next = (WholeKind ∷ WholeKind ∷ [], (WholeKind, first, (WholeKind ∷ [], (WholeKind, next, ([], refl, refl)), refl)), is)

mod_row : IsResult (number_of op.Mod) (WholeKind ∷ WholeKind ∷ []) WholeKind
mod_row = (may_divide_by_zero (binary (codes "mod") 6 pat.Int pat.Int pat.Int op.Mod), WholeKind, refl, refl, refl)

minus_row : IsResult (number_of op.Subtract) (WholeKind ∷ WholeKind ∷ []) WholeKind
minus_row = (may_be_wide (binary (codes "-") 5 pat.Int pat.Int pat.Int op.Subtract), WholeKind, refl, refl, refl)

is_parity : Judges known (parity_at 0) (Ok WholeKind)
is_parity = two_wholes (number_of op.Mod) (x_at 0) (number_at 0 2) mod_row (0, refl) refl

abbrev other : ExprTree
other = of_two (number_of op.Subtract) (number_at 0 1) (parity_at 0) minus_row

is_other : Judges known other (Ok WholeKind)
is_other = two_wholes (number_of op.Subtract) (number_at 0 1) (parity_at 0) minus_row refl is_parity

is_pair : (ks : List Known) (x y : ExprTree) → Judges ks x (Ok WholeKind) → Judges ks y (Ok WholeKind) → JudgesPair ks WholeKind x y (Ok WholeKind)
is_pair ks x y first next = (WholeKind, first, (WholeKind, next, (WholeKind, (refl, refl), (WholeKind, (refl, refl), refl))))

are_cases : (at : ℕ) → JudgesCases known WholeKind (made_cases at) (Ok WholeKind)
are_cases at = (
  WholeKind,
  is_pair known (parity_at 0) (number_at 0 3) is_parity refl,
  (WholeKind, is_pair known other (number_at 0 1) is_other refl, refl),
)

is_statement : (at : ℕ) → JudgesStmt known (made_statement at) (Ok tt)
is_statement at = (WholeKind, (WholeKind, is_parity, are_cases at), refl)

are_statements : (k at : ℕ) → JudgesStmts known (stmts (made_statements at k)) (Ok tt)
are_statements zero at = refl
are_statements (suc k) at = (tt, is_statement at, are_statements k _)

same_statements : (k at : ℕ) → made_body at k ≡ map (st_of (codes "x" ∷ []) (false ∷ [])) (made_statements at k)
same_statements zero at = refl
same_statements (suc k) at = ap (λ ss. st_of (codes "x" ∷ []) (false ∷ []) (made_statement at) ∷ ss) (same_statements k _)

-- ---- the declaration

few : 1 * (63 + 1) ≤ 2 ^ 63
few = omega arith

is_declared : JudgesDecls [] (made_declaration ∷ []) (Ok variables)
is_declared = (
  record { name = codes "x"; type = Range (pos 0) (pos 63) },
  (
    codes "x",
    (All-nil _, refl),
    (
      Range (pos 0) (pos 63),
      (Range (pos 0) (pos 63), (refl, refl), (omega arith, refl)),
      (
        Range (pos 0) (pos 63),
        (Range (pos 0) (pos 63), (omega arith, refl), (few, refl)),
        (WholeKind, (WholeKind, is_pair [] (number_at 0 0) (number_at 0 63) refl refl, (refl, refl)), refl),
      ),
    ),
  ),
  refl,
)

is_judged : (count : ℕ) → JudgesSource (made_tree count) None
unfolding JudgesSource
is_judged count = (made_declaration ∷ [], (omega arith, refl), (variables, is_declared, (Range (pos 0) (pos 63) ∷ [], refl, are_statements count _)))

abbrev body_of : SourceTree → List StmtTree
body_of (source decls items body) = body

pub made_is_typed : MadeIsTyped
made_is_typed count = record {
  decls = made_declaration ∷ [];
  items = [];
  body = body_of (made_tree count);
  is_source = refl;
  judged = is_judged count;
  variables = variables;
  are_variables = is_declared;
  are_types = refl;
  are_decls = refl;
  is_target = all;
  are_statements = same_statements count _;
}
