-- For bodies: the builder that keeps no expression of more than 1,000 nodes.
use Rattle.std.specs.Prelude.{ℕ, ◌+◌, min, nat_le, if◌then◌else◌, Option, Some, None, List, [], ◌∷◌, ◌++◌}
use Rattle.kf_ast.specs.Views.{name_place}
use Rattle.kf_ast.specs.Exprs.{ExprTree, ExprShape, expr_at, Number, Truth, Name, Apply, Tuple, SetOf, Part, exprs, placed}
use Rattle.kf_ast.specs.Dists.{CaseTree, case_of, DistTree, dist_at, Sure, UniformSet, UniformRange, Choose, Flip}
use Rattle.kf_ast.specs.Stmts.{StmtTree, stmt_at, Skip, Assign, Observe, If, While, stmts}
use Rattle.kf_ast.specs.Sources.{DeclTree, declared, SourceTree, source}
use Rattle.kf_parse.specs.Builders.{Builder}

-- an expression: its nodes, or 1,001 where there are more than 1,000; its place; and the expression itself unless it has too many
pub record Cut : Type 0 where
  pub nodes : ℕ
  pub at : ℕ
  pub kept : Option ExprTree

-- expressions and the nodes of all of them, in the same way
pub record Cuts : Type 0 where
  pub nodes : ℕ
  pub kept : Option (List ExprTree)

abbrev pub capped : ℕ → ℕ
capped n = min n 1001

abbrev pub kept_to : {A : Type 0} → ℕ → A → Option A
kept_to n x = if nat_le n 1000 then Some x else None

abbrev pub shaped : {A : Type 0} → ℕ → ℕ → (A → ExprShape) → Option A → Option ExprTree
shaped n at f (Some x) = kept_to n (expr_at at (f x))
shaped n at f None = None

abbrev pub leaf : ℕ → ExprShape → Cut
leaf at shape = record { nodes = 1; at = at; kept = Some (expr_at at shape) }

-- a node above a list
abbrev pub node_over : ℕ → (List ExprTree → ExprShape) → Cuts → Cut
node_over at f xs = record { nodes = capped (xs.nodes + 1); at = at; kept = shaped (xs.nodes + 1) at f xs.kept }

abbrev pub moved_to : ℕ → Option ExprTree → Option ExprTree
moved_to at (Some x) = Some (placed at x)
moved_to at None = None

abbrev pub listed : Option ExprTree → Option (List ExprTree)
listed (Some x) = Some (x ∷ [])
listed None = None

abbrev pub pushed_to : ℕ → Option (List ExprTree) → Option ExprTree → Option (List ExprTree)
pushed_to n (Some xs) (Some x) = kept_to n (xs ++ x ∷ [])
pushed_to n _ _ = None

abbrev pub one_cut : Cut → Cuts
one_cut x = record { nodes = x.nodes; kept = listed x.kept }

abbrev pub push_cut : Cuts → Cut → Cuts
push_cut xs x = record { nodes = capped (xs.nodes + x.nodes); kept = pushed_to (xs.nodes + x.nodes) xs.kept x.kept }

-- what holds expressions, with a number in the place of each that was too long, and the place of the first of these
pub record Trimmed (A : Type 0) : Type 0 where
  pub value : A
  pub long : Option ℕ

abbrev pub expr_or_number : ℕ → Option ExprTree → ExprTree
expr_or_number at (Some x) = x
expr_or_number at None = expr_at at (Number 0)

abbrev pub shown : Cut → ExprTree
shown x = expr_or_number x.at x.kept

abbrev pub place_unless : ℕ → Option ExprTree → Option ℕ
place_unless at (Some x) = None
place_unless at None = Some at

abbrev pub long_of : Cut → Option ℕ
long_of x = place_unless x.at x.kept

-- the first place of two parts
abbrev pub earlier : Option ℕ → Option ℕ → Option ℕ
earlier (Some at) _ = Some at
earlier None other = other

abbrev pub within : {A B : Type 0} → (A → B) → Trimmed A → Trimmed B
within f x = record { value = f x.value; long = x.long }

abbrev pub together : {A B C : Type 0} → (A → B → C) → Trimmed A → Trimmed B → Trimmed C
together f x y = record { value = f x.value y.value; long = earlier x.long y.long }

abbrev pub untouched : {A : Type 0} → A → Trimmed A
untouched x = record { value = x; long = None }

-- an expression where it stands directly in a distribution
abbrev pub trim : Cut → Trimmed ExprTree
trim x = record { value = shown x; long = long_of x }

abbrev pub trimmed : Builder
trimmed = record {
  Ex = Cut;
  Exs = Cuts;
  Cs = Trimmed (List CaseTree);
  Di = Trimmed DistTree;
  St = Trimmed StmtTree;
  Ss = Trimmed (List StmtTree);
  Ds = Trimmed (List DeclTree);
  So = Trimmed SourceTree;
  number = λ at k. leaf at (Number k);
  truth = λ at b. leaf at (Truth b);
  variable = λ n. leaf (name_place n) (Name n);
  moved = λ at x. record { nodes = x.nodes; at = at; kept = moved_to at x.kept };
  one = one_cut;
  push = push_cut;
  apply = λ at row xs. node_over at (λ ys. Apply row (exprs ys)) xs;
  tuple = λ at xs. node_over at (λ ys. Tuple (exprs ys)) xs;
  set_of = λ at xs. node_over at (λ ys. SetOf (exprs ys)) xs;
  join = λ row x y. node_over x.at (λ ys. Apply row (exprs ys)) (push_cut (one_cut x) y);
  part = λ x k. record { nodes = capped (x.nodes + 1); at = x.at; kept = shaped (x.nodes + 1) x.at (λ y. Part y k) x.kept };
  sure = λ x. within (λ y. dist_at x.at (Sure y)) (trim x);
  uniform_set = λ at x. within (λ y. dist_at at (UniformSet y)) (trim x);
  uniform_range = λ at x y. together (λ v u. dist_at at (UniformRange v u)) (trim x) (trim y);
  no_cases = untouched [];
  push_case = λ cs x y. together (λ vs c. vs ++ c ∷ []) cs (together case_of (trim x) (trim y));
  choose = λ at cs. within (λ vs. dist_at at (Choose vs)) cs;
  flip = λ at j k. untouched (dist_at at (Flip j k));
  skip = λ at. untouched (stmt_at at Skip);
  assign = λ at n d. within (λ v. stmt_at at (Assign n v)) d;
  observe = λ at d. within (λ v. stmt_at at (Observe v)) d;
  if_else = λ at d xs ys. together (λ v (us : List StmtTree × List StmtTree). stmt_at at (If v (stmts us.0) (stmts us.1))) d (together (λ us vs. (us, vs)) xs ys);
  while = λ at d xs. together (λ v us. stmt_at at (While v (stmts us))) d xs;
  no_statements = untouched [];
  push_statement = λ xs x. together (λ us v. us ++ v ∷ []) xs x;
  no_declarations = untouched [];
  push_declaration = λ ds visible n y d. together (λ us v. us ++ declared visible n y v ∷ []) ds d;
  source = λ ds is xs. together (λ us vs. source us is vs) ds xs;
}
