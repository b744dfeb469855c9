-- Believed: how many nodes an expression has, and which expressions of a source are counted.
use Rattle.std.specs.Prelude.{ℕ, ◌+◌, nat_le, if◌then◌else◌, Option, Some, None, List, [], ◌∷◌, ◌++◌}
use Rattle.std.specs.List.{flat_map}
use Rattle.kf_ast.specs.Exprs.{ExprTree, ExprShape, ExprTrees, expr_at, Apply, Tuple, SetOf, Part, no_exprs, more_exprs, place}
use Rattle.kf_ast.specs.Dists.{CaseTree, case_of, DistTree, dist_at, Sure, UniformSet, UniformRange, Choose, Flip}
use Rattle.kf_ast.specs.Stmts.{StmtTree, StmtShape, StmtTrees, stmt_at, Skip, Assign, Observe, If, While, no_stmts, more_stmts}
use Rattle.kf_ast.specs.Sources.{DeclTree, declared, SourceTree, source}

-- numbers, truth values, names, operators, tuples, set literals and parts are nodes
abbrev mutual
  pub nodes : ExprTree → ℕ
  nodes (expr_at at shape) = shape_nodes shape

  pub shape_nodes : ExprShape → ℕ
  shape_nodes (Apply row xs) = all_nodes xs + 1
  shape_nodes (Tuple xs) = all_nodes xs + 1
  shape_nodes (SetOf xs) = all_nodes xs + 1
  shape_nodes (Part x k) = nodes x + 1
  shape_nodes shape = 1

  pub all_nodes : ExprTrees → ℕ
  all_nodes no_exprs = 0
  all_nodes (more_exprs x xs) = nodes x + all_nodes xs

-- the expressions that stand directly in a distribution, in their order
abbrev pub case_exprs : CaseTree → List ExprTree
case_exprs (case_of x y) = x ∷ y ∷ []

abbrev pub dist_exprs : DistTree → List ExprTree
dist_exprs (dist_at at (Sure x)) = x ∷ []
dist_exprs (dist_at at (UniformSet x)) = x ∷ []
dist_exprs (dist_at at (UniformRange x y)) = x ∷ y ∷ []
dist_exprs (dist_at at (Choose cs)) = flat_map case_exprs cs
dist_exprs (dist_at at (Flip j k)) = []

-- those of statements and of a whole source
abbrev mutual
  pub stmt_exprs : StmtTree → List ExprTree
  stmt_exprs (stmt_at at shape) = stmt_shape_exprs shape

  pub stmt_shape_exprs : StmtShape → List ExprTree
  stmt_shape_exprs Skip = []
  stmt_shape_exprs (Assign n d) = dist_exprs d
  stmt_shape_exprs (Observe d) = dist_exprs d
  stmt_shape_exprs (If d xs ys) = dist_exprs d ++ (stmts_exprs xs ++ stmts_exprs ys)
  stmt_shape_exprs (While d xs) = dist_exprs d ++ stmts_exprs xs

  pub stmts_exprs : StmtTrees → List ExprTree
  stmts_exprs no_stmts = []
  stmts_exprs (more_stmts x xs) = stmt_exprs x ++ stmts_exprs xs

abbrev pub decl_exprs : DeclTree → List ExprTree
decl_exprs (declared visible n y d) = dist_exprs d

abbrev pub source_exprs : SourceTree → List ExprTree
source_exprs (source ds is xs) = flat_map decl_exprs ds ++ flat_map stmt_exprs xs

-- the place of the first expression with more than 1,000 nodes
abbrev pub first_long : List ExprTree → Option ℕ
first_long [] = None
first_long (x ∷ xs) = if nat_le (nodes x) 1000 then first_long xs else Some (place x)
