-- For bodies: the builder of whole trees.
use Rattle.std.specs.Prelude.{List, [], ◌∷◌, ◌++◌}
use Rattle.kf_ast.specs.Exprs.{ExprTree, expr_at, Number, Truth, Name, Apply, Tuple, SetOf, Part, exprs, place, placed}
use Rattle.kf_ast.specs.Dists.{CaseTree, case_of, DistTree, dist_at, Sure, UniformSet, UniformRange, Choose, Flip}
use Rattle.kf_ast.specs.Views.{name_place}
use Rattle.kf_ast.specs.Stmts.{StmtTree, stmt_at, Skip, Assign, Observe, If, While, stmts}
use Rattle.kf_ast.specs.Sources.{DeclTree, declared, SourceTree, source}
use Rattle.kf_parse.specs.Builders.{Builder}

abbrev pub whole_trees : Builder
whole_trees = record {
  Ex = ExprTree;
  Exs = List ExprTree;
  Cs = List CaseTree;
  Di = DistTree;
  St = StmtTree;
  Ss = List StmtTree;
  Ds = List DeclTree;
  So = SourceTree;
  number = λ at k. expr_at at (Number k);
  truth = λ at b. expr_at at (Truth b);
  variable = λ n. expr_at (name_place n) (Name n);
  moved = placed;
  one = λ x. x ∷ [];
  push = λ xs x. xs ++ x ∷ [];
  apply = λ at row xs. expr_at at (Apply row (exprs xs));
  tuple = λ at xs. expr_at at (Tuple (exprs xs));
  set_of = λ at xs. expr_at at (SetOf (exprs xs));
  join = λ row x y. expr_at (place x) (Apply row (exprs (x ∷ y ∷ [])));
  part = λ x k. expr_at (place x) (Part x k);
  sure = λ x. dist_at (place x) (Sure x);
  uniform_set = λ at x. dist_at at (UniformSet x);
  uniform_range = λ at x y. dist_at at (UniformRange x y);
  no_cases = [];
  push_case = λ cs x y. cs ++ case_of x y ∷ [];
  choose = λ at cs. dist_at at (Choose cs);
  flip = λ at j k. dist_at at (Flip j k);
  skip = λ at. stmt_at at Skip;
  assign = λ at n d. stmt_at at (Assign n d);
  observe = λ at d. stmt_at at (Observe d);
  if_else = λ at d xs ys. stmt_at at (If d (stmts xs) (stmts ys));
  while = λ at d xs. stmt_at at (While d (stmts xs));
  no_statements = [];
  push_statement = λ xs x. xs ++ x ∷ [];
  no_declarations = [];
  push_declaration = λ ds visible n y d. ds ++ declared visible n y d ∷ [];
  source = source;
}
