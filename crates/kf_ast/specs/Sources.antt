-- Believed: whole sources.
use Rattle.std.specs.Prelude.{Bool, List}
use Rattle.kf_ast.specs.Names.{NameTree}
use Rattle.kf_ast.specs.TypeForms.{TypeForm}
use Rattle.kf_ast.specs.Dists.{DistTree}
use Rattle.kf_ast.specs.Stmts.{StmtTree}

-- whether the variable is visible, its name, its type, and the distribution of its first value
pub data DeclTree : Type 0 where
  declared : Bool → NameTree → TypeForm → DistTree → DeclTree

abbrev pub is_visible : DeclTree → Bool
is_visible (declared visible n y d) = visible

-- an item of the target, and whether it is the variable before the first statement
pub data ItemTree : Type 0 where
  item : Bool → NameTree → ItemTree

-- the declarations, the target and the statements
pub data SourceTree : Type 0 where
  source : List DeclTree → List ItemTree → List StmtTree → SourceTree
