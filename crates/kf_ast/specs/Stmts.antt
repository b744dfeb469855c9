-- Believed: statements, each with its place.
use Rattle.std.specs.Prelude.{ℕ, List}
use Rattle.kf_ast.specs.Names.{NameTree}
use Rattle.kf_ast.specs.Dists.{DistTree}
use mathlib.Core.List.{foldr}

mutual
  -- a place and what stands there
  pub data StmtTree : Type 0 where
    stmt_at : ℕ → StmtShape → StmtTree

  pub data StmtShape : Type 0 where
    Skip : StmtShape
    Assign : NameTree → DistTree → StmtShape
    Observe : DistTree → StmtShape
    If : DistTree → StmtTrees → StmtTrees → StmtShape
    While : DistTree → StmtTrees → StmtShape

  pub data StmtTrees : Type 0 where
    no_stmts : StmtTrees
    more_stmts : StmtTree → StmtTrees → StmtTrees

abbrev pub stmts : List StmtTree → StmtTrees
stmts ss = foldr more_stmts no_stmts ss
