-- Believed: expressions, each node with its place.
use Rattle.std.specs.Prelude.{ℕ, Bool, List}
use Rattle.kf_ast.specs.Names.{NameTree}
use mathlib.Core.List.{foldr}

mutual
  -- a place and what stands there
  pub data ExprTree : Type 0 where
    expr_at : ℕ → ExprShape → ExprTree

  pub data ExprShape : Type 0 where
    Number : ℕ → ExprShape
    Truth : Bool → ExprShape
    Name : NameTree → ExprShape
    Apply : ℕ → ExprTrees → ExprShape
    Tuple : ExprTrees → ExprShape
    SetOf : ExprTrees → ExprShape
    Part : ExprTree → ℕ → ExprShape

  pub data ExprTrees : Type 0 where
    no_exprs : ExprTrees
    more_exprs : ExprTree → ExprTrees → ExprTrees

abbrev pub exprs : List ExprTree → ExprTrees
exprs xs = foldr more_exprs no_exprs xs

abbrev pub place : ExprTree → ℕ
place (expr_at at shape) = at

-- the same as seen from another place, as an expression in parentheses is
abbrev pub placed : ℕ → ExprTree → ExprTree
placed at (expr_at from shape) = expr_at at shape
