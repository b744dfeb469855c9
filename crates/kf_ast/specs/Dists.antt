-- Believed: distributions, with their places.
use Rattle.std.specs.Prelude.{ℕ, List}
use Rattle.kf_ast.specs.Exprs.{ExprTree}

-- a value and its weight
pub data CaseTree : Type 0 where
  case_of : ExprTree → ExprTree → CaseTree

pub data DistShape : Type 0 where
  Sure : ExprTree → DistShape
  UniformSet : ExprTree → DistShape
  UniformRange : ExprTree → ExprTree → DistShape
  Choose : List CaseTree → DistShape
  Flip : ℕ → ℕ → DistShape

-- a place and what stands there
pub data DistTree : Type 0 where
  dist_at : ℕ → DistShape → DistTree
