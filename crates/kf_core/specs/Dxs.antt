-- Believed: distributions of a checked program, with their places.
use Rattle.std.specs.Prelude.{ℕ, List}
use Rattle.kf_core.specs.Exs.{ExTree}

-- a value and its weight
pub data DxCaseTree : Type 0 where
  case_of : ExTree → ExTree → DxCaseTree

pub data DxShape : Type 0 where
  Sure : ExTree → DxShape
  UniformSet : ExTree → DxShape
  UniformRange : ExTree → ExTree → DxShape
  Choose : List DxCaseTree → DxShape
  Flip : ℕ → ℕ → DxShape

-- a place and what stands there
pub data DxTree : Type 0 where
  dx_at : ℕ → DxShape → DxTree
