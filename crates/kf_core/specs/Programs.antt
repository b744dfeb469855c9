-- Believed: whole checked programs.
use Rattle.std.specs.Prelude.{ℕ, List}
use Rattle.kf_value.specs.Types.{TypeTree}
use Rattle.kf_value.specs.Targets.{Item}
use Rattle.kf_core.specs.Dxs.{DxTree}
use Rattle.kf_core.specs.Sts.{StTree}

pub record ProgramTree : Type 0 where
  -- the types of the variables: the declared ones in order, then the carried copies
  pub types : List TypeTree
  pub decls : List DxTree
  -- the variable of each carried copy
  pub copies : List ℕ
  pub body : List StTree
  pub target : List Item
  -- the variable from which each item of the target is read
  pub target_slots : List ℕ
