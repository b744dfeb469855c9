-- Believed: statements of a checked program as plain trees.
use Rattle.std.specs.Prelude.{ℕ, Bool, List}
use Rattle.kf_core.specs.Dxs.{DxTree}
use mathlib.Core.List.{foldr}

mutual
  pub data StTree : Type 0 where
    Skip : StTree
    -- a variable takes a value, which is shown or not
    Assign : ℕ → DxTree → Bool → StTree
    Observe : DxTree → StTree
    If : DxTree → StTrees → StTrees → StTree
    While : DxTree → StTrees → StTree

  pub data StTrees : Type 0 where
    no_sts : StTrees
    more_sts : StTree → StTrees → StTrees

-- a list of statements as a block
abbrev pub sts : List StTree → StTrees
sts ss = foldr more_sts no_sts ss
