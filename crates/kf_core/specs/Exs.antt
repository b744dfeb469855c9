-- Believed: expressions of a checked program as plain trees.
use Rattle.std.specs.Prelude.{ℕ}
use Rattle.kf_value.specs.Values.{ValueTree}

mutual
  pub data ExTree : Type 0 where
    Const : ValueTree → ExTree
    Slot : ℕ → ExTree
    Apply : ℕ → ExTrees → ExTree
    Tuple : ExTrees → ExTree
    SetOf : ExTrees → ExTree
    Part : ExTree → ℕ → ExTree

  pub data ExTrees : Type 0 where
    no_exs : ExTrees
    more_exs : ExTree → ExTrees → ExTrees
