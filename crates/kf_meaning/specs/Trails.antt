-- For bodies: laws of trails: how many beliefs there are after the last statement, beside the hyper that is printed.
use Rattle.std.specs.Prelude.{◌≡◌, ℕ, ◌<◌, ◌≤◌, List, Contains, length, slice_get, Some, IsOk}
use Rattle.kf_column.specs.Hypers.{Inner}
use Rattle.kf_core.specs.Checked.{IsChecked}
use Rattle.kf_core.specs.Joint.{joint_of}
use Rattle.kf_core.specs.Programs.{ProgramTree}
use Rattle.kf_core.specs.Pushing.{IsTrail}
use Rattle.kf_core.specs.Rows.{IsHyperOf}
use Rattle.kf_core.specs.Support.{program_pass}

-- of a checked program without a fault: the last count of its trail, and its hyper
pub record AreLast (turns : ℕ) (p : ProgramTree) (last : ℕ) (inners : List Inner) : Type 0 where
  pub checked : IsChecked p
  pub clear : IsOk (program_pass turns p)
  pub counts : List ℕ
  pub is_trail : IsTrail turns p counts
  pub is_last : slice_get counts (length p.body) ≡ Some last
  pub is_hyper : IsHyperOf (joint_of turns p) inners

-- the last count is at least the number of inners, since equal beliefs about all variables are equal beliefs about the target
abbrev pub LastCountBounds : Type 0
LastCountBounds = (turns : ℕ) (p : ProgramTree) (last : ℕ) (inners : List Inner) → AreLast turns p last inners → length inners ≤ last

-- each variable, and each carried copy, is read by an item of the target
abbrev pub HasAll : ProgramTree → Type 0
HasAll p = (slot : ℕ) → slot < length p.types → Contains p.target_slots slot

-- and where the target is all of them, it is that number
abbrev pub LastCountIsMet : Type 0
LastCountIsMet = (turns : ℕ) (p : ProgramTree) (last : ℕ) (inners : List Inner) → AreLast turns p last inners → HasAll p
    → length inners ≡ last
