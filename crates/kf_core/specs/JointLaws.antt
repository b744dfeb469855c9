-- For bodies: what holds of joints: how much weight there is, and that each has its rows and its hyper, once.
use Rattle.std.specs.Prelude.{◌≡◌, ℕ, List, IsOk, sum_by}
use Rattle.kf_column.specs.Hypers.{Inner}
use Rattle.kf_column.specs.Traces.{Row}
use Rattle.kf_core.specs.Checked.{IsChecked}
use Rattle.kf_core.specs.Joint.{Cell, joint_of}
use Rattle.kf_core.specs.Programs.{ProgramTree}
use Rattle.kf_core.specs.Rows.{AreRowsOf, IsHyperOf}
use Rattle.kf_core.specs.Scale.{scale_of}
use Rattle.kf_core.specs.Support.{program_pass}

-- the joint weights of a checked program that meets no fault add up to its scale: its runs carry all weight
abbrev pub JointIsWhole : Type 0
JointIsWhole = (turns : ℕ) (p : ProgramTree) → IsChecked p → IsOk (program_pass turns p)
    → sum_by (λ c. c.weight) (joint_of turns p) ≡ scale_of turns p

-- every joint has its rows
abbrev pub RowsExist : Type 0
RowsExist = (joint : List Cell) → (rows : List Row) × AreRowsOf joint rows

-- and no others
abbrev pub RowsAreOne : Type 0
RowsAreOne = (joint : List Cell) (rows others : List Row) → AreRowsOf joint rows → AreRowsOf joint others → rows ≡ others

-- every joint has a hyper
abbrev pub HypersExist : Type 0
HypersExist = (joint : List Cell) → (inners : List Inner) × IsHyperOf joint inners

-- and no other
abbrev pub HypersAreOne : Type 0
HypersAreOne = (joint : List Cell) (inners others : List Inner) → IsHyperOf joint inners → IsHyperOf joint others → inners ≡ others
