-- For bodies: what a program means to whoever pushes columns through it.
use Rattle.std.specs.Prelude.{◌≡◌, ◌≤◌, ℕ, List, map, IsOk}
use Rattle.std.specs.List.{IsDistinct}
use Rattle.kf_frac.specs.Fractions.{limit}
use Rattle.kf_value.specs.Types.{count, product}
use Rattle.kf_column.specs.declared.entry.Entry.{Entry}
use Rattle.kf_column.specs.Columns.{proportional}
use Rattle.kf_column.specs.Hypers.{Inner, IsHyper}
use Rattle.kf_core.specs.Checked.{IsChecked}
use Rattle.kf_core.specs.Joint.{target_number}
use Rattle.kf_core.specs.Programs.{ProgramTree}
use Rattle.kf_core.specs.Pushing.{AreBehind}
use Rattle.kf_core.specs.Runs.{Run, stay}
use Rattle.kf_core.specs.Scale.{scale_of}
use Rattle.kf_core.specs.Support.{program_pass}
use Rattle.kf_push.specs.Blocks.{block_runs}

-- a program, how many turns a loop may have, and the scale of all runs
pub record Meaning : Type 0 where
  pub program : ProgramTree
  pub turns : ℕ
  pub scale : ℕ

-- the program is checked and meets no fault, and the scale is that of its runs
pub record IsMeaning (m : Meaning) : Type 0 where
  pub checked : IsChecked m.program
  pub clear : IsOk (program_pass m.turns m.program)
  pub scale_is : m.scale ≡ scale_of m.turns m.program
  pub narrow : m.scale ≤ limit

-- the runs of the outermost statements from one on, up to but not with another
abbrev pub runs_between : Meaning → ℕ → ℕ → ℕ → List Run
runs_between m from to = block_runs m.turns m.program from to

-- how many stores the program's variables have
abbrev pub store_count : Meaning → ℕ
store_count m = product (map count m.program.types)

-- no two of the columns are in proportion
abbrev pub AreApart : List (List Entry) → Type 0
AreApart columns = IsDistinct proportional columns

-- the hyper of the columns where each store is replaced by the number of its target value
pub record IsFinished (p : ProgramTree) (columns : List (List Entry)) (inners : List Inner) : Type 0 where
  pub targets : List (List Entry)
  pub are_targets : AreBehind (λ n. stay (target_number p n)) columns targets
  pub is_hyper : IsHyper targets inners
