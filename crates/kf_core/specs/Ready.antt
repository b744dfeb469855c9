-- For bodies: when columns of stores can be pushed through statements, and what it is to push them.
use Rattle.std.specs.Prelude.{◌≡◌, ℕ, List, [], All, flat_map, IsOk}
use Rattle.std.specs.FinSet.{from_list}
use Rattle.std.specs.Int.{◌∣◌}
use Rattle.kf_value.specs.Types.{TypeTree}
use Rattle.kf_column.specs.declared.entry.Entry.{Entry}
use Rattle.kf_column.specs.Columns.{IsColumn, values, weight_at}
use Rattle.kf_column.specs.Merged.{AreMerged}
use Rattle.kf_core.specs.Sts.{StTree, sts}
use Rattle.kf_core.specs.Programs.{ProgramTree}
use Rattle.kf_core.specs.Runs.{Run, all_runs, declared, copied}
use Rattle.kf_core.specs.Scale.{scale_of}
use Rattle.kf_core.specs.Joint.{Cell, cells, weight_of}
use Rattle.kf_core.specs.Support.{all_pass}
use Rattle.kf_core.specs.Pushing.{AreBehind}

-- the one column of stores behind the declarations, with their carried copies set, over the scale of all runs
pub record IsStart (turns : ℕ) (p : ProgramTree) (column : List Entry) : Type 0 where
  pub is_column : IsColumn column
  pub weights : (n : ℕ) → weight_at column n ≡ weight_of (cells (copied p) (scale_of turns p) (declared p.types 0 p.decls 0)) [] n

-- the cells of a column when each of its stores goes along its runs: each run takes its share of the store's weight to its end
abbrev pub carried_cells : (ℕ → List Run) → List Entry → List Cell
carried_cells from column = flat_map (λ e. cells (λ n. n) e.weight (from e.value)) column

-- each run's scale divides the weight of the store from which it runs
abbrev pub DivideAlong : (ℕ → List Run) → List (List Entry) → Type 0
DivideAlong from columns = All (λ column. All (λ e. All (λ r. r.scale ∣ e.weight) (from e.value)) column) columns

-- the columns can be pushed through these statements: none of their stores meets a fault, and every weight is whole to the end
pub record IsReady (ts : List TypeTree) (turns : ℕ) (xs : List StTree) (columns : List (List Entry)) : Type 0 where
  pub clear : IsOk (all_pass ts turns (sts xs) (from_list (flat_map values columns)))
  pub divides : DivideAlong (all_runs ts turns (sts xs)) columns

-- what stands behind the runs, with the columns of one posterior added up
pub record IsPushed (from : ℕ → List Run) (before after : List (List Entry)) : Type 0 where
  pub behind : List (List Entry)
  pub are_behind : AreBehind from before behind
  pub are_merged : AreMerged behind after
