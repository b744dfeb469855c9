-- Believed: columns of stores pushed through runs, and how many beliefs stand behind each statement.
use Rattle.std.specs.Prelude.{◌≡◌, ℕ, suc, List, Some, map, take, length, flat_map, slice_get}
use Rattle.std.specs.List.{AllZip}
use Rattle.kf_column.specs.declared.entry.Entry.{Entry}
use Rattle.kf_column.specs.Hypers.{Inner, IsHyper}
use Rattle.kf_column.specs.Traces.{Row}
use Rattle.kf_core.specs.Sts.{sts}
use Rattle.kf_core.specs.Programs.{ProgramTree}
use Rattle.kf_core.specs.Runs.{Run, all_runs, declared, copied}
use Rattle.kf_core.specs.Scale.{scale_of}
use Rattle.kf_core.specs.Joint.{cells}
use Rattle.kf_core.specs.Rows.{AreRowsOf}

-- one column for each column before and each trace that runs from its stores leak (Gibbons et al. 2020, a hyper through a statement): each
-- run from a store takes its share of the store's weight to its end
pub record AreBehind (from : ℕ → List Run) (before behind : List (List Entry)) : Type 0 where
  pub rows : List (List Row)
  pub each : AllZip (λ column there. AreRowsOf (flat_map (λ e. cells (λ n. n) e.weight (from e.value)) column) there) before rows
  pub is : behind ≡ map (λ r. r.column) (flat_map (λ there. there) rows)

-- so many beliefs stand behind the runs: classes of proportional columns of whole stores
pub record HasBeliefs (from : ℕ → List Run) (before : List (List Entry)) (count : ℕ) : Type 0 where
  pub behind : List (List Entry)
  pub are_behind : AreBehind from before behind
  pub inners : List Inner
  pub is_hyper : IsHyper behind inners
  pub counted : count ≡ length inners

-- how many there are behind the declarations, with the carried copies set, and behind each of the outermost statements; the declarations
-- leak nothing, so their runs have one row
pub record IsTrail (turns : ℕ) (p : ProgramTree) (counts : List ℕ) : Type 0 where
  pub rows : List Row
  pub are_rows : AreRowsOf (cells (copied p) (scale_of turns p) (declared p.types 0 p.decls 0)) rows
  pub long : length counts ≡ suc (length p.body)
  pub each : (i count : ℕ) → slice_get counts i ≡ Some count
      → HasBeliefs (all_runs p.types turns (sts (take i p.body))) (map (λ r. r.column) rows) count
