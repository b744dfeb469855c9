-- For bodies: ways of weight: what is leaked on a way, the store to which it leads, and the weight that goes there.
use Rattle.std.specs.Prelude.{◌≡◌, ℕ, ◌<◌, ◌≤◌, ◌*◌, Bool, ◌&&◌, ◌==◌, List, [], ◌∷◌, ◌++◌, map, sum_by, Option, Some, None, if◌then◌else◌}
use Rattle.std.specs.List.{AllByRecursion as Each}
use Rattle.std.specs.Cmp.Lexicographic.{pointwise}
use Rattle.kf_value.specs.Types.{TypeTree}
use Rattle.kf_value.specs.Values.{ValueTree, Truth, is_equal, truth}
use Rattle.kf_value.specs.Views.{value_tree}
use Rattle.kf_column.specs.declared.entry.Entry.{Entry}
use Rattle.kf_column.specs.Columns.{total}
use Rattle.kf_column.specs.Joint.{mass}
use Rattle.kf_column.specs.Shapes.{IsBelow}
use Rattle.kf_column.specs.Traces.{Row}
use Rattle.kf_core.specs.Choices.{Weighted}
use Rattle.kf_core.specs.Joint.{weight_of}
use Rattle.kf_core.specs.Ready.{carried_cells}
use Rattle.kf_core.specs.Rows.{AreRowsOf}
use Rattle.kf_core.specs.Runs.{Run, replaced}
use Rattle.kf_support.specs.Moves.{store_behind}
use Rattle.kf_run.specs.declared.ways.Leak.{Leak}

pub record Way : Type 0 where
  pub trace : List ValueTree
  pub to : ℕ
  pub weight : ℕ

-- a store's weight, where this trace is leaked
abbrev pub along : List ValueTree → Entry → Way
along trace e = record { trace = trace; to = e.value; weight = e.weight }

-- a value is leaked
abbrev pub leaked : Leak → Way
leaked l = record { trace = value_tree l.value ∷ []; to = l.to; weight = l.weight }

-- the weight of a trace and a store
abbrev pub held : List ValueTree → ℕ → List Way → ℕ
held t x ways = sum_by (λ w. if pointwise is_equal w.trace t && (w.to == x) then w.weight else 0) ways

-- the sum of all weights
abbrev pub way_total : List Way → ℕ
way_total ways = sum_by (λ w. w.weight) ways

-- the weight of the column's stores goes along these ways as along the runs
pub record IsShared (from : ℕ → List Run) (column : List Entry) (ways : List Way) : Type 0 where
  pub weigh : (t : List ValueTree) (x : ℕ) → held t x ways ≡ weight_of (carried_cells from column) t x
  pub fits : way_total ways ≤ total column
  pub positive : Each (λ w. 0 < w.weight) ways

-- so do the ways that are added
pub record Adds (from : ℕ → List Run) (column : List Entry) (old new : List Way) : Type 0 where
  pub more : List Way
  pub is : new ≡ old ++ more
  pub shared : IsShared from column more

-- the rows behind a column have their columns added
pub record HasRows (from : ℕ → List Run) (size : ℕ) (column : List Entry) (old new : List (List Entry)) : Type 0 where
  pub rows : List Row
  pub are : AreRowsOf (carried_cells from column) rows
  pub is : new ≡ old ++ map (λ r. r.column) rows
  pub fits : mass (map (λ r. r.column) rows) ≤ total column
  pub below : Each (IsBelow size) (map (λ r. r.column) rows)

-- the way to a store
abbrev pub way_to : List ValueTree → ℕ → Option ℕ → List Way
way_to trace weight (Some n) = record { trace = trace; to = n; weight = weight } ∷ []
way_to trace weight None = []

-- a choice leads to the store where the variable has its value
abbrev pub moves : List TypeTree → ℕ → ℕ → ℕ → Weighted → List Way
moves ts slot n share w = way_to [] (share * w.weight) (replaced ts slot w.value n)

-- a choice with this truth stays in the store
abbrev pub sides : Bool → ℕ → ℕ → Weighted → List Way
sides wanted n share w =
    way_to (Truth wanted ∷ []) (share * w.weight) (if truth w.value then (if wanted then Some n else None) else (if wanted then None else Some n))

-- a choice leads to the store behind it, and its value is leaked
abbrev pub shows : List TypeTree → Option ℕ → ℕ → ℕ → Weighted → List Way
shows ts into n share w = way_to (w.value ∷ []) (share * w.weight) (store_behind ts into n w.value)
