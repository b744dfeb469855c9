-- Believed: the joint of a program: whole weights of traces and target values, over the scale of all runs.
use Rattle.std.specs.Prelude.{ℕ, ◌*◌, ◌/◌, false, ◌&&◌, ◌==◌, List, [], ◌∷◌, map, get_or, filter, sum_by, flat_map, Ok, Err}
use Rattle.std.specs.Cmp.Lexicographic.{pointwise}
use Rattle.std.specs.Option.{unwrap_or}
use Rattle.kf_value.specs.Values.{ValueTree, Truth, is_equal}
use Rattle.kf_core.specs.Programs.{ProgramTree}
use Rattle.kf_core.specs.Runs.{Run, store_at, store_number, program_runs}
use Rattle.kf_core.specs.Scale.{scale_of}

-- a run's trace, the number of its target value, and its weight over the scale of all runs
pub record Cell : Type 0 where
  pub trace : List ValueTree
  pub value : ℕ
  pub weight : ℕ

-- the values of the target in a store: each item is read in its variable, which for an item `old` is the carried copy
abbrev pub target_values_at : ProgramTree → ℕ → List ValueTree
target_values_at p n = map (λ slot. get_or (store_at p.types n) slot (Truth false)) p.target_slots

-- their number among the target's values
abbrev pub target_number : ProgramTree → ℕ → ℕ
target_number p n = unwrap_or (store_number (map (λ i. i.ty) p.target) (target_values_at p n)) 0

-- the cell of a run that ends, its store numbered anew, and its weight brought from its own scale to this one
abbrev pub cell_of : (ℕ → ℕ) → ℕ → Run → List Cell
cell_of number scale r = elim r.end [
  | Ok n ↦ record { trace = r.trace; value = number n; weight = r.weight * scale / r.scale } ∷ []
  | Err f ↦ []
]

-- the cells of all runs that end
abbrev pub cells : (ℕ → ℕ) → ℕ → List Run → List Cell
cells number scale rs = flat_map (cell_of number scale) rs

-- the joint of a program: over the scale of all its runs, and about its target
abbrev pub joint_of : ℕ → ProgramTree → List Cell
joint_of turns p = cells (target_number p) (scale_of turns p) (program_runs turns p)

-- the joint weight of a trace and a target value: the sum over the runs that have both
abbrev pub weight_of : List Cell → List ValueTree → ℕ → ℕ
weight_of joint t x = sum_by (λ c. c.weight) (filter (λ c. pointwise is_equal c.trace t && (c.value == x)) joint)

-- the weight of a trace: the sum over the runs that have it
abbrev pub trace_weight : List Cell → List ValueTree → ℕ
trace_weight joint t = sum_by (λ c. c.weight) (filter (λ c. pointwise is_equal c.trace t) joint)
