-- For bodies: how the traced states of a program tell of its runs.
use Rattle.std.specs.Prelude.{◌≡◌, ℕ, ◌*◌, ◌/◌, ◌<◌, ◌≤◌, Bool, false, ◌&&◌, ◌==◌, List, map, length, filter, sum_by, Result, Ok, Err, IsOk}
use Rattle.std.specs.List.{All}
use Rattle.std.specs.List.Sorted.{IsStrictlySortedBy}
use Rattle.std.specs.Cmp.Lexicographic.{pointwise}
use Rattle.kf_value.specs.Values.{ValueTree, is_equal}
use Rattle.kf_core.specs.Checked.{IsChecked}
use Rattle.kf_core.specs.Programs.{ProgramTree}
use Rattle.kf_core.specs.Runs.{Run, Halted, program_runs}
use Rattle.kf_core.specs.Support.{program_pass}
use Rattle.kf_core.specs.Scale.{scale_of}
use Rattle.kf_core.specs.Joint.{target_number, joint_of, weight_of}
use Rattle.kf_column.specs.Traces.{trace_order}
use Rattle.kf_traces.specs.Traced.{Weights, Traced, program_traced}

-- all weight that these stores have
abbrev pub sum_of : Weights → ℕ
sum_of es = sum_by (λ e. e.1) es

abbrev pub store_weight : Weights → ℕ → ℕ
store_weight es n = sum_of (filter (λ e. e.0 == n) es)

-- how much weight lies on a store behind a trace
abbrev pub traced_weight : List Traced → List ValueTree → ℕ → ℕ
traced_weight ss t n = sum_by (λ s. store_weight s.stores n) (filter (λ s. pointwise is_equal s.trace t) ss)

abbrev pub ends_at : ℕ → Result ℕ Halted → Bool
ends_at n (Ok m) = m == n
ends_at n (Err f) = false

-- the same of runs, each with its weight brought to the scale of all
abbrev pub run_weight : ℕ → List Run → List ValueTree → ℕ → ℕ
run_weight whole rs t n = sum_by (λ r. r.weight * whole / r.scale) (filter (λ r. pointwise is_equal r.trace t && ends_at n r.end) rs)

-- Each trace and store has the weight that the runs give it; traces ascend strictly; each has some store, and each store some weight; and
-- all weights together are the whole.
pub record AreTraces (whole : ℕ) (rs : List Run) (ss : List Traced) : Type 0 where
  pub weighs : (t : List ValueTree) (n : ℕ) → traced_weight ss t n ≡ run_weight whole rs t n
  pub ascending : IsStrictlySortedBy trace_order (map (λ s. s.trace) ss)
  pub some : All (λ s. 1 ≤ length s.stores) ss
  pub positive : All (λ s. All (λ e. 0 < e.1) s.stores) ss
  pub sum : sum_by (λ s. sum_of s.stores) ss ≡ whole

-- what a checked program leaks that meets no fault
abbrev pub TracesTell : Type 0
TracesTell = (turns : ℕ) (p : ProgramTree) → IsChecked p → IsOk (program_pass turns p)
    → AreTraces (scale_of turns p) (program_runs turns p) (program_traced turns (scale_of turns p) p)

-- how much weight lies on the stores of one target value behind a trace
abbrev pub target_weight : ProgramTree → List Traced → List ValueTree → ℕ → ℕ
target_weight p ss t x = sum_by (λ s. sum_of (filter (λ e. target_number p e.0 == x) s.stores)) (filter (λ s. pointwise is_equal s.trace t) ss)

-- a trace and a target value have their joint weight
abbrev pub TracesJoin : Type 0
TracesJoin = (turns : ℕ) (p : ProgramTree) → IsChecked p → IsOk (program_pass turns p) → (t : List ValueTree) (x : ℕ)
    → target_weight p (program_traced turns (scale_of turns p) p) t x ≡ weight_of (joint_of turns p) t x
