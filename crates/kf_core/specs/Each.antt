-- For bodies: runs, choices and passes step by step, by the names of the functions that take the steps.
use Rattle.std.specs.Prelude.{false, List, Option, Ok, ℕ, Result, map, ◌<◌, [], ◌∷◌, Err, Bool, ◌&&◌, ◌==◌}
use Rattle.std.specs.Option.{option_map_or}
use Rattle.std.specs.Ordering.{nat_cmp}
use Rattle.std.specs.BTreeSet.{insert_key}
use Rattle.std.specs.Result.{result_map_both}
use Rattle.std.specs.Cmp.Lexicographic.{pointwise}
use Rattle.kf_value.specs.Values.{Truth, ValueTree, is_equal}
use Rattle.kf_ops.specs.declared.row.Op.{Op}
use Rattle.kf_core.specs.Evaluation.{Evaluated, operated}
use Rattle.kf_core.specs.Results.{each_ok}
use Rattle.kf_core.specs.Dxs.{DxCaseTree}
use Rattle.kf_core.specs.Choices.{Chosen, case_listed, Weighted, ChoiceFault}
use Rattle.kf_core.specs.Runs.{Choosing, Tried, OutOfRange, Run, stay, stopped, Halted, joined}
use Rattle.kf_core.specs.Support.{Passed}
use Rattle.kf_core.specs.Joint.{Cell, trace_weight}
use Rattle.kf_core.specs.Exs.{ExTree, ExTrees, no_exs, more_exs}
use Rattle.kf_frac.specs.Divisors.{common_multiple}
use mathlib.Core.List.{foldr}

abbrev pub at_row : Option Op → List Evaluated → Evaluated
at_row found es = option_map_or (λ code. operated code es) found (Ok (Truth false))

-- the cases in order, up to the first fault
abbrev pub cases_listed : List ValueTree → List DxCaseTree → Chosen
cases_listed s cs = each_ok (case_listed s) cs

abbrev pub placed_at : ℕ → Result (List Weighted) ChoiceFault → Tried
placed_at at chosen = result_map_both (λ ws. ws) (λ f. record { cause = Choosing f; at = at }) chosen

abbrev pub moved : ℕ → Option ℕ → List Run
moved at found = option_map_or stay found (stopped OutOfRange at)

-- all that is reached from stores in turn, or the fault of the first that has one
abbrev pub each_pass : (ℕ → Passed (List ℕ)) → List ℕ → Passed (List ℕ)
each_pass next ns = each_ok next ns

-- the numbers of a list, each once and ascending
abbrev pub ascending : List ℕ → List ℕ
ascending ns = foldr (λ n others. insert_key nat_cmp others n) [] ns

-- where a choice leads: out of range is a fault
abbrev pub moved_pass : ℕ → Option ℕ → Passed (List ℕ)
moved_pass at found = option_map_or (λ n. Ok (n ∷ [])) found (Err (record { cause = OutOfRange; at = at }))

-- where each choice leads
abbrev pub each_moved : ℕ → List (Option ℕ) → Passed (List ℕ)
each_moved at ms = each_ok (moved_pass at) ms

-- the least common multiple of the runs' scales
abbrev pub common_scale : List Run → ℕ
common_scale rs = common_multiple (map (λ r. r.scale) rs)

-- some weight lies on the trace
abbrev pub HasTrace : List Cell → List ValueTree → Type 0
HasTrace joint t = 0 < trace_weight joint t

-- a list of expressions as the parts of a tree
abbrev pub exs : List ExTree → ExTrees
exs [] = no_exs
exs (x ∷ xs) = more_exs x (exs xs)

abbrev pub onward : (ℕ → List Run) → Run → Result ℕ Halted → List Run
onward next r end = elim end [ Ok n ↦ map (joined r) (next n) | Err f ↦ r ∷ [] ]

abbrev pub is_cell_at : List ValueTree → ℕ → Cell → Bool
is_cell_at t x c = pointwise is_equal c.trace t && (c.value == x)
