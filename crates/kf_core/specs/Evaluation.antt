-- Believed: the value of an expression in a store, or its first fault (Gibbons et al. 2020 leave expressions open; these are this
-- language's).
use Rattle.std.specs.Prelude.{ℕ, false, if◌then◌else◌, List, [], ◌∷◌, get_or, slice_get, Option, Result, Ok}
use Rattle.std.specs.Option.{option_map, option_map_or}
use Rattle.kf_value.specs.Values.{ValueTree, Truth, parts, parts_list, truth}
use Rattle.kf_value.specs.Values as value
use Rattle.kf_ops.specs.Rows.{operators}
use Rattle.kf_ops.specs.Values.{Fault, inserted, applied}
use Rattle.kf_ops.specs.declared.row.Op.{Op}
use Rattle.kf_ops.specs.declared.row.Op.TheVariants as op
use Rattle.kf_core.specs.Results.{then_ok}
use Rattle.kf_core.specs.Exs.{ExTree, ExTrees, Const, Slot, Apply, Tuple, SetOf, Part, no_exs, more_exs}
use mathlib.Core.List.{foldr}

abbrev pub Evaluated : Type 0
Evaluated = Result ValueTree Fault

-- all values, or the first fault from left to right
abbrev pub all_values : List Evaluated → Result (List ValueTree) Fault
all_values [] = Ok []
all_values (e ∷ es) = then_ok e (λ v. then_ok (all_values es) (λ vs. Ok (v ∷ vs)))

-- An operator at its evaluated arguments. `or` is its first argument where that is true and else its second, `and` the other way round, and
-- `cond` is its second or its third: what doesn't decide has no part in the result.
abbrev pub operated : Op → List Evaluated → Evaluated
operated op.Or (a ∷ b ∷ []) = then_ok a (λ v. if truth v then Ok v else b)
operated op.And (a ∷ b ∷ []) = then_ok a (λ v. if truth v then b else Ok v)
operated op.Cond (a ∷ b ∷ c ∷ []) = then_ok a (λ v. if truth v then b else c)
operated code es = then_ok (all_values es) (applied code)

-- the operator of a row; a checked expression names none that isn't there
abbrev pub operator_at : ℕ → Option Op
operator_at row = option_map (λ r. r.code) (slice_get operators row)

-- members of a set, each once and ascending
abbrev pub set_of : List ValueTree → List ValueTree
set_of vs = foldr inserted [] vs

-- a part of a tuple, counted from 0; a checked expression takes no part that isn't there
abbrev pub part_of : ℕ → ValueTree → ValueTree
part_of k (value.Tuple vs) = get_or (parts_list vs) k (Truth false)
part_of k v = v

abbrev mutual
  pub ev : List ValueTree → ExTree → Evaluated
  ev s (Const v) = Ok v
  ev s (Slot i) = Ok (get_or s i (Truth false))
  ev s (Apply row xs) = option_map_or (λ code. operated code (evs s xs)) (operator_at row) (Ok (Truth false))
  ev s (Tuple xs) = then_ok (all_values (evs s xs)) (λ vs. Ok (value.Tuple (parts vs)))
  ev s (SetOf xs) = then_ok (all_values (evs s xs)) (λ vs. Ok (value.Set (parts (set_of vs))))
  ev s (Part x k) = then_ok (ev s x) (λ v. Ok (part_of k v))

  pub evs : List ValueTree → ExTrees → List Evaluated
  evs s no_exs = []
  evs s (more_exs x xs) = ev s x ∷ evs s xs
