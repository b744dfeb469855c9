-- For bodies: expressions that have a value in each store, as far as their form tells, and distributions that choose one value in each.
use Rattle.std.specs.Prelude.{◌≡◌, ℕ, pos, Bool, true, false, not, ◌&&◌, ◌||◌, List, [], ◌∷◌, slice_get, Option, Some, None, Ok}
use Rattle.std.specs.Ordering.{int_eq}
use Rattle.kf_value.specs.Types.{TypeTree}
use Rattle.kf_value.specs.Values.{ValueTree, whole}
use Rattle.kf_ops.specs.Rows.{Row, operators}
use Rattle.kf_core.specs.Choices.{once}
use Rattle.kf_core.specs.Dxs.{DxTree}
use Rattle.kf_core.specs.Exs.{ExTree, ExTrees, Const, Slot, Apply, Tuple, SetOf, Part, no_exs, more_exs}
use Rattle.kf_core.specs.Runs.{tried}

-- a constant other than 0
abbrev pub divides : ExTree → Bool
divides (Const v) = not (int_eq (whole v) (pos 0))
divides x = false

-- the second of two arguments is such a constant
abbrev pub has_divisor : ExTrees → Bool
has_divisor (more_exs x (more_exs y no_exs)) = divides y
has_divisor xs = false

-- the operator of a row has a value whatever values these arguments have
abbrev pub is_total : Option Row → ExTrees → Bool
is_total (Some row) xs = not row.wide && (not row.div_zero || has_divisor xs)
is_total None xs = false

-- the expression has a value in each store
abbrev mutual
  pub has_value : ExTree → Bool
  has_value (Const v) = true
  has_value (Slot i) = true
  has_value (Apply row xs) = is_total (slice_get operators row) xs && have_values xs
  has_value (Tuple xs) = have_values xs
  has_value (SetOf xs) = have_values xs
  has_value (Part x k) = has_value x

  pub have_values : ExTrees → Bool
  have_values no_exs = true
  have_values (more_exs x xs) = has_value x && have_values xs

-- in each store the distribution chooses one value, with weight 1
abbrev pub IsAlwaysSure : DxTree → Type 0
IsAlwaysSure d = (ts : List TypeTree) (n : ℕ) → (v : ValueTree) × (tried ts d n ≡ Ok (once v ∷ []))
