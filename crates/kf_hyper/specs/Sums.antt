-- For bodies: weights of values, added up.
use Rattle.std.specs.Prelude.{◌≡◌, ℕ, ◌+◌, ◌<◌, ◌==◌, List, Bool, All, map, sum_by, if◌then◌else◌}
use Rattle.kf_column.specs.declared.entry.Entry.{Entry}
use Rattle.kf_column.specs.Columns.{weight_at, total}
use Rattle.kf_column.specs.Shapes.{IsBelow}

-- the entries of a map from values to weights
abbrev pub summed : List (ℕ × ℕ) → List Entry
summed entries = map (λ e. record { value = e.0; weight = e.1 }) entries

-- every weight is above 0
abbrev pub ArePositive : List Entry → Type 0
ArePositive entries = All (λ e. 0 < e.weight) entries

-- what a value has before, and what `gained` says that it gains
pub record Gains (gained : ℕ → ℕ) (sum : ℕ) (old new : List Entry) : Type 0 where
  pub weights : (x : ℕ) → weight_at new x ≡ weight_at old x + gained x
  pub total : total new ≡ total old + sum

-- a weight at one value
abbrev pub weight_alone : ℕ → ℕ → ℕ → ℕ
weight_alone value weight x = if value == x then weight else 0

-- what the values that are asked for weigh together
abbrev pub asked_weight : (ℕ → Bool) → List Entry → ℕ
asked_weight asked entries = sum_by (λ e. if asked e.value then e.weight else 0) entries

-- the sums give to all values that may be asked for what the entries give to them
pub record Gathers (entries sums : List Entry) : Type 0 where
  pub weights : (asked : ℕ → Bool) → asked_weight asked sums ≡ asked_weight asked entries
  pub total : total sums ≡ total entries
  pub below : (size : ℕ) → IsBelow size entries → IsBelow size sums
