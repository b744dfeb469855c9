-- Believed: the vulnerability of a column under a gain: the best that any action, any set of values or any order of them comes to.
use Rattle.std.specs.Prelude.{◌≡◌, ℕ, ◌+◌, ◌*◌, ◌≤◌, ℤ, pos, ◌+ℤ◌, ◌*ℤ◌, ◌≤ℤ◌, List, [], ◌∷◌, length, Contains, sum_by, IsPermutation}
use Rattle.std.specs.List.Sorted.{IsStrictlyIncreasing}
use Rattle.kf_column.specs.declared.entry.Entry.{Entry}
use Rattle.kf_column.specs.Columns.{weight_at, values}
use Rattle.kf_gain.specs.declared.table.Action.{Action}
use Rattle.kf_gain.specs.declared.table.GainEntry.{GainEntry}
use Rattle.kf_gain.specs.Gains.{GainOf, Bayes, Tries, Guessing, Table, TableTree, gain_at}
use mathlib.Core.List.{foldr}

-- what an action gains from a column: the sum of weight times gain
abbrev pub gained : ℤ → List GainEntry → List Entry → ℤ
gained rest gains column = foldr (λ (e : Entry) others. pos e.weight *ℤ gain_at rest gains e.value +ℤ others) (pos 0) column

-- what guesses in this order cost: the sum of weight times position, the first of which is n
abbrev pub cost_from : List Entry → ℕ → List ℕ → ℕ
cost_from column n [] = 0
cost_from column n (x ∷ guesses) = weight_at column x * n + cost_from column (n + 1) guesses

-- some set of at most k values, in ascending order, has this weight
abbrev pub IsTried : ℕ → List Entry → ℤ → Type 0
IsTried k column z =
    (guesses : List ℕ) × IsStrictlyIncreasing guesses × (length guesses ≤ k) × (z ≡ pos (sum_by (weight_at column) guesses))

-- some action, some guesses or some order of all values come to this
abbrev pub Reaches : GainOf TableTree → List Entry → ℤ → Type 0
Reaches Bayes column z = IsTried 1 column z
Reaches (Tries k) column z = IsTried k column z
Reaches Guessing column z = (guesses : List ℕ) × IsPermutation (values column) guesses × (z ≡ pos (cost_from column 1 guesses))
Reaches (Table t) column z = (a : Action) × Contains t.actions a × (z ≡ gained t.rest a.gains column)

-- y is no better than z; of two losses the greater is no better
abbrev pub NoBetter : GainOf TableTree → ℤ → ℤ → Type 0
NoBetter Guessing y z = z ≤ℤ y
NoBetter g y z = y ≤ℤ z

-- the best that the gain comes to on the column, over the column's scale times the gain's `over`
pub record IsVulnerability (g : GainOf TableTree) (column : List Entry) (z : ℤ) : Type 0 where
  pub reached : Reaches g column z
  pub best : (y : ℤ) → Reaches g column y → NoBetter g y z
