-- Believed: columns of a joint matrix, as lists of values with whole weights, and which of them have one posterior.
use Rattle.std.specs.Prelude.{◌≢◌, ℕ, ◌*◌, ◌<◌, ◌==◌, List, [], ◌++◌, Bool, map, All, sum_by, if◌then◌else◌}
use Rattle.std.specs.List.{list_all}
use Rattle.std.specs.List.Sorted.{IsStrictlyIncreasing}
use Rattle.kf_column.specs.declared.entry.Entry.{Entry}

-- the sum of all weights
abbrev pub total : List Entry → ℕ
total column = sum_by (λ e. e.weight) column

-- the weight that a column gives to a value
abbrev pub weight_at : List Entry → ℕ → ℕ
weight_at column x = sum_by (λ e. if e.value == x then e.weight else 0) column

abbrev pub values : List Entry → List ℕ
values column = map (λ e. e.value) column

-- a column names each of its values once, in ascending order and with a weight
pub record IsColumn (column : List Entry) : Type 0 where
  pub some : column ≢ []
  pub ascending : IsStrictlyIncreasing (values column)
  pub positive : All (λ e. 0 < e.weight) column

-- two columns normalise to one distribution: at any two values that they name their weights stand in one ratio
-- (Alvim et al. 2020, columns of one posterior)
abbrev pub proportional : List Entry → List Entry → Bool
proportional u v =
    let both = values u ++ values v in
    list_all (λ x. list_all (λ y. weight_at u x * weight_at v y == weight_at u y * weight_at v x) both) both
