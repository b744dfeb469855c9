-- For bodies: the capacity of a channel by the inners of its hyper, in place of its columns.
use Rattle.std.specs.Prelude.{◌↔◌, ℕ, ◌*◌, ◌/◌, ◌<◌, ◌≤◌, max, List, Contains, length, map, sum_by}
use Rattle.std.specs.List.Sorted.{IsStrictlyIncreasing}
use Rattle.std.specs.Int.{◌∣◌}
use mathlib.Core.List.{foldr}
use Rattle.kf_frac.specs.Fractions.{limit}
use Rattle.kf_column.specs.Hypers.{Inner}
use Rattle.kf_column.specs.Averages.{average_weight, joint_weight}

-- the cell of a value and an inner, in n-ths: their joint weight over the weight that the value has in all inners
abbrev pub belief_cell : ℕ → List Inner → Inner → ℕ → ℕ
belief_cell n inners i x = joint_weight x i * (n / average_weight inners x)

-- the greatest cell of an inner
abbrev pub greatest_cell : ℕ → List Inner → Inner → ℕ
greatest_cell n inners i = foldr max 0 (map (λ e. belief_cell n inners i e.value) i.entries)

-- the sum of all inners' greatest cells
abbrev pub belief_capacity : ℕ → List Inner → ℕ
belief_capacity n inners = sum_by (greatest_cell n inners) inners

-- cells are whole in n-ths, and so many n-ths as there are values of weight are within the limit
pub record IsWholeIn (inners : List Inner) (n : ℕ) : Type 0 where
  pub positive : 0 < n
  pub multiple : (x : ℕ) → 0 < average_weight inners x → average_weight inners x ∣ n
  pub values : List ℕ
  pub ascending : IsStrictlyIncreasing values
  pub listed : (x : ℕ) → Contains values x ↔ (0 < average_weight inners x)
  pub narrow : n * length values ≤ limit
