-- Believed: which targets have a channel matrix, and its secrets (Alvim et al. 2020, channels).
use Rattle.std.specs.Prelude.{◌↔◌, ℕ, ◌<◌, List, Bool, Contains}
use Rattle.std.specs.List.{list_all}
use Rattle.std.specs.List.Sorted.{IsStrictlyIncreasing}
use Rattle.kf_value.specs.Targets.{Item}
use Rattle.kf_column.specs.Traces.{Row, value_weight}

-- each variable is read before the statements
abbrev pub all_initial : List Item → Bool
all_initial items = list_all (λ i. i.initial) items

-- the values of a weight above 0, ascending
pub record AreSecrets (rows : List Row) (secrets : List ℕ) : Type 0 where
  pub ascending : IsStrictlyIncreasing secrets
  pub listed : (x : ℕ) → Contains secrets x ↔ (0 < value_weight rows x)
