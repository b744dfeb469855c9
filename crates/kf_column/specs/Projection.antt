-- For bodies: joint matrices about some of the variables.
use Rattle.std.specs.Prelude.{ℕ, ◌==◌, List, map, sum_by, slice_index, if◌then◌else◌}
use Rattle.kf_value.specs.Numbers.{digits, mixed_radix}
use Rattle.kf_column.specs.declared.entry.Entry.{Entry}

-- the numbers at these places
abbrev pub at_places : List ℕ → List ℕ → List ℕ
at_places places ns = map (λ i. slice_index ns i) places

-- what a store becomes: the number of its values at the slots alone, over the sizes of these variables
abbrev pub projected : List ℕ → List ℕ → ℕ → ℕ
projected sizes slots store = mixed_radix (at_places slots sizes) (at_places slots (digits sizes store))

-- what all values that become x weigh together
abbrev pub weight_through : (ℕ → ℕ) → List Entry → ℕ → ℕ
weight_through become column x = sum_by (λ e. if become e.value == x then e.weight else 0) column
