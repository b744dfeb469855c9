-- For bodies: secrets with what divides all their weights, and their weights in whole numbers.
use Rattle.std.specs.Prelude.{ℕ, ◌*◌, ◌/◌, List, [], ◌∷◌, map}
use Rattle.kf_frac.specs.Divisors.{gcd_of}
use Rattle.kf_column.specs.declared.entry.Entry.{Entry}
use Rattle.kf_column.specs.Columns.{weight_at}
use Rattle.kf_column.specs.Traces.{Row, value_weight}
use Rattle.kf_capacity.specs.declared.divided.DividedSecret.{DividedSecret}
use Rattle.kf_capacity.specs.declared.scales.SecretScale.{SecretScale}

-- what a number has in common with all these
abbrev pub divisor_from : ℕ → List ℕ → ℕ
divisor_from d [] = d
divisor_from d (w ∷ ws) = divisor_from (gcd_of d w) ws

-- a secret with its weight over all traces
abbrev pub undivided : List Row → ℕ → DividedSecret
undivided rows x = record { value = x; whole = value_weight rows x; divisor = value_weight rows x }

-- what its divisor has in common with its weight in a column
abbrev pub shared : List Entry → DividedSecret → DividedSecret
shared entries s = record { value = s.value; whole = s.whole; divisor = gcd_of s.divisor (weight_at entries s.value) }

-- a secret with the greatest number that divides its weight over all traces and in each one
abbrev pub divided : List Row → ℕ → DividedSecret
divided rows x = record {
  value = x;
  whole = value_weight rows x;
  divisor = divisor_from (value_weight rows x) (map (λ row. weight_at row.column x) rows);
}

-- the least common denominator of its cells
abbrev pub den_of : DividedSecret → ℕ
den_of s = s.whole / s.divisor

-- how its weights become n-ths
abbrev pub scale_of : ℕ → DividedSecret → SecretScale
scale_of n s = record { value = s.value; divisor = s.divisor; factor = n / (s.whole / s.divisor) }

-- its weight in a column, so
abbrev pub number_in : List Entry → SecretScale → ℕ
number_in entries s = weight_at entries s.value / s.divisor * s.factor
