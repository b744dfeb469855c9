-- For bodies: sums of two fractions.
use Rattle.std.specs.Prelude.{ℕ, ◌/◌, ℤ, pos, ◌+ℤ◌, ◌*ℤ◌}
use Rattle.kf_frac.specs.declared.frac.Frac.{Frac}
use Rattle.kf_frac.specs.Views.{num_of, den_of}

-- the sum's numerator over the product of the denominators
abbrev pub sum_num : Frac → Frac → ℤ
sum_num a b = num_of a *ℤ pos (den_of b) +ℤ num_of b *ℤ pos (den_of a)

-- the sum's numerator over a common multiple m of the denominators
abbrev pub sum_over : ℕ → Frac → Frac → ℤ
sum_over m a b = num_of a *ℤ pos (m / den_of a) +ℤ num_of b *ℤ pos (m / den_of b)
