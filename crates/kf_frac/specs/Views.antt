-- Believed: what contracts see of a `Frac`.
use Rattle.std.specs.Prelude.{ℕ, ℤ}
use Rattle.kf_frac.specs.declared.frac.Frac.{Frac}

-- the numerator
abbrev pub num_of : Frac → ℤ
num_of f = f.num

-- the denominator
abbrev pub den_of : Frac → ℕ
den_of f = f.den
