-- Believed: fractions in lowest terms and their texts. A fraction is a whole number over a positive one.
use Rattle.std.specs.Prelude.{ℕ, ◌*◌, ◌/◌, ◌-◌, ◌^◌, ◌==◌, ℤ, pos, int_div, unsigned_abs, List, [], ◌++◌, codes, if◌then◌else◌}
use Rattle.std.specs.Fmt.{decimal, signed_decimal}
use Rattle.kf_frac.specs.Divisors.{gcd_of}

-- the numerator of n / d in lowest terms
unfoldable pub reduced_num : ℤ → ℕ → ℤ
reduced_num n d = int_div n (pos (gcd_of (unsigned_abs n) d))

-- the denominator of n / d in lowest terms
unfoldable pub reduced_den : ℤ → ℕ → ℕ
reduced_den n d = d / gcd_of (unsigned_abs n) d

-- the greatest number that a part of a fraction may be in absolute value
abbrev pub limit : ℕ
limit = 2 ^ 127 - 1

-- the text of n / d in lowest terms, a denominator with its bar only where it isn't 1
unfoldable pub fraction_text : ℤ → ℕ → List ℕ
fraction_text n d = signed_decimal (reduced_num n d) ++ (if reduced_den n d == 1 then [] else codes "/" ++ decimal (reduced_den n d))

-- how many n-ths part / whole is, where n is a multiple of its denominator in lowest terms
abbrev pub parts_of : ℕ → ℕ → ℕ → ℕ
parts_of n part whole = unsigned_abs (reduced_num (pos part) whole) * (n / reduced_den (pos part) whole)
