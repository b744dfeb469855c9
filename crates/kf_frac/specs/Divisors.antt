-- Believed: common divisors and common multiples of whole numbers.
use Rattle.std.specs.Prelude.{ℕ, zero, suc, ◌*◌, ◌%◌, ◌==◌, ◌&&◌, max, Bool, List, if◌then◌else◌}
use mathlib.Core.List.{foldr}

-- whether d divides both a and b
abbrev pub divides_both : ℕ → ℕ → ℕ → Bool
divides_both d a b = (a % d == 0) && (b % d == 0)

-- the greatest of the numbers from 1 to k that divides both a and b; 0 where none does
unfoldable pub greatest_divisor : ℕ → ℕ → ℕ → ℕ
greatest_divisor zero a b = 0
greatest_divisor (suc k) a b = if divides_both (suc k) a b then suc k else greatest_divisor k a b

-- the greatest common divisor: the greatest number that divides both; 0 for 0 and 0
unfoldable pub gcd_of : ℕ → ℕ → ℕ
gcd_of a b = greatest_divisor (max a b) a b

-- the first of the k numbers from m on that both a and b divide; 0 where there is none
unfoldable pub first_multiple : ℕ → ℕ → ℕ → ℕ → ℕ
first_multiple zero m a b = 0
first_multiple (suc k) m a b = if (m % a == 0) && (m % b == 0) then m else first_multiple k (suc m) a b

-- the least common multiple of two positive numbers: the first number from 1 on that both divide
unfoldable pub lcm_of : ℕ → ℕ → ℕ
lcm_of a b = first_multiple (a * b) 1 a b

-- the least common multiple of all these positive numbers; 1 of none
abbrev pub common_multiple : List ℕ → ℕ
common_multiple ds = foldr lcm_of 1 ds
