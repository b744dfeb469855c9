-- A quotient by a product: of all numbers below 2 ^ 63, by a factor close above 2 ^ (63 + l) / d.
use Rattle.std.proofs.Common.{◌≡◌, ℕ, zero, suc, ◌+◌, ◌-◌, ◌*◌, ◌/◌, ◌%◌, ◌^◌, ◌<◌, ◌≤◌, ⊎_elim, sym, ap, ◌∙◌, subst, arith}
use Rattle.std.proofs.Math.Nat.{mul-le-mul_right, mul-le-mul_left, lt_of_mul-lt-mul_right, pow-le-pow_right, pow-suc}
use Rattle.std.proofs.lemmas.Bool.{cases_lt}
use Rattle.std.proofs.lemmas.Nat.{pow-add, shr-shr, one_shl, div-add-mod', mod_below, div_below, le-div, leading_length}
use Rattle.std.specs.Int.Count.{count_leading_zeros}

-- ---- the quotient

-- m is above p / d, by so little that n times as much stays below p / d
module _ (n d m p e : ℕ) (some : 0 < d) (small : n * e < p) (above : p < m * d) (near : m * d ≤ p + e) where
  from_below : n / d * p ≤ n * m
  from_below =
      let whole = div-add-mod' n d in
      let first : n / d * p ≤ n / d * (m * d) = mul-le-mul_left (n / d) (omega arith) in
      let second : n / d * d * m ≤ n * m = mul-le-mul_right m (omega arith) in
      omega arith

  from_above : n * m < (n / d + 1) * p
  from_above =
      let left = mod_below n d some in
      let whole = div-add-mod' n d in
      let first : n * (m * d) ≤ n * (p + e) = mul-le-mul_left n near in
      let second : (n + 1) * p ≤ (n / d * d + d) * p = mul-le-mul_right p (omega arith) in
      lt_of_mul-lt-mul_right d (omega arith)

  quotient_by_factor : n * m / p ≡ n / d
  quotient_by_factor =
      let some_power : 0 < p = omega arith in
      let high = div_below (n * m) p (n / d + 1) some_power from_above in
      let low = le-div (n / d) (n * m) p some_power from_below in
      omega arith

pub quotient_by_shifts : (n d m l : ℕ) → n < 2 ^ 63 → 1 ≤ d → d ≤ 2 ^ l → 2 ^ (63 + l) < m * d → m * d ≤ 2 ^ (63 + l) + d → 2 * n * m / 2 ^ 64 / 2 ^ l ≡ n / d
quotient_by_shifts n d m l below some reaches above near =
    let half = pow-add 2 63 l in
    let whole = pow-add 2 64 l in
    let first : n * d ≤ n * 2 ^ l = mul-le-mul_left n reaches in
    let second : (n + 1) * 2 ^ l ≤ 2 ^ 63 * 2 ^ l = mul-le-mul_right (2 ^ l) (omega arith) in
    let twice : 2 * n * m ≡ n * (2 * m) = omega arith in
    shr-shr (2 * n * m) 64 l
    ∙ (ap (λ z. z / 2 ^ (64 + l)) twice ∙ quotient_by_factor n d (2 * m) (2 ^ (64 + l)) (2 * d) some (omega arith) (omega arith) (omega arith))

-- ---- the factor

-- as many shifts as the divisor, less 1, has binary digits
abbrev pub shifts : ℕ → ℕ
shifts d = 64 - count_leading_zeros 64 (d - 1)

abbrev pub factor : ℕ → ℕ
factor d = 1 * 2 ^ (63 + shifts d) % 2 ^ 128 / d + 1

record Reaching (d l : ℕ) : Type 0 where
  pub short : l < 64
  pub reaches : d ≤ 2 ^ l
  pub close : 2 ^ l ≤ 2 * (d - 1) + 1

shifts_reach : (d : ℕ) → 1 ≤ d → d ≤ 2 ^ 63 → Reaching d (shifts d)
shifts_reach d some few =
    let length = leading_length 64 (d - 1) (omega arith) in
    let counted = length.1 in
    let same : shifts d ≡ length.0 = omega arith in
    let below = length.2 in
    let near = length.3 in
    let short : length.0 < 64 =
    ⊎_elim (λ less. less) (λ more. let grown : 2 ^ 64 ≤ 2 ^ length.0 = pow-le-pow_right (omega arith) more in absurd (omega arith)) (cases_lt length.0 64) in
    subst (Reaching d) (sym same) (record { short = short; reaches = omega arith; close = near })

-- the factor fits 64 bits
factor_below : (d l : ℕ) → 1 ≤ d → d ≤ 2 ^ 63 → 2 ^ l ≤ 2 * (d - 1) + 1 → 2 ^ 63 * 2 ^ l < (2 ^ 64 - 1) * d
factor_below d zero some few close = omega arith
factor_below d (suc l) some few close = let twice : 2 ^ suc l ≡ 2 ^ l * 2 = pow-suc 2 l in omega arith

pub record Factored (d l m : ℕ) : Type 0 where
  pub short : l < 64
  pub reaches : d ≤ 2 ^ l
  pub fits : m < 2 ^ 64
  pub above : 2 ^ (63 + l) < m * d
  pub near : m * d ≤ 2 ^ (63 + l) + d

pub factored : (d : ℕ) → 1 ≤ d → d ≤ 2 ^ 63 → Factored d (shifts d) (factor d)
factored d some few =
    let reach = shifts_reach d some few in
    let short = reach.short in
    let power : 1 * 2 ^ (63 + shifts d) % 2 ^ 128 ≡ 2 ^ (63 + shifts d) = one_shl (63 + shifts d) 128 (omega arith) in
    let split = pow-add 2 63 (shifts d) in
    let quotient = div_below (2 ^ (63 + shifts d)) d (2 ^ 64 - 1) some (rw split (factor_below d (shifts d) some few reach.close)) in
    let whole = div-add-mod' (2 ^ (63 + shifts d)) d in
    let left = mod_below (2 ^ (63 + shifts d)) d some in
    rw power (record { short = short; reaches = reach.reaches; fits = omega arith; above = omega arith; near = omega arith })
