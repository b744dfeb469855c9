-- The common factor of weights: it divides each, and the weights over it have none but 1.
use Rattle.std.proofs.Common.{◌≡◌, ℕ, zero, suc, ◌*◌, ◌/◌, ◌<◌, ◌≤◌, List, [], ◌∷◌, length, map, refl, sym, ap, ◌∙◌, arith}
use Rattle.std.specs.Int.{◌∣◌}
use Rattle.std.specs.List.{AllByRecursion as Each}
use Rattle.std.proofs.Math.Nat.{mul-div_cancel'}
use Rattle.std.proofs.lemmas.Nat.Gcd.{dvd_trans}
use Rattle.kf_frac.specs.Divisors.{gcd_of}
use Rattle.kf_frac.proofs.CommonDivisors.{gcd_is, gcd_positive, gcd_swap, gcd_multiples}
use Rattle.kf_value.proofs.ListLemmas.{each_weaker}
use Rattle.kf_core.specs.Choices.{Weighted, common_factor}

-- each weight over a number
abbrev pub over : ℕ → List Weighted → List Weighted
over g ws = map (λ w. record { value = w.value; weight = w.weight / g }) ws

abbrev pub AreMultiples : ℕ → List Weighted → Type 0
AreMultiples g ws = Each (λ w. g ∣ w.weight) ws

pub factor_divides : (ws : List Weighted) → AreMultiples (common_factor ws) ws
factor_divides [] = tt
factor_divides (w ∷ ws) =
    let is = gcd_is w.weight (common_factor ws) in
    let whole = common_factor (w ∷ ws) in
    (is.0, each_weaker (λ u. common_factor ws ∣ u.weight) (λ u. whole ∣ u.weight) (λ u h. dvd_trans whole is.1 h) ws (factor_divides ws))

pub factor_positive : (w : Weighted) (ws : List Weighted) → 0 < w.weight → 0 < common_factor (w ∷ ws)
factor_positive w ws h = rw (gcd_swap w.weight (common_factor ws)) (gcd_positive (common_factor ws) w.weight h)

pub factor_over : (g : ℕ) (ws : List Weighted) → AreMultiples g ws → g * common_factor (over g ws) ≡ common_factor ws
factor_over g [] h = omega arith
factor_over g (w ∷ ws) h =
    sym (gcd_multiples g (w.weight / g) (common_factor (over g ws)))
    ∙ (ap (λ n. gcd_of n (g * common_factor (over g ws))) (mul-div_cancel' g h.0) ∙ ap (λ n. gcd_of w.weight n) (factor_over g ws h.1))

one_left : (g n : ℕ) → 0 < g → g * n ≡ g → n ≡ 1
one_left g zero p e = omega (arith, e)
one_left (suc g) (suc zero) p e = refl
one_left (suc g) (suc (suc n)) p e = omega (arith, e)
one_left zero (suc n) p e = absurd (omega arith)

-- positive weights over their common factor have none but 1
pub lowest_factor : (ws : List Weighted) → Each (λ w. 0 < w.weight) ws → 1 ≤ length ws → common_factor (over (common_factor ws) ws) ≡ 1
lowest_factor [] h some = absurd (omega arith)
lowest_factor (w ∷ ws) h some =
    one_left (common_factor (w ∷ ws)) (common_factor (over (common_factor (w ∷ ws)) (w ∷ ws))) (factor_positive w ws h.0)
    (factor_over (common_factor (w ∷ ws)) (w ∷ ws) (factor_divides (w ∷ ws)))

quotient_positive : (g q n : ℕ) → g * q ≡ n → 0 < n → 0 < q
quotient_positive g zero n e h = omega (arith, e)
quotient_positive g (suc q) n e h = omega arith

-- they stay positive
pub over_positive : (g : ℕ) (ws : List Weighted) → AreMultiples g ws → Each (λ w. 0 < w.weight) ws → Each (λ w. 0 < w.weight) (over g ws)
over_positive g [] m h = tt
over_positive g (w ∷ ws) m h = (quotient_positive g (w.weight / g) w.weight (mul-div_cancel' g m.0) h.0, over_positive g ws m.1 h.1)
