-- The cells of a value over a common denominator.
use Rattle.std.proofs.Common.{◌≡◌, ℕ, ◌+◌, ◌*◌, ◌/◌, pos, unsigned_abs, List, [], ◌∷◌, All, sum_by, sym, ◌∙◌, ap}
use Rattle.std.proofs.Math.Nat.{mul_assoc, mul_comm, mul-add, mul-zero, div-mul_cancel, mul-div_cancel, mul-div_cancel_left}
use Rattle.std.proofs.lemmas.List.Sums.{sum_by-cons}
use Rattle.std.proofs.lemmas.List.Elements.{All-head, All-tail}
use Prim.Native.Nat.{◌∣◌}
use Rattle.kf_frac.specs.Divisors.{gcd_of}
use Rattle.kf_frac.specs.Fractions.{reduced_num, reduced_den, parts_of}
use Rattle.kf_frac.proofs.CommonDivisors.{gcd_is}
use Rattle.kf_frac.proofs.LowestTerms.{reduced_num_abs, reduced_den_times}
use Rattle.kf_column.specs.Columns.{weight_at}
use Rattle.kf_column.specs.Traces.{Row, value_weight}
use Rattle.kf_channel.specs.Laws.{RowsSumToOne}

cross : (d g a q : ℕ) → (d * g) * (a * q) ≡ (q * d) * (a * g)
cross d g a q =
    mul_comm (d * g) (a * q) ∙ mul_assoc a q (d * g) ∙ ap (λ (n : ℕ). a * n) (sym (mul_assoc q d g) ∙ mul_comm (q * d) g)
    ∙ sym (mul_assoc a g (q * d)) ∙ mul_comm (a * g) (q * d)

module _ (whole n : ℕ) where
  -- so many n-ths, as often as the whole is, are the part, n times
  each : (part : ℕ) → reduced_den (pos part) whole ∣ n → whole * parts_of n part whole ≡ n * part
  each part divides =
      let g : ℕ = gcd_of part whole in
      let a : ℕ = unsigned_abs (reduced_num (pos part) whole) in
      let d : ℕ = reduced_den (pos part) whole in
      let num : a * g ≡ part = ap (λ (k : ℕ). k * g) (reduced_num_abs (pos part) whole) ∙ div-mul_cancel g (gcd_is part whole).0 in
      let den : d * g ≡ whole = reduced_den_times (pos part) whole in
      let times : (n / d) * d ≡ n = div-mul_cancel d divides in
      ap (λ (k : ℕ). k * (a * (n / d))) (sym den) ∙ cross d g a (n / d) ∙ (λ i. times i * num i)

  module _ (x : ℕ) where
    abbrev parts : Row → ℕ
    parts r = parts_of n (weight_at r.column x) whole

    summed : (rows : List Row) → All (λ r. reduced_den (pos (weight_at r.column x)) whole ∣ n) rows → whole * sum_by parts rows ≡ n * value_weight rows x
    summed [] all = mul-zero whole ∙ sym (mul-zero n)
    summed (r ∷ rows) all =
        ap (λ (k : ℕ). whole * k) (sum_by-cons parts r rows) ∙ mul-add whole (parts r) (sum_by parts rows)
        ∙ (λ i. each (weight_at r.column x) (All-head (λ (r : Row). reduced_den (pos (weight_at r.column x)) whole ∣ n) r rows all) i
        + summed rows (All-tail (λ (r : Row). reduced_den (pos (weight_at r.column x)) whole ∣ n) r rows all) i)
        ∙ sym (mul-add n (weight_at r.column x) (value_weight rows x))
        ∙ ap (λ (k : ℕ). n * k) (sym (sum_by-cons (λ (r : Row). weight_at r.column x) r rows))

pub sum_to_one : RowsSumToOne
sum_to_one rows x n some all =
    let whole : ℕ = value_weight rows x in
    sym (mul-div_cancel_left (sum_by (parts whole n x) rows) some) ∙ ap (λ (k : ℕ). k / whole) (summed whole n x rows all) ∙ mul-div_cancel n some
