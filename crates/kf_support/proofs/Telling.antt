-- The pass with scales tells the fault of the pass, or the scale of all runs.
use Rattle.std.proofs.Common.{◌≡◌, ℕ, ◌*◌, ◌<◌, ◌≤◌, List, [], ◌∷◌, map, get_or, Ok, Err, sym, ap, subst, arith, ◌↔◌}
use Rattle.std.specs.Prelude.{is_ok, IsOk, MatchResult}
use Rattle.std.specs.List.{AllByRecursion as Each}
use Rattle.std.specs.Int.{◌∣◌}
use Rattle.std.proofs.Math.Nat.{one-mul, one-dvd}
use Rattle.std.proofs.lemmas.List.Elements.{All-from_recursion, recursion_from_All}
use Rattle.std.proofs.lemmas.Nat.Gcd.{dvd_trans}
use Rattle.kf_frac.specs.Divisors.{lcm_of}
use Rattle.kf_core.specs.ChoiceLaws.{ChoicesAreShares}
use Rattle.kf_core.specs.Runs.{Run, program_runs}
use Rattle.kf_core.specs.Support.{StoreSet, Passed, program_pass}
use Rattle.kf_core.specs.SupportLaws.{ScalesArePositive}
use Rattle.kf_core.proofs.Scales.{DividesMultiples, scales_divide}
use Rattle.kf_core.specs.Each.{common_scale}
use Rattle.kf_support.specs.Carried.{Reached, capped, scale_in, carry_program, CarryTells}
use Rattle.kf_support.proofs.Dividing.{bound, one_bound, capped_bound, capped_positive, lcm_positive, is_capped}
use Rattle.kf_support.proofs.Placing.{through, back, beside, each_same, Good, Fits, join_alone}
use Rattle.kf_support.proofs.Leading.{End, At, Leads, each_mapped, divides_nice}
use Rattle.kf_support.proofs.Following.{Told}
use Rattle.kf_support.proofs.Carrying.{runs_from, program_carries}

-- ---- the scale of what is reached

scale_positive : (es : Reached) → Good es → 0 < scale_in es
scale_positive [] good = omega arith
scale_positive (e ∷ es) good = capped_positive (lcm_of e.1 (scale_in es)) (lcm_positive e.1 (scale_in es) good.0 (scale_positive es good.2))

scale_bound : (es : Reached) → scale_in es ≤ bound
scale_bound [] = one_bound
scale_bound (e ∷ es) = capped_bound (lcm_of e.1 (scale_in es))

module _ (k : ℕ) (p : 0 < k) (low : k < bound) where
  scale_divides : (es : Reached) → (scale_in es ∣ k) ↔ Fits (λ n v. v ∣ k) es
  scale_divides [] = (λ h. tt, λ h. one-dvd k)
  scale_divides (e ∷ es) = through (join_alone (λ n v. v ∣ k) (divides_nice k p low) 0 e.1 (scale_in es)) (beside (λ h. h, λ h. h) (scale_divides es))

  -- ---- the scale of runs

  one_at : (x : End) (s : ℕ) → At k (λ n v. v ∣ k) x (1 * s) ↔ (s ∣ k)
  one_at (Ok n) s = (λ h. subst (λ m. m ∣ k) (one-mul s) h, λ h. subst (λ m. m ∣ k) (sym (one-mul s)) h)
  one_at (Err f) s = (λ h. subst (λ m. m ∣ k) (one-mul s) h, λ h. subst (λ m. m ∣ k) (sym (one-mul s)) h)

  runs_divide : (rs : List Run) → Each (λ r. 0 < r.scale) rs → Leads k (λ n v. v ∣ k) rs 1 ↔ (common_scale rs ∣ k)
  runs_divide rs positive =
      let d : DividesMultiples (map (λ r. r.scale) rs) (common_scale rs) = scales_divide rs positive in
      through (each_same (λ (r : Run). At k (λ n v. v ∣ k) r.end (1 * r.scale)) (λ (r : Run). r.scale ∣ k) (λ r. one_at r.end r.scale) rs)
      (through (back (each_mapped (λ s. s ∣ k) (λ (r : Run). r.scale) rs)) (
        λ h. d.divides k p (All-from_recursion (λ s. s ∣ k) (map (λ r. r.scale) rs) h),
        λ h. recursion_from_All (λ s. s ∣ k) (map (λ r. r.scale) rs) (λ i z within. dvd_trans (get_or (map (λ r. r.scale) rs) i z) (d.multiple i z within) h),
      ))

-- ---- in the words of contracts

module _ (from : ℕ → List Run) (positive : Each (λ r. 0 < r.scale) (from 0)) where
  told_scale : (es : Reached) → Good es → ((k : ℕ) → 0 < k → k < bound → Fits (λ n v. Leads k (λ m w. w ∣ k) (from n) v) ((0, 1) ∷ []) ↔ Fits (λ n v. v ∣ k) es)
      → scale_in es ≡ capped (common_scale (from 0))
  told_scale es good same =
      let d : DividesMultiples (map (λ r. r.scale) (from 0)) (common_scale (from 0)) = scales_divide (from 0) positive in
      is_capped (scale_in es) (common_scale (from 0)) (scale_positive es good) (scale_bound es) d.positive
      (λ k p low. through (scale_divides k p low es) (through (back (same k p low)) (through (λ h. h.0, λ h. (h, tt)) (runs_divide k p low (from 0) positive))))

  tells : (p : Passed StoreSet) (r : Passed Reached) → Told p from ((0, 1) ∷ []) r
      → MatchResult r (λ es. IsOk p × (scale_in es ≡ capped (common_scale (from 0)))) (λ f. p ≡ Err f)
  tells p (Ok es) h = (ap is_ok h.1, told_scale es h.0 (λ k low high. h.2 k low high (λ n v. v ∣ k) (divides_nice k low high)))
  tells p (Err f) h = h.0

pub carry_tells : ChoicesAreShares → ScalesArePositive → CarryTells
carry_tells shares positive turns p =
    tells (runs_from turns p) (recursion_from_All (λ r. 0 < r.scale) (program_runs turns p) (positive turns p)) (program_pass turns p) (carry_program turns p) (program_carries shares turns p)
