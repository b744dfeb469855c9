-- The common factor of a row of entries, at all columns.
use Rattle.std.proofs.Common.{◌≡◌, ℕ, ◌*◌, ◌<◌, ◌≤◌, sym, ap, ◌∙◌, subst, arith, ⊎_elim, List, map, length, unsigned_abs}
use Rattle.std.proofs.Math.IntN.{ℤ, pos, ◌*ℤ◌}
use Rattle.std.proofs.Math.Nat.{eq-zero_of_zero-dvd, mul-dvd-mul_left}
use Rattle.std.proofs.lemmas.Int.{ints, unsigned_abs-mul}
use Rattle.std.proofs.lemmas.Bool.{cases_lt}
use Rattle.std.proofs.lemmas.Nat.Gcd.{dvd-zero}
use Rattle.std.specs.Int.{◌∣◌}
use Rattle.kf_simplex.specs.declared.row.Entry.{Entry}
use Rattle.kf_simplex.specs.Entries.{number_in, Ascends}
use Rattle.kf_simplex.specs.Cells.{IsCommonGcd, IsReducedRow}
use Rattle.kf_simplex.specs.Base.{at}
use Rattle.kf_simplex.proofs.Places.{number_own, number_found}
use Rattle.kf_simplex.proofs.FlatRows.{gcd_bound, one_from_dvd, zero_from_abs}

abbrev numbers : List Entry → List ℤ
numbers es = map (λ (e : Entry). e.number) es

pub factor_divides : (es : List Entry) (g : ℕ) → IsCommonGcd (map (λ (e : Entry). e.number) es) (length es) g → (c : ℕ) → g ∣ unsigned_abs (number_in es c)
factor_divides es g i c =
    ⊎_elim
    (λ (z : number_in es c ≡ pos 0). rw z (dvd-zero g))
    (λ (w : (k : ℕ) × (k < length es) × (number_in es c ≡ at (map (λ e. e.number) es) k)). rw w.2 (i.divides w.0 w.1))
    (number_found es c)

-- what divides all numbers divides the factor
factor_greatest : (es : List Entry) (g d : ℕ) → Ascends 0 es → IsCommonGcd (map (λ (e : Entry). e.number) es) (length es) g → ((c : ℕ) → d ∣ unsigned_abs (number_in es c)) → d ∣ g
factor_greatest es g d up i all = i.greatest d (λ (k : ℕ) (l : k < length es). let w = number_own 0 es up k l in rw (sym w.1) (all w.0))

pub factor_bound : (es : List Entry) (g b : ℕ) → Ascends 0 es → IsCommonGcd (map (λ (e : Entry). e.number) es) (length es) g → ((c : ℕ) → unsigned_abs (number_in es c) ≤ b) → g ≤ b
factor_bound es g b up i h =
    gcd_bound (map (λ (e : Entry). e.number) es) (length es) g b i (λ (k : ℕ) (l : k < length es). let w = number_own 0 es up k l in rw (sym w.1) (h w.0))

pub reduced_row_by : (es new : List Entry) (g f : ℕ) → Ascends 0 es → IsCommonGcd (map (λ (e : Entry). e.number) es) (length es) g → 0 < f → (0 < g → f ≡ g)
    → ((c : ℕ) → pos f *ℤ number_in new c ≡ number_in es c) → IsReducedRow (number_in es) (number_in new)
reduced_row_by es new g f up i p same t = record {
  factor = pos f;
  positive = omega (arith, ints);
  times = t;
  primitive = λ m nz d all.
      ⊎_elim
      (λ (q : 0 < g). one_from_dvd g d q (factor_greatest es g (g * d) up i (λ (c : ℕ).
      let e : unsigned_abs (number_in es c) ≡ g * unsigned_abs (number_in new c) =
      ap unsigned_abs (sym (t c)) ∙ unsigned_abs-mul (pos f) (number_in new c) ∙ ap (λ (z : ℕ). z * unsigned_abs (number_in new c)) (same q) in
      rw e (mul-dvd-mul_left d g (all c)))))
      (λ (q : g ≤ 0). let z : g ≡ 0 = omega arith in
      let w : unsigned_abs (number_in es m) ≡ 0 = eq-zero_of_zero-dvd (subst (λ (x : ℕ). x ∣ unsigned_abs (number_in es m)) z (factor_divides es g i m)) in absurd (nz (zero_from_abs (number_in es m) w)))
      (cases_lt 0 g);
}
