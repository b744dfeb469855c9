-- Rows in flat lists: their common factors, cross products and places.
use Rattle.std.proofs.Common.{◌≡◌, ℕ, zero, suc, ◌+◌, ◌*◌, ◌/◌, ◌<◌, ◌≤◌, ◌^◌, refl, sym, ap, ◌∙◌, subst, arith, ⊎_elim, ◌⊎◌, inl, inr, unsigned_abs, List, FitsSigned, to_z, of_z}
use Rattle.std.proofs.Math.IntN.{ℤ, pos, negsuc, ◌*ℤ◌, neg_ℤ}
use Rattle.std.proofs.Math.Nat.{mul-div_cancel', mul-le-mul, mul-le-mul_left, mul-le-mul_right, eq-zero_of_zero-dvd, one-dvd, mul-dvd-mul_left}
use Rattle.std.proofs.lemmas.Int.{ints, fits_signed_mul, to_z-of_z, unsigned_abs-mul}
use Rattle.std.proofs.lemmas.Bool.{cases_lt}
use Rattle.std.proofs.lemmas.Nat.Gcd.{dvd_trans, dvd-zero, le_of_dvd}
use Rattle.std.specs.Int.{IsGcd, ◌∣◌}
use lib.Signed.{◌<ℤ◌, quot_z}
use borrow.Author.Differences.{neg_is, product_is}
use mir.Syntax.{w128}
use Rattle.kf_frac.specs.Divisors.{gcd_of}
use Rattle.kf_frac.proofs.CommonDivisors.{gcd_is, gcd_of_equals}
use Rattle.kf_simplex.specs.Cells.{IsCommonGcd, IsNarrowNumber, IsReduced}
use Rattle.kf_simplex.specs.Base.{at}

pub narrow_product_fits : (a b : ℤ) → IsNarrowNumber a → IsNarrowNumber b → FitsSigned w128 (a *ℤ b)
narrow_product_fits a b h k = fits_signed_mul w128 a b 4611686018427387904 4611686018427387904 h k (omega arith)

-- A narrow number is narrow as a call is given it.
pub passed_narrow : (x : ℤ) → FitsSigned w128 x → IsNarrowNumber x → IsNarrowNumber (to_z w128 (of_z w128 x))
passed_narrow x fits is = subst IsNarrowNumber (sym (to_z-of_z w128 x fits)) is

-- What holds of products as a call is given their factors holds of the products.
pub passed_products : (P : ℤ → ℤ → Type 0) (a b c d : ℤ) → FitsSigned w128 a → FitsSigned w128 b → FitsSigned w128 c → FitsSigned w128 d
    → P (to_z w128 (of_z w128 a) *ℤ to_z w128 (of_z w128 b)) (to_z w128 (of_z w128 c) *ℤ to_z w128 (of_z w128 d)) → P (a *ℤ b) (c *ℤ d)
passed_products P a b c d fits_a fits_b fits_c fits_d holds = simp to_z-of_z at holds

pub narrow_product_below : (a b : ℤ) → IsNarrowNumber a → IsNarrowNumber b → unsigned_abs (a *ℤ b) ≤ 2 ^ 124
narrow_product_below a b h k = rw (unsigned_abs-mul a b) (omega (arith, mul-le-mul h k))

pub exact_quotient : (a d : ℤ) → pos 0 <ℤ d → unsigned_abs d ∣ unsigned_abs a → d *ℤ quot_z a d ≡ a
exact_quotient (pos n) (pos m) h v = omega (arith, ints, mul-div_cancel' m v)
exact_quotient (negsuc n) (pos m) h v = let q = product_is (pos m) (neg_ℤ (pos (suc n / m))) in omega (arith, ints, q, ap (λ (z : ℕ). m * z) (neg_is (pos (suc n / m))).0, ap (λ (z : ℕ). m * z) (neg_is (pos (suc n / m))).1, mul-div_cancel' m v)
exact_quotient a (negsuc m) h v = absurd (omega (arith, ints))

shared_bound : (m n g : ℕ) → g ∣ m → g ∣ n → g ≡ gcd_of m n → m ≤ 2 ^ 62 → n ≤ 2 ^ 62 → g ≤ 2 ^ 62
shared_bound (suc m) n g first second is h k = omega (arith, h, le_of_dvd (omega arith) first)
shared_bound zero (suc n) g first second is h k = omega (arith, k, le_of_dvd (omega arith) second)
shared_bound zero zero g first second is h k = omega (arith, is, gcd_of_equals 0 0 refl)

-- what two narrow numbers share divides both and is narrow, and so is what is left of each
pub shared_facts : (p a : ℤ) (m n g : ℕ) → m ≡ unsigned_abs p → n ≡ unsigned_abs a → g ≡ gcd_of m n → IsNarrowNumber p → IsNarrowNumber a
    → (g ∣ unsigned_abs p) × (g ∣ unsigned_abs a) × (g ≤ 2 ^ 62)
shared_facts p a m n g size other is h k =
    let divides : (g ∣ m) × (g ∣ n) = rw is ((gcd_is m n).0, (gcd_is m n).1) in
    (rw (sym size) divides.0, rw (sym other) divides.1, shared_bound m n g divides.0 divides.1 is (omega (arith, size, h)) (omega (arith, other, k)))

pub narrow_share : (d r p : ℤ) → pos 0 <ℤ d → d *ℤ r ≡ p → IsNarrowNumber p → IsNarrowNumber r
narrow_share d r p up is h =
    let sizes : unsigned_abs d * unsigned_abs r ≡ unsigned_abs p = sym (unsigned_abs-mul d r) ∙ ap unsigned_abs is in
    let some : 1 ≤ unsigned_abs d = omega (arith, ints) in
    omega (arith, sizes, h, mul-le-mul_right (unsigned_abs r) some)

pub zero_from_abs : (z : ℤ) → unsigned_abs z ≡ 0 → z ≡ pos 0
zero_from_abs (pos n) e = omega (arith, ints)
zero_from_abs (negsuc n) e = absurd (omega arith)

pub gcd_none : (xs : List ℤ) → IsCommonGcd xs 0 0
gcd_none xs = record { divides = λ k l. absurd (omega arith); greatest = λ d all. dvd-zero d }

pub gcd_more : (xs : List ℤ) (n g h : ℕ) → IsCommonGcd xs n g → IsGcd g (unsigned_abs (at xs n)) h → IsCommonGcd xs (n + 1) h
gcd_more xs n g h i q = record {
  divides = λ k l. ⊎_elim (λ (m : k < n). dvd_trans h q.0 (i.divides k m)) (λ (m : n ≤ k). let e : k ≡ n = omega arith in subst (λ (z : ℕ). h ∣ unsigned_abs (at xs z)) (sym e) q.1) (cases_lt k n);
  greatest = λ d all. q.2 d (i.greatest d (λ (k : ℕ) (l : k < n). all k (omega arith))) (all n (omega arith));
}

-- once the divisor is 1 it stays so
pub gcd_one : (xs : List ℤ) (n m : ℕ) → n ≤ m → IsCommonGcd xs n 1 → IsCommonGcd xs m 1
gcd_one xs n m l i = record {
  divides = λ k u. one-dvd (unsigned_abs (at xs k));
  greatest = λ d all. i.greatest d (λ (k : ℕ) (u : k < n). all k (omega arith));
}

find_nonzero : (f : ℕ → ℕ) (n : ℕ) → ((k : ℕ) × (k < n) × (0 < f k)) ⊎ ((k : ℕ) → k < n → f k ≡ 0)
find_nonzero f zero = inr (λ k l. absurd (omega arith))
find_nonzero f (suc n) =
    ⊎_elim (λ (h : 0 < f n). inl (n, omega arith, h))
    (λ (h : f n ≤ 0). ⊎_elim (λ (w : (k : ℕ) × (k < n) × (0 < f k)). inl (w.0, omega arith, w.2))
    (λ (no : (k : ℕ) → k < n → f k ≡ 0). inr (λ (k : ℕ) (l : k < suc n). ⊎_elim (λ (m : k < n). no k m) (λ (m : n ≤ k). let q : k ≡ n = omega arith in ap f q ∙ omega arith) (cases_lt k n)))
    (find_nonzero f n))
    (cases_lt 0 (f n))

pub gcd_bound : (xs : List ℤ) (n g b : ℕ) → IsCommonGcd xs n g → ((k : ℕ) → k < n → unsigned_abs (at xs k) ≤ b) → g ≤ b
gcd_bound xs n g b i h =
    ⊎_elim (λ (w : (k : ℕ) × (k < n) × (0 < unsigned_abs (at xs k))). let e = le_of_dvd w.2 (i.divides w.0 w.1) in let q = h w.0 w.1 in omega arith)
    (λ (no : (k : ℕ) → k < n → unsigned_abs (at xs k) ≡ 0).
    let z : g ≡ 0 = eq-zero_of_zero-dvd (i.greatest 0 (λ (k : ℕ) (l : k < n). rw (no k l) (dvd-zero 0))) in omega arith)
    (find_nonzero (λ k. unsigned_abs (at xs k)) n)

-- a positive number has no multiple among its divisors but itself
pub one_from_dvd : (g d : ℕ) → 0 < g → (g * d) ∣ g → d ≡ 1
one_from_dvd g zero p h = let e = le_of_dvd p h in let z : g ≡ 0 = eq-zero_of_zero-dvd (subst (λ (x : ℕ). x ∣ g) (omega arith) h) in absurd (omega arith)
one_from_dvd g (suc d) p h = let e = le_of_dvd p h in ⊎_elim (λ (q : d < 1). omega arith) (λ (q : 1 ≤ d). absurd (omega (arith, mul-le-mul_left g q))) (cases_lt d 1)

pub reduced_by : (xs ys : List ℤ) (n g f : ℕ) → IsCommonGcd xs n g → 0 < f → (0 < g → f ≡ g) → ((k : ℕ) → k < n → pos f *ℤ at ys k ≡ at xs k) → IsReduced (at xs) (at ys) n
reduced_by xs ys n g f i p same t = record {
  factor = pos f;
  positive = omega (arith, ints);
  times = t;
  primitive = λ m l nz d all.
      ⊎_elim (λ (q : 0 < g). one_from_dvd g d q (i.greatest (g * d) (λ (k : ℕ) (u : k < n).
      let e : unsigned_abs (at xs k) ≡ g * unsigned_abs (at ys k) = ap unsigned_abs (sym (t k u)) ∙ unsigned_abs-mul (pos f) (at ys k) ∙ ap (λ (z : ℕ). z * unsigned_abs (at ys k)) (same q) in
      rw e (mul-dvd-mul_left d g (all k u)))))
      (λ (q : g ≤ 0). let z : g ≡ 0 = omega arith in
      let w : unsigned_abs (at xs m) ≡ 0 = eq-zero_of_zero-dvd (subst (λ (x : ℕ). x ∣ unsigned_abs (at xs m)) z (i.divides m l)) in absurd (nz (zero_from_abs (at xs m) w)))
      (cases_lt 0 g);
}

pub reduced_along : (old old' new new' : ℕ → ℤ) (n : ℕ) → ((k : ℕ) → k < n → old k ≡ old' k) → ((k : ℕ) → k < n → new k ≡ new' k) → IsReduced old new n → IsReduced old' new' n
reduced_along old old' new new' n e f r = record {
  factor = r.factor;
  positive = r.positive;
  times = λ k l. ap (λ (z : ℤ). r.factor *ℤ z) (sym (f k l)) ∙ r.times k l ∙ e k l;
  primitive = λ m l nz d all. r.primitive m l (λ (z : old m ≡ pos 0). nz (sym (e m l) ∙ z)) d (λ (k : ℕ) (u : k < n). rw (f k u) (all k u));
}
