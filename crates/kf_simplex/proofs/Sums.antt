-- Sums over the numbers below a bound.
use Rattle.std.proofs.Common.{◌≡◌, ◌≢◌, ℕ, zero, suc, ◌<◌, ◌≤◌, refl, sym, ap, ◌∙◌, arith, ⊎_elim, ◌⊎◌, inl, inr}
use Rattle.std.proofs.lemmas.Bool.{cases_lt, cases_eq}
use Rattle.std.proofs.lemmas.Bool.Decides.{nat_tests}
use Rattle.std.specs.Prelude.{cond, nat_eq}
use Rattle.std.proofs.Math.IntN.{ℤ, pos, ◌+ℤ◌, ◌-ℤ◌, ◌*ℤ◌}
use Rattle.std.proofs.lemmas.Int.{ints}
use lib.Signed.{◌≤ℤ◌}
use Rattle.kf_simplex.specs.Base.{total}
use Rattle.kf_frac.proofs.Ring.{ring, mul_add, add_mul}

pub total-ext : (n : ℕ) (f g : ℕ → ℤ) → ((k : ℕ) → k < n → f k ≡ g k) → total n f ≡ total n g
total-ext zero f g h = refl
total-ext (suc n) f g h =
    let i = total-ext n f g (λ (k : ℕ) (l : k < n). h k (omega arith)) in let e = h n (omega arith) in cc

pub total-zero : (n : ℕ) → total n (λ k. pos 0) ≡ pos 0
total-zero zero = refl
total-zero (suc n) = rw (total-zero n) refl

pub total-add : (n : ℕ) (f g : ℕ → ℤ) → total n (λ k. f k +ℤ g k) ≡ total n f +ℤ total n g
total-add zero f g = refl
total-add (suc n) f g = let i = total-add n f g in omega (arith, ints)

pub total-scale : (n : ℕ) (c : ℤ) (f : ℕ → ℤ) → total n (λ k. c *ℤ f k) ≡ c *ℤ total n f
total-scale zero c f = omega (arith, ints)
total-scale (suc n) c f = rw (total-scale n c f) (sym (mul_add c (total n f) (f n)))

-- a difference of multiples, summed
pub total-combine : (n : ℕ) (p q : ℤ) (f g h : ℕ → ℤ) → total n (λ k. (p *ℤ f k -ℤ q *ℤ g k) *ℤ h k) ≡ p *ℤ total n (λ k. f k *ℤ h k) -ℤ q *ℤ total n (λ k. g k *ℤ h k)
total-combine zero p q f g h = omega (arith, ints)
total-combine (suc n) p q f g h = rw (total-combine n p q f g h) (simp ring (omega (arith, ints)))

pub total-swap : (m n : ℕ) (f : ℕ → ℕ → ℤ) → total m (λ k. total n (λ j. f k j)) ≡ total n (λ j. total m (λ k. f k j))
total-swap zero n f = sym (total-zero n)
total-swap (suc m) n f = rw (total-swap m n f) (sym (total-add n (λ j. total m (λ k. f k j)) (λ j. f m j)))

pub total_at_most : (n : ℕ) (f : ℕ → ℤ) → ((k : ℕ) → k < n → f k ≤ℤ pos 0) → total n f ≤ℤ pos 0
total_at_most zero f h = omega (arith, ints)
total_at_most (suc n) f h =
    let i = total_at_most n f (λ (k : ℕ) (l : k < n). h k (omega arith)) in let e = h n (omega arith) in omega (arith, ints)

pub total_not_negative : (n : ℕ) (f : ℕ → ℤ) → ((k : ℕ) → k < n → pos 0 ≤ℤ f k) → pos 0 ≤ℤ total n f
total_not_negative zero f h = omega (arith, ints)
total_not_negative (suc n) f h =
    let i = total_not_negative n f (λ (k : ℕ) (l : k < n). h k (omega arith)) in let e = h n (omega arith) in omega (arith, ints)

pub total_all_zero : (n : ℕ) (f : ℕ → ℤ) → ((k : ℕ) → k < n → f k ≡ pos 0) → total n f ≡ pos 0
total_all_zero n f h = total-ext n f (λ k. pos 0) h ∙ total-zero n

-- a sum with one member that is not 0
pub total-single : (n r : ℕ) (f : ℕ → ℤ) → r < n → ((k : ℕ) → k < n → k ≢ r → f k ≡ pos 0) → total n f ≡ f r
total-single zero r f l h = absurd (omega arith)
total-single (suc n) r f l h =
    ⊎_elim
    (λ (m : r < n). let i = total-single n r f m (λ (k : ℕ) (q : k < n). h k (omega arith)) in let z : f n ≡ pos 0 = h n (omega arith) (omega arith) in omega (arith, ints))
    (λ (m : n ≤ r). let e : r ≡ n = omega arith in
    let i = total_all_zero n f (λ (k : ℕ) (q : k < n). h k (omega arith) (omega arith)) in let same : f r ≡ f n = ap f e in omega (arith, ints))
    (cases_lt r n)

pub total-scale_right : (n : ℕ) (c : ℤ) (f : ℕ → ℤ) → total n (λ k. f k *ℤ c) ≡ total n f *ℤ c
total-scale_right zero c f = omega (arith, ints)
total-scale_right (suc n) c f = rw (total-scale_right n c f) (sym (add_mul c (total n f) (f n)))

-- either j is a value of f below n, or it is not
pub find_below : (n : ℕ) (f : ℕ → ℕ) (j : ℕ) → ((k : ℕ) × (k < n) × (f k ≡ j)) ⊎ ((k : ℕ) → k < n → f k ≢ j)
find_below zero f j = inr (λ k l e. absurd (omega arith))
find_below (suc n) f j =
    ⊎_elim (λ (e : f n ≡ j). inl (n, omega arith, e))
    (λ (d : f n ≢ j). ⊎_elim (λ (w : (k : ℕ) × (k < n) × (f k ≡ j)). inl (w.0, omega arith, w.2))
    (λ (no : (k : ℕ) → k < n → f k ≢ j). inr (λ (k : ℕ) (l : k < suc n) (e : f k ≡ j).
    ⊎_elim (λ (m : k < n). no k m e) (λ (m : n ≤ k). let q : k ≡ n = omega arith in d (ap f (sym q) ∙ e)) (cases_lt k n)))
    (find_below n f j))
    (cases_eq (f n) j)

pub total_zero_each : (n : ℕ) (f : ℕ → ℤ) → ((k : ℕ) → k < n → pos 0 ≤ℤ f k) → total n f ≡ pos 0 → (k : ℕ) → k < n → f k ≡ pos 0
total_zero_each zero f h e k l = absurd (omega arith)
total_zero_each (suc n) f h e k l =
    let below : (j : ℕ) → j < n → pos 0 ≤ℤ f j = λ j m. h j (omega arith) in
    let a = total_not_negative n f below in let z = h n (omega arith) in
    ⊎_elim (λ (m : k < n). let t : total n f ≡ pos 0 = omega (arith, ints) in total_zero_each n f below t k m)
    (λ (m : n ≤ k). let q : k ≡ n = omega arith in ap f q ∙ omega (arith, ints)) (cases_lt k n)

-- one value at r and another elsewhere
abbrev pub choose : ℕ → ℕ → ℤ → ℤ → ℤ
choose i r a b = cond (nat_eq i r) a b

pub choose-same : (r : ℕ) (a b : ℤ) → choose r r a b ≡ a
choose-same r a b = grind (arith, nat_tests)

pub choose-other : (i r : ℕ) (a b : ℤ) → i ≢ r → choose i r a b ≡ b
choose-other i r a b d = grind (arith, nat_tests)
