-- Sums over the pairs of two numbers below their bounds, and sums of lists.
use Rattle.std.proofs.Common.{◌≡◌, ◌≢◌, ℕ, zero, suc, ◌+◌, ◌*◌, ◌<◌, ◌==◌, Bool, true, false, List, [], ◌∷◌, length, sum_by, refl, sym, ap, ◌∙◌, arith, get_or, eq-eqb, if◌then◌else◌}
use Rattle.std.proofs.Math.IntN.{ℤ, pos, ◌+ℤ◌, ◌-ℤ◌, ◌*ℤ◌, zero-*ℤ}
use Rattle.std.proofs.Math.Nat.{mul-le-mul_right}
use Rattle.std.proofs.lemmas.Bool.{ne_eqb}
use Rattle.std.proofs.lemmas.Int.{ints}
use Rattle.std.proofs.lemmas.List.Sums.{sum_by-cons}
use Rattle.kf_simplex.specs.Base.{total}
use Rattle.kf_simplex.proofs.Sums.{total-single, total-add, total-scale}
use Rattle.kf_frac.proofs.Ring.{mul_add}

-- ---- sums

pub total-front : (n : ℕ) (f : ℕ → ℤ) → total (suc n) f ≡ f 0 +ℤ total n (λ k. f (suc k))
total-front zero f = omega (arith, ints)
total-front (suc n) f = let i = total-front n f in omega (arith, ints)

pub total-append : (m n : ℕ) (f : ℕ → ℤ) → total (m + n) f ≡ total m f +ℤ total n (λ k. f (m + k))
total-append m zero f =
    let size : m + 0 ≡ m = omega arith in
    ap (λ (k : ℕ). total k f) size ∙ omega (arith, ints)
total-append m (suc n) f =
    let size : m + suc n ≡ suc (m + n) = omega arith in
    let i = total-append m n f in ap (λ (k : ℕ). total k f) size ∙ omega (arith, ints, i)

-- m rows of n numbers
pub total-rows : (m n : ℕ) (f : ℕ → ℤ) → total (m * n) f ≡ total m (λ i. total n (λ l. f (i * n + l)))
total-rows zero n f = let size : 0 * n ≡ 0 = omega arith in ap (λ (k : ℕ). total k f) size
total-rows (suc m) n f =
    let size : suc m * n ≡ m * n + n = omega arith in
    let i = total-rows m n f in
    ap (λ (k : ℕ). total k f) size ∙ total-append (m * n) n f ∙ ap (λ (z : ℤ). z +ℤ total n (λ l. f (m * n + l))) i

-- a pair of numbers below their bounds has a number below the product
pub pair_below : (m n i l : ℕ) → i < m → l < n → i * n + l < m * n
pair_below m n i l p q = omega (arith, mul-le-mul_right n p)

-- ---- sums of which one member counts

if_true : (b : Bool) (x y : ℤ) → b ≡ true → (if b then x else y) ≡ x
if_true true x y e = refl
if_true false x y e = absurd (cc)

if_false : (b : Bool) (x y : ℤ) → b ≡ false → (if b then x else y) ≡ y
if_false true x y e = absurd (cc)
if_false false x y e = refl

pub if_same : (j l : ℕ) (x y : ℤ) → j ≡ l → (if j == l then x else y) ≡ x
if_same j l x y e = if_true (j == l) x y (eq-eqb j l e)

pub if_other : (j l : ℕ) (x y : ℤ) → j ≢ l → (if j == l then x else y) ≡ y
if_other j l x y d = if_false (j == l) x y (ne_eqb j l d)

-- the j-th member times a factor
pub total-one : (n j : ℕ) (z : ℤ) (f : ℕ → ℤ) → j < n → total n (λ l. (if j == l then z else pos 0) *ℤ f l) ≡ z *ℤ f j
total-one n j z f below =
    total-single n j (λ l. (if j == l then z else pos 0) *ℤ f l) below
    (λ k inside apart. ap (λ (x : ℤ). x *ℤ f k) (if_other j k z (pos 0) (λ e. apart (sym e))) ∙ zero-*ℤ (f k))
    ∙ ap (λ (x : ℤ). x *ℤ f j) (if_same j j z (pos 0) refl)

-- the l-th member, with the test the other way round
pub total-pick : (n l : ℕ) (z : ℤ) (f : ℕ → ℤ) → l < n → total n (λ j. f j *ℤ (if j == l then z else pos 0)) ≡ f l *ℤ z
total-pick n l z f below =
    total-single n l (λ j. f j *ℤ (if j == l then z else pos 0)) below
    (λ k inside apart. ap (λ (x : ℤ). f k *ℤ x) (if_other k l z (pos 0) apart) ∙ zero-right (f k))
    ∙ ap (λ (x : ℤ). f l *ℤ x) (if_same l l z (pos 0) refl)
  where
    zero-right : (y : ℤ) → y *ℤ pos 0 ≡ pos 0
    zero-right y = omega (arith, ints)

-- two multiples, summed
pub total-sums : (n : ℕ) (c g : ℤ) (p z : ℕ → ℤ) → total n (λ i. c *ℤ p i +ℤ g *ℤ z i) ≡ c *ℤ total n p +ℤ g *ℤ total n z
total-sums n c g p z = total-add n (λ i. c *ℤ p i) (λ i. g *ℤ z i) ∙ ap (λ (y : ℤ). y +ℤ total n (λ i. g *ℤ z i)) (total-scale n c p)
    ∙ ap (λ (y : ℤ). c *ℤ total n p +ℤ y) (total-scale n g z)

pub total-differences : (n : ℕ) (c g : ℤ) (p z : ℕ → ℤ) → total n (λ i. c *ℤ p i -ℤ g *ℤ z i) ≡ c *ℤ total n p -ℤ g *ℤ total n z
total-differences zero c g p z = omega (arith, ints)
total-differences (suc n) c g p z =
    omega (arith, ints, total-differences n c g p z, mul_add c (total n p) (p n), mul_add g (total n z) (z n))

-- the sum of a list
pub total-list : {X : Type 0} (f : X → ℕ) (xs : List X) (d : X) → total (length xs) (λ k. pos (f (get_or xs k d))) ≡ pos (sum_by f xs)
total-list f [] d = refl
total-list f (x ∷ xs) d =
    total-front (length xs) (λ k. pos (f (get_or (x ∷ xs) k d))) ∙ ap (λ (z : ℤ). pos (f x) +ℤ z) (total-list f xs d)
    ∙ ap pos (sym (sum_by-cons f x xs))
