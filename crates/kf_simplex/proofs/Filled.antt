-- Lists that are filled from functions, and rows without common factor.
use Rattle.std.proofs.Common.{◌≡◌, ℕ, zero, suc, ◌+◌, ◌<◌, ◌≤◌, refl, ap, ◌∙◌, subst, arith, ⊎_elim, length, List, [], ◌∷◌, get_or, unsigned_abs}
use Rattle.std.proofs.Math.IntN.{ℤ, pos, ◌*ℤ◌}
use Rattle.std.proofs.lemmas.Int.{ints}
use Rattle.std.proofs.lemmas.Bool.{cases_lt}
use lib.Signed.{quot_z}
use Rattle.kf_frac.specs.Divisors.{gcd_of}
use Rattle.kf_frac.proofs.CommonDivisors.{gcd_is}
use Rattle.kf_simplex.specs.Cells.{IsCommonGcd, IsReduced}
use Rattle.kf_simplex.specs.Base.{at}
use Rattle.kf_simplex.proofs.FlatRows.{exact_quotient, gcd_none, gcd_more, reduced_by, reduced_along}
use Rattle.kf_simplex.proofs.Primitive.{one_times}

-- the first n numbers of a function
abbrev pub filled : {X : Type 0} → (ℕ → X) → ℕ → List X
filled f zero = []
filled f (suc n) = f 0 ∷ filled (λ k. f (suc k)) n

pub length-filled : {X : Type 0} (f : ℕ → X) (n : ℕ) → length (filled f n) ≡ n
length-filled f zero = refl
length-filled f (suc n) = ap suc (length-filled (λ k. f (suc k)) n)

pub get_or-filled : {X : Type 0} (f : ℕ → X) (n k : ℕ) (d : X) → k < n → get_or (filled f n) k d ≡ f k
get_or-filled f zero k d l = absurd (omega arith)
get_or-filled f (suc n) zero d l = refl
get_or-filled f (suc n) (suc k) d l = get_or-filled (λ k. f (suc k)) n k d (omega arith)

-- ---- a row without common factor

common_gcd : (xs : List ℤ) (n : ℕ) → (g : ℕ) × IsCommonGcd xs n g
common_gcd xs zero = (0, gcd_none xs)
common_gcd xs (suc n) =
    let before : (g : ℕ) × IsCommonGcd xs n g = common_gcd xs n in
    let g : ℕ = gcd_of before.0 (unsigned_abs (at xs n)) in
    let more : n + 1 ≡ suc n = omega arith in
    (g, subst (λ (m : ℕ). IsCommonGcd xs m g) more (gcd_more xs n before.0 g before.1 (gcd_is before.0 (unsigned_abs (at xs n)))))

pub reduced_row : (f : ℕ → ℤ) (n : ℕ) → (row : List ℤ) × IsReduced f (at row) n
reduced_row f n =
    let xs : List ℤ = filled f n in
    let same : (k : ℕ) → k < n → at (filled f n) k ≡ f k = λ k l. get_or-filled f n k (pos 0) l in
    let common : (g : ℕ) × IsCommonGcd (filled f n) n g = common_gcd (filled f n) n in
    let along : (ys : List ℤ) → IsReduced (at (filled f n)) (at ys) n → IsReduced f (at ys) n =
    λ ys h. reduced_along (at (filled f n)) f (at ys) (at ys) n same (λ k l. refl) h in
    ⊎_elim
    (λ (some : 0 < common.0).
    let ys : List ℤ = filled (λ k. quot_z (at (filled f n) k) (pos common.0)) n in
    let times : (k : ℕ) → k < n → pos common.0 *ℤ at ys k ≡ at (filled f n) k =
    λ k l. ap (λ (z : ℤ). pos common.0 *ℤ z) (get_or-filled (λ k. quot_z (at (filled f n) k) (pos common.0)) n k (pos 0) l)
    ∙ exact_quotient (at (filled f n) k) (pos common.0) (omega (arith, ints)) (common.1.divides k l) in
    (ys, along ys (reduced_by (filled f n) ys n common.0 common.0 common.1 some (λ _. refl) times)))
    (λ (none : common.0 ≤ 0).
    (filled f n, along (filled f n) (reduced_by (filled f n) (filled f n) n common.0 1 common.1 (omega arith) (λ some. absurd (omega arith)) (λ k l. one_times (at (filled f n) k)))))
    (cases_lt 0 common.0)
