-- The least common multiple of many numbers, gathered one after the other.
use Rattle.std.proofs.Common.{◌≡◌, ℕ, zero, suc, ◌%◌, ◌<◌, ◌≤◌, List, [], ◌∷◌, ◌++◌, All, get_or, refl, sym, ◌∙◌, ap, arith}
use Rattle.std.specs.Int.{◌∣◌}
use Rattle.std.proofs.Math.Nat.{dvd-mod_iff, mod-lt, one-dvd}
use Rattle.std.proofs.lemmas.Nat.Gcd.{dvd_refl, dvd_trans, dvd_of_mod-eq-zero, le_of_dvd}
use Rattle.std.proofs.lemmas.List.Elements.{All-head, All-tail, All-cons, All-nil}
use Rattle.kf_frac.specs.Divisors.{lcm_of, common_multiple}
use Rattle.kf_frac.specs.Laws.{IsLcm, multiple_from}
use Rattle.kf_frac.proofs.CommonMultiples.{lcm_is, same_lcm}

remainder_zero : (m r : ℕ) → r < m → (0 < r → m ≤ r) → r ≡ 0
remainder_zero m zero low least = refl
remainder_zero m (suc r) low least = absurd (omega (arith, least (omega arith)))

-- the least common multiple divides the others
pub lcm_divides : (a b m n : ℕ) → IsLcm a b m → a ∣ n → b ∣ n → m ∣ n
lcm_divides a b m n is l r =
    let low : n % m < m = mod-lt n is.positive in
    let least : 0 < n % m → m ≤ n % m = λ h. is.least (n % m) h ((dvd-mod_iff a {m = n} {n = m} is.left).1 l) ((dvd-mod_iff b {m = n} {n = m} is.right).1 r) in
    dvd_of_mod-eq-zero m (remainder_zero m (n % m) low least)

-- each of the three divides it
module _ (a b c : ℕ) (some_a : 0 < a) (some_b : 0 < b) (some_c : 0 < c) where
  ab : IsLcm a b (lcm_of a b)
  ab = lcm_is a b some_a some_b

  bc : IsLcm b c (lcm_of b c)
  bc = lcm_is b c some_b some_c

  whole : IsLcm (lcm_of a b) c (lcm_of (lcm_of a b) c)
  whole = lcm_is (lcm_of a b) c ab.positive some_c

  -- the order doesn't matter
  turned : IsLcm a (lcm_of b c) (lcm_of (lcm_of a b) c)
  turned = record {
    positive = whole.positive;
    left = dvd_trans a ab.left whole.left;
    right = lcm_divides b c (lcm_of b c) (lcm_of (lcm_of a b) c) bc (dvd_trans b ab.right whole.left) whole.right;
    least = λ k some left right.
        whole.least k some (lcm_divides a b (lcm_of a b) k ab left (dvd_trans b bc.left right)) (dvd_trans c bc.right right);
  }

  lcm_turns : lcm_of (lcm_of a b) c ≡ lcm_of a (lcm_of b c)
  lcm_turns = same_lcm a (lcm_of b c) (lcm_of (lcm_of a b) c) (lcm_of a (lcm_of b c)) turned (lcm_is a (lcm_of b c) some_a bc.positive)

pub lcm_flips : (a b : ℕ) → 0 < a → 0 < b → lcm_of a b ≡ lcm_of b a
lcm_flips a b p q =
    let is = lcm_is a b p q in
    same_lcm b a (lcm_of a b) (lcm_of b a) (record { positive = is.positive; left = is.right; right = is.left; least = λ k some left right. is.least k some right left }) (lcm_is b a q p)

pub lcm_one : (a : ℕ) → 0 < a → lcm_of a 1 ≡ a
lcm_one a p =
    let is = lcm_is a 1 p (omega arith) in
    let least : lcm_of a 1 ≤ a = is.least a p (dvd_refl a) (one-dvd a) in
    let most : a ≤ lcm_of a 1 = le_of_dvd is.positive is.left in
    omega (arith, least, most)

-- all these are positive
abbrev pub ArePositive : List ℕ → Type 0
ArePositive [] = Unit {0}
ArePositive (d ∷ ds) = (0 < d) × ArePositive ds

pub common_some : (ds : List ℕ) → ArePositive ds → 0 < common_multiple ds
common_some [] all = omega arith
common_some (d ∷ ds) (some, all) = (lcm_is d (common_multiple ds) some (common_some ds all)).positive

-- gathered in either order they are the same
from_start : (start : ℕ) (ds : List ℕ) → 0 < start → ArePositive ds → multiple_from start ds ≡ lcm_of start (common_multiple ds)
from_start start [] some all = sym (lcm_one start some)
from_start start (d ∷ ds) some (here, all) =
    from_start (lcm_of d start) ds (lcm_is d start here some).positive all
    ∙ ap (λ (n : ℕ). lcm_of n (common_multiple ds)) (lcm_flips d start here some)
    ∙ lcm_turns start d (common_multiple ds) some here (common_some ds all)

-- what is gathered never gets less
pub growing : (start : ℕ) (ds : List ℕ) → 0 < start → ArePositive ds → start ≤ multiple_from start ds
growing start [] some all = omega arith
growing start (d ∷ ds) some (here, all) =
    let is = lcm_is d start here some in
    omega (arith, growing (lcm_of d start) ds is.positive all, le_of_dvd is.positive is.right)

pub positive_from : (start : ℕ) (ds : List ℕ) → 0 < start → ArePositive ds → 0 < multiple_from start ds
positive_from start ds some all = omega (arith, some, growing start ds some all)

pub positive_both : (ds es : List ℕ) → ArePositive ds → ArePositive es → ArePositive (ds ++ es)
positive_both [] es p q = q
positive_both (d ∷ ds) es (here, p) q = (here, positive_both ds es p q)

pub from_both : (start : ℕ) (ds es : List ℕ) → multiple_from start (ds ++ es) ≡ multiple_from (multiple_from start ds) es
from_both start [] es = refl
from_both start (d ∷ ds) es = from_both (lcm_of d start) ds es

-- gathered from 1 on
pub from_one : (ds : List ℕ) → ArePositive ds → multiple_from 1 ds ≡ common_multiple ds
from_one ds all =
    from_start 1 ds (omega arith) all ∙ lcm_flips 1 (common_multiple ds) (omega arith) (common_some ds all) ∙ lcm_one (common_multiple ds) (common_some ds all)

-- it is positive, and each of the numbers divides it
pub common_positive : (ds : List ℕ) → All (λ d. 0 < d) ds → 0 < common_multiple ds
common_positive [] h = omega arith
common_positive (d ∷ ds) h =
    (lcm_is d (common_multiple ds) (All-head (λ d. 0 < d) d ds h) (common_positive ds (All-tail (λ d. 0 < d) d ds h))).positive

pub common_divided : (ds : List ℕ) → All (λ d. 0 < d) ds → All (λ d. d ∣ common_multiple ds) ds
common_divided [] h = All-nil (λ d. d ∣ 1)
common_divided (d ∷ ds) h =
    let rest = All-tail (λ d. 0 < d) d ds h in
    let is = lcm_is d (common_multiple ds) (All-head (λ d. 0 < d) d ds h) (common_positive ds rest) in
    All-cons (λ e. e ∣ common_multiple (d ∷ ds)) d ds is.left
    (λ k e within. dvd_trans (get_or ds k e) (common_divided ds rest k e within) is.right)
