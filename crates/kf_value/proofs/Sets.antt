-- The number of a set as a sum: an element at the place k weighs 2 ^ k.
use Rattle.std.proofs.Common.{◌≡◌, ℕ, zero, suc, ◌+◌, ◌-◌, ◌*◌, ◌^◌, ◌<◌, ◌≤◌, List, [], ◌∷◌, length, drop, slice_get, Some, refl, sym, ap, ◌∙◌, ⊎_elim, ◌⊎◌, arith}
use Rattle.std.proofs.Math.Nat.{pow-suc, mul_assoc}
use Rattle.std.proofs.Math.Pow.{pow_mono}
use Rattle.std.proofs.lemmas.Bool.{cases_order}
use Rattle.std.proofs.lemmas.Nat.{pow-add}
use Rattle.std.proofs.lemmas.Option.{slice_get_within}
use Rattle.std.specs.declared.cmp.Ordering.TheVariants.{Less}
use Rattle.std.specs.List.{AllByRecursion as Each}
use Rattle.std.specs.List.Sorted.{IsStrictlySortedBy}
use Rattle.kf_value.specs.Values.{ValueTree, order}
use Rattle.kf_value.specs.Types.{subsets}
use Rattle.kf_value.proofs.Ascending.{each_part}
use Rattle.kf_value.proofs.ListLemmas.{each_weaker, each_any, each_at}
use Rattle.kf_value.proofs.Orders.{order-itself, not_both_less}
use Rattle.kf_value.proofs.Places.{subset_without, subset_with, subset_first}
use Rattle.kf_value.proofs.Sorting.{sorted-at, sorted-head}

drop-suc : {X : Type 0} (xs : List X) (i : ℕ) (x : X) → slice_get xs i ≡ Some x → drop i xs ≡ x ∷ drop (suc i) xs
drop-suc [] i x h = (cc)
drop-suc (y ∷ xs) zero x h = let same : y ≡ x = (cc) in ap (λ z. z ∷ xs) same
drop-suc (y ∷ xs) (suc i) x h = drop-suc xs i x h

pub drop_at : {X : Type 0} (xs : List X) (i : ℕ) (x : X) → slice_get xs i ≡ Some x → drop i xs ≡ x ∷ drop (i + 1) xs
drop_at xs i x h = let next : i + 1 ≡ suc i = omega arith in drop-suc xs i x h ∙ ap (λ k. x ∷ drop k xs) (sym next)

pub element_at : {X : Type 0} (xs : List X) (i : ℕ) → i < length xs → (x : X) × (slice_get xs i ≡ Some x)
element_at [] i within = absurd (omega arith)
element_at (x ∷ xs) zero within = (x, refl)
element_at (x ∷ xs) (suc i) within = element_at xs i (omega arith)

-- values before the first element only double the number
pub subset_later : (base : List ValueTree) (d from to m : ℕ) (part : List ValueTree) → from + d ≡ to → to ≤ length base
    → slice_get (subsets (drop to base)) m ≡ Some part → slice_get (subsets (drop from base)) (m * 2 ^ d) ≡ Some part
subset_later base zero from to m part place within h =
    let same : from ≡ to = omega arith in
    let one : m * 2 ^ 0 ≡ m = omega arith in
    ap (λ k. slice_get (subsets (drop k base)) (m * 2 ^ 0)) same ∙ (ap (slice_get (subsets (drop to base))) one ∙ h)
subset_later base (suc d) from to m part place within h =
    let first = element_at base from (omega arith) in
    let next = subset_later base d (suc from) to m part (omega arith) within h in
    let doubled : m * 2 ^ suc d ≡ m * 2 ^ d * 2 = ap (λ p. m * p) (pow-suc 2 d) ∙ sym (mul_assoc m (2 ^ d) 2) in
    ap (slice_get (subsets (drop from base))) doubled
    ∙ (ap (λ xs. slice_get (subsets xs) (m * 2 ^ d * 2)) (drop-suc base from first.0 first.1)
    ∙ subset_without first.0 (drop (suc from) base) (m * 2 ^ d) part next)

-- the sum so far, when `rest` is left of all elements
pub record SumSoFar (base all rest : List ValueTree) (n : ℕ) : Type 0 where
  pub from : ℕ
  pub within : from ≤ length base
  pub small : n < 2 ^ from
  pub after : Each (λ x. (k : ℕ) → slice_get base k ≡ Some x → from ≤ k) rest
  pub whole : (m : ℕ) → slice_get (subsets (drop from base)) m ≡ Some rest → slice_get (subsets base) (n + m * 2 ^ from) ≡ Some all

pub sum_start : (base all : List ValueTree) → SumSoFar base all all 0
sum_start base all = record {
  from = 0;
  within = omega arith;
  small = omega arith;
  after = each_any (λ x. (k : ℕ) → slice_get base k ≡ Some x → 0 ≤ k) (λ x k at. omega arith) all;
  whole = λ m h. let same : 0 + m * 2 ^ 0 ≡ m = omega arith in ap (slice_get (subsets base)) same ∙ h;
}

-- a greater value stands later
later_place : (base : List ValueTree) (k : ℕ) (x y : ValueTree) → IsStrictlySortedBy order base → slice_get base k ≡ Some x → order x y ≡ Less
    → (j : ℕ) → slice_get base j ≡ Some y → k + 1 ≤ j
later_place base k x y sorted at less j at_j =
    ⊎_elim
    (λ (same : j ≡ k). let equal : x ≡ y = cc (ap (slice_get base) same) in absurd (cc (order-itself x)))
    (λ (apart : (j < k) ⊎ (k < j)).
    ⊎_elim
    (λ (early : j < k). absurd (not_both_less x y less (sorted-at order base sorted j k y x early at_j at)))
    (λ (late : k < j). omega arith)
    apart)
    (cases_order j k)

two_powers : (from k : ℕ) → from ≤ k → 2 ^ (k - from) * 2 ^ from ≡ 2 ^ k
two_powers from k low = let sum : k - from + from ≡ k = omega arith in sym (pow-add 2 (k - from) from) ∙ ap (λ e. 2 ^ e) sum

next_power : (k : ℕ) → 2 ^ (k + 1) ≡ 2 ^ k * 2
next_power k = let next : k + 1 ≡ suc k = omega arith in ap (λ e. 2 ^ e) next ∙ pow-suc 2 k

shifted : (n m p q r : ℕ) → p * q ≡ r → n + ((m * 2 + 1) * p) * q ≡ (n + r) + m * (r * 2)
shifted n m p q r h =
    let last : n + (m * 2 + 1) * r ≡ (n + r) + m * (r * 2) = omega arith in
    ap (λ z. n + z) (mul_assoc (m * 2 + 1) p q) ∙ (ap (λ z. n + (m * 2 + 1) * z) h ∙ last)

still_small : (n from k : ℕ) → from ≤ k → n < 2 ^ from → n + 2 ^ k < 2 ^ (k + 1)
still_small n from k low small = let grown = pow_mono low in let next = next_power k in omega arith

pub sum_step : (base all rest : List ValueTree) (n k : ℕ) (x : ValueTree) → IsStrictlySortedBy order base → IsStrictlySortedBy order (x ∷ rest)
    → slice_get base k ≡ Some x → SumSoFar base all (x ∷ rest) n → SumSoFar base all rest (n + 2 ^ k)
sum_step base all rest n k x base_sorted sorted at so_far =
    let low : so_far.from ≤ k = so_far.after.0 k at in
    let inside : k < length base = slice_get_within base k x at in
    record {
      from = k + 1;
      within = omega arith;
      small = still_small n so_far.from k low so_far.small;
      after = each_weaker (λ y. order x y ≡ Less) (λ y. (j : ℕ) → slice_get base j ≡ Some y → k + 1 ≤ j)
          (λ y less. later_place base k x y base_sorted at less) rest (sorted-head order x rest sorted);
      whole = λ m h.
          let place : so_far.from + (k - so_far.from) ≡ k = omega arith in
          let here : slice_get (subsets (drop k base)) (m * 2 + 1) ≡ Some (x ∷ rest) =
          ap (λ xs. slice_get (subsets xs) (m * 2 + 1)) (drop_at base k x at) ∙ subset_with x (drop (k + 1) base) m rest h in
          let there = subset_later base (k - so_far.from) so_far.from k (m * 2 + 1) (x ∷ rest) place (omega arith) here in
          let number = shifted n m (2 ^ (k - so_far.from)) (2 ^ so_far.from) (2 ^ k) (two_powers so_far.from k low) in
          ap (slice_get (subsets base)) (ap (λ p. (n + 2 ^ k) + m * p) (next_power k) ∙ sym number)
          ∙ so_far.whole ((m * 2 + 1) * 2 ^ (k - so_far.from)) there;
    }

pub sum_fits : (base all rest : List ValueTree) (n k : ℕ) (x : ValueTree) → length base ≤ 16 → slice_get base k ≡ Some x → SumSoFar base all (x ∷ rest) n
    → n + 2 ^ k < 2 ^ 32
sum_fits base all rest n k x few at so_far =
    let low : so_far.from ≤ k = so_far.after.0 k at in
    let inside : k < length base = slice_get_within base k x at in
    let small = still_small n so_far.from k low so_far.small in
    let whole = pow_mono {i = k + 1} {j = 16} (omega arith) in
    omega arith

pub sum_end : (base all : List ValueTree) (n : ℕ) → SumSoFar base all [] n → slice_get (subsets base) n ≡ Some all
sum_end base all n so_far =
    let same : n ≡ n + 0 * 2 ^ so_far.from = omega arith in
    ap (slice_get (subsets base)) same ∙ so_far.whole 0 (subset_first (drop so_far.from base))

-- ---- a set with an element that is not in the base

pub each_from_at : {X : Type 0} (P : X → Type 0) (xs : List X) → ((i : ℕ) (x : X) → slice_get xs i ≡ Some x → P x) → Each P xs
each_from_at P [] h = tt
each_from_at P (x ∷ xs) h = (h 0 x refl, each_from_at P xs (λ i y at. h (suc i) y at))

pub no_set : (base all : List ValueTree) (i : ℕ) (x : ValueTree) → slice_get all i ≡ Some x → ((k : ℕ) → ¬ (slice_get base k ≡ Some x))
    → (n : ℕ) → ¬ (slice_get (subsets base) n ≡ Some all)
no_set base all i x at missing n h =
    let Stands : ValueTree → Type 0 = λ w. (k : ℕ) × (slice_get base k ≡ Some w) in
    let stand = each_from_at Stands base (λ k w found. (k, found)) in
    let found = each_at Stands all i x (each_at (Each Stands) (subsets base) n all (each_part Stands base stand) h) at in
    missing found.0 found.1
