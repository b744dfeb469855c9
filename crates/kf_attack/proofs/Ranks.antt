-- Columns in the order in which their values are guessed.
use Rattle.std.proofs.Common.{◌≡◌, ℕ, ◌<◌, ◌≤◌, Bool, false, List, [], ◌∷◌, map, length, get_or, arith, add-one, suc}
use Rattle.std.specs.Prelude.{IsPermutation}
use Rattle.std.specs.Cmp.{IsTotalOrder}
use Rattle.std.specs.List.{IsDistinct, AllByRecursion as Each}
use Rattle.std.specs.List.Sorted.{IsStrictlySortedBy, IsSorted}
use Rattle.std.specs.Ordering.{nat_cmp, is_lt, eq_by_cmp}
use Rattle.std.specs.declared.cmp.Ordering.TheVariants.{Less}
use Rattle.std.proofs.lemmas.Bool.Decides.{nat_tests}
use Rattle.std.proofs.lemmas.Cmp.{nat_cmp_total, on_total, back_total, then_total, eq_by_cmp_equiv}
use Rattle.std.proofs.lemmas.List.Sorted.{IsPermutation-map, sorted_far, ranks_by}
use Rattle.std.proofs.lemmas.Map.Keys.{IsDistinct-IsPermutation, IsDistinct-from_sorted, IsDistinct-head, IsDistinct-tail, sorted_from_strictly_increasing}
use Rattle.kf_column.specs.declared.entry.Entry.{Entry}
use Rattle.kf_column.specs.Columns.{IsColumn, values}
use Rattle.kf_value.proofs.ListLemmas.{each_weaker}
use Rattle.kf_value.proofs.Sorting.{sorted-nil, sorted-cons, sorted-head, sorted-tail}
use Rattle.kf_gain.proofs.Falling.{Falls}
use Rattle.kf_attack.specs.Attacks.{rank}

pub rank_total : IsTotalOrder rank
rank_total = then_total (back_total (on_total (λ (e : Entry). e.weight) nat_cmp_total)) (on_total (λ (e : Entry). e.value) nat_cmp_total)

abbrev same_value : ℕ → ℕ → Bool
same_value x y = eq_by_cmp nat_cmp x y

-- what isn't below, and has another value, is behind
goes_before : (a b : Entry) → is_lt (rank b a) ≡ false → same_value a.value b.value ≡ false → rank a b ≡ Less
goes_before a b not_below apart = grind (arith, nat_tests)

first_of_all : (a : Entry) (es : List Entry) → ((k : ℕ) → k < length es → is_lt (rank (get_or es k a) a) ≡ false) → Each (λ y. same_value a.value y ≡ false) (values es)
    → Each (λ e. rank a e ≡ Less) es
first_of_all a [] sorted apart = tt
first_of_all a (e ∷ es) sorted apart =
    (goes_before a e (sorted 0 (omega arith)) apart.0, first_of_all a es (λ k within. sorted (suc k) (omega arith)) apart.1)

strictly : (es : List Entry) → IsSorted rank es → IsDistinct same_value (values es) → IsStrictlySortedBy rank es
strictly [] sorted distinct = sorted-nil rank
strictly (e ∷ es) sorted distinct =
    sorted-cons rank e es
    (first_of_all e es (λ k within. sorted_far (λ (a : Entry) (b : Entry). is_lt (rank a b)) (ranks_by rank_total (λ (x : Entry). x)) (e ∷ es) sorted 0 (suc k) e (omega arith) (omega arith)) (IsDistinct-head same_value e.value (values es) distinct))
    (strictly es (λ k d from within. rw add-one (rw add-one at (sorted (suc k) d (omega arith) (omega (arith, within))))) (IsDistinct-tail same_value e.value (values es) distinct))

-- a column in this order has its values once each, as the column has
pub strictly_ranked : (column ranked : List Entry) → IsColumn column → IsPermutation column ranked → IsSorted rank ranked → IsStrictlySortedBy rank ranked
strictly_ranked column ranked is moved sorted =
    let once = IsDistinct-from_sorted nat_cmp (values column) (sorted_from_strictly_increasing (values column) is.ascending) in
    strictly ranked sorted
    (IsDistinct-IsPermutation same_value (λ x y. (eq_by_cmp_equiv nat_cmp_total).symm x y) (values column) (values ranked) (IsPermutation-map (λ (e : Entry). e.value) column ranked moved) once)

-- ---- the weights of ranked entries fall

no_heavier : (a b : Entry) → rank a b ≡ Less → b.weight ≤ a.weight
no_heavier a b before = grind (arith, nat_tests)

falls_from : (m : ℕ) (es : List Entry) → Each (λ e. e.weight ≤ m) es → IsStrictlySortedBy rank es → Falls m (map (λ (e : Entry). e.weight) es)
falls_from m [] within sorted = tt
falls_from m (e ∷ es) within sorted =
    (within.0, falls_from e.weight es (each_weaker (λ (y : Entry). rank e y ≡ Less) (λ (y : Entry). y.weight ≤ e.weight) (no_heavier e) es (sorted-head rank e es sorted)) (sorted-tail rank e es sorted))

pub ranked_fall : (es : List Entry) → IsStrictlySortedBy rank es → (m : ℕ) × Falls m (map (λ (e : Entry). e.weight) es)
ranked_fall [] sorted = (0, tt)
ranked_fall (e ∷ es) sorted =
    (e.weight, (omega arith, falls_from e.weight es (each_weaker (λ (y : Entry). rank e y ≡ Less) (λ (y : Entry). y.weight ≤ e.weight) (no_heavier e) es (sorted-head rank e es sorted)) (sorted-tail rank e es sorted)))
