-- Each store is listed once, so that its number is its place.
use Rattle.std.proofs.Common.{◌≡◌, ℕ, zero, suc, ◌<◌, ◌≤◌, Bool, true, false, List, [], ◌∷◌, length, map, get_or, slice_get, slice_set, Some, None, refl, sym, ap, ◌∙◌, subst, arith, ⊎_elim}
use Rattle.std.specs.declared.cmp.Ordering.{Ordering}
use Rattle.std.specs.declared.cmp.Ordering.TheVariants.{Less, Equal, Greater}
use Rattle.std.specs.Ordering.{ordering_then, is_eq}
use Rattle.std.specs.Cmp.Lexicographic.{pointwise, pointwise_decides}
use Rattle.std.specs.List.{position, position_or_len, AllByRecursion as Each}
use Rattle.std.specs.List.Sorted.{IsStrictlySortedBy}
use Rattle.std.proofs.lemmas.List.Sums.{position_or_len_is}
use Rattle.std.proofs.lemmas.Option.{slice_get-get_or, slice_get_within, get_or_from_slice_get, slice_get_cases}
use Rattle.std.proofs.lemmas.List.{length-map}
use Rattle.std.proofs.lemmas.Bool.{lt-ltb, le-ltb, false_from_ne_true}
use Rattle.kf_value.specs.Values.{ValueTree, order, is_equal}
use Rattle.kf_value.specs.Types.{TypeTree, values, count, product, combinations}
use Rattle.kf_value.specs.Sizes.{HasNumber}
use Rattle.kf_value.specs.Stores.{stores}
use Rattle.kf_value.specs.Numbers.{IsStore}
use Rattle.kf_value.proofs.Orders.{lists_order, same, order-itself}
use Rattle.kf_value.proofs.Sorting.{sorted-at}
use Rattle.kf_value.proofs.Ascending.{length-values, combinations_ascend, values_ascend}
use Rattle.kf_value.proofs.Places.{length-combinations, combination_of}
use Rattle.kf_core.specs.Runs.{store_at, store_number, replaced}

-- ---- equal values are the same

is_eq_Equal : (o : Ordering) → is_eq o ≡ true → o ≡ Equal
is_eq_Equal Less h = absurd (cc)
is_eq_Equal Equal h = refl
is_eq_Equal Greater h = absurd (cc)

values_decide : (v w : ValueTree) → (is_equal v w ≡ true → v ≡ w) × (v ≡ w → is_equal v w ≡ true)
values_decide v w = (λ h. same v w (is_eq_Equal (order v w) h), λ e. subst (λ x. is_equal v x ≡ true) e (ap is_eq (order-itself v)))

-- equal lists of values are the same
pub lists_decide : (s t : List ValueTree) → (pointwise is_equal s t ≡ true → s ≡ t) × (s ≡ t → pointwise is_equal s t ≡ true)
lists_decide s t = pointwise_decides values_decide s t

-- ---- the places of stores

-- a list of values is not below itself
pub lists_order-itself : (s : List ValueTree) → lists_order s s ≡ Equal
lists_order-itself [] = refl
lists_order-itself (v ∷ s) = ap (λ o. ordering_then o (lists_order s s)) (order-itself v) ∙ lists_order-itself s

all_ascend : (ts : List TypeTree) → Each (IsStrictlySortedBy order) (map values ts)
all_ascend [] = tt
all_ascend (t ∷ ts) = (values_ascend t, all_ascend ts)

stores_ascend : (ts : List TypeTree) → IsStrictlySortedBy lists_order (stores ts)
unfolding stores
stores_ascend ts = combinations_ascend (map values ts) (all_ascend ts)

not_before : (ts : List TypeTree) (m n : ℕ) (s : List ValueTree) → m < n → IsStore ts m s → ¬ IsStore ts n s
not_before ts m n s below at_m at_n =
    let less = sorted-at lists_order (stores ts) (stores_ascend ts) m n s s below at_m at_n in
    let equal = lists_order-itself s in
    absurd (cc)

position_is : {X : Type 0} (p : X → Bool) (xs : List X) (n : ℕ) → position_or_len p xs ≡ n → n < length xs → position p xs ≡ Some n
position_is p xs n e within = rw (e, lt-ltb n (length xs) within) refl

position_none : {X : Type 0} (p : X → Bool) (xs : List X) → position_or_len p xs ≡ length xs → position p xs ≡ None
position_none p xs e = rw (e, le-ltb (length xs) (length xs) (omega arith)) refl

-- a store and none other has its number
pub store_number_is : (ts : List TypeTree) (n : ℕ) (s : List ValueTree) → IsStore ts n s → store_number ts s ≡ Some n
store_number_is ts n s at =
    let all = stores ts in
    let within : n < length all = slice_get_within all n s at in
    let here : get_or all n [] ≡ s = get_or_from_slice_get all n s [] at in
    let other : (k : ℕ) → k < n → pointwise is_equal s (get_or all k []) ≡ false =
    λ k below. false_from_ne_true (pointwise is_equal s (get_or all k []))
    (λ equal. not_before ts k n s below (slice_get-get_or all k [] (omega arith) ∙ ap (λ t. Some t) (sym ((lists_decide s (get_or all k [])).0 equal))) at) in
    position_is (pointwise is_equal s) all n
    (position_or_len_is (pointwise is_equal s) all n [] (omega arith) other (λ _. (lists_decide s (get_or all n [])).1 (sym here)))
    within

-- what is no store has no number
pub no_number : (ts : List TypeTree) (s : List ValueTree) → ((n : ℕ) → ¬ IsStore ts n s) → store_number ts s ≡ None
no_number ts s none =
    let all = stores ts in
    let other : (k : ℕ) → k < length all → pointwise is_equal s (get_or all k []) ≡ false =
    λ k below. false_from_ne_true (pointwise is_equal s (get_or all k []))
    (λ equal. none k (slice_get-get_or all k [] below ∙ ap (λ t. Some t) (sym ((lists_decide s (get_or all k [])).0 equal)))) in
    position_none (pointwise is_equal s) all
    (position_or_len_is (pointwise is_equal s) all (length all) [] (omega arith) other (λ past. absurd (omega arith)))

-- ---- the store with a number

-- as many values are listed as are counted
pub counts : (ts : List TypeTree) → map length (map values ts) ≡ map count ts
counts [] = refl
counts (t ∷ ts) = ap (λ n. n ∷ map length (map values ts)) (length-values t) ∙ ap (λ ns. count t ∷ ns) (counts ts)

pub length-stores : (ts : List TypeTree) → length (stores ts) ≡ product (map count ts)
unfolding stores
length-stores ts = length-combinations (map values ts) ∙ ap product (counts ts)

pub store_is : (ts : List TypeTree) (n : ℕ) → n < product (map count ts) → IsStore ts n (store_at ts n)
store_is ts n below =
    let long = length-stores ts in
    slice_get-get_or (stores ts) n [] (omega arith)

pub store_of : (ts : List TypeTree) (n : ℕ) (s : List ValueTree) → IsStore ts n s → store_at ts n ≡ s
store_of ts n s at = get_or_from_slice_get (stores ts) n s [] at

combination_length : (vss : List (List ValueTree)) (n : ℕ) (s : List ValueTree) → slice_get (combinations vss) n ≡ Some s → length s ≡ length vss
combination_length [] zero s h = let same : [] ≡ s = (cc) in ap length (sym same)
combination_length [] (suc n) s h = (cc)
combination_length (vs ∷ vss) n s h =
    let found = combination_of vs vss n s h in
    ap length found.7 ∙ ap suc (combination_length vss found.1 found.3 found.6)

pub length-store : (ts : List TypeTree) (n : ℕ) (s : List ValueTree) → IsStore ts n s → length s ≡ length ts
unfolding stores
length-store ts n s at = combination_length (map values ts) n s at ∙ length-map ts values

value_in : (ts : List TypeTree) (n : ℕ) (s : List ValueTree) (i : ℕ) (t : TypeTree) (v : ValueTree) → slice_get (combinations (map values ts)) n ≡ Some s
    → slice_get ts i ≡ Some t → slice_get s i ≡ Some v → (k : ℕ) × HasNumber t v k
value_in [] n s i t v h at_t at_v = (cc)
value_in (u ∷ ts) n [] i t v h at_t at_v = (cc)
value_in (u ∷ ts) n (w ∷ s) zero t v h at_t at_v =
    let found = combination_of (values u) (map values ts) n (w ∷ s) h in
    let type : u ≡ t = (cc) in
    let value : found.2 ≡ v = cc found.7 in
    (found.0, ap (λ x. slice_get (values x) found.0) (sym type) ∙ (found.5 ∙ ap (λ x. Some x) value))
value_in (u ∷ ts) n (w ∷ s) (suc i) t v h at_t at_v =
    let found = combination_of (values u) (map values ts) n (w ∷ s) h in
    let rest : found.3 ≡ s = cc found.7 in
    value_in ts found.1 s i t v (found.6 ∙ ap (λ x. Some x) rest) at_t at_v

-- a variable's value in a store is one of its type
pub store_value : (ts : List TypeTree) (n : ℕ) (s : List ValueTree) (i : ℕ) (t : TypeTree) (v : ValueTree) → IsStore ts n s → slice_get ts i ≡ Some t → slice_get s i ≡ Some v
    → (k : ℕ) × HasNumber t v k
unfolding stores
store_value ts n s i t v at at_t at_v = value_in ts n s i t v at at_t at_v

slice_get-set : {X : Type 0} (xs : List X) (i : ℕ) (x : X) → i < length xs → slice_get (slice_set xs i x) i ≡ Some x
slice_get-set [] i x within = absurd (omega arith)
slice_get-set (y ∷ xs) zero x within = refl
slice_get-set (y ∷ xs) (suc i) x within = slice_get-set xs i x (omega arith)

-- ---- a store with one value changed

module _ (ts : List TypeTree) (i : ℕ) (v : ValueTree) (n : ℕ) (below : n < product (map count ts)) where
  pub replaced_some : (after : ℕ) → ((s : List ValueTree) → IsStore ts n s → IsStore ts after (slice_set s i v)) → replaced ts i v n ≡ Some after
  replaced_some after changed = store_number_is ts after (slice_set (store_at ts n) i v) (changed (store_at ts n) (store_is ts n below))

  pub replaced_none : i < length ts → ((t : TypeTree) → slice_get ts i ≡ Some t → (k : ℕ) → ¬ HasNumber t v k) → replaced ts i v n ≡ None
  replaced_none variable none =
      let long = length-store ts n (store_at ts n) (store_is ts n below) in
      no_number ts (slice_set (store_at ts n) i v) (λ m at.
      let read = slice_get-set (store_at ts n) i v (omega arith) in
      let found = slice_get_cases ts i in
      ⊎_elim
      (λ (here : (t : TypeTree) × (i < length ts) × (slice_get ts i ≡ Some t) × (get_or ts i t ≡ t)).
      let known = store_value ts m (slice_set (store_at ts n) i v) i here.0 v at here.2 read in
      none here.0 here.2 known.0 known.1)
      (λ (past : (length ts ≤ i) × (slice_get ts i ≡ None)). absurd (omega (arith, past.0)))
      found.1)
