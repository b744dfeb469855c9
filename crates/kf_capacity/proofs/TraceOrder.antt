-- The order of lists of values is total, and in it the values of a target ascend.
use Rattle.std.proofs.Common.{◌≡◌, ℕ, zero, suc, ◌+◌, ◌<◌, List, [], ◌∷◌, All, length, map, get_or, refl, sym, ◌∙◌, arith}
use Rattle.std.specs.Cmp.{IsTotalOrder}
use Rattle.std.specs.declared.cmp.Ordering.{Ordering}
use Rattle.std.specs.declared.cmp.Ordering.TheVariants.{Less}
use Rattle.std.specs.List.{AllByRecursion as Each}
use Rattle.std.specs.List.Sorted.{IsStrictlySortedBy, IsStrictlyIncreasing}
use Rattle.std.proofs.lemmas.List.Elements.{All-from_recursion, recursion_from_All}
use Rattle.kf_value.specs.Values.{ValueTree, Tuple, parts, order}
use Rattle.kf_value.specs.Types.{values}
use Rattle.kf_value.specs.Stores.{stores}
use Rattle.kf_value.specs.Targets.{Item, target_values}
use Rattle.kf_value.specs.Numbers.{target_size}
use Rattle.kf_value.proofs.Ascending.{values_ascend, combinations_ascend}
use Rattle.kf_value.proofs.ListLemmas.{each_map, each_any}
use Rattle.kf_value.proofs.Orders.{order_total, tuples_order}
use Rattle.kf_value.proofs.Sorting.{sorted-nil, sorted-cons, sorted-head, sorted-tail}
use Rattle.kf_value.proofs.Trees.{parts_list-parts}
use Rattle.kf_column.specs.Traces.{trace_order}
use Rattle.kf_hyper.proofs.Rising.{Rises, rises}
use Rattle.kf_capacity.proofs.Digits.{values_many}

-- lists stand as the tuples that they make
as_tuples : (xs ys : List ValueTree) → order (Tuple (parts xs)) (Tuple (parts ys)) ≡ trace_order xs ys
as_tuples xs ys = tuples_order (parts xs) (parts ys) ∙ rw (parts_list-parts xs, parts_list-parts ys) refl

pub traces_total : IsTotalOrder trace_order
traces_total = record {
  antisymm = λ xs ys. rw (← as_tuples xs ys, ← as_tuples ys xs) (order_total.antisymm (Tuple (parts xs)) (Tuple (parts ys)));
  trans = λ xs ys zs less more. sym (as_tuples xs zs)
      ∙ order_total.trans (Tuple (parts xs)) (Tuple (parts ys)) (Tuple (parts zs)) (as_tuples xs ys ∙ less) (as_tuples ys zs ∙ more);
  congr = λ xs ys zs same. rw (← as_tuples xs zs, ← as_tuples ys zs)
      (order_total.congr (Tuple (parts xs)) (Tuple (parts ys)) (Tuple (parts zs)) (as_tuples xs ys ∙ same));
}

-- the values of a target ascend
pub target_ascends : (items : List Item) → IsStrictlySortedBy trace_order (target_values items)
unfolding stores
target_ascends items =
    let types = map (λ (i : Item). i.ty) items in
    combinations_ascend (map values types)
    (each_map (IsStrictlySortedBy order) values types (each_any (λ t. IsStrictlySortedBy order (values t)) values_ascend types))

-- ---- what is read at numbers that rise

module _ {K : Type 0} (R : K → K → Ordering) (d : K) where
  later_less : (k : K) (ks : List K) → IsStrictlySortedBy R (k ∷ ks) → (j : ℕ) → j < length ks → R k (get_or ks j d) ≡ Less
  later_less k ks ascends j within = All-from_recursion (λ y. R k y ≡ Less) ks (sorted-head R k ks ascends) j d within

  read_less : (ks : List K) → IsStrictlySortedBy R ks → (i j : ℕ) → i < j → j < length ks → R (get_or ks i d) (get_or ks j d) ≡ Less
  read_less [] ascends i j less within = absurd (omega arith)
  read_less (k ∷ ks) ascends i zero less within = absurd (omega arith)
  read_less (k ∷ ks) ascends zero (suc j) less within = later_less k ks ascends j (omega arith)
  read_less (k ∷ ks) ascends (suc i) (suc j) less within = read_less ks (sorted-tail R k ks ascends) i j (omega arith) (omega arith)

  -- the numbers are within the list
  abbrev pub Inside : List K → List ℕ → Type 0
  Inside ks ns = Each (λ n. n < length ks) ns

  reads_above : (ks : List K) → IsStrictlySortedBy R ks → (x low : ℕ) → x < low → (ns : List ℕ) → Rises low ns → Inside ks ns
      → Each (λ k. R (get_or ks x d) k ≡ Less) (map (λ n. get_or ks n d) ns)
  reads_above ks ascends x low below [] rises inside = tt
  reads_above ks ascends x low below (n ∷ ns) rises inside =
      (read_less ks ascends x n (omega (arith, rises.0)) inside.0, reads_above ks ascends x (n + 1) (omega (arith, rises.0)) ns rises.1 inside.1)

  reads_rise : (ks : List K) → IsStrictlySortedBy R ks → (low : ℕ) (ns : List ℕ) → Rises low ns → Inside ks ns
      → IsStrictlySortedBy R (map (λ n. get_or ks n d) ns)
  reads_rise ks ascends low [] rises inside = sorted-nil R
  reads_rise ks ascends low (n ∷ ns) rises inside =
      sorted-cons R (get_or ks n d) (map (λ n. get_or ks n d) ns) (reads_above ks ascends n (n + 1) (omega arith) ns rises.1 inside.1)
      (reads_rise ks ascends (n + 1) ns rises.1 inside.1)

  pub reads_ascend : (ks : List K) → IsStrictlySortedBy R ks → (ns : List ℕ) → IsStrictlyIncreasing ns → Inside ks ns
      → IsStrictlySortedBy R (map (λ n. get_or ks n d) ns)
  reads_ascend ks ascends ns increase inside = reads_rise ks ascends 0 ns (rises ns increase) inside

-- the values of secrets that rise, each the number of a value
pub secrets_ascend : (items : List Item) (secrets : List ℕ) → IsStrictlyIncreasing secrets → All (λ x. x < target_size items) secrets
    → IsStrictlySortedBy trace_order (map (λ x. get_or (target_values items) x []) secrets)
secrets_ascend items secrets increase within =
    reads_ascend trace_order [] (target_values items) (target_ascends items) secrets increase
    (recursion_from_All (λ n. n < length (target_values items)) secrets (rw (values_many items) within))
