-- Where a value stands in an ascending list, and the members of a set one after the other.
use Rattle.std.proofs.Common.{Bool, true, false, subst, ◌+◌, ◌≡◌, ℕ, zero, suc, ◌≤◌, ◌<◌, List, [], ◌∷◌, ◌++◌, length, map, take, drop, get_or, Some, Result, Ok, Err, refl, sym, ap, ◌∙◌, arith}
use Rattle.std.specs.declared.cmp.Ordering.{Ordering}
use Rattle.std.specs.declared.cmp.Ordering.TheVariants.{Less, Equal, Greater}
use Rattle.std.specs.Ordering.{is_lt, ordering_index, ordering_reverse, match_ordering}
use Rattle.std.specs.Result.{result_err}
use Rattle.std.specs.List.{insert, take-map, AllAdjacentBelow, IsAllAdjacentAnswer}
use Rattle.std.specs.List.Sorted.{IsStrictlySortedBy, IsNonDecreasingBy, IsBinarySearchResult, IsSearchInRange}
use Rattle.std.proofs.lemmas.List.{map-append, drop-map}
use Rattle.std.proofs.lemmas.Option.{slice_get-map, slice_get-get_or}
use Rattle.std.specs.Option.{option_map}
use Rattle.kf_value.specs.Values.{ValueTree, order}
use Rattle.kf_value.specs.Views.{value_tree}
use Rattle.kf_value.specs.declared.value.Value.{Value}
use Rattle.kf_value.proofs.ListLemmas.{each_at}
use Rattle.kf_value.proofs.Orders.{flip, goes_on, same}
use Rattle.kf_value.proofs.Sorting.{sorted-nil, sorted-head, sorted-tail}
use Rattle.kf_core.proofs.SetLiterals.{inserted_ascends}
use Rattle.kf_ops.specs.Values.{inserted}
use Rattle.kf_ops.specs.Sets.{either}
use Rattle.kf_core.specs.Evaluation.{set_of}
use Rattle.kf_eval.specs.Insertion.{with_value_at}

abbrev pub Ascends : List Value → Type 0
Ascends xs = IsStrictlySortedBy order (map value_tree xs)

pub turned : (v w : ValueTree) (o : Ordering) → order v w ≡ o → order w v ≡ ordering_reverse o
turned v w o h = flip w v ∙ ap ordering_reverse h

later_greater : (x : Value) (xs : List Value) → Ascends (x ∷ xs) → (k : ℕ) (d : Value) → k < length xs → order (value_tree x) (value_tree (get_or xs k d)) ≡ Less
later_greater x xs ascends k d within =
    each_at (λ w. order (value_tree x) w ≡ Less) (map value_tree xs) k (value_tree (get_or xs k d)) (sorted-head order (value_tree x) (map value_tree xs) ascends)
    (slice_get-map value_tree xs k ∙ ap (option_map value_tree) (slice_get-get_or xs k d within))

-- ---- the answers of a search rise

rank_greatest : (o : Ordering) → ordering_index o ≤ ordering_index Greater
rank_greatest Less = omega arith
rank_greatest Equal = omega arith
rank_greatest Greater = omega arith

rank_least : (o p : Ordering) → o ≡ Less → ordering_index o ≤ ordering_index p
rank_least o p h = rw h (omega arith)

module _ (v : ValueTree) where
  pub rank_at : (a b : ValueTree) (o : Ordering) → order b v ≡ o → order a b ≡ Less → ordering_index (order a v) ≤ ordering_index o
  rank_at a b Less h less = rank_least (order a v) Less (goes_on a b v less h)
  rank_at a b Equal h less = rank_least (order a v) Equal (ap (order a) (sym (same b v h)) ∙ less)
  rank_at a b Greater h less = rank_greatest (order a v)

  rising : (xs : List Value) → Ascends xs → IsNonDecreasingBy (λ (x : Value). ordering_index (order (value_tree x) v)) xs
  rising [] ascends i j d below within = absurd (omega arith)
  rising (x ∷ xs) ascends zero zero d below within = omega arith
  rising (x ∷ xs) ascends zero (suc j) d below within =
      rank_at (value_tree x) (value_tree (get_or xs j d)) (order (value_tree (get_or xs j d)) v) refl (later_greater x xs ascends j d (omega arith))
  rising (x ∷ xs) ascends (suc i) zero d below within = absurd (omega arith)
  rising (x ∷ xs) ascends (suc i) (suc j) d below within =
      rising xs (sorted-tail order (value_tree x) (map value_tree xs) ascends) i j d (omega arith) (omega arith)

  -- ---- what is inserted

  abbrev placed : ValueTree → List ValueTree → Ordering → List ValueTree
  placed w ws o = match_ordering o (v ∷ w ∷ ws) (w ∷ ws) (w ∷ inserted v ws)

  held : (xs : List Value) → Ascends xs → (i : ℕ) (d : Value) → i < length xs → order (value_tree (get_or xs i d)) v ≡ Equal
      → inserted v (map value_tree xs) ≡ map value_tree xs
  held [] ascends i d within equal = absurd (omega arith)
  held (x ∷ xs) ascends zero d within equal = ap (placed (value_tree x) (map value_tree xs)) (turned (value_tree x) v Equal equal)
  held (x ∷ xs) ascends (suc i) d within equal =
      let less : order (value_tree x) v ≡ Less = ap (order (value_tree x)) (sym (same (value_tree (get_or xs i d)) v equal)) ∙ later_greater x xs ascends i d (omega arith) in
      ap (placed (value_tree x) (map value_tree xs)) (turned (value_tree x) v Less less)
      ∙ ap (λ ws. value_tree x ∷ ws) (held xs (sorted-tail order (value_tree x) (map value_tree xs) ascends) i d (omega arith) equal)

  parted : (xs : List Value) (i : ℕ) → i ≤ length xs
      → ((k : ℕ) (d : Value) → 0 ≤ k → k < i → order (value_tree (get_or xs k d)) v ≡ Less)
      → ((k : ℕ) (d : Value) → i ≤ k → k < length xs → order (value_tree (get_or xs k d)) v ≡ Greater)
      → inserted v (map value_tree xs) ≡ take i (map value_tree xs) ++ v ∷ drop i (map value_tree xs)
  parted [] zero within below above = refl
  parted [] (suc i) within below above = absurd (omega arith)
  parted (x ∷ xs) zero within below above =
      ap (placed (value_tree x) (map value_tree xs)) (turned (value_tree x) v Greater (above 0 x (omega arith) (omega arith)))
  parted (x ∷ xs) (suc i) within below above =
      ap (placed (value_tree x) (map value_tree xs)) (turned (value_tree x) v Less (below 0 x (omega arith) (omega arith)))
      ∙ ap (λ ws. value_tree x ∷ ws)
      (parted xs i (omega arith) (λ k d low high. below (suc k) d (omega arith) (omega arith)) (λ k d low high. above (suc k) d (omega arith) (omega arith)))

  pub searched : (xs : List Value) (r : Result ℕ ℕ) → Ascends xs → IsSearchInRange r (length xs) → IsBinarySearchResult (λ (x : Value). order (value_tree x) v) xs r
      → inserted v (map value_tree xs) ≡ with_value_at (result_err r) v (map value_tree xs)
  searched [] (Ok i) ascends within found = absurd (omega arith)
  searched (x ∷ xs) (Ok i) ascends within found = held (x ∷ xs) ascends i x within (found x)
  searched xs (Err i) ascends within found = let apart = found (rising xs ascends) in parted xs i within apart.0 apart.1

pub inserted_items : (read xs ys : List Value) (x : Value) (i : ℕ) → read ≡ xs → ys ≡ insert xs i x
    → inserted (value_tree x) (map value_tree read) ≡ with_value_at (Some i) (value_tree x) (map value_tree read) → map value_tree ys ≡ inserted (value_tree x) (map value_tree xs)
inserted_items read xs ys x i same is whole =
    let here = rw same at whole in
    ap (map value_tree) is
    ∙ (map-append value_tree (take i xs) (x ∷ drop i xs)
    ∙ (rw (← take-map value_tree i xs, ← drop-map value_tree i xs) (sym here)))

-- ---- members that ascend already

pub adjacent_set : (xs : List Value) (r : Bool) → IsAllAdjacentAnswer (λ (x y : Value) (b : Bool). b ≡ is_lt (order (value_tree x) (value_tree y))) xs r → r ≡ true
    → set_of (map value_tree xs) ≡ map value_tree xs
adjacent_set xs false h is = absurd (cc)
adjacent_set xs true h is = from xs h
  where
    later : (x y : Value) (xs : List Value) (k : ℕ) (d : Value) → true ≡ is_lt (order (value_tree (get_or (x ∷ y ∷ xs) (suc k) d)) (value_tree (get_or (x ∷ y ∷ xs) (suc k + 1) d)))
        → true ≡ is_lt (order (value_tree (get_or (y ∷ xs) k d)) (value_tree (get_or (y ∷ xs) (k + 1) d)))
    later x y xs k d h =
        let at : suc k + 1 ≡ suc (k + 1) = omega arith in
        subst (λ j. true ≡ is_lt (order (value_tree (get_or (x ∷ y ∷ xs) (suc k) d)) (value_tree (get_or (x ∷ y ∷ xs) j d)))) at h

    less_is : (o : Ordering) → true ≡ is_lt o → o ≡ Less
    less_is Less h = refl
    less_is Equal h = absurd (cc)
    less_is Greater h = absurd (cc)

    from : (xs : List Value) → AllAdjacentBelow (λ (x y : Value). true ≡ is_lt (order (value_tree x) (value_tree y))) xs (length xs) → set_of (map value_tree xs) ≡ map value_tree xs
    from [] h = refl
    from (x ∷ []) h = refl
    from (x ∷ y ∷ xs) h =
        ap (inserted (value_tree x)) (from (y ∷ xs) (λ k d within. later x y xs k d (h (suc k) d (omega (arith, within)))))
        ∙ ap (λ o. match_ordering o (value_tree x ∷ value_tree y ∷ map value_tree xs) (value_tree y ∷ map value_tree xs) (value_tree y ∷ inserted (value_tree x) (map value_tree xs)))
        (less_is (order (value_tree x) (value_tree y)) (h 0 x (omega arith)))

-- ---- member after member, from the last

pub either-last : (vs ws : List ValueTree) (v : ValueTree) → either (vs ++ v ∷ []) ws ≡ either vs (inserted v ws)
either-last [] ws v = refl
either-last (u ∷ vs) ws v = ap (inserted u) (either-last vs ws v)

pub either-none : (vs : List ValueTree) → either vs [] ≡ set_of vs
either-none [] = refl
either-none (v ∷ vs) = ap (inserted v) (either-none vs)

-- what is made of the members that are done, when others are left
pub record SetSoFar (all left : List ValueTree) (done : List ValueTree) : Type 0 where
  pub ascends : IsStrictlySortedBy order done
  pub whole : either left done ≡ set_of all

pub set_start : (all : List ValueTree) (done : List Value) → done ≡ [] → SetSoFar all all (map value_tree done)
set_start all done none = rw none (record { ascends = sorted-nil order; whole = either-none all })

pub set_step : (all : List ValueTree) (before after done next : List Value) (x : Value) → before ≡ after ++ x ∷ []
    → map value_tree next ≡ inserted (value_tree x) (map value_tree done) → SetSoFar all (map value_tree before) (map value_tree done)
    → SetSoFar all (map value_tree after) (map value_tree next)
set_step all before after done next x is grown so_far =
    let split : map value_tree before ≡ map value_tree after ++ value_tree x ∷ [] = ap (map value_tree) is ∙ map-append value_tree after (x ∷ []) in
    record {
      ascends = rw grown (inserted_ascends (value_tree x) (map value_tree done) so_far.ascends);
      whole = ap (either (map value_tree after)) grown ∙ (sym (either-last (map value_tree after) (map value_tree done) (value_tree x))
          ∙ (ap (λ us. either us (map value_tree done)) (sym split) ∙ so_far.whole));
    }

pub set_end : (all : List ValueTree) (left done : List Value) → length left ≡ 0 → SetSoFar all (map value_tree left) (map value_tree done) → map value_tree done ≡ set_of all
set_end all [] done none so_far = so_far.whole
set_end all (x ∷ left) done none so_far = absurd (omega arith)
