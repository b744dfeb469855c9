-- Where a weight stands in an ascending list, by a binary search; and weights over a number, one after the other.
use Rattle.std.proofs.Common.{◌≡◌, ℕ, zero, suc, ◌+◌, ◌/◌, ◌≤◌, ◌<◌, List, [], ◌∷◌, ◌++◌, length, map, take, drop, get_or, slice_get, true, Some, Ok, Err, refl, sym, ap, subst, ◌∙◌, arith}
use Rattle.std.specs.Prelude.{set}
use Rattle.std.specs.declared.cmp.Ordering.{Ordering}
use Rattle.std.specs.declared.cmp.Ordering.TheVariants.{Less, Equal, Greater}
use Rattle.std.specs.Ordering.{is_lt, ordering_index, match_ordering}
use Rattle.std.specs.List.{AllByRecursion as Each, insert, take-map}
use Rattle.std.specs.List.Sorted.{IsNonDecreasingBy, IsBinarySearchResult, IsSearchInRange}
use Rattle.std.proofs.lemmas.List.{append-nil, map-append, drop-map, drop_all, take_all, get_or_default}
use Rattle.std.proofs.lemmas.List.Edits.{map_over_more}
use Rattle.std.proofs.lemmas.List.Sums.{sum_by-cons}
use Rattle.std.proofs.lemmas.Option.{get_or_from_slice_get, same_Some}
use Rattle.std.proofs.lemmas.Nat.Gcd.{dvd_trans, IsGcd-from_zero}
use Rattle.std.proofs.Math.Nat.{div-one, one-dvd}
use Rattle.kf_frac.specs.Divisors.{gcd_of}
use Rattle.kf_frac.proofs.CommonDivisors.{gcd_is, gcd_is_the, gcd_swap}
use Rattle.kf_value.specs.Values.{ValueTree, order}
use Rattle.kf_value.specs.Views.{value_tree}
use Rattle.kf_value.proofs.Orders.{goes_on, same}
use Rattle.kf_value.proofs.Sorting.{sorted-head, sorted-tail}
use Rattle.kf_core.specs.Choices as core
use Rattle.kf_core.specs.Choices.{common_factor, total}
use Rattle.kf_core.proofs.Gcds.{over, factor_positive}
use Rattle.kf_eval.specs.Choices.{weighted_tree}
use Rattle.kf_eval.specs.Gathering.{added}
use Rattle.kf_eval.specs.declared.choice.Weighted.{Weighted}
use Rattle.kf_eval.proofs.Inserting.{turned, rank_at}
use Rattle.kf_eval.proofs.Adding.{WeightsAscend, ArePositive, values_in}

abbrev pub trees : List Weighted → List core.Weighted
trees ws = map weighted_tree ws

abbrev pub Ascend : List Weighted → Type 0
Ascend ws = WeightsAscend (trees ws)

value_at : (P : ValueTree → Type 0) (ws : List Weighted) (k : ℕ) (d : Weighted) → k < length ws → Each P (values_in (trees ws)) → P (value_tree (get_or ws k d).value)
value_at P [] k d within h = absurd (omega arith)
value_at P (w ∷ ws) zero d within h = h.0
value_at P (w ∷ ws) (suc k) d within h = value_at P ws k d (omega arith) h.1

later_greater : (x : Weighted) (xs : List Weighted) → Ascend (x ∷ xs) → (k : ℕ) (d : Weighted) → k < length xs
    → order (value_tree x.value) (value_tree (get_or xs k d).value) ≡ Less
later_greater x xs ascends k d within =
    value_at (λ w. order (value_tree x.value) w ≡ Less) xs k d within (sorted-head order (value_tree x.value) (values_in (trees xs)) ascends)

rest_ascend : (x : Weighted) (xs : List Weighted) → Ascend (x ∷ xs) → Ascend xs
rest_ascend x xs h = sorted-tail order (value_tree x.value) (values_in (trees xs)) h

-- ---- the answers of a search rise

module _ (w : core.Weighted) where
  rising : (xs : List Weighted) → Ascend xs → IsNonDecreasingBy (λ (x : Weighted). ordering_index (order (value_tree x.value) w.value)) xs
  rising [] ascends i j d below within = absurd (omega arith)
  rising (x ∷ xs) ascends zero zero d below within = omega arith
  rising (x ∷ xs) ascends zero (suc j) d below within =
      rank_at w.value (value_tree x.value) (value_tree (get_or xs j d).value) (order (value_tree (get_or xs j d).value) w.value) refl (later_greater x xs ascends j d (omega arith))
  rising (x ∷ xs) ascends (suc i) zero d below within = absurd (omega arith)
  rising (x ∷ xs) ascends (suc i) (suc j) d below within = rising xs (rest_ascend x xs ascends) i j d (omega arith) (omega arith)

  -- ---- what is added

  abbrev placed : Weighted → List Weighted → Ordering → List core.Weighted
  placed x xs o =
      match_ordering o (w ∷ weighted_tree x ∷ trees xs) (record { value = value_tree x.value; weight = x.weight + w.weight } ∷ trees xs) (weighted_tree x ∷ added w (trees xs))

  abbrev pub more : Weighted → Weighted
  more x = record { value = x.value; weight = x.weight + w.weight }

  held : (xs : List Weighted) → Ascend xs → (i : ℕ) (d : Weighted) → i < length xs → order (value_tree (get_or xs i d).value) w.value ≡ Equal
      → added w (trees xs) ≡ trees (set xs i (more (get_or xs i d)))
  held [] ascends i d within equal = absurd (omega arith)
  held (x ∷ xs) ascends zero d within equal = ap (placed x xs) (turned (value_tree x.value) w.value Equal equal)
  held (x ∷ xs) ascends (suc i) d within equal =
      let less : order (value_tree x.value) w.value ≡ Less =
      ap (order (value_tree x.value)) (sym (same (value_tree (get_or xs i d).value) w.value equal)) ∙ later_greater x xs ascends i d (omega arith) in
      ap (placed x xs) (turned (value_tree x.value) w.value Less less) ∙ ap (λ ws. weighted_tree x ∷ ws) (held xs (rest_ascend x xs ascends) i d (omega arith) equal)

  parted : (xs : List Weighted) (i : ℕ) → i ≤ length xs
      → ((k : ℕ) (d : Weighted) → 0 ≤ k → k < i → order (value_tree (get_or xs k d).value) w.value ≡ Less)
      → ((k : ℕ) (d : Weighted) → i ≤ k → k < length xs → order (value_tree (get_or xs k d).value) w.value ≡ Greater)
      → added w (trees xs) ≡ take i (trees xs) ++ w ∷ drop i (trees xs)
  parted [] zero within below above = refl
  parted [] (suc i) within below above = absurd (omega arith)
  parted (x ∷ xs) zero within below above = ap (placed x xs) (turned (value_tree x.value) w.value Greater (above 0 x (omega arith) (omega arith)))
  parted (x ∷ xs) (suc i) within below above =
      ap (placed x xs) (turned (value_tree x.value) w.value Less (below 0 x (omega arith) (omega arith)))
      ∙ ap (λ ws. weighted_tree x ∷ ws)
      (parted xs i (omega arith) (λ k d low high. below (suc k) d (omega arith) (omega arith)) (λ k d low high. above (suc k) d (omega arith) (omega arith)))

  -- where the last value comes before it, it stands behind all of them
  pub put_last : (xs : List Weighted) → Ascend xs → (k : ℕ) (x : Weighted) → k + 1 ≡ length xs → slice_get xs k ≡ Some x → order (value_tree x.value) w.value ≡ Less
      → added w (trees xs) ≡ trees xs ++ w ∷ []
  put_last [] ascends k x last at less = absurd (omega (arith, last))
  put_last (y ∷ []) ascends zero x last at less =
      ap (placed y []) (turned (value_tree y.value) w.value Less (subst (λ z. order (value_tree z.value) w.value ≡ Less) (sym (same_Some y x at)) less))
  put_last (y ∷ z ∷ zs) ascends zero x last at less = absurd (omega (arith, last))
  put_last (y ∷ ys) ascends (suc k) x last at less =
      let next : order (value_tree y.value) (value_tree x.value) ≡ Less =
      ap (λ z. order (value_tree y.value) (value_tree z.value)) (sym (get_or_from_slice_get ys k x x at)) ∙ later_greater y ys ascends k x (omega (arith, last)) in
      ap (placed y ys) (turned (value_tree y.value) w.value Less (goes_on (value_tree y.value) (value_tree x.value) w.value next less))
      ∙ ap (λ ws. weighted_tree y ∷ ws) (put_last ys (rest_ascend y ys ascends) k x (omega (arith, last)) at less)

  pub found_at : (read xs : List Weighted) (i : ℕ) (x : Weighted) → read ≡ xs → Ascend xs → IsSearchInRange (Ok i) (length read)
      → IsBinarySearchResult (λ (y : Weighted). order (value_tree y.value) w.value) read (Ok i) → x ≡ get_or xs i x → trees (set xs i (more x)) ≡ added w (trees xs)
  found_at read xs i x same_list ascends within found is =
      let here = rw same_list at found in
      let inside : i < length xs = rw same_list at within in
      ap (λ y. trees (set xs i (more y))) is ∙ sym (held xs ascends i x inside (here x))

  pub put_at : (read xs ys : List Weighted) (i : ℕ) (x : Weighted) → read ≡ xs → Ascend xs → IsSearchInRange (Err i) (length read)
      → IsBinarySearchResult (λ (y : Weighted). order (value_tree y.value) w.value) read (Err i) → weighted_tree x ≡ w → ys ≡ insert xs i x → trees ys ≡ added w (trees xs)
  put_at read xs ys i x same_list ascends within found same_tree is =
      let here = rw same_list at found in
      let inside : i ≤ length xs = rw same_list at within in
      let apart = here (rising xs ascends) in
      ap trees is
      ∙ (map-append weighted_tree (take i xs) (x ∷ drop i xs)
      ∙ (rw (← take-map weighted_tree i xs, ← drop-map weighted_tree i xs, same_tree) (sym (parted xs i inside apart.0 apart.1))))

pub weight_at : (xs : List Weighted) (i : ℕ) (x : Weighted) → i < length xs → x ≡ get_or xs i x → x.weight ≤ total (trees xs)
weight_at [] i x within is = absurd (omega arith)
weight_at (y ∷ ys) zero x within is =
    let same_weight : x.weight ≡ y.weight = ap (λ z. z.weight) is in
    omega (arith, same_weight, sum_by-cons (λ w. w.weight) (weighted_tree y) (trees ys))
weight_at (y ∷ ys) (suc i) x within is = omega (arith, sum_by-cons (λ w. w.weight) (weighted_tree y) (trees ys), weight_at ys i x (omega arith) is)

pub less_is : (o : Ordering) → is_lt o ≡ true → o ≡ Less
less_is Less h = refl
less_is Equal h = absurd (cc)
less_is Greater h = absurd (cc)

-- ---- the common factor

pub gcd_first : (n : ℕ) → gcd_of 0 n ≡ n
gcd_first n = gcd_swap 0 n ∙ sym (gcd_is_the n 0 n (IsGcd-from_zero n 0 refl))

pub gcd_none : (n : ℕ) → gcd_of n 0 ≡ n
gcd_none n = sym (gcd_is_the n 0 n (IsGcd-from_zero n 0 refl))

pub gcd_assoc : (a b c : ℕ) → gcd_of (gcd_of a b) c ≡ gcd_of a (gcd_of b c)
gcd_assoc a b c =
    let g = gcd_of (gcd_of a b) c in
    let first = gcd_is a b in
    let last = gcd_is b c in
    let whole = gcd_is (gcd_of a b) c in
    gcd_is_the a (gcd_of b c) g (
      dvd_trans g whole.0 first.0,
      last.2 g (dvd_trans g whole.0 first.1) whole.1,
      λ d da dbc. whole.2 d (first.2 d da (dvd_trans d dbc last.0)) (dvd_trans d dbc last.1),
    )

-- 1 and any number have no common factor above 1
pub gcd_one : (n : ℕ) → gcd_of 1 n ≡ 1
gcd_one n = sym (gcd_is_the 1 n 1 (one-dvd 1, one-dvd n, λ d da db. da))

pub factor_nonzero : (ws : List core.Weighted) (k : ℕ) → ArePositive ws → k < length ws → 0 < common_factor ws
factor_nonzero [] k h within = absurd (omega arith)
factor_nonzero (w ∷ ws) k h within = factor_positive w ws h.0

-- ---- lowest terms

pub over_one : (ws : List core.Weighted) → over 1 ws ≡ ws
over_one [] = refl
over_one (w ∷ ws) = ap (λ n. record { value = w.value; weight = n } ∷ over 1 ws) (div-one w.weight) ∙ ap (λ us. w ∷ us) (over_one ws)

abbrev pub parted_by : ℕ → Weighted → Weighted
parted_by g w = record { value = w.value; weight = w.weight / g }

pub trees-parted : (g : ℕ) (ws : List Weighted) → trees (map (parted_by g) ws) ≡ over g (trees ws)
trees-parted g [] = refl
trees-parted g (w ∷ ws) = ap (λ us. record { value = value_tree w.value; weight = w.weight / g } ∷ us) (trees-parted g ws)

parted_length : (g : ℕ) (xs : List Weighted) (i : ℕ) → length (map (parted_by g) (take i xs) ++ drop i xs) ≡ length xs
parted_length g xs zero = refl
parted_length g [] (suc i) = refl
parted_length g (x ∷ xs) (suc i) = ap suc (parted_length g xs i)

pub parted_more : (g : ℕ) (xs ys : List Weighted) (i : ℕ) (d : Weighted) → i < length xs → ys ≡ map (parted_by g) (take i xs) ++ drop i xs
    → set ys i (parted_by g (get_or ys i d)) ≡ map (parted_by g) (take (i + 1) xs) ++ drop (i + 1) xs
parted_more g xs ys i d within so_far =
    let long : length ys ≡ length xs = ap length so_far ∙ parted_length g xs i in
    map_over_more (parted_by g) xs ys i (get_or ys i d) within so_far (get_or_default ys i d (get_or ys i d) (omega (arith, long)))

pub all_parted : (g : ℕ) (xs ys : List Weighted) (i n : ℕ) → n ≡ length xs → ys ≡ map (parted_by g) (take i xs) ++ drop i xs → length xs ≤ i
    → trees (take n (ys ++ drop (length ys) xs)) ≡ over g (trees xs)
all_parted g xs ys i n size so_far past =
    let long : length ys ≡ length xs = ap length so_far ∙ parted_length g xs i in
    let whole : ys ≡ map (parted_by g) xs =
    so_far ∙ (ap (λ us. map (parted_by g) us ++ drop i xs) (take_all i xs (omega (arith, long)))
    ∙ (ap (λ us. map (parted_by g) xs ++ us) (drop_all i xs (omega (arith, long))) ∙ append-nil (map (parted_by g) xs))) in
    ap (λ us. trees (take n (ys ++ us))) (drop_all (length ys) xs (omega (arith, long)))
    ∙ (ap (λ us. trees (take n us)) (append-nil ys)
    ∙ (ap trees (take_all n ys (omega (arith, long, size)))
    ∙ (ap trees whole ∙ trees-parted g xs)))
