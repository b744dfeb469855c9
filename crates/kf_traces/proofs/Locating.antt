-- How much weight there is when some is added, and where a part stands in an ascending list, by a binary search.
use Rattle.std.proofs.Common.{◌≡◌, ℕ, zero, suc, ◌+◌, ◌≤◌, ◌<◌, List, [], ◌∷◌, ◌++◌, length, map, take, drop, get_or, slice_set, Ok, Err, refl, sym, ap, ◌∙◌, arith}
use Rattle.std.specs.declared.cmp.Ordering.{Ordering}
use Rattle.std.specs.declared.cmp.Ordering.TheVariants.{Less, Equal, Greater}
use Rattle.std.specs.Ordering.{nat_cmp, ordering_index, ordering_reverse, match_ordering}
use Rattle.std.specs.List.{AllByRecursion as Each, insert, take-map}
use Rattle.std.specs.List.Sorted.{IsNonDecreasingBy, IsBinarySearchResult, IsSearchInRange}
use Rattle.std.proofs.lemmas.List.{map-append, drop-map}
use Rattle.std.proofs.lemmas.List.Sums.{sum_by-cons}
use Rattle.kf_value.specs.Values.{ValueTree, order}
use Rattle.kf_value.specs.Views.{value_tree}
use Rattle.kf_value.proofs.Orders.{flip, goes_on, same}
use Rattle.kf_traces.specs.declared.parts.Part as coded
use Rattle.kf_traces.specs.Laws.{sum_of}
use Rattle.kf_traces.specs.Traced.{Weights, Part, with_weight, with_part}
use Rattle.kf_traces.specs.Views.{part_of, parts_sum, PartsAscend}

-- ---- sums

weight_sum_at : (n w : ℕ) (e : ℕ × ℕ) (es : Weights) (r : Ordering) → sum_of (with_weight es n w) ≡ sum_of es + w
    → sum_of (match_ordering r ((n, w) ∷ e ∷ es) ((e.0, e.1 + w) ∷ es) (e ∷ with_weight es n w)) ≡ sum_of (e ∷ es) + w
weight_sum_at n w e es Less later = omega (arith, sum_by-cons (λ (e : ℕ × ℕ). e.1) (n, w) (e ∷ es))
weight_sum_at n w e es Equal later = omega (arith, sum_by-cons (λ (e : ℕ × ℕ). e.1) (e.0, e.1 + w) es, sum_by-cons (λ (e : ℕ × ℕ). e.1) e es)
weight_sum_at n w e es Greater later = omega (arith, sum_by-cons (λ (e : ℕ × ℕ). e.1) e (with_weight es n w), sum_by-cons (λ (e : ℕ × ℕ). e.1) e es, later)

pub weight_sum : (n w : ℕ) (es : Weights) → sum_of (with_weight es n w) ≡ sum_of es + w
weight_sum n w [] = sum_by-cons (λ (e : ℕ × ℕ). e.1) (n, w) [] ∙ omega arith
weight_sum n w (e ∷ es) = weight_sum_at n w e es (nat_cmp n e.0) (weight_sum n w es)

abbrev fresh : ValueTree → ℕ → ℕ → Part
fresh v n w = record { value = v; stores = (n, w) ∷ [] }

abbrev grown : Part → ℕ → ℕ → Part
grown p n w = record { value = p.value; stores = with_weight p.stores n w }

part_sum_at : (v : ValueTree) (n w : ℕ) (p : Part) (ps : List Part) (r : Ordering) → parts_sum (with_part ps v n w) ≡ parts_sum ps + w
    → parts_sum (match_ordering r (fresh v n w ∷ p ∷ ps) (grown p n w ∷ ps) (p ∷ with_part ps v n w)) ≡ parts_sum (p ∷ ps) + w
part_sum_at v n w p ps Less later = omega (arith, sum_by-cons (λ (p : Part). sum_of p.stores) (fresh v n w) (p ∷ ps), sum_by-cons (λ (e : ℕ × ℕ). e.1) (n, w) [])
part_sum_at v n w p ps Equal later =
    omega (arith, sum_by-cons (λ (p : Part). sum_of p.stores) (grown p n w) ps, sum_by-cons (λ (p : Part). sum_of p.stores) p ps, weight_sum n w p.stores)
part_sum_at v n w p ps Greater later = omega (arith, sum_by-cons (λ (p : Part). sum_of p.stores) p (with_part ps v n w), sum_by-cons (λ (p : Part). sum_of p.stores) p ps, later)

pub part_sum : (v : ValueTree) (n w : ℕ) (ps : List Part) → parts_sum (with_part ps v n w) ≡ parts_sum ps + w
part_sum v n w [] = sum_by-cons (λ (p : Part). sum_of p.stores) (fresh v n w) [] ∙ omega (arith, sum_by-cons (λ (e : ℕ × ℕ). e.1) (n, w) [])
part_sum v n w (p ∷ ps) = part_sum_at v n w p ps (order v p.value) (part_sum v n w ps)

-- ---- parts in the program

abbrev pub parts_of : List coded.Part → List Part
parts_of ps = map part_of ps

part_at : (P : ValueTree → Type 0) (ps : List coded.Part) (k : ℕ) (d : coded.Part) → k < length ps → Each (λ q. P q.value) (parts_of ps) → P (value_tree (get_or ps k d).value)
part_at P [] k d within h = absurd (omega arith)
part_at P (p ∷ ps) zero d within h = h.0
part_at P (p ∷ ps) (suc k) d within h = part_at P ps k d (omega arith) h.1

later_greater : (x : coded.Part) (xs : List coded.Part) → PartsAscend (parts_of (x ∷ xs)) → (k : ℕ) (d : coded.Part) → k < length xs
    → order (value_tree x.value) (value_tree (get_or xs k d).value) ≡ Less
later_greater x xs ascends k d within = part_at (λ u. order (value_tree x.value) u ≡ Less) xs k d within ascends.0

turned : (v u : ValueTree) (o : Ordering) → order v u ≡ o → order u v ≡ ordering_reverse o
turned v u o h = flip u v ∙ ap ordering_reverse h

rank_greatest : (o : Ordering) → ordering_index o ≤ ordering_index Greater
rank_greatest Less = omega arith
rank_greatest Equal = omega arith
rank_greatest Greater = omega arith

rank_least : (o p : Ordering) → o ≡ Less → ordering_index o ≤ ordering_index p
rank_least o p h = rw h (omega arith)

module _ (v : ValueTree) (n w : ℕ) where
  rank_at : (a b : ValueTree) (o : Ordering) → order b v ≡ o → order a b ≡ Less → ordering_index (order a v) ≤ ordering_index o
  rank_at a b Less h less = rank_least (order a v) Less (goes_on a b v less h)
  rank_at a b Equal h less = rank_least (order a v) Equal (ap (order a) (sym (same b v h)) ∙ less)
  rank_at a b Greater h less = rank_greatest (order a v)

  rising : (xs : List coded.Part) → PartsAscend (parts_of xs) → IsNonDecreasingBy (λ (x : coded.Part). ordering_index (order (value_tree x.value) v)) xs
  rising [] ascends i j d below within = absurd (omega arith)
  rising (x ∷ xs) ascends zero zero d below within = omega arith
  rising (x ∷ xs) ascends zero (suc j) d below within =
      rank_at (value_tree x.value) (value_tree (get_or xs j d).value) (order (value_tree (get_or xs j d).value) v) refl (later_greater x xs ascends j d (omega arith))
  rising (x ∷ xs) ascends (suc i) zero d below within = absurd (omega arith)
  rising (x ∷ xs) ascends (suc i) (suc j) d below within = rising xs ascends.1 i j d (omega arith) (omega arith)

  abbrev placed : coded.Part → List coded.Part → Ordering → List Part
  placed x xs o = match_ordering o (fresh v n w ∷ part_of x ∷ parts_of xs) (grown (part_of x) n w ∷ parts_of xs) (part_of x ∷ with_part (parts_of xs) v n w)

  held : (y : coded.Part) (xs : List coded.Part) → PartsAscend (parts_of xs) → (i : ℕ) (d : coded.Part) → i < length xs → order (value_tree (get_or xs i d).value) v ≡ Equal
      → part_of y ≡ grown (part_of (get_or xs i d)) n w → with_part (parts_of xs) v n w ≡ parts_of (slice_set xs i y)
  held y [] ascends i d within equal is = absurd (omega arith)
  held y (x ∷ xs) ascends zero d within equal is = ap (placed x xs) (turned (value_tree x.value) v Equal equal) ∙ ap (λ p. p ∷ parts_of xs) (sym is)
  held y (x ∷ xs) ascends (suc i) d within equal is =
      let less : order (value_tree x.value) v ≡ Less =
      ap (order (value_tree x.value)) (sym (same (value_tree (get_or xs i d).value) v equal)) ∙ later_greater x xs ascends i d (omega arith) in
      ap (placed x xs) (turned (value_tree x.value) v Less less) ∙ ap (λ ps. part_of x ∷ ps) (held y xs ascends.1 i d (omega arith) equal is)

  apart : (xs : List coded.Part) (i : ℕ) → i ≤ length xs
      → ((k : ℕ) (d : coded.Part) → 0 ≤ k → k < i → order (value_tree (get_or xs k d).value) v ≡ Less)
      → ((k : ℕ) (d : coded.Part) → i ≤ k → k < length xs → order (value_tree (get_or xs k d).value) v ≡ Greater)
      → with_part (parts_of xs) v n w ≡ take i (parts_of xs) ++ fresh v n w ∷ drop i (parts_of xs)
  apart [] zero within below above = refl
  apart [] (suc i) within below above = absurd (omega arith)
  apart (x ∷ xs) zero within below above = ap (placed x xs) (turned (value_tree x.value) v Greater (above 0 x (omega arith) (omega arith)))
  apart (x ∷ xs) (suc i) within below above =
      ap (placed x xs) (turned (value_tree x.value) v Less (below 0 x (omega arith) (omega arith)))
      ∙ ap (λ ps. part_of x ∷ ps)
      (apart xs i (omega arith) (λ k d low high. below (suc k) d (omega arith) (omega arith)) (λ k d low high. above (suc k) d (omega arith) (omega arith)))

  pub found_at : (read xs : List coded.Part) (i : ℕ) (x y : coded.Part) → read ≡ xs → PartsAscend (parts_of xs) → IsSearchInRange (Ok i) (length read)
      → IsBinarySearchResult (λ (z : coded.Part). order (value_tree z.value) v) read (Ok i) → x ≡ get_or xs i x → part_of y ≡ grown (part_of x) n w
      → parts_of (slice_set xs i y) ≡ with_part (parts_of xs) v n w
  found_at read xs i x y same_list ascends within found is grows =
      let here = rw same_list at found in
      let inside : i < length xs = rw same_list at within in
      sym (held y xs ascends i x inside (here x) (grows ∙ ap (λ z. grown (part_of z) n w) is))

  pub put_at : (read xs ys : List coded.Part) (i : ℕ) (x : coded.Part) → read ≡ xs → PartsAscend (parts_of xs) → IsSearchInRange (Err i) (length read)
      → IsBinarySearchResult (λ (z : coded.Part). order (value_tree z.value) v) read (Err i) → part_of x ≡ fresh v n w → ys ≡ insert xs i x → parts_of ys ≡ with_part (parts_of xs) v n w
  put_at read xs ys i x same_list ascends within found same_part is =
      let here = rw same_list at found in
      let inside : i ≤ length xs = rw same_list at within in
      let between = here (rising xs ascends) in
      ap parts_of is
      ∙ (map-append part_of (take i xs) (x ∷ drop i xs)
      ∙ (rw (← take-map part_of i xs, ← drop-map part_of i xs, same_part) (sym (apart xs i inside between.0 between.1))))

pub sum_at : (xs : List coded.Part) (i : ℕ) (x : coded.Part) → i < length xs → x ≡ get_or xs i x → sum_of x.stores ≤ parts_sum (parts_of xs)
sum_at [] i x within is = absurd (omega arith)
sum_at (y ∷ ys) zero x within is =
    let same_sum : sum_of x.stores ≡ sum_of y.stores = ap (λ (z : coded.Part). sum_of z.stores) is in
    omega (arith, same_sum, sum_by-cons (λ (p : Part). sum_of p.stores) (part_of y) (parts_of ys))
sum_at (y ∷ ys) (suc i) x within is = omega (arith, sum_by-cons (λ (p : Part). sum_of p.stores) (part_of y) (parts_of ys), sum_at ys i x (omega arith) is)
