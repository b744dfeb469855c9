-- The values of a type stand in their order, as many as counted, each well formed.
use Rattle.std.proofs.Common.{◌≡◌, ℕ, ℤ, zero, suc, pos, ◌+◌, ◌^◌, ◌<◌, ◌≤◌, ◌+ℤ◌, ◌-ℤ◌, ◌<ℤ◌, List, [], ◌∷◌, ◌++◌, length, map, reverse, refl, sym, ap, ◌∙◌, ⊎_elim, arith}
use Rattle.std.specs.Prelude.{⊤, true, false, nat_le}
use Rattle.std.specs.declared.cmp.Ordering.{Ordering}
use Rattle.std.specs.declared.cmp.Ordering.TheVariants.{Less, Equal}
use Rattle.std.specs.Cmp.{int_cmp_is}
use Rattle.std.specs.List.{AllByRecursion as Each, range_with_len}
use Rattle.std.specs.List.Sorted.{IsStrictlySortedBy}
use Rattle.std.proofs.lemmas.List.{length-map, reverse-append}
use Rattle.std.proofs.lemmas.List.FromFn.{length-map-range_with_len}
use Rattle.std.proofs.lemmas.Int.{ints}
use Rattle.std.proofs.lemmas.Bool.{and_parts}
use Rattle.std.proofs.lemmas.Bool.Decides.{nat_tests}
use Rattle.kf_value.specs.Values.{ValueTree, Truth, Whole, Tuple, Set, parts, order}
use Rattle.kf_value.specs.Forms.{IsWellFormed, EachWellFormed}
use Rattle.kf_value.specs.Types.{TypeTree, TypeTrees, Boolean, Range, TupleOf, SetOf, no_type, more_types, values, each_values, combinations, subsets, count, counts, counted, product}
use Rattle.kf_value.specs.Sizes.{type_list, well_formed, each_well_formed}
use Rattle.kf_value.proofs.Trees.{parts_list-parts}
use Rattle.kf_value.proofs.ListLemmas.{each_any, each_map, each_flat_map, each_weaker, each_both, each_reverse}
use Rattle.kf_value.proofs.Orders.{lists_order, tuples_order, sets_order, order-itself, first_less, then_less, then-Less}
use Rattle.kf_value.proofs.Sorting.{Before, sorted-nil, sorted-cons, sorted-head, sorted-tail, sorted-map, sorted-flat_map}
use Rattle.kf_value.proofs.Places.{length-combinations, length-subsets}

-- ---- as many as counted

mutual
  unfolding values each_values

  pub length-values : (t : TypeTree) → length (values t) ≡ count t
  length-values Boolean = refl
  length-values (Range lo hi) = length-map-range_with_len (λ k. Whole (lo +ℤ pos k)) 0 (counted (hi -ℤ lo))
  length-values (TupleOf ts) =
      length-map (combinations (each_values ts)) (λ vs. Tuple (parts vs))
      ∙ (length-combinations (each_values ts) ∙ ap product (lengths-each_values ts))
  length-values (SetOf base) =
      length-map (subsets (values base)) (λ vs. Set (parts vs))
      ∙ (length-subsets (values base) ∙ ap (λ n. 2 ^ n) (length-values base))

  pub lengths-each_values : (ts : TypeTrees) → map length (each_values ts) ≡ counts ts
  lengths-each_values no_type = refl
  lengths-each_values (more_types t ts) =
      ap (λ n. n ∷ map length (each_values ts)) (length-values t) ∙ ap (λ ns. count t ∷ ns) (lengths-each_values ts)

-- ---- in their order

all_true : {X : Type 0} (xs : List X) → Each (λ x. ⊤) xs
all_true xs = each_any (λ x. ⊤) (λ x. tt) xs

begun_before : (v w : ValueTree) → order v w ≡ Less → (rests others : List (List ValueTree))
    → Before lists_order (map (λ rest. v ∷ rest) rests) (map (λ rest. w ∷ rest) others)
begun_before v w less rests others =
    each_map (λ xs. Each (λ ys. lists_order xs ys ≡ Less) (map (λ rest. w ∷ rest) others)) (λ rest. v ∷ rest) rests
    (each_any (λ xs. Each (λ ys. lists_order (v ∷ xs) ys ≡ Less) (map (λ rest. w ∷ rest) others))
    (λ xs. each_map (λ ys. lists_order (v ∷ xs) ys ≡ Less) (λ rest. w ∷ rest) others
    (each_any (λ ys. lists_order (v ∷ xs) (w ∷ ys) ≡ Less) (λ ys. first_less (order v w) (lists_order xs ys) less) others))
    rests)

pub combinations_ascend : (vss : List (List ValueTree)) → Each (IsStrictlySortedBy order) vss → IsStrictlySortedBy lists_order (combinations vss)
combinations_ascend [] each = sorted-cons lists_order [] [] tt (sorted-nil lists_order)
combinations_ascend (vs ∷ vss) each =
    sorted-flat_map (λ v. ⊤) order lists_order (λ v. map (λ rest. v ∷ rest) (combinations vss))
    (λ v any. sorted-map lists_order lists_order (λ rest. v ∷ rest)
    (λ xs ys less. then_less (order v v) (lists_order xs ys) (order-itself v) less)
    (combinations vss) (combinations_ascend vss each.1))
    (λ v w any other less. begun_before v w less (combinations vss) (combinations vss))
    vs (all_true vs) each.0

-- sets compare from their greatest elements down
abbrev pub back_order : List ValueTree → List ValueTree → Ordering
back_order xs ys = lists_order (reverse xs) (reverse ys)

pub reverse-cons : (v : ValueTree) (vs : List ValueTree) → reverse (v ∷ vs) ≡ reverse vs ++ v ∷ []
reverse-cons v vs = reverse-append (v ∷ []) vs

longer_itself : (xs : List ValueTree) (v : ValueTree) → lists_order xs (xs ++ v ∷ []) ≡ Less
longer_itself [] v = refl
longer_itself (x ∷ xs) v = then_less (order x x) (lists_order xs (xs ++ v ∷ [])) (order-itself x) (longer_itself xs v)

longer_right : (xs ys : List ValueTree) (v : ValueTree) → lists_order xs ys ≡ Less → lists_order xs (ys ++ v ∷ []) ≡ Less
longer_right [] [] v h = (cc)
longer_right [] (y ∷ ys) v h = refl
longer_right (x ∷ xs) [] v h = (cc)
longer_right (x ∷ xs) (y ∷ ys) v h =
    ⊎_elim
    (λ (less : order x y ≡ Less). first_less (order x y) (lists_order xs (ys ++ v ∷ [])) less)
    (λ (later : (order x y ≡ Equal) × (lists_order xs ys ≡ Less)).
    then_less (order x y) (lists_order xs (ys ++ v ∷ [])) later.0 (longer_right xs ys v later.1))
    (then-Less (order x y) (lists_order xs ys) h)

-- a value less than all others, put last
longer_left : (xs ys : List ValueTree) (v : ValueTree) → Each (λ y. order v y ≡ Less) ys → lists_order xs ys ≡ Less
    → lists_order (xs ++ v ∷ []) ys ≡ Less
longer_left [] [] v low h = (cc)
longer_left [] (y ∷ ys) v low h = first_less (order v y) (lists_order [] ys) low.0
longer_left (x ∷ xs) [] v low h = (cc)
longer_left (x ∷ xs) (y ∷ ys) v low h =
    ⊎_elim
    (λ (less : order x y ≡ Less). first_less (order x y) (lists_order (xs ++ v ∷ []) ys) less)
    (λ (later : (order x y ≡ Equal) × (lists_order xs ys ≡ Less)).
    then_less (order x y) (lists_order (xs ++ v ∷ []) ys) later.0 (longer_left xs ys v low.1 later.1))
    (then-Less (order x y) (lists_order xs ys) h)

pub each_part : (P : ValueTree → Type 0) (vs : List ValueTree) → Each P vs → Each (Each P) (subsets vs)
each_part P [] h = (tt, tt)
each_part P (v ∷ vs) h =
    each_flat_map (Each P) (λ part. part ∷ (v ∷ part) ∷ []) (subsets vs)
    (each_weaker (Each P) (λ part. Each (Each P) (part ∷ (v ∷ part) ∷ [])) (λ part inner. (inner, ((h.0, inner), tt))) (subsets vs) (each_part P vs h.1))

module _ (v : ValueTree) where
  abbrev Above : List ValueTree → Type 0
  Above part = Each (λ w. order v w ≡ Less) part

  without_with : (part : List ValueTree) → back_order part (v ∷ part) ≡ Less
  without_with part = ap (lists_order (reverse part)) (reverse-cons v part) ∙ longer_itself (reverse part) v

  both_before : (p q : List ValueTree) → Above p → Above q → back_order p q ≡ Less → Before back_order (p ∷ (v ∷ p) ∷ []) (q ∷ (v ∷ q) ∷ [])
  both_before p q above_p above_q less =
      let low = each_reverse (λ w. order v w ≡ Less) q above_q in
      let left : back_order (v ∷ p) q ≡ Less = ap (λ r. lists_order r (reverse q)) (reverse-cons v p) ∙ longer_left (reverse p) (reverse q) v low less in
      let right : back_order p (v ∷ q) ≡ Less = ap (lists_order (reverse p)) (reverse-cons v q) ∙ longer_right (reverse p) (reverse q) v less in
      let both : back_order (v ∷ p) (v ∷ q) ≡ Less =
      ap (lists_order (reverse (v ∷ p))) (reverse-cons v q) ∙ longer_right (reverse (v ∷ p)) (reverse q) v left in
      ((less, (right, tt)), ((left, (both, tt)), tt))

subsets_ascend : (vs : List ValueTree) → IsStrictlySortedBy order vs → IsStrictlySortedBy back_order (subsets vs)
subsets_ascend [] h = sorted-cons back_order [] [] tt (sorted-nil back_order)
subsets_ascend (v ∷ vs) h =
    sorted-flat_map (Above v) back_order back_order (λ part. part ∷ (v ∷ part) ∷ [])
    (λ part above. sorted-cons back_order part ((v ∷ part) ∷ []) (without_with v part, tt) (sorted-cons back_order (v ∷ part) [] tt (sorted-nil back_order)))
    (λ p q above_p above_q less. both_before v p q above_p above_q less)
    (subsets vs) (each_part (λ w. order v w ≡ Less) vs (sorted-head order v vs h)) (subsets_ascend vs (sorted-tail order v vs h))

wholes_less : (lo : ℤ) (a b : ℕ) → a < b → order (Whole (lo +ℤ pos a)) (Whole (lo +ℤ pos b)) ≡ Less
wholes_less lo a b below =
    let less : (lo +ℤ pos a) <ℤ (lo +ℤ pos b) = omega (arith, ints) in
    sym (int_cmp_is (lo +ℤ pos a) (lo +ℤ pos b) Less less)

wholes_after : (lo : ℤ) (a b n : ℕ) → a < b → Each (λ w. order (Whole (lo +ℤ pos a)) w ≡ Less) (map (λ k. Whole (lo +ℤ pos k)) (range_with_len b n))
wholes_after lo a b zero below = tt
wholes_after lo a b (suc n) below = (wholes_less lo a b below, wholes_after lo a (b + 1) n (omega arith))

wholes_ascend : (lo : ℤ) (a n : ℕ) → IsStrictlySortedBy order (map (λ k. Whole (lo +ℤ pos k)) (range_with_len a n))
wholes_ascend lo a zero = sorted-nil order
wholes_ascend lo a (suc n) =
    sorted-cons order (Whole (lo +ℤ pos a)) (map (λ k. Whole (lo +ℤ pos k)) (range_with_len (a + 1) n))
    (wholes_after lo a (a + 1) n (omega arith)) (wholes_ascend lo (a + 1) n)

tuples_less : (xs ys : List ValueTree) → lists_order xs ys ≡ Less → order (Tuple (parts xs)) (Tuple (parts ys)) ≡ Less
tuples_less xs ys less = tuples_order (parts xs) (parts ys) ∙ rw (parts_list-parts xs, parts_list-parts ys) less

sets_less : (xs ys : List ValueTree) → back_order xs ys ≡ Less → order (Set (parts xs)) (Set (parts ys)) ≡ Less
sets_less xs ys less = sets_order (parts xs) (parts ys) ∙ rw (parts_list-parts xs, parts_list-parts ys) less

mutual
  unfolding values each_values

  pub values_ascend : (t : TypeTree) → IsStrictlySortedBy order (values t)
  values_ascend Boolean =
      sorted-cons order (Truth false) (Truth true ∷ []) (refl, tt) (sorted-cons order (Truth true) [] tt (sorted-nil order))
  values_ascend (Range lo hi) = wholes_ascend lo 0 (counted (hi -ℤ lo))
  values_ascend (TupleOf ts) =
      sorted-map lists_order order (λ vs. Tuple (parts vs)) tuples_less (combinations (each_values ts)) (combinations_ascend (each_values ts) (each_ascends ts))
  values_ascend (SetOf base) =
      sorted-map back_order order (λ vs. Set (parts vs)) sets_less (subsets (values base)) (subsets_ascend (values base) (values_ascend base))

  pub each_ascends : (ts : TypeTrees) → Each (IsStrictlySortedBy order) (each_values ts)
  each_ascends no_type = tt
  each_ascends (more_types t ts) = (values_ascend t, each_ascends ts)

-- ---- well formed

pub each_combination : (P : ValueTree → Type 0) (vss : List (List ValueTree)) → Each (Each P) vss
    → Each (λ s. Each P s × (length s ≡ length vss)) (combinations vss)
each_combination P [] h = ((tt, refl), tt)
each_combination P (vs ∷ vss) h =
    each_flat_map (λ s. Each P s × (length s ≡ suc (length vss))) (λ v. map (λ rest. v ∷ rest) (combinations vss)) vs
    (each_weaker P (λ v. Each (λ s. Each P s × (length s ≡ suc (length vss))) (map (λ rest. v ∷ rest) (combinations vss)))
    (λ v holds. each_map (λ s. Each P s × (length s ≡ suc (length vss))) (λ rest. v ∷ rest) (combinations vss)
    (each_weaker (λ s. Each P s × (length s ≡ length vss)) (λ s. Each P (v ∷ s) × (length (v ∷ s) ≡ suc (length vss)))
    (λ s inner. ((holds, inner.0), ap suc inner.1)) (combinations vss) (each_combination P vss h.1)))
    vs h.0)

sorted_parts : (vs : List ValueTree) → IsStrictlySortedBy order vs → Each (IsStrictlySortedBy order) (subsets vs)
sorted_parts [] h = (sorted-nil order, tt)
sorted_parts (v ∷ vs) h =
    each_flat_map (IsStrictlySortedBy order) (λ part. part ∷ (v ∷ part) ∷ []) (subsets vs)
    (each_both (Above v) (IsStrictlySortedBy order) (λ part. Each (IsStrictlySortedBy order) (part ∷ (v ∷ part) ∷ []))
    (λ part above sorted. (sorted, (sorted-cons order v part above sorted, tt))) (subsets vs)
    (each_part (λ w. order v w ≡ Less) vs (sorted-head order v vs h)) (sorted_parts vs (sorted-tail order v vs h)))

each_well_formed_parts : (vs : List ValueTree) → Each IsWellFormed vs → EachWellFormed (parts vs)
each_well_formed_parts [] h = tt
each_well_formed_parts (v ∷ vs) h = (h.0, each_well_formed_parts vs h.1)

length-each_values : (ts : TypeTrees) → length (each_values ts) ≡ length (type_list ts)
unfolding values each_values
length-each_values no_type = refl
length-each_values (more_types t ts) = ap suc (length-each_values ts)

two_or_more : (n : ℕ) → nat_le 2 n ≡ true → 2 ≤ n
two_or_more n h = grind (arith, nat_tests)

formed_tuple : (n : ℕ) (s : List ValueTree) → 2 ≤ n → Each IsWellFormed s × (length s ≡ n) → IsWellFormed (Tuple (parts s))
formed_tuple n s two h = rw (parts_list-parts s) (rw (h.1) two, each_well_formed_parts s h.0)

pub formed_set : (s : List ValueTree) → IsStrictlySortedBy order s → Each IsWellFormed s → IsWellFormed (Set (parts s))
formed_set s sorted h = rw (parts_list-parts s) (sorted, each_well_formed_parts s h)

mutual
  unfolding values each_values

  pub values_well_formed : (t : TypeTree) → well_formed t ≡ true → Each IsWellFormed (values t)
  values_well_formed Boolean h = (tt, (tt, tt))
  values_well_formed (Range lo hi) h =
      each_map IsWellFormed (λ k. Whole (lo +ℤ pos k)) (range_with_len 0 (counted (hi -ℤ lo)))
      (each_any (λ k. IsWellFormed (Whole (lo +ℤ pos k))) (λ k. tt) (range_with_len 0 (counted (hi -ℤ lo))))
  values_well_formed (TupleOf ts) h =
      let both = and_parts (nat_le 2 (length (type_list ts))) (each_well_formed ts) h in
      let two : 2 ≤ length (each_values ts) = rw (length-each_values ts) (two_or_more (length (type_list ts)) both.0) in
      each_map IsWellFormed (λ vs. Tuple (parts vs)) (combinations (each_values ts))
      (each_weaker (λ s. Each IsWellFormed s × (length s ≡ length (each_values ts))) (λ s. IsWellFormed (Tuple (parts s)))
      (λ s inner. formed_tuple (length (each_values ts)) s two inner) (combinations (each_values ts))
      (each_combination IsWellFormed (each_values ts) (each_values_well_formed ts both.1)))
  values_well_formed (SetOf base) h =
      each_map IsWellFormed (λ vs. Set (parts vs)) (subsets (values base))
      (each_both (IsStrictlySortedBy order) (Each IsWellFormed) (λ s. IsWellFormed (Set (parts s))) formed_set (subsets (values base))
      (sorted_parts (values base) (values_ascend base)) (each_part IsWellFormed (values base) (values_well_formed base h)))

  pub each_values_well_formed : (ts : TypeTrees) → each_well_formed ts ≡ true → Each (Each IsWellFormed) (each_values ts)
  each_values_well_formed no_type h = tt
  each_values_well_formed (more_types t ts) h =
      let both = and_parts (well_formed t) (each_well_formed ts) h in
      (values_well_formed t both.0, each_values_well_formed ts both.1)
