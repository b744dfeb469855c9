-- Different values of one target have different texts.
use Rattle.std.proofs.Common.{◌≡◌, ℕ, ℤ, zero, suc, pos, negsuc, ◌+◌, ◌*◌, ◌^◌, ◌<◌, ◌≤◌, ◌+ℤ◌, ◌-ℤ◌, ◌≤ℤ◌, List, [], ◌∷◌, length, map, slice_get, None, Some, true, refl, sym, ap, ◌∙◌, ⊎_elim, ◌⊎◌, arith}
use Rattle.std.specs.Int.Signed.{mag}
use Rattle.std.specs.declared.cmp.Ordering.{Ordering}
use Rattle.std.specs.declared.cmp.Ordering.TheVariants.{Less, Equal}
use Rattle.std.specs.Ordering.{ordering_then}
use Rattle.std.specs.List.{All, AllByRecursion as Each, range_with_len}
use Rattle.std.specs.List.Sorted.{IsStrictlySortedBy}
use Rattle.std.proofs.lemmas.Bool.{cases_order}
use Rattle.std.proofs.lemmas.Int.{ints}
use Rattle.std.proofs.lemmas.List.{append-nil}
use Rattle.std.proofs.lemmas.List.Elements.{All-head, All-tail, All-map}
use Rattle.kf_value.specs.Values.{ValueTree, Whole, Tuple, Set, parts, parts_list, order}
use Rattle.kf_value.specs.Types.{TypeTree, TypeTrees, Boolean, Range, TupleOf, SetOf, no_type, more_types, values, each_values, combinations, subsets, count, counted, in_bounds}
use Rattle.kf_value.specs.Sizes.{fault_within, fault_of, first_fault, HasSize}
use Rattle.kf_value.specs.Texts.{text}
use Rattle.kf_value.specs.Stores.{stores}
use Rattle.kf_value.specs.Targets.{Item, target_value_text, shown}
use Rattle.kf_value.specs.Numbers.{target_size}
use Rattle.kf_value.proofs.Ascending.{each_combination, each_part, combinations_ascend, values_ascend}
use Rattle.kf_value.proofs.ByForm.{range_sized, in_bounds_tells, within_counted}
use Rattle.kf_value.proofs.ListLemmas.{each_map, each_weaker, each_at}
use Rattle.kf_value.proofs.Orders.{lists_order, order-itself}
use Rattle.kf_value.proofs.Parts.{total, length-choices}
use Rattle.kf_value.proofs.Printing.{target_text_is}
use Rattle.kf_value.proofs.Sets.{element_at}
use Rattle.kf_value.proofs.Sizing.{first_of-None, crowded_after-None, looser}
use Rattle.kf_value.proofs.Sorting.{sorted-at}
use Rattle.kf_value.proofs.Telling.{IsSmall, EachSmall, text_apart}
use Rattle.kf_value.proofs.Trees.{parts_list-parts}

-- ---- the values of a type with a size are small

each_small_parts : (vs : List ValueTree) → Each IsSmall vs → EachSmall (parts vs)
each_small_parts [] h = tt
each_small_parts (v ∷ vs) h = (h.0, each_small_parts vs h.1)

pub small_mag : (z : ℤ) → negsuc 999999 ≤ℤ z → z ≤ℤ pos 1000000 → mag z < 2 ^ 63
small_mag (pos n) low high = omega (arith, ints)
small_mag (negsuc n) low high = omega (arith, ints)

wholes_small : (lo hi : ℤ) (a n : ℕ) → in_bounds lo hi ≡ true → a + n ≤ counted (hi -ℤ lo) → Each IsSmall (map (λ k. Whole (lo +ℤ pos k)) (range_with_len a n))
wholes_small lo hi a zero bounds within = tt
wholes_small lo hi a (suc n) bounds within =
    let known = in_bounds_tells lo hi bounds in
    let high = within_counted lo hi a (omega arith) in
    let low : negsuc 999999 ≤ℤ (lo +ℤ pos a) = omega (arith, ints) in
    let below : (lo +ℤ pos a) ≤ℤ pos 1000000 = omega (arith, ints) in
    let small = small_mag (lo +ℤ pos a) low below in
    (small, wholes_small lo hi (a + 1) n bounds (omega arith))

mutual
  unfolding values each_values

  pub values_small : (t : TypeTree) → HasSize t → Each IsSmall (values t)
  values_small Boolean h = (tt, (tt, tt))
  values_small (Range lo hi) h = wholes_small lo hi 0 (counted (hi -ℤ lo)) (range_sized lo hi h) (omega arith)
  values_small (TupleOf ts) h =
      each_map IsSmall (λ vs. Tuple (parts vs)) (combinations (each_values ts))
      (each_weaker (λ s. Each IsSmall s × (length s ≡ length (each_values ts))) (λ s. IsSmall (Tuple (parts s))) (λ s inner. each_small_parts s inner.0)
      (combinations (each_values ts)) (each_combination IsSmall (each_values ts) (each_values_small ts (crowded_after-None (first_fault ts) 65536 (TupleOf ts) h))))
  values_small (SetOf base) h =
      let sized = looser 16 65536 base (omega arith) (crowded_after-None (fault_within 16 base) 65536 (SetOf base) h) in
      each_map IsSmall (λ vs. Set (parts vs)) (subsets (values base))
      (each_weaker (Each IsSmall) (λ s. IsSmall (Set (parts s))) each_small_parts (subsets (values base)) (each_part IsSmall (values base) (values_small base sized)))

  each_values_small : (ts : TypeTrees) → first_fault ts ≡ None → Each (Each IsSmall) (each_values ts)
  each_values_small no_type h = tt
  each_values_small (more_types t ts) h =
      let both = first_of-None (fault_within 65536 t) (first_fault ts) h in (values_small t both.0, each_values_small ts both.1)

lists_small : (ts : List TypeTree) → All (λ t. fault_of t ≡ None) ts → Each (Each IsSmall) (map values ts)
lists_small [] h = tt
lists_small (t ∷ ts) h = (values_small t (All-head (λ u. fault_of u ≡ None) t ts h), lists_small ts (All-tail (λ u. fault_of u ≡ None) t ts h))

lists_ascend : (ts : List TypeTree) → Each (IsStrictlySortedBy order) (map values ts)
lists_ascend [] = tt
lists_ascend (t ∷ ts) = (values_ascend t, lists_ascend ts)

-- ---- shown lists

texts_apart : (v w : ValueTree) → IsSmall v → IsSmall w → text v ≡ text w → v ≡ w
texts_apart v w hv hw h = (text_apart v hv w hw [] [] tt tt (append-nil (text v) ∙ (h ∙ sym (append-nil (text w))))).0

shown_apart : (vs ws : List ValueTree) → Each IsSmall vs → Each IsSmall ws → length vs ≡ length ws → shown vs ≡ shown ws → vs ≡ ws
shown_apart [] [] hv hw long h = refl
shown_apart [] (w ∷ ws) hv hw long h = absurd (omega arith)
shown_apart (v ∷ vs) [] hv hw long h = absurd (omega arith)
shown_apart (v ∷ []) (w ∷ []) hv hw long h = ap (λ u. u ∷ []) (texts_apart v w hv.0 hw.0 h)
shown_apart (v ∷ []) (w ∷ (x ∷ ws)) hv hw long h = absurd (omega arith)
shown_apart (v ∷ (x ∷ vs)) (w ∷ []) hv hw long h = absurd (omega arith)
shown_apart (v ∷ (x ∷ vs)) (w ∷ (y ∷ ws)) hv hw long h =
    let found = texts_apart (Tuple (parts (v ∷ (x ∷ vs)))) (Tuple (parts (w ∷ (y ∷ ws)))) (each_small_parts (v ∷ (x ∷ vs)) hv) (each_small_parts (w ∷ (y ∷ ws)) hw) h in
    let inner : parts (v ∷ (x ∷ vs)) ≡ parts (w ∷ (y ∷ ws)) = (cc) in
    sym (parts_list-parts (v ∷ (x ∷ vs))) ∙ (ap parts_list inner ∙ parts_list-parts (w ∷ (y ∷ ws)))

-- ---- the values of a target

then_equal : (o p : Ordering) → o ≡ Equal → p ≡ Equal → ordering_then o p ≡ Equal
then_equal o p h k = ap (λ q. ordering_then q p) h ∙ k

list-itself : (vs : List ValueTree) → lists_order vs vs ≡ Equal
list-itself [] = refl
list-itself (v ∷ vs) = then_equal (order v v) (lists_order vs vs) (order-itself v) (list-itself vs)

not_less : (vs : List ValueTree) → lists_order vs vs ≡ Less → ⊥
not_less vs less = let equal = list-itself vs in (cc)

one_place : (vss : List (List ValueTree)) → Each (IsStrictlySortedBy order) vss → (m n : ℕ) (s : List ValueTree)
    → slice_get (combinations vss) m ≡ Some s → slice_get (combinations vss) n ≡ Some s → m ≡ n
one_place vss ascend m n s at_m at_n =
    ⊎_elim
    (λ (same : m ≡ n). same)
    (λ (apart : (m < n) ⊎ (n < m)).
    ⊎_elim
    (λ (early : m < n). absurd (not_less s (sorted-at lists_order (combinations vss) (combinations_ascend vss ascend) m n s s early at_m at_n)))
    (λ (late : n < m). absurd (not_less s (sorted-at lists_order (combinations vss) (combinations_ascend vss ascend) n m s s late at_n at_m)))
    apart)
    (cases_order m n)

abbrev pub item_types : List Item → List TypeTree
item_types items = map (λ (i : Item). i.ty) items

size_is : (items : List Item) → target_size items ≡ total (item_types items)
size_is [] = refl
size_is (i ∷ items) = ap (λ n. count i.ty * n) (size_is items)

module _ (items : List Item) (sized : All (λ t. fault_of t ≡ None) (item_types items)) where
  lists : List (List ValueTree)
  lists = map values (item_types items)

  value_of : (n : ℕ) → n < target_size items → (s : List ValueTree) × (slice_get (combinations lists) n ≡ Some s) × (target_value_text items n ≡ shown s)
  unfolding lists stores
  value_of n below =
      let size = length-choices (item_types items) in
      let whole = size_is items in
      let found = element_at (combinations lists) n (omega arith) in
      (found.0, found.1, target_text_is items n found.0 found.1)

  pub target_texts_apart : (m n : ℕ) → m < target_size items → n < target_size items → target_value_text items m ≡ target_value_text items n → m ≡ n
  unfolding lists
  target_texts_apart m n below_m below_n h =
      let a = value_of m below_m in
      let b = value_of n below_n in
      let small = each_combination IsSmall lists (lists_small (item_types items) sized) in
      let small_a = each_at (λ s. Each IsSmall s × (length s ≡ length lists)) (combinations lists) m a.0 small a.1 in
      let small_b = each_at (λ s. Each IsSmall s × (length s ≡ length lists)) (combinations lists) n b.0 small b.1 in
      let same = shown_apart a.0 b.0 small_a.0 small_b.0 (small_a.1 ∙ sym small_b.1) (sym a.2 ∙ (h ∙ b.2)) in
      one_place lists (lists_ascend (item_types items)) m n a.0 a.1 (b.1 ∙ ap (λ s. Some s) (sym same))

pub items_apart : (items : List Item) (m n : ℕ) → All (λ (i : Item). fault_of i.ty ≡ None) items → m < target_size items → n < target_size items
    → target_value_text items m ≡ target_value_text items n → m ≡ n
items_apart items m n sized = target_texts_apart items (All-map (λ t. fault_of t ≡ None) (λ (i : Item). i.ty) items sized) m n
