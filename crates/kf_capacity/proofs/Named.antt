-- The place of a list among lists that ascend, by search, and the places of a channel's traces.
use Rattle.std.proofs.Common.{◌≡◌, ◌≢◌, ℕ, zero, suc, ◌+◌, ◌<◌, ◌≤◌, Bool, true, false, List, [], ◌∷◌, ◌++◌, All, length, map, drop, get_or, Option, Some, None, Result, Ok, Err, refl, sym, ap, ◌∙◌, subst, arith, ⊎_elim, append_assoc}
use Rattle.std.specs.Prelude.{is_some, unwrap_or, option_map, if◌then◌else◌, slice_index_or}
use Rattle.std.specs.Ordering.{ordering_index, ordering_reverse, is_eq}
use Rattle.std.specs.declared.cmp.Ordering.{Ordering}
use Rattle.std.specs.declared.cmp.Ordering.TheVariants.{Less, Equal, Greater}
use Rattle.std.specs.List.{list_all}
use Rattle.std.specs.List.Sorted.{IsStrictlySortedBy, IsNonDecreasingBy, IsBinarySearchResult, IsSearchInRange}
use Rattle.std.specs.Result.{result_ok}
use Rattle.std.proofs.lemmas.Bool.{cases_lt}
use Rattle.std.proofs.lemmas.List.{append-nil, get_or-map, length-map, drop_more, map-append}
use Rattle.std.proofs.lemmas.List.Elements.{All-from_recursion}
use Rattle.std.specs.List.{AllByRecursion as Each}
use Rattle.kf_value.specs.Values.{ValueTree}
use Rattle.kf_value.specs.Targets.{target_values}
use Rattle.kf_value.specs.Views.{value_trees}
use Rattle.kf_value.specs.declared.value.ValueList.{ValueList}
use Rattle.kf_value.proofs.Sorting.{sorted-head, sorted-tail}
use Rattle.kf_column.specs.Traces.{Row, trace_order}
use Rattle.kf_capacity.specs.Compositions.{place_of, secret_values, fits, places}
use Rattle.kf_capacity.specs.Grids.{ChannelTree}
use Rattle.kf_capacity.proofs.TraceOrder.{traces_total}

-- ---- a search for a list

least_rank : (o : Ordering) → ordering_index Less ≤ ordering_index o
least_rank Less = omega arith
least_rank Equal = omega arith
least_rank Greater = omega arith

greatest_rank : (o : Ordering) → ordering_index o ≤ ordering_index Greater
greatest_rank Less = omega arith
greatest_rank Equal = omega arith
greatest_rank Greater = omega arith

-- what comes before something equal comes before it too
before_equal : (ws us vs : List ValueTree) → trace_order ws us ≡ Less → trace_order us vs ≡ Equal → trace_order ws vs ≡ Less
before_equal ws us vs less equal =
    traces_total.antisymm ws vs ∙ ap ordering_reverse (sym (traces_total.congr us vs ws equal)) ∙ sym (traces_total.antisymm ws us) ∙ less

rank_rises : (ws us vs : List ValueTree) (o : Ordering) → trace_order us vs ≡ o → trace_order ws us ≡ Less
    → ordering_index (trace_order ws vs) ≤ ordering_index o
rank_rises ws us vs Less is less = rw (traces_total.trans ws us vs less is) (omega arith)
rank_rises ws us vs Equal is less = rw (before_equal ws us vs less is) (least_rank Equal)
rank_rises ws us vs Greater is less = greatest_rank (trace_order ws vs)

abbrev pub Ascend : List ValueList → Type 0
Ascend lists = IsStrictlySortedBy trace_order (map value_trees lists)

module _ (vs : List ValueTree) where
  later_less : (l : ValueList) (lists : List ValueList) → Ascend (l ∷ lists) → (k : ℕ) (d : ValueList) → k < length lists
      → trace_order (value_trees l) (value_trees (get_or lists k d)) ≡ Less
  later_less l lists ascend k d within =
      ap (trace_order (value_trees l)) (sym (get_or-map value_trees lists k d [] within))
      ∙ All-from_recursion (λ us. trace_order (value_trees l) us ≡ Less) (map value_trees lists)
      (sorted-head trace_order (value_trees l) (map value_trees lists) ascend) k []
      (rw (length-map lists value_trees) within)

  pub answers_rise : (lists : List ValueList) → Ascend lists → IsNonDecreasingBy (λ l. ordering_index (trace_order (value_trees l) vs)) lists
  answers_rise [] ascend i j d below within = absurd (omega arith)
  answers_rise (l ∷ lists) ascend zero zero d below within = omega arith
  answers_rise (l ∷ lists) ascend zero (suc j) d below within =
      rank_rises (value_trees l) (value_trees (get_or lists j d)) vs (trace_order (value_trees (get_or lists j d)) vs) refl
      (later_less l lists ascend j d (omega arith))
  answers_rise (l ∷ lists) ascend (suc i) zero d below within = absurd (omega arith)
  answers_rise (l ∷ lists) ascend (suc i) (suc j) d below within =
      answers_rise lists (sorted-tail trace_order (value_trees l) (map value_trees lists) ascend) i j d (omega arith) (omega arith)

  -- past a list that is less, or greater
  passed : (ws : List ValueTree) (others : List (List ValueTree)) (o : Ordering) → trace_order ws vs ≡ o → o ≢ Equal
      → place_of (ws ∷ others) vs ≡ option_map (λ n. suc n) (place_of others vs)
  passed ws others Less is other = rw is refl
  passed ws others Equal is other = absurd (other refl)
  passed ws others Greater is other = rw is refl

  found_at : (lists : List ValueList) → Ascend lists → (i : ℕ) (d : ValueList) → i < length lists → trace_order (value_trees (get_or lists i d)) vs ≡ Equal
      → place_of (map value_trees lists) vs ≡ Some i
  found_at [] ascend i d within equal = absurd (omega arith)
  found_at (l ∷ lists) ascend zero d within equal = rw equal refl
  found_at (l ∷ lists) ascend (suc i) d within equal =
      let less = before_equal (value_trees l) (value_trees (get_or lists i d)) vs (later_less l lists ascend i d (omega arith)) equal in
      passed (value_trees l) (map value_trees lists) Less less (λ same. (cc))
      ∙ ap (option_map (λ n. suc n)) (found_at lists (sorted-tail trace_order (value_trees l) (map value_trees lists) ascend) i d (omega arith) equal)

  never_at : (lists : List ValueList) → ((k : ℕ) (d : ValueList) → k < length lists → trace_order (value_trees (get_or lists k d)) vs ≢ Equal)
      → place_of (map value_trees lists) vs ≡ None
  never_at [] never = refl
  never_at (l ∷ lists) never =
      passed (value_trees l) (map value_trees lists) (trace_order (value_trees l) vs) refl (never 0 l (omega arith))
      ∙ ap (option_map (λ n. suc n)) (never_at lists (λ k d within. never (suc k) d (omega arith)))

  less_other : (o : Ordering) → o ≡ Less → o ≢ Equal
  less_other o less equal = (cc)

  greater_other : (o : Ordering) → o ≡ Greater → o ≢ Equal
  greater_other o greater equal = (cc)

  -- what the search finds is the place
  pub searched_place : (lists : List ValueList) (r : Result ℕ ℕ) → Ascend lists → IsSearchInRange r (length lists)
      → IsBinarySearchResult (λ l. trace_order (value_trees l) vs) lists r → result_ok r ≡ place_of (map value_trees lists) vs
  searched_place [] (Ok i) ascend bound found = absurd (omega arith)
  searched_place (l ∷ lists) (Ok i) ascend bound found = sym (found_at (l ∷ lists) ascend i l bound (found l))
  searched_place lists (Err i) ascend bound missed =
      let parted = missed (answers_rise lists ascend) in
      sym (never_at lists (λ k d within.
      ⊎_elim
      (λ (low : k < i). less_other (trace_order (value_trees (get_or lists k d)) vs) (parted.0 k d (omega arith) low))
      (λ (high : i ≤ k). greater_other (trace_order (value_trees (get_or lists k d)) vs) (parted.1 k d high within))
      (cases_lt k i)))

  pub place_within : (lists : List (List ValueTree)) (n : ℕ) → place_of lists vs ≡ Some n → n < length lists
  place_within [] n is = (cc)
  place_within (ws ∷ lists) n is = by (is_eq (trace_order ws vs)) (place_of lists vs) is (place_within lists)
    where
      by : (b : Bool) (o : Option ℕ) → (if b then Some 0 else option_map (λ n. suc n) o) ≡ Some n → ((m : ℕ) → o ≡ Some m → m < length lists)
          → n < suc (length lists)
      by true o is rest = let first : n ≡ 0 = (cc) in omega arith
      by false None is rest = (cc)
      by false (Some m) is rest = let same : n ≡ suc m = (cc) in omega (arith, rest m refl)

-- ---- the places of traces

abbrev some_places : List ℕ → List (Option ℕ)
some_places ns = map (λ n. Some n) ns

-- where one has no place, they don't fit
pub none_misfits : (ns : List ℕ) (rest : List (Option ℕ)) → list_all is_some (some_places ns ++ None ∷ rest) ≡ false
none_misfits [] rest = refl
none_misfits (n ∷ ns) rest = none_misfits ns rest

pub all_fit : (ns : List ℕ) → list_all is_some (some_places ns) ≡ true
all_fit [] = refl
all_fit (n ∷ ns) = all_fit ns

pub all_places : (ns : List ℕ) → map (λ place. unwrap_or place 0) (some_places ns) ≡ ns
all_places [] = refl
all_places (n ∷ ns) = ap (λ ms. n ∷ ms) (all_places ns)

-- so far, one more, and the rest
pub mapped_more : {X Y : Type 0} (f : X → Y) (done : List X) (x : X) (y : Y) (rest whole : List Y) → y ≡ f x → map f done ++ y ∷ rest ≡ whole
    → map f (done ++ x ∷ []) ++ rest ≡ whole
mapped_more f done x y rest whole same is =
    ap (λ ys. ys ++ rest) (map-append f done (x ∷ [])) ∙ append_assoc (map f done) (f x ∷ []) rest ∙ ap (λ z. map f done ++ z ∷ rest) (sym same) ∙ is

pub mapped_all : {X Y : Type 0} (f : X → Y) (done : List X) (rest whole : List Y) → rest ≡ [] → map f done ++ rest ≡ whole → map f done ≡ whole
mapped_all f done rest whole none is = sym (append-nil (map f done)) ∙ ap (λ ys. map f done ++ ys) (sym none) ∙ is

-- the name of a trace, and those behind it
pub names_at : (lists : List (List ValueTree)) (rows : List Row) (j : ℕ) (none : Row) → j < length rows
    → drop j (map (λ row. place_of lists row.trace) rows)
    ≡ place_of lists (get_or rows j none).trace ∷ drop (j + 1) (map (λ row. place_of lists row.trace) rows)
names_at lists rows j none within =
    let f = λ (row : Row). place_of lists row.trace in
    let inside : j < length (map f rows) = rw (length-map rows f) within in
    drop_more (map f rows) j (f none) inside ∙ ap (λ name. name ∷ drop (j + 1) (map f rows)) (get_or-map f rows j none (f none) within)

-- the places are among the lists
named_within : (lists : List (List ValueTree)) (name : Option ℕ) (names : List (Option ℕ)) → ((n : ℕ) → name ≡ Some n → n < length lists)
    → (list_all is_some names ≡ true → Each (λ place. place < length lists) (map (λ place. unwrap_or place 0) names))
    → list_all is_some (name ∷ names) ≡ true → Each (λ place. place < length lists) (map (λ place. unwrap_or place 0) (name ∷ names))
named_within lists None names within rest fit = (cc)
named_within lists (Some n) names within rest fit = (within n refl, rest fit)

each_within : (lists : List (List ValueTree)) (rows : List Row) → list_all is_some (map (λ row. place_of lists row.trace) rows) ≡ true
    → Each (λ place. place < length lists) (map (λ place. unwrap_or place 0) (map (λ row. place_of lists row.trace) rows))
each_within lists [] fit = tt
each_within lists (row ∷ rows) fit =
    named_within lists (place_of lists row.trace) (map (λ row. place_of lists row.trace) rows) (place_within row.trace lists) (each_within lists rows) fit

pub places_within : (c d : ChannelTree) → fits c d ≡ true → All (λ place. place < length d.secrets) (places c d)
places_within c d fit =
    subst (λ n. All (λ place. place < n) (places c d)) (length-map d.secrets (λ x. slice_index_or (target_values d.target) x []))
    (All-from_recursion (λ place. place < length (secret_values d)) (places c d) (each_within (secret_values d) c.rows fit))
