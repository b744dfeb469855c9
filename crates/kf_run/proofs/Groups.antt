-- Where a value's group stands, by a binary search, and what one leak more makes of the groups.
use Rattle.std.proofs.Common.{◌≡◌, ℕ, zero, suc, ◌+◌, ◌<◌, ◌≤◌, List, [], ◌∷◌, ◌++◌, length, map, get_or, Ok, Err, refl, sym, ap, subst, ◌∙◌, arith}
use Rattle.std.specs.Prelude.{sum_by, set}
use Rattle.std.specs.declared.cmp.Ordering.{Ordering}
use Rattle.std.specs.declared.cmp.Ordering.TheVariants.{Less, Equal, Greater}
use Rattle.std.specs.Ordering.{ordering_index, ordering_reverse}
use Rattle.std.specs.List.{AllByRecursion as Each, flat_map, insert}
use Rattle.std.specs.List.Sorted.{IsNonDecreasingBy, IsBinarySearchResult, IsSearchInRange}
use Rattle.std.proofs.lemmas.List.{map-append}
use Rattle.std.proofs.lemmas.Option.{slice_get-get_or}
use Rattle.std.proofs.lemmas.List.Sums.{sum_by-append, sum_by-cons}
use Rattle.kf_value.specs.Values.{ValueTree, order}
use Rattle.kf_value.proofs.ListLemmas.{each_append, each_at}
use Rattle.kf_value.proofs.Orders.{first_less, flip, goes_on, same}
use Rattle.kf_column.specs.declared.entry.Entry.{Entry}
use Rattle.kf_column.specs.Traces.{trace_order}
use Rattle.kf_run.specs.Groups.{AreGroupsOf, Ascend, value_in, ways_in}
use Rattle.kf_run.specs.Ways.{Way, along}
use Rattle.kf_run.specs.declared.leak_groups.Group.{Group}

-- ---- a list with one element changed, or one more

each_set : (P : Group → Type 0) (gs : List Group) (i : ℕ) (g : Group) → Each P gs → P g → Each P (set gs i g)
each_set P [] i g all here = tt
each_set P (h ∷ gs) zero g all here = (here, all.1)
each_set P (h ∷ gs) (suc i) g all here = (all.0, each_set P gs i g all.1 here)

each_insert : (P : Group → Type 0) (gs : List Group) (i : ℕ) (g : Group) → Each P gs → P g → Each P (insert gs i g)
each_insert P gs zero g all here = (here, all)
each_insert P [] (suc i) g all here = (here, tt)
each_insert P (h ∷ gs) (suc i) g all here = (all.0, each_insert P gs i g all.1 here)

each_read : (P : Group → Type 0) (gs : List Group) (i : ℕ) (d : Group) → i < length gs → Each P gs → P (get_or gs i d)
each_read P gs i d within all = each_at P gs i (get_or gs i d) all (slice_get-get_or gs i d within)

-- ---- the answers of a search rise

rank_greatest : (o : Ordering) → ordering_index o ≤ ordering_index Greater
rank_greatest Less = omega arith
rank_greatest Equal = omega arith
rank_greatest Greater = omega arith

rank_least : (o p : Ordering) → o ≡ Less → ordering_index o ≤ ordering_index p
rank_least o p h = rw h (omega arith)

module _ (v : ValueTree) where
  rank_at : (a b : ValueTree) (o : Ordering) → order b v ≡ o → order a b ≡ Less → ordering_index (order a v) ≤ ordering_index o
  rank_at a b Less h less = rank_least (order a v) Less (goes_on a b v less h)
  rank_at a b Equal h less = rank_least (order a v) Equal (ap (order a) (sym (same b v h)) ∙ less)
  rank_at a b Greater h less = rank_greatest (order a v)

  rising : (gs : List Group) → Ascend gs → IsNonDecreasingBy (λ (g : Group). ordering_index (order (value_in g) v)) gs
  rising [] up i j d below within = absurd (omega (arith, within))
  rising (g ∷ gs) up zero zero d below within = omega arith
  rising (g ∷ gs) up zero (suc j) d below within =
      rank_at (value_in g) (value_in (get_or gs j d)) (order (value_in (get_or gs j d)) v) refl (each_read (λ h. order (value_in g) (value_in h) ≡ Less) gs j d (omega (arith, within)) up.0)
  rising (g ∷ gs) up (suc i) zero d below within = absurd (omega (arith, below))
  rising (g ∷ gs) up (suc i) (suc j) d below within = rising gs up.1 i j d (omega (arith, below)) (omega (arith, within))

  turned : (w : ValueTree) → order w v ≡ Greater → order v w ≡ Less
  turned w greater = flip v w ∙ ap ordering_reverse greater

  behind : (gs : List Group) → ((k : ℕ) (d : Group) → k < length gs → order (value_in (get_or gs k d)) v ≡ Greater) → Each (λ h. order v (value_in h) ≡ Less) gs
  behind [] above = tt
  behind (g ∷ gs) above = (turned (value_in g) (above 0 g (omega arith)), behind gs (λ k d within. above (suc k) d (omega (arith, within))))

  -- a new group between those of lesser and those of greater values
  placed : (g : Group) → value_in g ≡ v → (gs : List Group) (i : ℕ) → Ascend gs
      → ((k : ℕ) (d : Group) → 0 ≤ k → k < i → order (value_in (get_or gs k d)) v ≡ Less)
      → ((k : ℕ) (d : Group) → i ≤ k → k < length gs → order (value_in (get_or gs k d)) v ≡ Greater)
      → i ≤ length gs → Ascend (insert gs i g)
  placed g is gs zero up below above within =
      (subst (λ w. Each (λ h. order w (value_in h) ≡ Less) gs) (sym is) (behind gs (λ k d inside. above k d (omega arith) inside)), up)
  placed g is [] (suc i) up below above within = absurd (omega (arith, within))
  placed g is (h ∷ gs) (suc i) up below above within = (
    each_insert (λ x. order (value_in h) (value_in x) ≡ Less) gs i g up.0 (ap (order (value_in h)) is ∙ below 0 h (omega arith) (omega arith)),
    placed g is gs i up.1 (λ k d low high. below (suc k) d (omega arith) (omega (arith, high))) (λ k d low high. above (suc k) d (omega (arith, low)) (omega (arith, high))) (omega (arith, within)),
  )

-- a group of the same value in a group's place
kept : (gs : List Group) (i : ℕ) (g d : Group) → value_in g ≡ value_in (get_or gs i d) → i < length gs → Ascend gs → Ascend (set gs i g)
kept [] i g d is within up = absurd (omega (arith, within))
kept (h ∷ gs) zero g d is within up = (subst (λ w. Each (λ x. order w (value_in x) ≡ Less) gs) (sym is) up.0, up.1)
kept (h ∷ gs) (suc i) g d is within up =
    let there = each_read (λ x. order (value_in h) (value_in x) ≡ Less) gs i d (omega (arith, within)) up.0 in
    (each_set (λ x. order (value_in h) (value_in x) ≡ Less) gs i g up.0 (ap (order (value_in h)) is ∙ there), kept gs i g d is (omega (arith, within)) up.1)

-- ---- what is added up

module _ (f : Way → ℕ) where
  abbrev sum_in : List Group → ℕ
  sum_in gs = sum_by f (flat_map ways_in gs)

  first_sum : (g : Group) (gs : List Group) → sum_in (g ∷ gs) ≡ sum_by f (ways_in g) + sum_in gs
  first_sum g gs = sum_by-append f (ways_in g) (flat_map ways_in gs)

  sum_set : (gs : List Group) (i : ℕ) (g d : Group) (n : ℕ) → i < length gs → sum_by f (ways_in g) ≡ sum_by f (ways_in (get_or gs i d)) + n → sum_in (set gs i g) ≡ sum_in gs + n
  sum_set [] i g d n within more = absurd (omega (arith, within))
  sum_set (h ∷ gs) zero g d n within more = omega (arith, first_sum g gs, first_sum h gs, more)
  sum_set (h ∷ gs) (suc i) g d n within more = omega (arith, first_sum h (set gs i g), first_sum h gs, sum_set gs i g d n (omega (arith, within)) more)

  sum_insert : (gs : List Group) (i : ℕ) (g : Group) → sum_in (insert gs i g) ≡ sum_in gs + sum_by f (ways_in g)
  sum_insert gs zero g = omega (arith, first_sum g gs)
  sum_insert [] (suc i) g = omega (arith, first_sum g [])
  sum_insert (h ∷ gs) (suc i) g = omega (arith, first_sum h (insert gs i g), first_sum h gs, sum_insert gs i g)

  sum_one : (w : Way) → sum_by f (w ∷ []) ≡ f w
  sum_one w = omega (arith, sum_by-cons f w [])

-- ---- one leak more

module _ (ways : List Way) (gs : List Group) (groups : AreGroupsOf ways gs) (e : Entry) where
  pub joined : (v : ValueTree) (read : List Group) (i : ℕ) (g d : Group) → read ≡ gs → IsSearchInRange (Ok i) (length read)
      → IsBinarySearchResult (λ (h : Group). order (value_in h) v) read (Ok i) → d ≡ get_or gs i d → g.entries.items ≡ d.entries.items ++ e ∷ [] → value_in g ≡ value_in d
      → AreGroupsOf (ways ++ along (v ∷ []) e ∷ []) (set gs i g)
  joined v read i g d same_list bound found is pushed alike =
      let within : i < length gs = subst (λ l. i < length l) same_list bound in
      let here : order (value_in (get_or gs i d)) v ≡ Equal = subst (λ l. IsBinarySearchResult (λ (h : Group). order (value_in h) v) l (Ok i)) same_list found d in
      let value : value_in d ≡ v = ap value_in is ∙ same (value_in (get_or gs i d)) v here in
      let more : ways_in g ≡ ways_in d ++ along (v ∷ []) e ∷ [] =
      (λ j. map (along (alike j ∷ [])) (pushed j)) ∙ map-append (along (value_in d ∷ [])) d.entries.items (e ∷ []) ∙ ap (λ w. ways_in d ++ along (w ∷ []) e ∷ []) value in
      record {
        ascend = kept gs i g d (alike ∙ ap value_in is) within groups.ascend;
        full = each_set (λ h. h.entries.items ≡ [] → ⊥) gs i g groups.full (λ none. not_pushed d.entries.items (sym pushed ∙ none));
        same = λ f.
            let sum : sum_by f (ways_in g) ≡ sum_by f (ways_in (get_or gs i d)) + f (along (v ∷ []) e) =
            omega (arith, ap (sum_by f) more, sum_by-append f (ways_in d) (along (v ∷ []) e ∷ []), sum_one f (along (v ∷ []) e), ap (λ h. sum_by f (ways_in h)) is) in
            omega (arith, sum_set f gs i g d (f (along (v ∷ []) e)) within sum, groups.same f, sum_by-append f ways (along (v ∷ []) e ∷ []), sum_one f (along (v ∷ []) e));
      }
    where
      not_pushed : (es : List Entry) → es ++ e ∷ [] ≡ [] → ⊥
      not_pushed [] none = absurd (cc)
      not_pushed (f ∷ es) none = absurd (cc)

  pub begun : (v : ValueTree) (read next : List Group) (i : ℕ) (g : Group) → read ≡ gs → IsSearchInRange (Err i) (length read)
      → IsBinarySearchResult (λ (h : Group). order (value_in h) v) read (Err i) → g.entries.items ≡ e ∷ [] → value_in g ≡ v → next ≡ insert gs i g
      → AreGroupsOf (ways ++ along (v ∷ []) e ∷ []) next
  begun v read next i g same_list bound found alone value put =
      let within : i ≤ length gs = subst (λ l. i ≤ length l) same_list bound in
      let apart = subst (λ l. IsBinarySearchResult (λ (h : Group). order (value_in h) v) l (Err i)) same_list found (rising v gs groups.ascend) in
      let one : ways_in g ≡ along (v ∷ []) e ∷ [] = λ j. map (along (value j ∷ [])) (alone j) in
      subst (AreGroupsOf (ways ++ along (v ∷ []) e ∷ [])) (sym put) (record {
        ascend = placed v g value gs i groups.ascend apart.0 apart.1 within;
        full = each_insert (λ h. h.entries.items ≡ [] → ⊥) gs i g groups.full (λ none. not_one (sym alone ∙ none));
        same = λ f. omega (arith, sum_insert f gs i g, ap (sum_by f) one, groups.same f, sum_by-append f ways (along (v ∷ []) e ∷ []));
      })
    where
      not_one : e ∷ [] ≡ [] → ⊥
      not_one none = absurd (cc)

-- ---- the ways of later groups

pub later_groups : (v : ValueTree) (gs : List Group) → Each (λ h. order v (value_in h) ≡ Less) gs → Each (λ (w : Way). trace_order (v ∷ []) w.trace ≡ Less) (flat_map ways_in gs)
later_groups v [] all = tt
later_groups v (g ∷ gs) all =
    each_append (λ (w : Way). trace_order (v ∷ []) w.trace ≡ Less) (ways_in g) (flat_map ways_in gs) (each g.entries.items) (later_groups v gs all.1)
  where
    each : (es : List Entry) → Each (λ (w : Way). trace_order (v ∷ []) w.trace ≡ Less) (map (along (value_in g ∷ [])) es)
    each [] = tt
    each (e ∷ es) = (first_less (order v (value_in g)) _ all.0, each es)
