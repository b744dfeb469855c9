-- The members of a set literal: ascending, and each as the members that were written.
use Rattle.std.proofs.Common.{◌≡◌, List, [], ◌∷◌, refl, ap, ◌∙◌}
use Rattle.std.specs.Ordering.{match_ordering, ordering_reverse}
use Rattle.std.specs.declared.cmp.Ordering.{Ordering}
use Rattle.std.specs.declared.cmp.Ordering.TheVariants.{Less, Equal, Greater}
use Rattle.std.specs.List.{AllByRecursion as Each}
use Rattle.std.specs.List.Sorted.{IsStrictlySortedBy}
use Rattle.kf_value.specs.Values.{ValueTree, order}
use Rattle.kf_value.proofs.ListLemmas.{each_weaker}
use Rattle.kf_value.proofs.Orders.{flip, goes_on}
use Rattle.kf_value.proofs.Sorting.{sorted-nil, sorted-cons, sorted-head, sorted-tail}
use Rattle.kf_ops.specs.Values.{inserted}
use Rattle.kf_core.specs.Evaluation.{set_of}

module _ (P : ValueTree → Type 0) where
  each_placed : (o : Ordering) (us vs ws : List ValueTree) → Each P us → Each P vs → Each P ws → Each P (match_ordering o us vs ws)
  each_placed Less us vs ws hu hv hw = hu
  each_placed Equal us vs ws hu hv hw = hv
  each_placed Greater us vs ws hu hv hw = hw

  pub each_inserted : (v : ValueTree) (ws : List ValueTree) → P v → Each P ws → Each P (inserted v ws)
  each_inserted v [] here h = (here, tt)
  each_inserted v (w ∷ ws) here h =
      each_placed (order v w) (v ∷ w ∷ ws) (w ∷ ws) (w ∷ inserted v ws) (here, h) h (h.0, each_inserted v ws here h.1)

  pub each_set_of : (vs : List ValueTree) → Each P vs → Each P (set_of vs)
  each_set_of [] h = tt
  each_set_of (v ∷ vs) h = each_inserted v (set_of vs) h.0 (each_set_of vs h.1)

abbrev Ascends : List ValueTree → Type 0
Ascends vs = IsStrictlySortedBy order vs

placed_ascends : (o : Ordering) (us vs ws : List ValueTree) → (o ≡ Less → Ascends us) → Ascends vs → (o ≡ Greater → Ascends ws) → Ascends (match_ordering o us vs ws)
placed_ascends Less us vs ws hu hv hw = hu refl
placed_ascends Equal us vs ws hu hv hw = hv
placed_ascends Greater us vs ws hu hv hw = hw refl

pub inserted_ascends : (v : ValueTree) (ws : List ValueTree) → Ascends ws → Ascends (inserted v ws)
inserted_ascends v [] h = sorted-cons order v [] tt (sorted-nil order)
inserted_ascends v (w ∷ ws) h =
    let after = sorted-head order w ws h in
    placed_ascends (order v w) (v ∷ w ∷ ws) (w ∷ ws) (w ∷ inserted v ws)
    (λ less. sorted-cons order v (w ∷ ws)
    (less, each_weaker (λ u. order w u ≡ Less) (λ u. order v u ≡ Less) (λ u later. goes_on v w u less later) ws after) h)
    h
    (λ greater. let less : order w v ≡ Less = flip w v ∙ ap ordering_reverse greater in
    sorted-cons order w (inserted v ws) (each_inserted (λ u. order w u ≡ Less) v ws less after) (inserted_ascends v ws (sorted-tail order w ws h)))

pub set_of_ascends : (vs : List ValueTree) → Ascends (set_of vs)
set_of_ascends [] = sorted-nil order
set_of_ascends (v ∷ vs) = inserted_ascends v (set_of vs) (set_of_ascends vs)
