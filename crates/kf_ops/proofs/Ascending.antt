-- Unions, differences and intersections of ascending lists by their first elements.
use Rattle.std.proofs.Common.{◌≡◌, Bool, true, false, List, [], ◌∷◌, refl, sym, ap, ◌∙◌}
use Rattle.std.specs.Prelude.{◌||◌, cond}
use Rattle.std.specs.declared.cmp.Ordering.{Ordering}
use Rattle.std.specs.declared.cmp.Ordering.TheVariants.{Less, Equal, Greater}
use Rattle.std.specs.Ordering.{is_eq, match_ordering, ordering_reverse}
use Rattle.std.specs.List.{AllByRecursion as Each, filter}
use Rattle.kf_value.specs.Values.{ValueTree, order}
use Rattle.kf_value.proofs.ListLemmas.{each_weaker}
use Rattle.kf_value.proofs.Orders.{flip, goes_on, same}
use Rattle.kf_ops.specs.Values.{inserted, is_in}
use Rattle.kf_ops.specs.Sets.{either}

-- each of the list comes after the value
abbrev pub Below : ValueTree → List ValueTree → Type 0
Below v ws = Each (λ w. order v w ≡ Less) ws

pub below_lower : (v w : ValueTree) (ws : List ValueTree) → order v w ≡ Less → Below w ws → Below v ws
below_lower v w ws less h = each_weaker (λ u. order w u ≡ Less) (λ u. order v u ≡ Less) (λ u after. goes_on v w u less after) ws h

pub turned_less : (v w : ValueTree) → order w v ≡ Less → order v w ≡ Greater
turned_less v w h = flip v w ∙ ap ordering_reverse h

pub turned_greater : (v w : ValueTree) → order v w ≡ Greater → order w v ≡ Less
turned_greater v w h = flip w v ∙ ap ordering_reverse h

-- ---- insertion

module _ (v w : ValueTree) (ws : List ValueTree) where
  abbrev pub placed : Ordering → List ValueTree
  placed o = match_ordering o (v ∷ w ∷ ws) (w ∷ ws) (w ∷ inserted v ws)

  inserted-past : order w v ≡ Less → inserted v (w ∷ ws) ≡ w ∷ inserted v ws
  inserted-past h = ap placed (turned_less v w h)

  inserted-same : order v w ≡ Equal → inserted v (w ∷ ws) ≡ w ∷ ws
  inserted-same h = ap placed h

inserted-below : (v : ValueTree) (ws : List ValueTree) → Below v ws → inserted v ws ≡ v ∷ ws
inserted-below v [] h = refl
inserted-below v (w ∷ ws) h = ap (placed v w ws) h.0

module _ (P : ValueTree → Type 0) where
  each_placed : (o : Ordering) (us vs ws : List ValueTree) → Each P us → Each P vs → Each P ws → Each P (match_ordering o us vs ws)
  each_placed Less us vs ws hu hv hw = hu
  each_placed Equal us vs ws hu hv hw = hv
  each_placed Greater us vs ws hu hv hw = hw

  pub each_inserted : (v : ValueTree) (ws : List ValueTree) → P v → Each P ws → Each P (inserted v ws)
  each_inserted v [] here h = (here, tt)
  each_inserted v (w ∷ ws) here h =
      each_placed (order v w) (v ∷ w ∷ ws) (w ∷ ws) (w ∷ inserted v ws) (here, h) h (h.0, each_inserted v ws here h.1)

  pub each_either : (vs ws : List ValueTree) → Each P vs → Each P ws → Each P (either vs ws)
  each_either [] ws hv hw = hw
  each_either (v ∷ vs) ws hv hw = each_inserted v (either vs ws) hv.0 (each_either vs ws hv.1 hw)

-- ---- the union

pub either-first : (v : ValueTree) (vs ws : List ValueTree) → Below v vs → Below v ws → either (v ∷ vs) ws ≡ v ∷ either vs ws
either-first v vs ws hv hw = inserted-below v (either vs ws) (each_either (λ w. order v w ≡ Less) vs ws hv hw)

pub either-second : (w : ValueTree) (vs ws : List ValueTree) → Below w vs → either vs (w ∷ ws) ≡ w ∷ either vs ws
either-second w [] ws h = refl
either-second w (v ∷ vs) ws h = ap (inserted v) (either-second w vs ws h.1) ∙ inserted-past v w (either vs ws) h.0

pub either-both : (v w : ValueTree) (vs ws : List ValueTree) → order v w ≡ Equal → Below w vs → either (v ∷ vs) (w ∷ ws) ≡ v ∷ either vs ws
either-both v w vs ws e h =
    ap (inserted v) (either-second w vs ws h) ∙ (inserted-same v w (either vs ws) e ∙ ap (λ u. u ∷ either vs ws) (sym (same v w e)))

-- ---- the difference and the intersection: filters by whether the second list has the value

abbrev pub filtered : (Bool → Bool) → List ValueTree → List ValueTree → List ValueTree
filtered keep vs ws = filter (λ v. keep (is_in v ws)) vs

pub is_in-below : (v : ValueTree) (ws : List ValueTree) → Below v ws → is_in v ws ≡ false
is_in-below v [] h = refl
is_in-below v (w ∷ ws) h = ap (λ o. is_eq o || is_in v ws) h.0 ∙ is_in-below v ws h.1

module _ (keep : Bool → Bool) where
  -- what a filter makes of its first value, by the answer to its test
  abbrev head_kept : ValueTree → List ValueTree → List ValueTree → Bool → List ValueTree
  head_kept v vs ws answer = cond (keep answer) (v ∷ filtered keep vs ws) (filtered keep vs ws)

  pub filtered-second : (w : ValueTree) (vs ws : List ValueTree) → Below w vs → filtered keep vs (w ∷ ws) ≡ filtered keep vs ws
  filtered-second w [] ws h = refl
  filtered-second w (v ∷ vs) ws h =
      ap (λ o. head_kept v vs (w ∷ ws) (is_eq o || is_in v ws)) (turned_less v w h.0)
      ∙ ap (λ us. cond (keep (is_in v ws)) (v ∷ us) us) (filtered-second w vs ws h.1)

  pub filtered-first : (v : ValueTree) (vs ws : List ValueTree) → Below v ws
      → filtered keep (v ∷ vs) ws ≡ cond (keep false) (v ∷ filtered keep vs ws) (filtered keep vs ws)
  filtered-first v vs ws h = ap (head_kept v vs ws) (is_in-below v ws h)

  pub filtered-both : (v w : ValueTree) (vs ws : List ValueTree) → order v w ≡ Equal → Below w vs
      → filtered keep (v ∷ vs) (w ∷ ws) ≡ cond (keep true) (v ∷ filtered keep vs ws) (filtered keep vs ws)
  filtered-both v w vs ws e h =
      ap (λ o. head_kept v vs (w ∷ ws) (is_eq o || is_in v ws)) e
      ∙ ap (λ us. cond (keep true) (v ∷ us) us) (filtered-second w vs ws h)
