-- What unions, differences and intersections hold, and that they ascend.
use Rattle.std.proofs.Common.{◌≡◌, ◌⊎◌, ◌↔◌, inl, inr, ⊎_elim, Bool, true, false, not, List, [], ◌∷◌, refl, sym, ap, ◌∙◌}
use Rattle.std.specs.Prelude.{cond}
use Rattle.std.specs.declared.cmp.Ordering.{Ordering}
use Rattle.std.specs.declared.cmp.Ordering.TheVariants.{Less, Equal, Greater}
use Rattle.std.specs.Ordering.{is_eq}
use Rattle.std.specs.List.{AllByRecursion as Each, filter}
use Rattle.std.specs.List.Sorted.{IsStrictlySortedBy}
use Rattle.std.proofs.lemmas.Bool.{or_cases, or_left, or_right}
use Rattle.kf_value.specs.Values.{ValueTree, order, is_equal}
use Rattle.kf_value.specs.Laws.{IsIn}
use Rattle.kf_value.proofs.Orders.{order-itself, same}
use Rattle.kf_value.proofs.Sorting.{sorted-cons, sorted-head, sorted-tail}
use Rattle.kf_ops.specs.Laws.{IsSetOf}
use Rattle.kf_ops.specs.Values.{inserted, is_in}
use Rattle.kf_ops.proofs.Ascending.{Below, below_lower, turned_greater, each_inserted, placed}
use Rattle.kf_ops.specs.Sets.{without, both, either}

abbrev Ascends : List ValueTree → Type 0
Ascends vs = IsStrictlySortedBy order vs

-- ---- they ascend

module _ (v w : ValueTree) (ws : List ValueTree) where
  sorted_placed : (o : Ordering) → order v w ≡ o → Ascends (w ∷ ws) → Ascends (inserted v ws) → Ascends (placed v w ws o)
  sorted_placed Less is h rest = sorted-cons order v (w ∷ ws) (is, below_lower v w ws is (sorted-head order w ws h)) h
  sorted_placed Equal is h rest = h
  sorted_placed Greater is h rest =
      sorted-cons order w (inserted v ws)
      (each_inserted (λ u. order w u ≡ Less) v ws (turned_greater v w is) (sorted-head order w ws h)) rest

sorted_inserted : (v : ValueTree) (ws : List ValueTree) → Ascends ws → Ascends (inserted v ws)
sorted_inserted v [] h = sorted-cons order v [] tt h
sorted_inserted v (w ∷ ws) h = sorted_placed v w ws (order v w) refl h (sorted_inserted v ws (sorted-tail order w ws h))

pub sorted_either : (vs ws : List ValueTree) → Ascends ws → Ascends (either vs ws)
sorted_either [] ws h = h
sorted_either (v ∷ vs) ws h = sorted_inserted v (either vs ws) (sorted_either vs ws h)

module _ (test : ValueTree → Bool) where
  each_chosen : (P : ValueTree → Type 0) (b : Bool) (v : ValueTree) (us : List ValueTree) → P v → Each P us → Each P (cond b (v ∷ us) us)
  each_chosen P true v us here h = (here, h)
  each_chosen P false v us here h = h

  pub each_filter : (P : ValueTree → Type 0) (vs : List ValueTree) → Each P vs → Each P (filter test vs)
  each_filter P [] h = tt
  each_filter P (v ∷ vs) h = each_chosen P (test v) v (filter test vs) h.0 (each_filter P vs h.1)

  sorted_chosen : (b : Bool) (v : ValueTree) (us : List ValueTree) → Below v us → Ascends us → Ascends (cond b (v ∷ us) us)
  sorted_chosen true v us low h = sorted-cons order v us low h
  sorted_chosen false v us low h = h

  pub sorted_filter : (vs : List ValueTree) → Ascends vs → Ascends (filter test vs)
  sorted_filter [] h = h
  sorted_filter (v ∷ vs) h =
      sorted_chosen (test v) v (filter test vs) (each_filter (λ u. order v u ≡ Less) vs (sorted-head order v vs h))
      (sorted_filter vs (sorted-tail order v vs h))

-- ---- what they hold

equal_from : (o : Ordering) → is_eq o ≡ true → o ≡ Equal
equal_from Less h = (cc)
equal_from Equal h = refl
equal_from Greater h = (cc)

pub equal_values : (v w : ValueTree) → (is_equal v w ≡ true) ↔ (v ≡ w)
equal_values v w = (λ h. same v w (equal_from (order v w) h), λ e. ap is_eq (sym (ap (order v) e) ∙ order-itself v))

pub holds : (v : ValueTree) (ws : List ValueTree) → (is_in v ws ≡ true) ↔ IsIn v ws
holds v [] = (λ h. (cc), λ h. absurd h)
holds v (w ∷ ws) = (
  λ h.
      ⊎_elim (λ (e : is_equal v w ≡ true). inl ((equal_values v w).0 e)) (λ (t : is_in v ws ≡ true). inr ((holds v ws).0 t))
      (or_cases (is_equal v w) (is_in v ws) h),
  ⊎_elim (λ (e : v ≡ w). or_left (is_equal v w) (is_in v ws) ((equal_values v w).1 e))
      (λ (t : IsIn v ws). or_right (is_equal v w) (is_in v ws) ((holds v ws).1 t)),
)

module _ (u v w : ValueTree) (ws : List ValueTree) where
  abbrev NewOrOld : List ValueTree → Type 0
  NewOrOld us = IsIn u us ↔ ((u ≡ v) ⊎ IsIn u (w ∷ ws))

  -- the new value before the list, on its place, or in the rest
  in_placed : (o : Ordering) → order v w ≡ o → IsIn u (inserted v ws) ↔ ((u ≡ v) ⊎ IsIn u ws) → NewOrOld (placed v w ws o)
  in_placed Less is rest = (λ h. h, λ h. h)
  in_placed Equal is rest = (λ h. inr h, ⊎_elim (λ (e : u ≡ v). inl (e ∙ same v w is)) (λ (h : IsIn u (w ∷ ws)). h))
  in_placed Greater is rest = (
    ⊎_elim (λ (e : u ≡ w). inr (inl e))
        (λ (h : IsIn u (inserted v ws)). ⊎_elim (λ (e : u ≡ v). inl e) (λ (t : IsIn u ws). inr (inr t)) (rest.0 h)),
    ⊎_elim (λ (e : u ≡ v). inr (rest.1 (inl e)))
        (⊎_elim (λ (e : u ≡ w). inl e) (λ (t : IsIn u ws). inr (rest.1 (inr t)))),
  )

in_inserted : (u v : ValueTree) (ws : List ValueTree) → IsIn u (inserted v ws) ↔ ((u ≡ v) ⊎ IsIn u ws)
in_inserted u v [] = (λ h. h, λ h. h)
in_inserted u v (w ∷ ws) = in_placed u v w ws (order v w) refl (in_inserted u v ws)

in_either : (u : ValueTree) (vs ws : List ValueTree) → IsIn u (either vs ws) ↔ (IsIn u vs ⊎ IsIn u ws)
in_either u [] ws = (λ h. inr h, ⊎_elim (λ h. absurd h) (λ h. h))
in_either u (v ∷ vs) ws =
    let first = in_inserted u v (either vs ws) in
    let rest = in_either u vs ws in (
      λ h.
          ⊎_elim (λ (e : u ≡ v). inl (inl e))
          (λ (t : IsIn u (either vs ws)). ⊎_elim (λ (l : IsIn u vs). inl (inr l)) (λ (r : IsIn u ws). inr r) (rest.0 t))
          (first.0 h),
      ⊎_elim
          (⊎_elim (λ (e : u ≡ v). first.1 (inl e)) (λ (l : IsIn u vs). first.1 (inr (rest.1 (inl l)))))
          (λ (r : IsIn u ws). first.1 (inr (rest.1 (inr r)))),
    )

no_both : (b : Bool) → b ≡ true → b ≡ false → ⊥
no_both b h g = (cc)

pub not_both : (b : Bool) → not b ≡ true → b ≡ true → ⊥
not_both true h t = (cc)
not_both false h t = (cc)

pub not_from : (b : Bool) → (b ≡ true → ⊥) → not b ≡ true
not_from true h = absurd (h refl)
not_from false h = refl

module _ (test : ValueTree → Bool) (u : ValueTree) where
  in_chosen : (b : Bool) (v : ValueTree) (vs us : List ValueTree) → test v ≡ b → IsIn u us ↔ (IsIn u vs × (test u ≡ true))
      → IsIn u (cond b (v ∷ us) us) ↔ (IsIn u (v ∷ vs) × (test u ≡ true))
  in_chosen true v vs us is rest = (
    ⊎_elim (λ (e : u ≡ v). (inl e, ap test e ∙ is)) (λ (t : IsIn u us). (inr (rest.0 t).0, (rest.0 t).1)),
    λ h. ⊎_elim (λ (e : u ≡ v). inl e) (λ (t : IsIn u vs). inr (rest.1 (t, h.1))) h.0,
  )
  in_chosen false v vs us is rest = (
    λ t. (inr (rest.0 t).0, (rest.0 t).1),
    λ h. ⊎_elim (λ (e : u ≡ v). absurd (no_both (test u) h.1 (ap test e ∙ is))) (λ (t : IsIn u vs). rest.1 (t, h.1)) h.0,
  )

  in_filter : (vs : List ValueTree) → IsIn u (filter test vs) ↔ (IsIn u vs × (test u ≡ true))
  in_filter [] = (λ h. absurd h, λ h. absurd h.0)
  in_filter (v ∷ vs) = in_chosen (test v) v vs (filter test vs) refl (in_filter vs)

-- ---- the laws

-- the operation makes a set of two sets, with exactly the elements of which the property holds
abbrev pub SetsAre : (List ValueTree → List ValueTree → List ValueTree) → (ValueTree → List ValueTree → List ValueTree → Type 0) → Type 0
SetsAre operation Has = (vs ws : List ValueTree) → Ascends vs → Ascends ws → IsSetOf (λ v. Has v vs ws) (operation vs ws)

pub union_law : SetsAre either (λ v vs ws. IsIn v vs ⊎ IsIn v ws)
union_law vs ws hv hw = record { ascends = sorted_either vs ws hw; has = λ u. in_either u vs ws }

pub both_law : SetsAre both (λ v vs ws. IsIn v vs × IsIn v ws)
both_law vs ws hv hw = record {
  ascends = sorted_filter (λ v. is_in v ws) vs hv;
  has = λ u.
      let chosen = in_filter (λ v. is_in v ws) u vs in
      (λ h. ((chosen.0 h).0, (holds u ws).0 (chosen.0 h).1), λ h. chosen.1 (h.0, (holds u ws).1 h.1));
}

pub without_law : SetsAre without (λ v vs ws. IsIn v vs × (IsIn v ws → ⊥))
without_law vs ws hv hw = record {
  ascends = sorted_filter (λ v. not (is_in v ws)) vs hv;
  has = λ u.
      let chosen = in_filter (λ v. not (is_in v ws)) u vs in (
        λ h. ((chosen.0 h).0, λ t. not_both (is_in u ws) (chosen.0 h).1 ((holds u ws).1 t)),
        λ h. chosen.1 (h.0, not_from (is_in u ws) (λ t. h.1 ((holds u ws).0 t))),
      );
}
