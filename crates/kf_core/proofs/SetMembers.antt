-- A set's members are those that are listed.
use Rattle.std.proofs.Common.{◌≡◌, ◌↔◌, ⊎_elim, inl, inr, List, [], ◌∷◌, refl, ◌∙◌}
use Rattle.std.specs.Ordering.{match_ordering}
use Rattle.std.specs.declared.cmp.Ordering.{Ordering}
use Rattle.std.specs.declared.cmp.Ordering.TheVariants.{Less, Equal, Greater}
use Rattle.kf_value.specs.Laws.{IsIn}
use Rattle.kf_value.specs.Values.{ValueTree, order}
use Rattle.kf_value.proofs.Orders.{same}
use Rattle.kf_ops.specs.Values.{inserted}
use Rattle.kf_core.specs.Evaluation.{set_of}
use Rattle.kf_core.specs.Laws.{SetsHoldMembers}
use Rattle.kf_core.proofs.SetLiterals.{set_of_ascends}

module _ (u v w : ValueTree) (ws : List ValueTree) where
  -- the new value before the list, on its place, or in the rest
  in_placed : (o : Ordering) → order v w ≡ o → IsIn u (inserted v ws) ↔ IsIn u (v ∷ ws)
      → IsIn u (match_ordering o (v ∷ w ∷ ws) (w ∷ ws) (w ∷ inserted v ws)) ↔ IsIn u (v ∷ w ∷ ws)
  in_placed Less is rest = (λ h. h, λ h. h)
  in_placed Equal is rest = (λ h. inr h, ⊎_elim (λ (e : u ≡ v). inl (e ∙ same v w is)) (λ (h : IsIn u (w ∷ ws)). h))
  in_placed Greater is rest = (
    ⊎_elim (λ (e : u ≡ w). inr (inl e))
        (λ (h : IsIn u (inserted v ws)). ⊎_elim (λ (e : u ≡ v). inl e) (λ (t : IsIn u ws). inr (inr t)) (rest.0 h)),
    ⊎_elim (λ (e : u ≡ v). inr (rest.1 (inl e)))
        (⊎_elim (λ (e : u ≡ w). inl e) (λ (t : IsIn u ws). inr (rest.1 (inr t)))),
  )

in_inserted : (u v : ValueTree) (ws : List ValueTree) → IsIn u (inserted v ws) ↔ IsIn u (v ∷ ws)
in_inserted u v [] = (λ h. h, λ h. h)
in_inserted u v (w ∷ ws) = in_placed u v w ws (order v w) refl (in_inserted u v ws)

members : (u : ValueTree) (vs : List ValueTree) → IsIn u (set_of vs) ↔ IsIn u vs
members u [] = (λ h. h, λ h. h)
members u (v ∷ vs) =
    let first = in_inserted u v (set_of vs) in
    let rest = members u vs in (
      λ h. ⊎_elim (λ (e : u ≡ v). inl e) (λ (t : IsIn u (set_of vs)). inr (rest.0 t)) (first.0 h),
      ⊎_elim (λ (e : u ≡ v). first.1 (inl e)) (λ (t : IsIn u vs). first.1 (inr (rest.1 t))),
    )

pub sets_hold_members : SetsHoldMembers
sets_hold_members vs = (set_of_ascends vs, λ v. members v vs)
