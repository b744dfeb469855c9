-- Traces one behind the other: their order, and where they split.
use Rattle.std.proofs.Common.{◌≡◌, [], ◌∷◌, ◌++◌, refl, sym, ap, subst, ◌∙◌, ◌⊎◌, inl, inr, append-nil}
use Rattle.std.specs.Ordering.{ordering_then}
use Rattle.std.specs.declared.cmp.Ordering.{Ordering}
use Rattle.std.specs.declared.cmp.Ordering.TheVariants.{Less, Equal, Greater}
use Rattle.kf_value.specs.Values.{ValueTree, order}
use Rattle.kf_value.proofs.Orders.{order-itself, same}
use Rattle.kf_column.specs.Traces.{trace_order}
use Rattle.kf_push.proofs.CellWeights.{Trace}

-- ---- order

pub behind_one : (t u v : Trace) → trace_order (t ++ u) (t ++ v) ≡ trace_order u v
behind_one [] u v = refl
behind_one (x ∷ t) u v = ap (λ o. ordering_then o (trace_order (t ++ u) (t ++ v))) (order-itself x) ∙ behind_one t u v

-- no proper front: the other doesn't go on from it
abbrev pub IsNoFront : Trace → Trace → Type 0
IsNoFront t s = (w : Trace) → s ≡ t ++ w → w ≡ []

first_no_front : (x : ValueTree) (t s : Trace) → IsNoFront (x ∷ t) (x ∷ s) → IsNoFront t s
first_no_front x t s h w e = h w (ap (λ l. x ∷ l) e)

by_first : (x y : ValueTree) (t s : Trace) (o p : Ordering) → order x y ≡ o → IsNoFront (x ∷ t) (y ∷ s) → ordering_then o (trace_order t s) ≡ Less
    → (trace_order t s ≡ Less → IsNoFront t s → p ≡ Less) → ordering_then o p ≡ Less
by_first x y t s Less p is free less later = refl
by_first x y t s Equal p is free less later =
    let same_first : x ≡ y = same x y is in
    later less (first_no_front x t s (subst (λ (z : ValueTree). IsNoFront (x ∷ t) (z ∷ s)) (sym same_first) free))
by_first x y t s Greater p is free less later = (cc)

-- the first difference decides, whatever comes behind
pub in_order : (t s u v : Trace) → IsNoFront t s → trace_order t s ≡ Less → trace_order (t ++ u) (s ++ v) ≡ Less
in_order [] [] u v free less = (cc)
in_order [] (y ∷ s) u v free less = let none : y ∷ s ≡ [] = free (y ∷ s) refl in (cc)
in_order (x ∷ t) [] u v free less = (cc)
in_order (x ∷ t) (y ∷ s) u v free less =
    by_first x y t s (order x y) (trace_order (t ++ u) (s ++ v)) refl free less (λ later no_front. in_order t s u v no_front later)

-- ---- splits

further : (x y : ValueTree) (t s : Trace) → x ≡ y → ((w : Trace) × (s ≡ t ++ w)) ⊎ ((w : Trace) × (t ≡ s ++ w))
    → ((w : Trace) × (y ∷ s ≡ x ∷ t ++ w)) ⊎ ((w : Trace) × (x ∷ t ≡ y ∷ s ++ w))
further x y t s e (inl h) = inl (h.0, λ i. sym e i ∷ h.1 i)
further x y t s e (inr h) = inr (h.0, λ i. e i ∷ h.1 i)

-- of two fronts of one trace, one goes on from the other
fronts : (t s u v : Trace) → t ++ u ≡ s ++ v → ((w : Trace) × (s ≡ t ++ w)) ⊎ ((w : Trace) × (t ≡ s ++ w))
fronts [] s u v e = inl (s, refl)
fronts (x ∷ t) [] u v e = inr (x ∷ t, refl)
fronts (x ∷ t) (y ∷ s) u v e =
    let first : x ≡ y = cc in
    let rest : t ++ u ≡ s ++ v = cc in
    further x y t s first (fronts t s u v rest)

one_front : (t s : Trace) → IsNoFront t s → IsNoFront s t → ((w : Trace) × (s ≡ t ++ w)) ⊎ ((w : Trace) × (t ≡ s ++ w)) → t ≡ s
one_front t s p q (inl h) = sym (h.1 ∙ ap (λ w. t ++ w) (p h.0 h.1) ∙ append-nil t)
one_front t s p q (inr h) = h.1 ∙ ap (λ w. s ++ w) (q h.0 h.1) ∙ append-nil s

-- so traces of which neither is a proper front of the other are the same where what goes on from them is
pub same_front : (t s u v : Trace) → IsNoFront t s → IsNoFront s t → t ++ u ≡ s ++ v → t ≡ s
same_front t s u v p q e = one_front t s p q (fronts t s u v e)
