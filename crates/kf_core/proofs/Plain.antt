-- Distinct values in ascending order, each listed once: they are their own choices.
use Rattle.std.proofs.Common.{◌≡◌, ℕ, ◌/◌, ◌≤◌, List, [], ◌∷◌, length, map, inl, inr, refl, ap, ◌∙◌, arith}
use Rattle.std.specs.Ordering.{match_ordering}
use Rattle.std.specs.declared.cmp.Ordering.{Ordering}
use Rattle.std.specs.declared.cmp.Ordering.TheVariants.{Less, Equal, Greater}
use Rattle.std.specs.List.{AllByRecursion as Each}
use Rattle.std.specs.List.Sorted.{IsStrictlySortedBy}
use Rattle.std.proofs.Math.Nat.{div-one, one-dvd}
use Rattle.std.proofs.lemmas.Nat.Gcd.{dvd_antisymm}
use Rattle.kf_value.specs.Values.{ValueTree, order}
use Rattle.kf_value.specs.Laws.{IsIn}
use Rattle.kf_value.proofs.ListLemmas.{each_weaker}
use Rattle.kf_value.proofs.Sorting.{sorted-nil, sorted-cons, sorted-head, sorted-tail}
use Rattle.kf_ops.specs.Values.{inserted}
use Rattle.kf_core.specs.Evaluation.{set_of}
use Rattle.kf_core.specs.Choices.{Weighted, once, weight_in, gathered, common_factor, lowest}
use Rattle.kf_core.proofs.Gcds.{over, factor_divides}
use Rattle.kf_core.proofs.Shares.{weighty, with_weights, weighs_once}

placed_first : (o : Ordering) (us vs ws : List ValueTree) → o ≡ Less → match_ordering o us vs ws ≡ us
placed_first Less us vs ws e = refl
placed_first Equal us vs ws e = (cc)
placed_first Greater us vs ws e = (cc)

inserted_first : (v : ValueTree) (vs : List ValueTree) → Each (λ u. order v u ≡ Less) vs → inserted v vs ≡ v ∷ vs
inserted_first v [] h = refl
inserted_first v (u ∷ us) h = placed_first (order v u) (v ∷ u ∷ us) (u ∷ us) (u ∷ inserted v us) h.0

-- an ascending list is the set of its values
pub set_of_sorted : (vs : List ValueTree) → IsStrictlySortedBy order vs → set_of vs ≡ vs
set_of_sorted [] h = refl
set_of_sorted (v ∷ vs) h = ap (inserted v) (set_of_sorted vs (sorted-tail order v vs h)) ∙ inserted_first v vs (sorted-head order v vs h)

weighty_once : (vs : List ValueTree) → weighty (map once vs) ≡ vs
weighty_once [] = refl
weighty_once (v ∷ vs) = ap (λ us. v ∷ us) (weighty_once vs)

agreeing : (f : ValueTree → ℕ) (us : List ValueTree) → Each (λ u. f u ≡ 1) us → with_weights f us ≡ map once us
agreeing f [] h = refl
agreeing f (u ∷ us) h = ap (λ ws. record { value = u; weight = f u } ∷ ws) (agreeing f us h.1) ∙ ap (λ n. record { value = u; weight = n } ∷ map once us) h.0

each_member : (us vs : List ValueTree) → ((v : ValueTree) → IsIn v us → IsIn v vs) → Each (λ u. IsIn u vs) us
each_member [] vs go = tt
each_member (u ∷ us) vs go = (go u (inl refl), each_member us vs (λ v i. go v (inr i)))

weighs_one : (vs : List ValueTree) → IsStrictlySortedBy order vs → Each (λ v. weight_in (map once vs) v ≡ 1) vs
weighs_one vs h = each_weaker (λ v. IsIn v vs) (λ v. weight_in (map once vs) v ≡ 1) (λ v i. weighs_once (λ u. 1) vs v h i) vs (each_member vs vs (λ v i. i))

gathered_once : (vs : List ValueTree) → IsStrictlySortedBy order vs → gathered (map once vs) ≡ map once vs
gathered_once vs h =
    ap (with_weights (weight_in (map once vs))) (ap set_of (weighty_once vs) ∙ set_of_sorted vs h)
    ∙ agreeing (weight_in (map once vs)) vs (weighs_one vs h)

factor_once : (vs : List ValueTree) → 1 ≤ length vs → common_factor (map once vs) ≡ 1
factor_once [] some = absurd (omega arith)
factor_once (v ∷ vs) some = let divides = factor_divides (map once (v ∷ vs)) in dvd_antisymm divides.0 (one-dvd (common_factor (map once (v ∷ vs))))

over_one : (ws : List Weighted) → over 1 ws ≡ ws
over_one [] = refl
over_one (w ∷ ws) = ap (λ us. record { value = w.value; weight = w.weight / 1 } ∷ us) (over_one ws) ∙ ap (λ n. record { value = w.value; weight = n } ∷ ws) (div-one w.weight)

pub plain_choices : (vs : List ValueTree) → IsStrictlySortedBy order vs → 1 ≤ length vs → lowest (gathered (map once vs)) ≡ map once vs
plain_choices vs h some = ap lowest (gathered_once vs h) ∙ (ap (λ g. over g (map once vs)) (factor_once vs some) ∙ over_one (map once vs))

pub sure_choice : (v : ValueTree) → lowest (gathered (once v ∷ [])) ≡ once v ∷ []
sure_choice v = plain_choices (v ∷ []) (sorted-cons order v [] tt (sorted-nil order)) (omega arith)
