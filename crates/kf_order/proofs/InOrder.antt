-- Lists of inners in strict order: members by their places, and no member at two places.
use Rattle.std.proofs.Common.{◌≡◌, ℕ, zero, suc, ◌<◌, List, [], ◌∷◌, length, get_or, refl, sym, ap, subst, ◌∙◌, arith, inl, inr, ⊎_elim}
use Rattle.std.specs.declared.cmp.Ordering.TheVariants.{Less}
use Rattle.std.specs.Ordering.{ordering_reverse}
use Rattle.std.specs.List.{AllByRecursion as Each}
use Rattle.std.specs.List.Sorted.{IsStrictlySortedBy}
use Rattle.kf_column.specs.declared.entry.Entry.{Entry}
use Rattle.kf_column.proofs.AtMostOne.{In, Ordered, same_lists}
use Rattle.kf_column.proofs.Gathering.{list_total}
use Rattle.kf_column.specs.Shapes.{list_order}

-- ---- members and places

pub in_at : {X : Type 0} (xs : List X) (i : ℕ) (d : X) → i < length xs → In (get_or xs i d) xs
in_at [] i d l = absurd (omega (arith, l))
in_at (x ∷ xs) zero d l = inl refl
in_at (x ∷ xs) (suc i) d l = inr (in_at xs i d (omega (arith, l)))

pub place_in : {X : Type 0} (d x : X) (xs : List X) → In x xs → (i : ℕ) × (i < length xs) × (x ≡ get_or xs i d)
place_in d x [] here = absurd here
place_in d x (y ∷ ys) (inl same) = (0, omega arith, same)
place_in d x (y ∷ ys) (inr later) = let r = place_in d x ys later in (suc r.0, omega (arith, r.1), r.2)

-- ---- strict order

abbrev IsBefore : List Entry → List Entry → Type 0
IsBefore u v = list_order u v ≡ Less

not_both : (u v : List Entry) → IsBefore u v → IsBefore v u → ⊥
not_both u v p q =
    let flip : Less ≡ ordering_reverse Less = sym p ∙ list_total.antisymm u v ∙ ap ordering_reverse q in
    absurd (cc)

later : (u : List Entry) (vs : List (List Entry)) → Each (λ v. list_order u v ≡ Less) vs → (v : List Entry) → In v vs → IsBefore u v
later u [] all v here = absurd here
later u (w ∷ vs) all v here = ⊎_elim (λ (e : v ≡ w). subst (IsBefore u) (sym e) all.0) (λ h. later u vs all.1 v h) here

ordered : (us : List (List Entry)) → IsStrictlySortedBy list_order us → Ordered IsBefore not_both us
unfolding IsStrictlySortedBy
ordered [] sorted = tt
ordered (u ∷ us) sorted = (later u us sorted.0, ordered us sorted.1)

-- lists in strict order with the same members are the same
pub same_members : (us vs : List (List Entry)) → IsStrictlySortedBy list_order us → IsStrictlySortedBy list_order vs
    → ((u : List Entry) → In u us → In u vs) → ((v : List Entry) → In v vs → In v us) → us ≡ vs
same_members us vs p q = same_lists IsBefore not_both us vs (ordered us p) (ordered vs q)

one_from : (us : List (List Entry)) (i j : ℕ) (d : List Entry) → Ordered IsBefore not_both us → i < length us → j < length us → get_or us i d ≡ get_or us j d → i ≡ j
one_from [] i j d o l k same = absurd (omega (arith, l))
one_from (u ∷ us) zero zero d o l k same = refl
one_from (u ∷ us) zero (suc j) d o l k same =
    let before : IsBefore u u = subst (IsBefore u) (sym same) (o.0 (get_or us j d) (in_at us j d (omega (arith, k)))) in
    absurd (not_both u u before before)
one_from (u ∷ us) (suc i) zero d o l k same =
    let before : IsBefore u u = subst (IsBefore u) same (o.0 (get_or us i d) (in_at us i d (omega (arith, l)))) in
    absurd (not_both u u before before)
one_from (u ∷ us) (suc i) (suc j) d o l k same = ap suc (one_from us i j d o.1 (omega (arith, l)) (omega (arith, k)) same)

-- no member stands at two places
pub one_place : (us : List (List Entry)) (i j : ℕ) (d : List Entry) → IsStrictlySortedBy list_order us → i < length us → j < length us
    → get_or us i d ≡ get_or us j d → i ≡ j
one_place us i j d sorted = one_from us i j d (ordered us sorted)
