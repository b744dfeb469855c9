-- Of two different sets the greater holds the greatest value that stands in exactly one of them.
use Rattle.std.proofs.Common.{◌≡◌, List, [], ◌∷◌, ◌++◌, reverse, refl, sym, ap, ◌∙◌, inl, inr, ◌⊎◌, ⊎_elim, subst}
use Rattle.std.specs.declared.cmp.Ordering.{Ordering}
use Rattle.std.specs.declared.cmp.Ordering.TheVariants.{Less, Equal, Greater}
use Rattle.std.specs.Ordering.{ordering_then, ordering_reverse}
use Rattle.std.specs.List.{AllByRecursion as Each}
use Rattle.std.specs.List.Sorted.{IsStrictlySortedBy}
use Rattle.kf_value.specs.Values.{ValueTree, Set, parts, order}
use Rattle.kf_value.specs.Laws.{IsIn, HoldsGreatest}
use Rattle.kf_value.proofs.Ascending.{reverse-cons}
use Rattle.kf_value.proofs.ListLemmas.{each_append, each_reverse}
use Rattle.kf_value.proofs.Orders.{lists_order, sets_order, flip, same, goes_on, order-itself, not_both_less}
use Rattle.kf_value.proofs.Sorting.{sorted-head, sorted-tail}
use Rattle.kf_value.proofs.Trees.{parts_list-parts}

-- each value is greater than all later ones
abbrev Descends : List ValueTree → Type 0
Descends [] = Unit {0}
Descends (x ∷ xs) = Each (λ y. order y x ≡ Less) xs × Descends xs

descends-push : (xs : List ValueTree) (v : ValueTree) → Descends xs → Each (λ x. order v x ≡ Less) xs → Descends (xs ++ v ∷ [])
descends-push [] v h low = (tt, tt)
descends-push (x ∷ xs) v h low = (each_append (λ y. order y x ≡ Less) xs (v ∷ []) h.0 (low.0, tt), descends-push xs v h.1 low.1)

descends-reverse : (xs : List ValueTree) → IsStrictlySortedBy order xs → Descends (reverse xs)
descends-reverse [] h = tt
descends-reverse (x ∷ xs) h =
    subst Descends (sym (reverse-cons x xs))
    (descends-push (reverse xs) x (descends-reverse xs (sorted-tail order x xs h)) (each_reverse (λ y. order x y ≡ Less) xs (sorted-head order x xs h)))

each_in : (P : ValueTree → Type 0) (xs : List ValueTree) (v : ValueTree) → Each P xs → IsIn v xs → P v
each_in P [] v h i = absurd i
each_in P (x ∷ xs) v h (inl e) = subst P (sym e) h.0
each_in P (x ∷ xs) v h (inr i) = each_in P xs v h.1 i

-- ---- members of a reversed list

in_left : (xs ys : List ValueTree) (v : ValueTree) → IsIn v xs → IsIn v (xs ++ ys)
in_left [] ys v i = absurd i
in_left (x ∷ xs) ys v (inl e) = inl e
in_left (x ∷ xs) ys v (inr i) = inr (in_left xs ys v i)

in_right : (xs ys : List ValueTree) (v : ValueTree) → IsIn v ys → IsIn v (xs ++ ys)
in_right [] ys v i = i
in_right (x ∷ xs) ys v i = inr (in_right xs ys v i)

in_either : (xs ys : List ValueTree) (v : ValueTree) → IsIn v (xs ++ ys) → IsIn v xs ⊎ IsIn v ys
in_either [] ys v i = inr i
in_either (x ∷ xs) ys v (inl e) = inl (inl e)
in_either (x ∷ xs) ys v (inr i) = ⊎_elim (λ (h : IsIn v xs). inl (inr h)) (λ (h : IsIn v ys). inr h) (in_either xs ys v i)

in_reverse : (xs : List ValueTree) (v : ValueTree) → IsIn v xs → IsIn v (reverse xs)
in_reverse [] v i = absurd i
in_reverse (x ∷ xs) v (inl e) = subst (IsIn v) (sym (reverse-cons x xs)) (in_right (reverse xs) (x ∷ []) v (inl e))
in_reverse (x ∷ xs) v (inr i) = subst (IsIn v) (sym (reverse-cons x xs)) (in_left (reverse xs) (x ∷ []) v (in_reverse xs v i))

from_reverse : (xs : List ValueTree) (v : ValueTree) → IsIn v (reverse xs) → IsIn v xs
from_reverse [] v i = absurd i
from_reverse (x ∷ xs) v i =
    ⊎_elim
    (λ (early : IsIn v (reverse xs)). inr (from_reverse xs v early))
    (λ (last : IsIn v (x ∷ [])). ⊎_elim (λ (e : v ≡ x). inl e) (λ (none : ⊥). absurd none) last)
    (in_either (reverse xs) (x ∷ []) v (subst (IsIn v) (reverse-cons x xs) i))

-- ---- the first difference from the greatest down

then-Greater : (o p : Ordering) → ordering_then o p ≡ Greater → (o ≡ Greater) ⊎ ((o ≡ Equal) × (p ≡ Greater))
then-Greater Less p h = (cc)
then-Greater Equal p h = inr (refl, h)
then-Greater Greater p h = inl refl

less_from_greater : (x y : ValueTree) → order x y ≡ Greater → order y x ≡ Less
less_from_greater x y h = flip y x ∙ ap ordering_reverse h

not_itself : (x y : ValueTree) → order x y ≡ Less → x ≡ y → ⊥
not_itself x y less e = let equal = order-itself x in cc (ap (order x) e)

module _ (x : ValueTree) (xs : List ValueTree) (down : Descends (x ∷ xs)) where
  first_or_less : (v : ValueTree) → IsIn v (x ∷ xs) → (v ≡ x) ⊎ (order v x ≡ Less)
  first_or_less v (inl e) = inl e
  first_or_less v (inr i) = inr (each_in (λ y. order y x ≡ Less) xs v down.0 i)

  not_second : (y : ValueTree) (ys : List ValueTree) → Descends (y ∷ ys) → order y x ≡ Less → IsIn x (y ∷ ys) → ⊥
  not_second y ys down_y less (inl e) = not_itself y x less (sym e)
  not_second y ys down_y less (inr i) = not_both_less x y (each_in (λ z. order z y ≡ Less) ys x down_y.0 i) less

  second_less : (y : ValueTree) (ys : List ValueTree) → Descends (y ∷ ys) → order y x ≡ Less → (v : ValueTree) → IsIn v (y ∷ ys) → order v x ≡ Less
  second_less y ys down_y less v (inl e) = ap (λ z. order z x) e ∙ less
  second_less y ys down_y less v (inr i) = goes_on v y x (each_in (λ z. order z y ≡ Less) ys v down_y.0 i) less

module _ (x y : ValueTree) (xs ys : List ValueTree) (down : Descends (x ∷ xs)) (alike : x ≡ y) (later : HoldsGreatest xs ys) where
  later_missed : IsIn later.greatest (y ∷ ys) → ⊥
  later_missed (inl e) = not_itself later.greatest x (each_in (λ z. order z x ≡ Less) xs later.greatest down.0 later.held) (e ∙ sym alike)
  later_missed (inr i) = later.missed i

  later_ours : (v : ValueTree) → IsIn v (x ∷ xs) → (IsIn v (y ∷ ys) → ⊥) → (v ≡ later.greatest) ⊎ (order v later.greatest ≡ Less)
  later_ours v (inl e) apart = absurd (apart (inl (e ∙ alike)))
  later_ours v (inr i) apart = later.ours v i (λ h. apart (inr h))

  later_theirs : (v : ValueTree) → IsIn v (y ∷ ys) → (IsIn v (x ∷ xs) → ⊥) → order v later.greatest ≡ Less
  later_theirs v (inl e) apart = absurd (apart (inl (e ∙ sym alike)))
  later_theirs v (inr i) apart = later.theirs v i (λ h. apart (inr h))

decided : (xs ys : List ValueTree) → Descends xs → Descends ys → lists_order xs ys ≡ Greater → HoldsGreatest xs ys
decided [] [] dx dy h = (cc)
decided [] (y ∷ ys) dx dy h = (cc)
decided (x ∷ xs) [] dx dy h = record {
  greatest = x;
  held = inl refl;
  missed = λ none. none;
  ours = λ v i apart. first_or_less x xs dx v i;
  theirs = λ v i apart. absurd i;
}
decided (x ∷ xs) (y ∷ ys) dx dy h =
    ⊎_elim
    (λ (greater : order x y ≡ Greater).
    let less = less_from_greater x y greater in
    record {
      greatest = x;
      held = inl refl;
      missed = not_second x xs dx y ys dy less;
      ours = λ v i apart. first_or_less x xs dx v i;
      theirs = λ v i apart. second_less x xs dx y ys dy less v i;
    })
    (λ (equal : (order x y ≡ Equal) × (lists_order xs ys ≡ Greater)).
    let later = decided xs ys dx.1 dy.1 equal.1 in
    let alike = same x y equal.0 in
    record {
      greatest = later.greatest;
      held = inr later.held;
      missed = later_missed x y xs ys dx alike later;
      ours = later_ours x y xs ys dx alike later;
      theirs = later_theirs x y xs ys dx alike later;
    })
    (then-Greater (order x y) (lists_order xs ys) h)

pub sets_decided : (vs ws : List ValueTree) → IsStrictlySortedBy order vs → IsStrictlySortedBy order ws
    → order (Set (parts vs)) (Set (parts ws)) ≡ Greater → HoldsGreatest vs ws
sets_decided vs ws sorted_v sorted_w h =
    let greater : lists_order (reverse vs) (reverse ws) ≡ Greater = rw (parts_list-parts vs, parts_list-parts ws) at (sym (sets_order (parts vs) (parts ws)) ∙ h) in
    let found = decided (reverse vs) (reverse ws) (descends-reverse vs sorted_v) (descends-reverse ws sorted_w) greater in
    record {
      greatest = found.greatest;
      held = from_reverse vs found.greatest found.held;
      missed = λ i. found.missed (in_reverse ws found.greatest i);
      ours = λ v i apart. found.ours v (in_reverse vs v i) (λ j. apart (from_reverse ws v j));
      theirs = λ v i apart. found.theirs v (in_reverse ws v i) (λ j. apart (from_reverse vs v j));
    }
