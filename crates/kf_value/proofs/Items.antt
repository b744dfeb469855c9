-- The types of a target's items.
use Rattle.std.proofs.Common.{◌≡◌, ◌*◌, List, [], ◌∷◌, length, map, Bool, true, None, refl, sym, ap, ◌∙◌, subst}
use Rattle.std.specs.Prelude.{◌&&◌}
use Rattle.std.proofs.lemmas.List.{length-map}
use Rattle.std.specs.List.{All, list_all}
use Rattle.std.proofs.lemmas.List.Elements.{All-head, All-tail, All-map, All-nil, All-cons}
use Rattle.kf_value.specs.declared.target_item.TargetItem.{TargetItem}
use Rattle.kf_value.specs.Types.{TypeTree, type_parts, product, count, values, combinations}
use Rattle.kf_value.specs.Sizes.{fault_of, first_fault, first_of}
use Rattle.kf_value.specs.Stores.{stores}
use Rattle.kf_value.specs.Targets.{Item, target_values}
use Rattle.kf_value.specs.Numbers.{target_size}
use Rattle.kf_value.specs.TypeViews.{item_of}
use Rattle.kf_value.proofs.Digits.{sizes}

abbrev pub item_type : TargetItem → TypeTree
item_type i = (item_of i).ty

pub item_types : (items : List TargetItem) → map (λ (i : Item). i.ty) (map item_of items) ≡ map item_type items
item_types [] = refl
item_types (i ∷ items) = ap (λ ts. item_type i ∷ ts) (item_types items)

pub size_of_items : (items : List TargetItem) → target_size (map item_of items) ≡ product (sizes (map item_type items))
size_of_items [] = refl
size_of_items (i ∷ items) = ap (λ n. count (item_type i) * n) (size_of_items items)

pub items_sized : (items : List TargetItem) → All (λ i. fault_of (item_of i).ty ≡ None) items → All (λ t. fault_of t ≡ None) (map item_type items)
items_sized items h = All-map (λ t. fault_of t ≡ None) item_type items h

pub no_first_fault : (ts : List TypeTree) → All (λ t. fault_of t ≡ None) ts → first_fault (type_parts ts) ≡ None
no_first_fault [] h = refl
no_first_fault (t ∷ ts) h =
    ap (λ o. first_of o (first_fault (type_parts ts))) (All-head (λ u. fault_of u ≡ None) t ts h) ∙ no_first_fault ts (All-tail (λ u. fault_of u ≡ None) t ts h)

pub values_of_items : (items : List TargetItem) → target_values (map item_of items) ≡ combinations (map values (map item_type items))
unfolding stores
values_of_items items = ap (λ ts. combinations (map values ts)) (item_types items)

-- ---- items that show the same

pub all_items : (P : Item → Type 0) (xs ys : List TargetItem) → map item_of xs ≡ map item_of ys → All (λ i. P (item_of i)) ys → All (λ i. P (item_of i)) xs
all_items P [] ys same h = All-nil (λ i. P (item_of i))
all_items P (x ∷ xs) [] same h = (cc)
all_items P (x ∷ xs) (y ∷ ys) same h =
    let first : item_of x ≡ item_of y = (cc) in
    let rest : map item_of xs ≡ map item_of ys = (cc) in
    All-cons (λ i. P (item_of i)) x xs (subst P (sym first) (All-head (λ i. P (item_of i)) y ys h))
    (all_items P xs ys rest (All-tail (λ i. P (item_of i)) y ys h))

tested : (p : Item → Bool) (xs : List TargetItem) → list_all (λ i. p (item_of i)) xs ≡ list_all p (map item_of xs)
tested p [] = refl
tested p (x ∷ xs) = ap (λ b. p (item_of x) && b) (tested p xs)

pub test_items : (p : Item → Bool) (xs ys : List TargetItem) → map item_of xs ≡ map item_of ys → list_all (λ i. p (item_of i)) ys ≡ true
    → list_all (λ i. p (item_of i)) xs ≡ true
test_items p xs ys same h = tested p xs ∙ (ap (list_all p) same ∙ (sym (tested p ys) ∙ h))

pub as_many_items : (xs ys : List TargetItem) → map item_of xs ≡ map item_of ys → length xs ≡ length ys
as_many_items xs ys same = sym (length-map xs item_of) ∙ (ap length same ∙ length-map ys item_of)

pub all_of_items : (items : List TargetItem) → All (λ i. fault_of (item_of i).ty ≡ None) items → All (λ (i : Item). fault_of i.ty ≡ None) (map item_of items)
all_of_items items h = All-map (λ (i : Item). fault_of i.ty ≡ None) item_of items h
