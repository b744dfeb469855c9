-- Lists that are alike element by element, and types of tuples.
use Rattle.std.specs.Prelude.{IsTrue, ◌↔◌}
use Rattle.std.proofs.Common.{◌≡◌, ℕ, ◌+◌, ◌<◌, ◌≤◌, Bool, true, false, true≢false, ℤ, to_z, of_z, FitsSigned, eqb, eq-eqb, Box, Global, List, [], ◌∷◌, ◌++◌, length, get_or, map, take, slice_get, Some, refl, sym, ap, ◌∙◌}
use Rattle.std.specs.Int.{w64}
use Rattle.std.proofs.lemmas.Bool.{eqb-true}
use Rattle.std.proofs.lemmas.Int.{to_z-of_z}
use Rattle.std.proofs.lemmas.List.{length-map, take_all, take_more}
use Rattle.kf_value.specs.declared.ty.Ty.{Ty}
use Rattle.kf_value.specs.declared.ty.Ty.TheVariants as ty
use Rattle.kf_value.specs.declared.ty.TyList.{TyList}
use Rattle.kf_value.specs.Sizes.{type_list}
use Rattle.kf_value.specs.Types.{TypeTree, TypeTrees, Boolean, Range, TupleOf, SetOf, type_parts}
use Rattle.kf_value.specs.TypeViews.{type_tree}
use Rattle.kf_value.specs.Views.{type_items}
use Rattle.kf_value.proofs.ListLemmas.{mapped_read, copied_more}
use Rattle.kf_value.proofs.Trees.{type_list-type_parts, type_tree-Bool, type_tree-Int, type_tree-Tuple, type_tree-Set, by_type_form}

-- a test that says whether two are the same
pub are_same : {A : Type 0} (x y : A) → x ≡ y → IsTrue true ↔ (x ≡ y)
are_same x y same = (λ yes. same, λ also. refl)

pub are_other : {A : Type 0} (x y : A) → (x ≡ y → ⊥) → IsTrue false ↔ (x ≡ y)
are_other x y other = (λ yes. absurd (true≢false (sym yes)), λ same. absurd (other same))

-- lists that differ at one place
pub apart : {A B : Type 0} (f : A → B) (xs ys : List A) (i : ℕ) (x y : A) → i < length xs → x ≡ get_or xs i x → i < length ys → y ≡ get_or ys i y
    → (f x ≡ f y → ⊥) → map f xs ≡ map f ys → ⊥
apart f xs ys i x y within read within' read' differ same =
    let both : Some (f x) ≡ Some (f y) = sym (mapped_read f xs i x within read) ∙ (ap (λ zs. slice_get zs i) same ∙ mapped_read f ys i y within' read') in
    differ (cc)

-- two lists are compared, element by element
module _ {A B : Type 0} (f : A → B) (xs ys : List A) where
  pub lengths_other : (length xs ≡ length ys → ⊥) → IsTrue false ↔ (map f xs ≡ map f ys)
  lengths_other other =
      are_other (map f xs) (map f ys) (λ same. other (sym (length-map xs f) ∙ (ap (λ (zs : List B). length zs) same ∙ length-map ys f)))

  pub more_same : (i : ℕ) (x y : A) → i < length xs → x ≡ get_or xs i x → i < length ys → y ≡ get_or ys i y → f x ≡ f y
      → map f (take i xs) ≡ map f (take i ys) → map f (take (i + 1) xs) ≡ map f (take (i + 1) ys)
  more_same i x y within read within' read' same had =
      copied_more f ys (take i xs) (take (i + 1) xs) i y x within' read' same
      (take_more xs i x within ∙ ap (λ (u : A). take i xs ++ u ∷ []) (sym read)) had

  pub all_same : (i : ℕ) → length xs ≤ i → length ys ≤ i → map f (take i xs) ≡ map f (take i ys) → IsTrue true ↔ (map f xs ≡ map f ys)
  all_same i past past' had =
      are_same (map f xs) (map f ys) (ap (map f) (sym (take_all i xs past)) ∙ (had ∙ ap (map f) (take_all i ys past')))

same_parts : (ts us : List TypeTree) → TupleOf (type_parts ts) ≡ TupleOf (type_parts us) → ts ≡ us
same_parts ts us h =
    let inner : type_parts ts ≡ type_parts us = cc in
    sym (type_list-type_parts ts) ∙ (ap type_list inner ∙ type_list-type_parts us)

-- the tree of a type that is known to be a tuple's, with its parts
pub tuple_tree : (t : Ty) (ts : TyList) (items : List Ty) → t ≡ ty.Tuple ts → items ≡ type_items ts → type_tree t ≡ TupleOf (type_parts (map type_tree items))
tuple_tree t ts items is same = ap type_tree is ∙ (type_tree-Tuple ts ∙ ap (λ us. TupleOf (type_parts (map type_tree us))) (sym same))

-- tuples are the same where their parts are
pub tuples_same : (r : Bool) (a b : TypeTree) (ts us : List TypeTree) → a ≡ TupleOf (type_parts ts) → b ≡ TupleOf (type_parts us)
    → (IsTrue r ↔ (ts ≡ us)) → (IsTrue r ↔ (a ≡ b))
tuples_same r a b ts us left right h =
    (λ yes. left ∙ (ap (λ is. TupleOf (type_parts is)) (h.0 yes) ∙ sym right), λ same. h.1 (same_parts ts us (sym left ∙ (same ∙ right))))

-- sets are the same where their bases are
pub sets_same : (r : Bool) (a b x y : TypeTree) → a ≡ SetOf x → b ≡ SetOf y → (IsTrue r ↔ (x ≡ y)) → (IsTrue r ↔ (a ≡ b))
sets_same r a b x y left right h =
    (λ yes. left ∙ (ap SetOf (h.0 yes) ∙ sym right), λ same. h.1 (let both : SetOf x ≡ SetOf y = sym left ∙ (same ∙ right) in cc))

-- ranges whose lower bounds are the same, and ranges
module _ (a b : TypeTree) (lo hi l h : ℤ) (left : a ≡ Range lo hi) (right : b ≡ Range l h) where
  both : a ≡ b → Range lo hi ≡ Range l h
  both same = sym left ∙ (same ∙ right)

  bits : (x y : ℤ) → FitsSigned w64 x → FitsSigned w64 y → of_z w64 x ≡ of_z w64 y → x ≡ y
  bits x y f g same = sym (to_z-of_z w64 x f) ∙ (ap (to_z w64) same ∙ to_z-of_z w64 y g)

  pub uppers_same : FitsSigned w64 lo → FitsSigned w64 hi → FitsSigned w64 l → FitsSigned w64 h → of_z w64 lo ≡ of_z w64 l
      → (IsTrue (eqb (of_z w64 hi) (of_z w64 h)) ↔ (a ≡ b))
  uppers_same flo fhi fl fh lower = (
    λ yes. left ∙ ((λ k. Range (bits lo l flo fl lower k) (bits hi h fhi fh (eqb-true (of_z w64 hi) (of_z w64 h) yes) k)) ∙ sym right),
    λ same. eq-eqb (of_z w64 hi) (of_z w64 h) (let ranges = both same in let upper : hi ≡ h = cc in ap (of_z w64) upper),
  )

  pub lowers_other : (of_z w64 lo ≡ of_z w64 l → ⊥) → (IsTrue (eqb (of_z w64 lo) (of_z w64 l)) ↔ (a ≡ b))
  lowers_other other = (
    λ yes. absurd (other (eqb-true (of_z w64 lo) (of_z w64 l) yes)),
    λ same. absurd (other (let ranges = both same in let lower : lo ≡ l = cc in ap (of_z w64) lower)),
  )

-- types of different forms
pub not_boolean : (b : Ty) → (b ≡ ty.Bool → ⊥) → Boolean ≡ type_tree b → ⊥
not_boolean =
    by_type_form (λ b. (b ≡ ty.Bool → ⊥) → Boolean ≡ type_tree b → ⊥)
    (λ other same. other refl)
    (λ lo hi other same. cc (type_tree-Int lo hi))
    (λ ts other same. cc (type_tree-Tuple ts))
    (λ base other same. cc (type_tree-Set base))

pub not_range : (lo hi : ℤ) (b : Ty) → ((l h : ℤ) → b ≡ ty.Int l h → ⊥) → Range lo hi ≡ type_tree b → ⊥
not_range lo hi =
    by_type_form (λ b. ((l h : ℤ) → b ≡ ty.Int l h → ⊥) → Range lo hi ≡ type_tree b → ⊥)
    (λ other same. cc type_tree-Bool)
    (λ l h other same. other l h refl)
    (λ ts other same. cc (type_tree-Tuple ts))
    (λ base other same. cc (type_tree-Set base))

pub not_tuple : (ts : TypeTrees) (b : Ty) → ((us : TyList) → b ≡ ty.Tuple us → ⊥) → TupleOf ts ≡ type_tree b → ⊥
not_tuple ts =
    by_type_form (λ b. ((us : TyList) → b ≡ ty.Tuple us → ⊥) → TupleOf ts ≡ type_tree b → ⊥)
    (λ other same. cc type_tree-Bool)
    (λ lo hi other same. cc (type_tree-Int lo hi))
    (λ us other same. other us refl)
    (λ base other same. cc (type_tree-Set base))

pub not_set : (t : TypeTree) (b : Ty) → ((base : Box Ty Global) → b ≡ ty.Set base → ⊥) → SetOf t ≡ type_tree b → ⊥
not_set t =
    by_type_form (λ b. ((base : Box Ty Global) → b ≡ ty.Set base → ⊥) → SetOf t ≡ type_tree b → ⊥)
    (λ other same. cc type_tree-Bool)
    (λ lo hi other same. cc (type_tree-Int lo hi))
    (λ ts other same. cc (type_tree-Tuple ts))
    (λ base other same. other base refl)
