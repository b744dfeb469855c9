-- Where the target is all variables and copies, different stores have different target values.
use Rattle.std.proofs.Common.{◌≡◌, ℕ, suc, ◌<◌, false, List, [], ◌∷◌, length, map, get_or, slice_get, Some, refl, sym, ap, subst, ◌∙◌, arith, ⊎_elim}
use Rattle.std.specs.List.{AllByRecursion as Each}
use Rattle.std.proofs.lemmas.List.{ext_get_or}
use Rattle.std.proofs.lemmas.List.Elements.{recursion_from_All}
use Rattle.std.proofs.lemmas.Option.{slice_get-get_or}
use Rattle.kf_value.specs.Numbers.{IsStore}
use Rattle.kf_value.specs.Stores.{stores}
use Rattle.kf_value.specs.Targets.{Item}
use Rattle.kf_value.specs.Types.{TypeTree, count, product}
use Rattle.kf_value.specs.Values.{ValueTree, Truth}
use Rattle.kf_column.specs.Laws.{AreAt, ProjectedNumbers}
use Rattle.kf_column.proofs.AtMostOne.{In}
use Rattle.kf_core.specs.Checked.{IsChecked}
use Rattle.kf_core.specs.Joint.{target_number, target_values_at}
use Rattle.kf_core.specs.Programs.{ProgramTree}
use Rattle.kf_core.specs.Runs.{store_at}
use Rattle.kf_core.proofs.Numbering.{slots_within, target_number_is}
use Rattle.kf_core.proofs.OneTable.{in_from_contains}
use Rattle.kf_core.proofs.Stores.{length-store, length-stores, store_is, store_number_is}
use Rattle.kf_meaning.specs.Trails.{HasAll}

types_at : (ts : List TypeTree) (items : List Item) (slots : List ℕ) → length items ≡ length slots
    → ((j slot : ℕ) (item : Item) → slice_get items j ≡ Some item → slice_get slots j ≡ Some slot → slice_get ts slot ≡ Some item.ty)
    → AreAt ts slots (map (λ i. i.ty) items)
types_at ts [] [] long h = refl
types_at ts [] (i ∷ slots) long h = absurd (omega (arith, long))
types_at ts (x ∷ items) [] long h = absurd (omega (arith, long))
types_at ts (x ∷ items) (i ∷ slots) long h =
    let one = h 0 i x refl refl in
    let others = types_at ts items slots (omega (arith, long)) (λ j slot item here there. h (suc j) slot item here there) in
    λ k. one k ∷ others k

values_at : (s : List ValueTree) (slots : List ℕ) → Each (λ i. i < length s) slots → AreAt s slots (map (λ i. get_or s i (Truth false)) slots)
values_at s [] h = refl
values_at s (i ∷ slots) h = let one = slice_get-get_or s i (Truth false) h.0 in let others = values_at s slots h.1 in λ k. one k ∷ others k

-- lists of values that are alike at places are so at each of them
alike_at : (s t : List ValueTree) (slots : List ℕ) (i : ℕ) → map (λ i. get_or s i (Truth false)) slots ≡ map (λ i. get_or t i (Truth false)) slots
    → In i slots → get_or s i (Truth false) ≡ get_or t i (Truth false)
alike_at s t [] i same here = absurd here
alike_at s t (j ∷ slots) i same here =
    let first : get_or s j (Truth false) ≡ get_or t j (Truth false) = cc in
    let others : map (λ i. get_or s i (Truth false)) slots ≡ map (λ i. get_or t i (Truth false)) slots = cc in
    ⊎_elim (λ (e : i ≡ j). ap (λ k. get_or s k (Truth false)) e ∙ first ∙ ap (λ k. get_or t k (Truth false)) (sym e)) (λ h. alike_at s t slots i others h) here

one_store : (us : List TypeTree) (m n : ℕ) (a b : List ValueTree) → m ≡ n → IsStore us m a → IsStore us n b → a ≡ b
one_store us m n a b same at_m at_n = let both : Some a ≡ Some b = sym at_m ∙ ap (slice_get (stores us)) same ∙ at_n in cc

module _ (p : ProgramTree) (checked : IsChecked p) (numbers : ProjectedNumbers) where
  abbrev us : List TypeTree
  us = map (λ i. i.ty) p.target

  target_store : (n : ℕ) → n < product (map count p.types) → IsStore us (target_number p n) (target_values_at p n)
  target_store n low =
      let store = store_is p.types n low in
      let long : length (store_at p.types n) ≡ length p.types = length-store p.types n (store_at p.types n) store in
      let within = subst (λ m. Each (λ i. i < m) p.target_slots) (sym long) (recursion_from_All (λ i. i < length p.types) p.target_slots (slots_within p checked)) in
      subst (λ m. IsStore us m (target_values_at p n)) (target_number_is p checked numbers n low)
      (numbers p.types us p.target_slots n (store_at p.types n) (target_values_at p n) store
      (types_at p.types p.target p.target_slots checked.targeted (λ j slot item here there. (checked.read j slot item here there).type_is))
      (values_at (store_at p.types n) p.target_slots within))

  module _ (all : HasAll p) where
    same_stores : (m n : ℕ) → m < product (map count p.types) → n < product (map count p.types) → target_values_at p m ≡ target_values_at p n
        → store_at p.types m ≡ store_at p.types n
    same_stores m n low high same =
        let s = store_at p.types m in
        let t = store_at p.types n in
        let long : length s ≡ length p.types = length-store p.types m s (store_is p.types m low) in
        let as_long : length t ≡ length p.types = length-store p.types n t (store_is p.types n high) in
        ext_get_or (Truth false) s t (long ∙ sym as_long)
        (λ i within. alike_at s t p.target_slots i same (in_from_contains p.target_slots i (all i (omega (arith, within, long)))))

    tells : (m n : ℕ) → m < product (map count p.types) → n < product (map count p.types) → target_number p m ≡ target_number p n → m ≡ n
    tells m n low high same =
        let values = one_store us (target_number p m) (target_number p n) (target_values_at p m) (target_values_at p n) same (target_store m low) (target_store n high) in
        let stores = same_stores m n low high values in
        let at : IsStore p.types n (store_at p.types m) = subst (λ s. IsStore p.types n s) (sym stores) (store_is p.types n high) in
        let both : Some m ≡ Some n = sym (store_number_is p.types m (store_at p.types m) (store_is p.types m low)) ∙ store_number_is p.types n (store_at p.types m) at in
        cc

    -- no two stores have the same number
    pub tells_stores : (m n : ℕ) → m < length (stores p.types) → n < length (stores p.types) → target_number p m ≡ target_number p n → m ≡ n
    tells_stores m n low high same = let many = length-stores p.types in tells m n (omega (arith, low, many)) (omega (arith, high, many)) same
