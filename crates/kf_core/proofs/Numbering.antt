-- The number of the target's value in a store is what the store becomes at the target's variables.
use Rattle.std.proofs.Common.{◌≡◌, ℕ, suc, ◌*◌, ◌<◌, ◌==◌, false, List, [], ◌∷◌, length, map, get_or, slice_get, Option, Some, None, refl, sym, ap, subst, ◌∙◌, arith}
use Rattle.std.specs.Option.{option_map, unwrap_or}
use Rattle.std.specs.List.{All, IsDistinct, AllByRecursion as Each}
use Rattle.std.proofs.lemmas.List.Elements.{All-from_recursion}
use Rattle.std.proofs.lemmas.Option.{slice_get-map, slice_get-get_or, slice_get_within, get_or_from_slice_get}
use Rattle.std.proofs.lemmas.Bool.{ne_eqb}
use Rattle.kf_value.specs.Values.{ValueTree, Truth}
use Rattle.kf_value.specs.Types.{TypeTree, count, product}
use Rattle.kf_value.specs.Targets.{Item}
use Rattle.kf_value.specs.Numbers.{target_size}
use Rattle.kf_core.specs.Checked.{IsChecked}
use Rattle.kf_core.specs.Joint.{target_number, target_values_at}
use Rattle.kf_core.specs.Programs.{ProgramTree}
use Rattle.kf_core.specs.Runs.{store_at}
use Rattle.kf_core.proofs.Stores.{length-store, store_is, store_number_is}
use Rattle.kf_column.specs.Laws.{AreAt, ProjectedNumbers}
use Rattle.kf_column.specs.Projection.{at_places, projected}

-- ---- values read at places

-- each of these types is that of the variable at its place
abbrev pub Reads : List TypeTree → List TypeTree → List ℕ → Type 0
Reads ts [] [] = Unit {0}
Reads ts [] (i ∷ places) = ⊥
Reads ts (u ∷ us) [] = ⊥
Reads ts (u ∷ us) (i ∷ places) = (slice_get ts i ≡ Some u) × Reads ts us places

-- their sizes are those at the places
sizes_read : (ts us : List TypeTree) (places : List ℕ) → Reads ts us places → map count us ≡ at_places places (map count ts)
sizes_read ts [] [] h = refl
sizes_read ts [] (i ∷ places) h = absurd h
sizes_read ts (u ∷ us) [] h = absurd h
sizes_read ts (u ∷ us) (i ∷ places) h =
    let one : get_or (map count ts) i 0 ≡ count u = get_or_from_slice_get (map count ts) i (count u) 0 (slice_get-map count ts i ∙ ap (option_map count) h.0) in
    let others = sizes_read ts us places h.1 in
    λ k. sym one k ∷ others k

-- the places are places of variables
places_within : (ts us : List TypeTree) (places : List ℕ) → Reads ts us places → Each (λ i. i < length ts) places
places_within ts [] [] h = tt
places_within ts [] (i ∷ places) h = absurd h
places_within ts (u ∷ us) [] h = absurd h
places_within ts (u ∷ us) (i ∷ places) h = (slice_get_within ts i u h.0, places_within ts us places h.1)

-- the types are those at the places
reads_at : (ts us : List TypeTree) (places : List ℕ) → Reads ts us places → AreAt ts places us
reads_at ts [] [] h = refl
reads_at ts [] (i ∷ places) h = absurd h
reads_at ts (u ∷ us) [] h = absurd h
reads_at ts (u ∷ us) (i ∷ places) h = (let others = reads_at ts us places h.1 in λ k. h.0 k ∷ others k)

-- and so are the values
values_at : (s : List ValueTree) (places : List ℕ) → Each (λ i. i < length s) places → AreAt s places (map (λ i. get_or s i (Truth false)) places)
values_at s [] h = refl
values_at s (i ∷ places) h = (let one = slice_get-get_or s i (Truth false) h.0 in let others = values_at s places h.1 in λ k. one k ∷ others k)

-- ---- the target of a checked program

-- each item is read at its place
reads_from : (ts : List TypeTree) (items : List Item) (slots : List ℕ) → length items ≡ length slots
    → ((j slot : ℕ) (item : Item) → slice_get items j ≡ Some item → slice_get slots j ≡ Some slot → slice_get ts slot ≡ Some item.ty) → Reads ts (map (λ i. i.ty) items) slots
reads_from ts [] [] long h = tt
reads_from ts [] (i ∷ slots) long h = absurd (omega (arith, long))
reads_from ts (x ∷ items) [] long h = absurd (omega (arith, long))
reads_from ts (x ∷ items) (i ∷ slots) long h = (h 0 i x refl refl, reads_from ts items slots (omega (arith, long)) (λ j slot item here there. h (suc j) slot item here there))

-- a place that stands nowhere in a list differs from all in it
others_differ : (i : ℕ) (slots : List ℕ) → ((k : ℕ) → ¬ (slice_get slots k ≡ Some i)) → Each (λ j. (i == j) ≡ false) slots
others_differ i [] none = tt
others_differ i (j ∷ slots) none = (ne_eqb i j (λ e. none 0 (ap (λ k. Some k) (sym e))), others_differ i slots (λ k at. none (suc k) at))

-- places that stand once each are distinct
distinct_slots : (slots : List ℕ) → ((j k slot : ℕ) → slice_get slots j ≡ Some slot → slice_get slots k ≡ Some slot → j ≡ k) → IsDistinct (λ i j. i == j) slots
unfolding IsDistinct
distinct_slots [] apart = tt
distinct_slots (i ∷ slots) apart = (
  others_differ i slots (λ k at. absurd (omega (arith, apart 0 (suc k) i refl at))),
  distinct_slots slots (λ j k slot here there. omega (arith, apart (suc j) (suc k) slot here there)),
)

-- a target has as many values as its types together
size_is : (items : List Item) → target_size items ≡ product (map count (map (λ i. i.ty) items))
size_is [] = refl
size_is (x ∷ items) = ap (λ n. count x.ty * n) (size_is items)

abbrev number_or : Option ℕ → ℕ
number_or m = unwrap_or m 0

module _ (p : ProgramTree) (checked : IsChecked p) where
  abbrev target_types : List TypeTree
  target_types = map (λ i. i.ty) p.target

  target_reads : Reads p.types target_types p.target_slots
  target_reads = reads_from p.types p.target p.target_slots checked.targeted (λ j slot item here there. (checked.read j slot item here there).type_is)

  -- the target's items are read from variables
  pub slots_within : All (λ i. i < length p.types) p.target_slots
  slots_within = All-from_recursion (λ i. i < length p.types) p.target_slots (places_within p.types target_types p.target_slots target_reads)

  -- no two from one
  pub slots_distinct : IsDistinct (λ i j. i == j) p.target_slots
  slots_distinct = distinct_slots p.target_slots checked.apart

  -- the target has as many values as the variables from which it is read
  pub target_size_is : target_size p.target ≡ product (at_places p.target_slots (map count p.types))
  target_size_is = size_is p.target ∙ ap product (sizes_read p.types target_types p.target_slots target_reads)

  -- what a store becomes is the number of the target's value in it
  pub target_number_is : ProjectedNumbers → (n : ℕ) → n < product (map count p.types) → projected (map count p.types) p.target_slots n ≡ target_number p n
  target_number_is numbers n below =
      let store = store_is p.types n below in
      let long : length (store_at p.types n) ≡ length p.types = length-store p.types n (store_at p.types n) store in
      let within = subst (λ m. Each (λ i. i < m) p.target_slots) (sym long) (places_within p.types target_types p.target_slots target_reads) in
      let at =
      numbers p.types target_types p.target_slots n (store_at p.types n) (target_values_at p n) store (reads_at p.types target_types p.target_slots target_reads)
      (values_at (store_at p.types n) p.target_slots within) in
      sym (ap number_or (store_number_is target_types (projected (map count p.types) p.target_slots n) (target_values_at p n) at))
