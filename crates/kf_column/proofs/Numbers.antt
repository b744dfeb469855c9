-- A store's projection is the number of its values at the slots.
use Rattle.std.proofs.Common.{◌≡◌, ℕ, zero, suc, ◌+◌, ◌*◌, ◌/◌, ◌%◌, List, [], ◌∷◌, length, map, get_or, slice_get, Some, refl, sym, ap, ◌∙◌}
use Rattle.std.specs.Option.{option_map}
use Rattle.std.proofs.lemmas.Option.{slice_get-map, get_or_from_slice_get}
use Rattle.kf_value.specs.Values.{ValueTree}
use Rattle.kf_value.specs.Types.{TypeTree, values, count, product, combinations}
use Rattle.kf_value.specs.Stores.{stores}
use Rattle.kf_value.specs.Numbers.{digits}
use Rattle.kf_value.proofs.Ascending.{length-values}
use Rattle.kf_value.proofs.Places.{length-combinations, combination_at, combination_split}
use Rattle.kf_column.specs.Laws.{AreAt, ProjectedNumbers}
use Rattle.kf_column.specs.Projection.{at_places, projected}

counts : (ts : List TypeTree) → map length (map values ts) ≡ map count ts
counts [] = refl
counts (t ∷ ts) = λ k. length-values t k ∷ counts ts k

-- so many combinations there are
length-all : (ts : List TypeTree) → length (combinations (map values ts)) ≡ product (map count ts)
length-all ts = length-combinations (map values ts) ∙ ap product (counts ts)

-- a variable's value in a store has the digit there as its number
digit_at : (ts : List TypeTree) (n i : ℕ) (s : List ValueTree) (t : TypeTree) → slice_get (combinations (map values ts)) n ≡ Some s → slice_get ts i ≡ Some t
    → slice_get (values t) (get_or (digits (map count ts) n) i 0) ≡ slice_get s i
digit_at [] n i s t at typed = (cc)
digit_at (u ∷ ts) n zero s t at typed =
    let found = combination_split (values u) (map values ts) n s at in
    let one : u ≡ t = (cc) in
    ap (λ x. slice_get (values x) (n / product (map count ts))) (sym one)
    ∙ (ap (λ m. slice_get (values u) (n / m)) (sym (length-all ts)) ∙ (found.2 ∙ ap (λ (l : List ValueTree). slice_get l 0) (sym found.4)))
digit_at (u ∷ ts) n (suc i) s t at typed =
    let found = combination_split (values u) (map values ts) n s at in
    let rest : slice_get (combinations (map values ts)) (n % product (map count ts)) ≡ Some found.1 =
    ap (λ m. slice_get (combinations (map values ts)) (n % m)) (sym (length-all ts)) ∙ found.3 in
    digit_at ts (n % product (map count ts)) i found.1 t rest typed ∙ ap (λ (l : List ValueTree). slice_get l (suc i)) (sym found.4)

-- the sizes of the types at the places are the sizes there
sizes_at : (ts us : List TypeTree) (places : List ℕ) → AreAt ts places us → map count us ≡ at_places places (map count ts)
sizes_at ts [] [] h = refl
sizes_at ts [] (i ∷ places) h = absurd (cc)
sizes_at ts (u ∷ us) [] h = absurd (cc)
sizes_at ts (u ∷ us) (i ∷ places) h =
    let typed : slice_get ts i ≡ Some u = (cc) in
    let others : AreAt ts places us = (cc) in
    let one : get_or (map count ts) i 0 ≡ count u = get_or_from_slice_get (map count ts) i (count u) 0 (slice_get-map count ts i ∙ ap (option_map count) typed) in
    let rest = sizes_at ts us places others in
    λ k. sym one k ∷ rest k

number_is : (ts : List TypeTree) (n : ℕ) (s : List ValueTree) → slice_get (combinations (map values ts)) n ≡ Some s → (us : List TypeTree) (vs : List ValueTree) (places : List ℕ)
    → AreAt ts places us → AreAt s places vs → slice_get (combinations (map values us)) (projected (map count ts) places n) ≡ Some vs
number_is ts n s at [] [] [] h g = refl
number_is ts n s at [] (v ∷ vs) [] h g = absurd (cc)
number_is ts n s at [] vs (i ∷ places) h g = absurd (cc)
number_is ts n s at (u ∷ us) vs [] h g = absurd (cc)
number_is ts n s at (u ∷ us) [] (i ∷ places) h g = absurd (cc)
number_is ts n s at (u ∷ us) (v ∷ vs) (i ∷ places) h g =
    let typed : slice_get ts i ≡ Some u = (cc) in
    let others : AreAt ts places us = (cc) in
    let valued : slice_get s i ≡ Some v = (cc) in
    let left : AreAt s places vs = (cc) in
    let d : ℕ = get_or (digits (map count ts) n) i 0 in
    let m : ℕ = projected (map count ts) places n in
    let long : length (combinations (map values us)) ≡ product (at_places places (map count ts)) = length-all us ∙ ap product (sizes_at ts us places others) in
    combination_at (values u) (map values us) d m (d * product (at_places places (map count ts)) + m) v vs
    (ap (λ k. d * k + m) (sym long)) (digit_at ts n i s u at typed ∙ valued) (number_is ts n s at us vs places others left)

pub projected_numbers : ProjectedNumbers
unfolding stores
projected_numbers ts us slots n s vs at types there = number_is ts n s at us vs slots types there
