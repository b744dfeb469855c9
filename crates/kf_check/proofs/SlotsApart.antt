-- No two items of a target are read from one variable.
use Rattle.std.proofs.Common.{◌≡◌, ℕ, suc, zero, ◌+◌, ◌<◌, ◌≤◌, true, false, List, [], ◌∷◌, length, slice_get, get_or, Some, Ok, refl, sym, ap, ◌∙◌, subst, arith, inl, inr, ◌⊎◌, Contains}
use Rattle.std.proofs.lemmas.List.Elements.{Contains-append_right}
use Rattle.std.proofs.lemmas.List.FromFn.{get_or-range_with_len, length-range_with_len}
use Rattle.std.proofs.lemmas.Option.{slice_get_within, get_or_from_slice_get}
use Rattle.std.specs.List.{range_with_len}
use Rattle.kf_value.specs.Types.{TypeTree}
use Rattle.kf_value.specs.Targets.{Item}
use Rattle.kf_ast.specs.Names.{name}
use Rattle.kf_ast.specs.Sources.{ItemTree, item}
use Rattle.kf_check.specs.Sources.{Variable, JudgesItems}
use Rattle.kf_check.specs.Translation.{AreItems, IsTarget}
use Rattle.kf_check.specs.Translation as becomes
use Rattle.kf_check.specs.SourceAnswers.{Stands}

-- an equal number stands at one place of a list at most
abbrev pub AreApart : List ℕ → Type 0
AreApart slots = (j k slot : ℕ) → slice_get slots j ≡ Some slot → slice_get slots k ≡ Some slot → j ≡ k

-- of the first places, each stands at its own place
pub place_is : (count j slot : ℕ) → slice_get (range_with_len 0 count) j ≡ Some slot → j ≡ slot
place_is count j slot h =
    let within = slice_get_within (range_with_len 0 count) j slot h in
    let many = length-range_with_len 0 count in
    let low : j < count = omega arith in
    let read : get_or (range_with_len 0 count) j slot ≡ slot = get_or_from_slice_get (range_with_len 0 count) j slot slot h in
    let here : get_or (range_with_len 0 count) j slot ≡ 0 + j = get_or-range_with_len 0 count j slot low in
    omega arith

-- so no two of them are one
places_apart : (count : ℕ) → AreApart (range_with_len 0 count)
places_apart count j k slot h g = place_is count j slot h ∙ sym (place_is count k slot g)

-- two numbers differ where the first is none of those behind it, and those differ
apart_more : (first : ℕ) (slots : List ℕ) → ((m slot : ℕ) → slice_get slots m ≡ Some slot → first ≡ slot → ⊥) → AreApart slots → AreApart (first ∷ slots)
apart_more first slots new rest zero zero slot h g = refl
apart_more first slots new rest zero (suc k) slot h g = absurd (new k slot g (cc))
apart_more first slots new rest (suc j) zero slot h g = absurd (new j slot h (cc))
apart_more first slots new rest (suc j) (suc k) slot h g = ap suc (rest j k slot h g)

-- what stands also stands behind one item more
stands_behind : (i : ItemTree) (stood : List ItemTree) (n : List ℕ) → Stands stood false n → Stands (i ∷ stood) false n
stands_behind i stood n h = (h.0, Contains-append_right (i ∷ []) stood (item false (name n h.0)) h.1)

module _ (vs : List Variable) where
  -- a variable from which an item behind those that stood may be read: a declared one whose name none of them has behind the last statement, or a copy that isn't among the first ones
  abbrev IsFree : List ItemTree → ℕ → ℕ → Type 0
  IsFree stood copies slot = ((slot < length vs) × ((v : Variable) → slice_get vs slot ≡ Some v → ¬ Stands stood false v.name)) ⊎ (length vs + copies ≤ slot)

  -- what is free behind more items and copies is free behind fewer
  free_before : (i : ItemTree) (stood : List ItemTree) (copies more slot : ℕ) → copies ≤ more → IsFree (i ∷ stood) more slot → IsFree stood copies slot
  free_before i stood copies more slot few (inl h) = inl (h.0, λ v found s. h.1 v found (stands_behind i stood v.name s))
  free_before i stood copies more slot few (inr h) = inr (omega arith)

  -- the variable of an item whose name none of those that stood has
  final_free : (stood : List ItemTree) (copies i slot : ℕ) (v : Variable) → slice_get vs i ≡ Some v → ((at : ℕ) → ¬ Contains stood (item false (name v.name at))) → Some i ≡ Some slot → IsFree stood copies slot
  final_free stood copies i slot v found new h =
      let here : i ≡ slot = cc in
      let within = slice_get_within vs i v found in
      inl (omega arith, λ w other s. stood_once w (sym found ∙ (ap (slice_get vs) here ∙ other)) s)
    where
      stood_once : (w : Variable) → Some v ≡ Some w → Stands stood false w.name → ⊥
      stood_once w both s =
          let one : v ≡ w = cc in
          let ours : Stands stood false v.name = subst (λ (u : Variable). Stands stood false u.name) (sym one) s in
          new ours.0 ours.1

  -- each item is read from a variable that is free behind those that stood
  slots_free : {items : List ItemTree} {copies : ℕ} {cs : List ℕ} {is : List Item} {slots : List ℕ} → AreItems vs copies items cs is slots → (stood : List ItemTree) (ts us : List TypeTree) → JudgesItems vs stood ts items (Ok us)
      → (m slot : ℕ) → slice_get slots m ≡ Some slot → IsFree stood copies slot
  slots_free becomes.none stood ts us j m slot h = absurd (cc)
  slots_free {copies = copies} (becomes.final at i {n} {t} found are) stood ts us j zero slot h = final_free stood copies i slot (record { name = n; type = t }) found j.1.2.1.0 h
  slots_free {copies = copies} (becomes.final at i {n} found are) stood ts us j (suc m) slot h =
      free_before (item false (name n at)) stood copies copies slot (omega arith) (slots_free are (item false (name n at) ∷ stood) j.0 us j.2 m slot h)
  slots_free {copies = copies} (becomes.initial at i found are) stood ts us j zero slot h = let here : length vs + copies ≡ slot = cc in inr (omega arith)
  slots_free {copies = copies} (becomes.initial at i {n} found are) stood ts us j (suc m) slot h =
      free_before (item true (name n at)) stood copies (copies + 1) slot (omega arith) (slots_free are (item true (name n at) ∷ stood) j.0 us j.2 m slot h)

  -- the variable of an item behind the last statement isn't free behind it
  final_taken : (stood : List ItemTree) (copies i slot at : ℕ) (v : Variable) → slice_get vs i ≡ Some v → i ≡ slot → IsFree (item false (name v.name at) ∷ stood) copies slot → ⊥
  final_taken stood copies i slot at v found same (inl h) = h.1 v (ap (slice_get vs) (sym same) ∙ found) (at, (0, omega arith, refl))
  final_taken stood copies i slot at v found same (inr h) = let within = slice_get_within vs i v found in omega arith

  -- nor is the copy of an item `old`
  initial_taken : (stood : List ItemTree) (copies slot : ℕ) → length vs + copies ≡ slot → IsFree stood (copies + 1) slot → ⊥
  initial_taken stood copies slot same (inl h) = let low = h.0 in omega arith
  initial_taken stood copies slot same (inr h) = omega arith

  -- items that break no rule are read from different variables
  items_apart : {items : List ItemTree} {copies : ℕ} {cs : List ℕ} {is : List Item} {slots : List ℕ} → AreItems vs copies items cs is slots → (stood : List ItemTree) (ts us : List TypeTree) → JudgesItems vs stood ts items (Ok us)
      → AreApart slots
  items_apart becomes.none stood ts us j = λ j k slot h g. absurd (cc)
  items_apart {copies = copies} (becomes.final at i {n} {t} {slots = slots} found are) stood ts us j =
      apart_more i slots (λ m slot h same. final_taken stood copies i slot at (record { name = n; type = t }) found same (slots_free are (item false (name n at) ∷ stood) j.0 us j.2 m slot h)) (items_apart are (item false (name n at) ∷ stood) j.0 us j.2)
  items_apart {copies = copies} (becomes.initial at i {n} {slots = slots} found are) stood ts us j =
      apart_more (length vs + copies) slots (λ m slot h same. initial_taken (item true (name n at) ∷ stood) copies slot same (slots_free are (item true (name n at) ∷ stood) j.0 us j.2 m slot h)) (items_apart are (item true (name n at) ∷ stood) j.0 us j.2)

-- the items of a target that breaks no rule are read from different variables
pub target_apart : (vs : List Variable) (ts : List TypeTree) {items : List ItemTree} {cs : List ℕ} {is : List Item} {slots : List ℕ} → IsTarget vs items cs is slots → (us : List TypeTree) → JudgesItems vs [] ts items (Ok us) → AreApart slots
target_apart vs ts becomes.all us j = places_apart (length vs)
target_apart vs ts (becomes.about are) us j = items_apart vs are [] ts us j
