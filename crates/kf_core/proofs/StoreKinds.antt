-- The values of a type are of its kind, and those of a store of the kinds of its types.
use Rattle.std.proofs.Common.{◌≡◌, pos, ◌+ℤ◌, ◌-ℤ◌, true, List, [], ◌∷◌, length, map, refl, ap}
use Rattle.std.specs.List.{AllByRecursion as Each, range_with_len, list_all}
use Rattle.std.proofs.lemmas.Bool.{and_parts}
use Rattle.kf_value.specs.Values.{ValueTree, Whole, Tuple, Set, parts}
use Rattle.kf_value.specs.Forms.{IsWellFormed, EachWellFormed, HasKind, HaveKinds, AllHaveKind}
use Rattle.kf_value.specs.Types.{TypeTree, TypeTrees, Boolean, Range, TupleOf, SetOf, no_type, more_types, type_parts, values, each_values, combinations, subsets, counted}
use Rattle.kf_value.specs.Sizes.{well_formed}
use Rattle.kf_value.specs.Kinds.{KindTree, WholeKind, kind_parts, more_kinds, kind_of, kinds_of}
use Rattle.kf_value.specs.Stores.{stores}
use Rattle.kf_value.proofs.Ascending.{each_part, each_combination, values_well_formed}
use Rattle.kf_value.proofs.ListLemmas.{each_any, each_at, each_flat_map, each_map, each_weaker}
use Rattle.kf_value.proofs.Trees.{each_values-type_parts}
use Rattle.kf_core.specs.Laws.{StoresHaveKinds}

pub all_have_kind : (k : KindTree) (vs : List ValueTree) → Each (λ v. HasKind v k) vs → AllHaveKind (parts vs) k
all_have_kind k [] h = tt
all_have_kind k (v ∷ vs) h = (h.0, all_have_kind k vs h.1)

pub each_well_formed : (vs : List ValueTree) → Each IsWellFormed vs → EachWellFormed (parts vs)
each_well_formed [] h = tt
each_well_formed (v ∷ vs) h = (h.0, each_well_formed vs h.1)

mutual
  unfolding values each_values

  values_kind : (t : TypeTree) → Each (λ v. HasKind v (kind_of t)) (values t)
  values_kind Boolean = (tt, (tt, tt))
  values_kind (Range lo hi) =
      each_map (λ v. HasKind v WholeKind) (λ k. Whole (lo +ℤ pos k)) (range_with_len 0 (counted (hi -ℤ lo)))
      (each_any (λ k. HasKind (Whole (lo +ℤ pos k)) WholeKind) (λ k. tt) (range_with_len 0 (counted (hi -ℤ lo))))
  values_kind (TupleOf ts) =
      each_map (λ v. HasKind v (kind_of (TupleOf ts))) (λ vs. Tuple (parts vs)) (combinations (each_values ts)) (combinations_kinds ts)
  values_kind (SetOf base) =
      each_map (λ v. HasKind v (kind_of (SetOf base))) (λ vs. Set (parts vs)) (subsets (values base))
      (each_weaker (Each (λ v. HasKind v (kind_of base))) (λ vs. AllHaveKind (parts vs) (kind_of base)) (all_have_kind (kind_of base)) (subsets (values base))
      (each_part (λ v. HasKind v (kind_of base)) (values base) (values_kind base)))

  combinations_kinds : (ts : TypeTrees) → Each (λ vs. HaveKinds (parts vs) (kinds_of ts)) (combinations (each_values ts))
  combinations_kinds no_type = (tt, tt)
  combinations_kinds (more_types t ts) =
      let rests = combinations (each_values ts) in
      each_flat_map (λ vs. HaveKinds (parts vs) (kinds_of (more_types t ts))) (λ v. map (λ rest. v ∷ rest) rests) (values t)
      (each_weaker (λ v. HasKind v (kind_of t)) (λ v. Each (λ vs. HaveKinds (parts vs) (kinds_of (more_types t ts))) (map (λ rest. v ∷ rest) rests))
      (λ v h. each_map (λ vs. HaveKinds (parts vs) (kinds_of (more_types t ts))) (λ rest. v ∷ rest) rests
      (each_weaker (λ rest. HaveKinds (parts rest) (kinds_of ts)) (λ rest. HaveKinds (parts (v ∷ rest)) (kinds_of (more_types t ts))) (λ rest hs. (h, hs)) rests
      (combinations_kinds ts)))
      (values t) (values_kind t))

kinds_of-type_parts : (ts : List TypeTree) → kinds_of (type_parts ts) ≡ kind_parts (map kind_of ts)
kinds_of-type_parts [] = refl
kinds_of-type_parts (t ∷ ts) = ap (more_kinds (kind_of t)) (kinds_of-type_parts ts)

types_formed : (ts : List TypeTree) → list_all well_formed ts ≡ true → Each (Each IsWellFormed) (map values ts)
types_formed [] h = tt
types_formed (t ∷ ts) h =
    let both = and_parts (well_formed t) (list_all well_formed ts) h in
    (values_well_formed t both.0, types_formed ts both.1)

store_kinds : (ts : List TypeTree) → Each (λ s. HaveKinds (parts s) (kind_parts (map kind_of ts))) (combinations (map values ts))
store_kinds ts =
    let known = combinations_kinds (type_parts ts) in
    rw (each_values-type_parts ts, kinds_of-type_parts ts) at known

pub stores_have_kinds : StoresHaveKinds
unfolding stores
stores_have_kinds ts n s formed here =
    let well = each_at (λ vs. Each IsWellFormed vs × (length vs ≡ length (map values ts))) (combinations (map values ts)) n s
    (each_combination IsWellFormed (map values ts) (types_formed ts formed)) here in
    record {
      kinds = each_at (λ vs. HaveKinds (parts vs) (kind_parts (map kind_of ts))) (combinations (map values ts)) n s (store_kinds ts) here;
      formed = each_well_formed s well.0;
    }
