-- Each value of a type with a size has a literal.
use Rattle.std.specs.Prelude.{nat_le, if◌then◌else◌}
use Rattle.std.proofs.Common.{◌≡◌, ℕ, zero, suc, ℤ, pos, ◌+◌, ◌+ℤ◌, ◌-ℤ◌, ◌<◌, ◌≤◌, Bool, true, false, List, [], ◌∷◌, length, map, get_or, Option, Some, None, refl, ap, subst, arith, rules}
use Rattle.std.specs.List.{AllByRecursion as Each, range_with_len}
use Rattle.std.specs.List.Sorted.{IsStrictlySortedBy}
use Rattle.std.proofs.lemmas.Bool.{and_parts}
use Rattle.std.proofs.lemmas.Bool.Decides.{nat_tests}
use Rattle.std.proofs.lemmas.Int.{ints}
use Rattle.kf_value.specs.declared.ty.TyFault.{TyFault}
use Rattle.kf_value.specs.declared.ty.TyFault.TheVariants.{BadRange, TooManyValues}
use Rattle.kf_value.specs.Forms.{IsWellFormed}
use Rattle.kf_value.specs.Values.{ValueTree, Truth, Whole, Tuple, Set, parts, order}
use Rattle.kf_value.specs.Types.{TypeTree, TypeTrees, Boolean, Range, TupleOf, SetOf, no_type, more_types, values, each_values, combinations, subsets, count, counted, in_bounds}
use Rattle.kf_value.specs.Sizes.{HasSize, HasNumber, well_formed, each_well_formed, type_list, fault_within, first_fault, first_of, crowded, crowded_after}
use Rattle.kf_value.proofs.Ascending.{each_part, length-values, values_well_formed}
use Rattle.kf_value.proofs.ListLemmas.{each_at, each_both, each_flat_map, each_map, each_weaker}
use Rattle.kf_value.proofs.Trees.{parts_list-parts}
use Rattle.kf_core.proofs.FirstStore.{some_stores}
use Rattle.kf_prior.specs.Literals.{IsShort, IsBase, HasLiteral, HaveLiterals, least_of}

-- ---- what a type without a fault has

no_crowd : (b : Bool) (limit n : ℕ) → nat_le n limit ≡ b → (if b then None else Some TooManyValues) ≡ None → n ≤ limit
no_crowd true limit n is h = grind (arith, nat_tests)
no_crowd false limit n is h = (cc)

room : (low high n : ℕ) → low ≤ high → crowded low n ≡ None → crowded high n ≡ None
room low high n le h =
    let few = no_crowd (nat_le n low) low n refl h in
    let fits : nat_le n high ≡ true = grind (arith, nat_tests) in
    ap (λ b. if b then None else Some TooManyValues) fits

room_after : (inner : Option TyFault) (low high : ℕ) (t : TypeTree) → low ≤ high → crowded_after inner low t ≡ None → crowded_after inner high t ≡ None
room_after None low high t le h = room low high (count t) le h
room_after (Some fault) low high t le h = h

room_in_range : (ok : Bool) (low high n : ℕ) → low ≤ high → (if ok then crowded low n else Some BadRange) ≡ None → (if ok then crowded high n else Some BadRange) ≡ None
room_in_range true low high n le h = room low high n le h
room_in_range false low high n le h = h

-- what has no fault within a limit has none within a higher one
roomy : (low high : ℕ) (t : TypeTree) → low ≤ high → fault_within low t ≡ None → fault_within high t ≡ None
roomy low high Boolean le h = room low high 2 le h
roomy low high (Range lo hi) le h = room_in_range (in_bounds lo hi) low high (count (Range lo hi)) le h
roomy low high (TupleOf ts) le h = room_after (first_fault ts) low high (TupleOf ts) le h
roomy low high (SetOf base) le h = room_after (fault_within 16 base) low high (SetOf base) le h

inner_none : (inner : Option TyFault) (limit : ℕ) (t : TypeTree) → crowded_after inner limit t ≡ None → inner ≡ None
inner_none None limit t h = refl
inner_none (Some fault) limit t h = (cc)

both_none : (a b : Option TyFault) → first_of a b ≡ None → (a ≡ None) × (b ≡ None)
both_none None b h = (refl, h)
both_none (Some fault) b h = (cc)

bounded : (ok : Bool) (lo hi : ℤ) (limit : ℕ) → in_bounds lo hi ≡ ok → (if ok then crowded limit (counted (hi -ℤ lo)) else Some BadRange) ≡ None → in_bounds lo hi ≡ true
bounded true lo hi limit is h = is
bounded false lo hi limit is h = (cc)

pub some_values : (t : TypeTree) → HasSize t → 0 < count t
some_values t sized = let some = some_stores (t ∷ []) (search (rules)) in omega arith

pub sized_base : (base : TypeTree) → fault_within 16 base ≡ None → IsBase base
sized_base base h = let sized = roomy 16 65536 base (omega arith) h in record { sized = sized; some = some_values base sized }

-- ---- numbers

each_in_range : (P : ℕ → Type 0) (a n : ℕ) → ((k : ℕ) → k < a + n → P k) → Each P (range_with_len a n)
each_in_range P a zero h = tt
each_in_range P a (suc n) h = (h a (omega arith), each_in_range P (a + 1) n (λ k below. h k (omega arith)))

short_in : (lo hi : ℤ) (k : ℕ) → in_bounds lo hi ≡ true → k < counted (hi -ℤ lo) → IsShort (lo +ℤ pos k)
short_in lo hi k inside below = record { low = grind (arith, ints); high = grind (arith, ints) }

pub short_low : (lo hi : ℤ) → in_bounds lo hi ≡ true → IsShort lo × IsShort hi
short_low lo hi inside = (record { low = grind (arith, ints); high = grind (arith, ints) }, record { low = grind (arith, ints); high = grind (arith, ints) })

-- ---- values

each_of_map : {X Y : Type 0} (P : Y → Type 0) (f : X → Y) (xs : List X) → Each P (map f xs) → Each (λ x. P (f x)) xs
each_of_map P f [] h = tt
each_of_map P f (x ∷ xs) h = (h.0, each_of_map P f xs h.1)

first_of_each : (P : ValueTree → Type 0) (vs : List ValueTree) → 0 < length vs → Each P vs → P (get_or vs 0 (Truth false))
first_of_each P [] some h = absurd (omega arith)
first_of_each P (v ∷ vs) some h = h.0

formed_tuple : (s : List ValueTree) → IsWellFormed (Tuple (parts s)) → 2 ≤ length s
formed_tuple s h = rw (parts_list-parts s) at h.0

formed_set : (s : List ValueTree) → IsWellFormed (Set (parts s)) → IsStrictlySortedBy order s
formed_set s h = subst (IsStrictlySortedBy order) (parts_list-parts s) h.0

mutual
  unfolding values each_values

  have_literals : (limit : ℕ) (t : TypeTree) → fault_within limit t ≡ None → well_formed t ≡ true → Each (HasLiteral t) (values t)
  have_literals limit Boolean sized formed = ((false, refl), ((true, refl), tt))
  have_literals limit (Range lo hi) sized formed =
      let inside = bounded (in_bounds lo hi) lo hi limit refl sized in
      each_map (HasLiteral (Range lo hi)) (λ k. Whole (lo +ℤ pos k)) (range_with_len 0 (counted (hi -ℤ lo)))
      (each_in_range (λ k. HasLiteral (Range lo hi) (Whole (lo +ℤ pos k))) 0 (counted (hi -ℤ lo))
      (λ k below. (lo +ℤ pos k, refl, short_in lo hi k inside (omega arith))))
  have_literals limit (TupleOf ts) sized formed =
      let inner = inner_none (first_fault ts) limit (TupleOf ts) sized in
      let each_formed = (and_parts (nat_le 2 (length (type_list ts))) (each_well_formed ts) formed).1 in
      each_map (HasLiteral (TupleOf ts)) (λ vs. Tuple (parts vs)) (combinations (each_values ts))
      (each_both (λ vs. IsWellFormed (Tuple (parts vs))) (HaveLiterals ts) (λ vs. HasLiteral (TupleOf ts) (Tuple (parts vs)))
      (λ vs well have. (vs, refl, formed_tuple vs well, have)) (combinations (each_values ts))
      (each_of_map IsWellFormed (λ vs. Tuple (parts vs)) (combinations (each_values ts)) (values_well_formed (TupleOf ts) formed))
      (combinations_literals ts inner each_formed))
  have_literals limit (SetOf base) sized formed =
      let inner = inner_none (fault_within 16 base) limit (SetOf base) sized in
      let is_base = sized_base base inner in
      let known = have_literals 16 base inner formed in
      let some : 0 < length (values base) = rw (length-values base) is_base.some in
      let least = first_of_each (HasLiteral base) (values base) some known in
      each_map (HasLiteral (SetOf base)) (λ vs. Set (parts vs)) (subsets (values base))
      (each_both (λ vs. IsWellFormed (Set (parts vs))) (Each (HasLiteral base)) (λ vs. HasLiteral (SetOf base) (Set (parts vs)))
      (λ vs well have. (vs, refl, formed_set vs well, is_base, least, have)) (subsets (values base))
      (each_of_map IsWellFormed (λ vs. Set (parts vs)) (subsets (values base)) (values_well_formed (SetOf base) formed))
      (each_part (HasLiteral base) (values base) known))

  combinations_literals : (ts : TypeTrees) → first_fault ts ≡ None → each_well_formed ts ≡ true → Each (HaveLiterals ts) (combinations (each_values ts))
  combinations_literals no_type sized formed = (tt, tt)
  combinations_literals (more_types t ts) sized formed =
      let none = both_none (fault_within 65536 t) (first_fault ts) sized in
      let forms = and_parts (well_formed t) (each_well_formed ts) formed in
      let rests = combinations (each_values ts) in
      each_flat_map (HaveLiterals (more_types t ts)) (λ v. map (λ rest. v ∷ rest) rests) (values t)
      (each_weaker (HasLiteral t) (λ v. Each (HaveLiterals (more_types t ts)) (map (λ rest. v ∷ rest) rests))
      (λ v has. each_map (HaveLiterals (more_types t ts)) (λ rest. v ∷ rest) rests
      (each_weaker (HaveLiterals ts) (λ rest. HaveLiterals (more_types t ts) (v ∷ rest)) (λ rest have. (has, have)) rests
      (combinations_literals ts none.1 forms.1)))
      (values t) (have_literals 65536 t none.0 forms.0))

pub values_literals : (t : TypeTree) → HasSize t → well_formed t ≡ true → Each (HasLiteral t) (values t)
values_literals t sized formed = have_literals 65536 t sized formed

pub value_literal : (t : TypeTree) (v : ValueTree) (n : ℕ) → HasSize t → well_formed t ≡ true → HasNumber t v n → HasLiteral t v
value_literal t v n sized formed here = each_at (HasLiteral t) (values t) n v (values_literals t sized formed) here

-- the bounds of a range
pub range_short : (lo hi : ℤ) → HasSize (Range lo hi) → IsShort lo × IsShort hi
range_short lo hi sized = short_low lo hi (bounded (in_bounds lo hi) lo hi 65536 refl sized)

few_in : (ok : Bool) (n : ℕ) → (if ok then crowded 65536 n else Some BadRange) ≡ None → n ≤ 65536
few_in true n h = no_crowd (nat_le n 65536) 65536 n refl h
few_in false n h = (cc)

pub range_few : (lo hi : ℤ) → HasSize (Range lo hi) → counted (hi -ℤ lo) ≤ 65536
range_few lo hi sized = few_in (in_bounds lo hi) (counted (hi -ℤ lo)) sized
