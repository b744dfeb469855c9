-- A type that breaks no rule has a size, some values, and tuples of at least two parts.
use Rattle.std.specs.Prelude.{if◌then◌else◌}
use Rattle.std.proofs.Common.{◌≡◌, ℕ, ℤ, ◌-ℤ◌, ◌*◌, ◌<◌, ◌≤◌, suc, Bool, true, false, ◌&&◌, length, nat_le, Option, None, Some, Ok, refl, sym, ap, subst, arith}
use Rattle.std.proofs.Math.Nat.{mul-le-mul_left}
use Rattle.std.proofs.lemmas.Nat.{pow_pos}
use Rattle.std.proofs.lemmas.Int.{ints}
use Rattle.std.proofs.lemmas.Bool.Decides.{nat_tests}
use Rattle.kf_value.specs.declared.ty.TyFault.{TyFault}
use Rattle.kf_value.specs.declared.ty.TyFault.TheVariants.{BadRange}
use Rattle.kf_value.specs.Types.{TypeTree, TypeTrees, Boolean, Range, TupleOf, SetOf, no_type, more_types, count, counts, product, in_bounds, counted}
use Rattle.kf_value.specs.Sizes.{type_list, fault_within, first_fault, crowded, crowded_after, first_of, well_formed, each_well_formed, HasSize}
use Rattle.kf_ast.specs.TypeForms.{TypeForm, TypeShape, TypeForms, type_at, no_types}
use Rattle.kf_ast.specs.TypeForms as form
use Rattle.kf_ast.specs.Built.{type_count, IsTypeBuilt, IsTypeShapeBuilt, AreTypesBuilt}
use Rattle.kf_check.specs.Types.{greatest_size, JudgesType}
use Rattle.kf_check.specs.Laws.{plain_type, plain_shape, plain_types}
use Rattle.kf_check.proofs.SizesAgree.{type_same}

as_many_parts : (xs : TypeForms) → type_count xs ≡ length (type_list (plain_types xs))
as_many_parts no_types = refl
as_many_parts (form.more_types x xs) = ap suc (as_many_parts xs)

pub both : (a b : Bool) → a ≡ true → b ≡ true → (a && b) ≡ true
both a b h g = rw (h, g) refl

at_least_two : (n : ℕ) → 2 ≤ n → nat_le 2 n ≡ true
at_least_two n h = grind (arith, nat_tests)

mutual
  pub plain_formed : (x : TypeForm) → IsTypeBuilt x → well_formed (plain_type x) ≡ true
  plain_formed (type_at at shape) b = shape_formed shape b

  shape_formed : (shape : TypeShape) → IsTypeShapeBuilt shape → well_formed (plain_shape shape) ≡ true
  shape_formed form.Boolean b = refl
  shape_formed (form.Range lo hi) b = refl
  shape_formed (form.TupleOf xs) b =
      both (nat_le 2 (length (type_list (plain_types xs)))) (each_well_formed (plain_types xs)) (at_least_two (length (type_list (plain_types xs))) (subst (λ n. 2 ≤ n) (as_many_parts xs) b.0)) (all_formed xs b.1)
  shape_formed (form.SetOf x) b = plain_formed x b

  all_formed : (xs : TypeForms) → AreTypesBuilt xs → each_well_formed (plain_types xs) ≡ true
  all_formed no_types b = refl
  all_formed (form.more_types x xs) b = both (well_formed (plain_type x)) (each_well_formed (plain_types xs)) (plain_formed x b.0) (all_formed xs b.1)

upright : (lo hi : ℤ) → in_bounds lo hi ≡ true → 0 < counted (hi -ℤ lo)
upright lo hi h = grind (arith, ints)

pub product_some : (a b : ℕ) → 0 < a → 0 < b → 0 < a * b
product_some a b ha hb = let grown : a * 1 ≤ a * b = mul-le-mul_left a hb in omega arith

no_fault_after : (o : Option TyFault) (limit : ℕ) (t : TypeTree) → crowded_after o limit t ≡ None → o ≡ None
no_fault_after None limit t h = refl
no_fault_after (Some f) limit t h = absurd (cc)

no_first : (o p : Option TyFault) → first_of o p ≡ None → (o ≡ None) × (p ≡ None)
no_first None p h = (refl, h)
no_first (Some f) p h = absurd (cc)

mutual
  pub valued : (t : TypeTree) (limit : ℕ) → fault_within limit t ≡ None → 0 < count t
  valued Boolean limit h = omega arith
  valued (Range lo hi) limit h = by (in_bounds lo hi) refl h
    where
      by : (b : Bool) → in_bounds lo hi ≡ b → (if b then crowded limit (count (Range lo hi)) else Some BadRange) ≡ None → 0 < count (Range lo hi)
      by true inside h = upright lo hi inside
      by false outside h = absurd (cc)
  valued (TupleOf ts) limit h = all_valued ts (no_fault_after (first_fault ts) limit (TupleOf ts) h)
  valued (SetOf t) limit h = pow_pos (count t)

  all_valued : (ts : TypeTrees) → first_fault ts ≡ None → 0 < product (counts ts)
  all_valued no_type h = omega arith
  all_valued (more_types t ts) h = let none = no_first (fault_within 65536 t) (first_fault ts) h in product_some (count t) (product (counts ts)) (valued t 65536 none.0) (all_valued ts none.1)

module _ (y : TypeForm) (t : TypeTree) (judged : JudgesType greatest_size y (Ok t)) where
  plain : (t ≡ plain_type y) × (fault_within 65536 (plain_type y) ≡ None)
  plain = type_same greatest_size (omega arith) y (Ok t) judged

  pub sized : HasSize t
  sized = subst HasSize (sym plain.0) plain.1

  pub formed : IsTypeBuilt y → well_formed t ≡ true
  formed b = subst (λ u. well_formed u ≡ true) (sym plain.0) (plain_formed y b)

  pub some_values : 0 < count t
  some_values = valued t 65536 sized
