-- A shape has a first store, since each of its types has a value.
use Rattle.std.specs.Prelude.{if◌then◌else◌}
use Rattle.std.proofs.Common.{◌≡◌, ℕ, ℤ, ◌*◌, ◌<◌, ◌≤◌, ◌-ℤ◌, Bool, true, false, List, [], ◌∷◌, All, map, Option, None, Some, refl, arith}
use Rattle.std.proofs.Math.Nat.{mul-le-mul_left}
use Rattle.std.proofs.lemmas.Nat.{pow_pos}
use Rattle.std.proofs.lemmas.Int.{ints}
use Rattle.std.proofs.lemmas.List.Elements.{All-head, All-tail}
use Rattle.kf_value.specs.declared.ty.TyFault.{TyFault}
use Rattle.kf_value.specs.declared.ty.TyFault.TheVariants.{BadRange}
use Rattle.kf_value.specs.declared.shape.Shape.{Shape}
use Rattle.kf_value.specs.Types.{TypeTree, TypeTrees, Boolean, Range, TupleOf, SetOf, no_type, more_types, count, counts, product, in_bounds, counted}
use Rattle.kf_value.specs.Sizes.{fault_within, fault_of, first_fault, first_of, crowded, crowded_after}
use Rattle.kf_value.specs.Shapes.{shape_types, shape_sizes}

inside : (inner : Option TyFault) (limit : ℕ) (t : TypeTree) → crowded_after inner limit t ≡ None → inner ≡ None
inside None limit t h = refl
inside (Some fault) limit t h = (cc)

both : (a b : Option TyFault) → first_of a b ≡ None → (a ≡ None) × (b ≡ None)
both None b h = (refl, h)
both (Some fault) b h = (cc)

upright : (lo hi : ℤ) → in_bounds lo hi ≡ true → 0 < counted (hi -ℤ lo)
upright lo hi h = grind (arith, ints)

range_some : (ok : Bool) (lo hi : ℤ) (limit : ℕ) → in_bounds lo hi ≡ ok → (if ok then crowded limit (counted (hi -ℤ lo)) else Some BadRange) ≡ None → 0 < counted (hi -ℤ lo)
range_some false lo hi limit is h = (cc)
range_some true lo hi limit is h = upright lo hi is

times_some : (a b : ℕ) → 0 < a → 0 < b → 0 < a * b
times_some a b p q = let grown : a * 1 ≤ a * b = mul-le-mul_left a q in omega arith

mutual
  some_values : (limit : ℕ) (t : TypeTree) → fault_within limit t ≡ None → 0 < count t
  some_values limit Boolean h = omega arith
  some_values limit (Range lo hi) h = range_some (in_bounds lo hi) lo hi limit refl h
  some_values limit (TupleOf ts) h = each_some ts (inside (first_fault ts) limit (TupleOf ts) h)
  some_values limit (SetOf base) h = pow_pos (count base)

  each_some : (ts : TypeTrees) → first_fault ts ≡ None → 0 < product (counts ts)
  each_some no_type h = omega arith
  each_some (more_types t ts) h =
      let parts = both (fault_within 65536 t) (first_fault ts) h in
      times_some (count t) (product (counts ts)) (some_values 65536 t parts.0) (each_some ts parts.1)

pub some_stores : (ts : List TypeTree) → All (λ t. fault_of t ≡ None) ts → 0 < product (map count ts)
some_stores [] sized = omega arith
some_stores (t ∷ ts) sized =
    times_some (count t) (product (map count ts)) (some_values 65536 t (All-head (λ t. fault_of t ≡ None) t ts sized)) (some_stores ts (All-tail (λ t. fault_of t ≡ None) t ts sized))

-- a shape has a store
pub first_store_there : (shape : Shape) → 0 < product (shape_sizes shape)
first_store_there shape = some_stores (shape_types shape) shape.sized
