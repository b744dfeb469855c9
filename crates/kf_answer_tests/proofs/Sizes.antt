-- How many values types without a fault have, as `types_and_values` asks for them.
use Rattle.std.specs.Prelude.{nat_le, if◌then◌else◌}
use Rattle.std.proofs.Common.{◌≡◌, ℕ, ◌≤◌, Bool, true, false, Option, None, Some, Result, Ok, Err, refl, arith}
use Rattle.std.proofs.lemmas.Bool.Decides.{nat_tests}
use Rattle.kf_value.specs.declared.ty.TyFault.{TyFault}
use Rattle.kf_value.specs.declared.ty.TyFault.TheVariants.{BadRange, TooManyValues}
use Rattle.kf_value.specs.Types.{TypeTree, Boolean, Range, TupleOf, SetOf, count, in_bounds}
use Rattle.kf_value.specs.Sizes.{fault_within, first_fault, crowded, crowded_after, size_within, HasSize}

-- a size, or the fault that stands in its way
abbrev held : Option TyFault → ℕ → Result ℕ TyFault
held o n = elim o [ None ↦ Ok n | Some fault ↦ Err fault ]

held-Ok : (o : Option TyFault) (n size : ℕ) → Ok size ≡ held o n → size ≡ n
held-Ok None n size h = (cc)
held-Ok (Some fault) n size h = (cc)

pub sized : (t : TypeTree) (size : ℕ) → Ok size ≡ size_within 65536 t → size ≡ count t
sized t size h = held-Ok (fault_within 65536 t) (count t) size h

crowded_by : (b : Bool) (limit n : ℕ) → nat_le n limit ≡ b → (if b then None else Some TooManyValues) ≡ None → n ≤ limit
crowded_by true limit n is h = grind (arith, nat_tests)
crowded_by false limit n is h = (cc)

crowded-None : (limit n : ℕ) → crowded limit n ≡ None → n ≤ limit
crowded-None limit n h = crowded_by (nat_le n limit) limit n refl h

range_few : (ok : Bool) (limit n : ℕ) → (if ok then crowded limit n else Some BadRange) ≡ None → n ≤ limit
range_few true limit n h = crowded-None limit n h
range_few false limit n h = (cc)

after_few : (inner : Option TyFault) (limit : ℕ) (t : TypeTree) → crowded_after inner limit t ≡ None → count t ≤ limit
after_few None limit t h = crowded-None limit (count t) h
after_few (Some fault) limit t h = (cc)

pub few_values : (limit : ℕ) (t : TypeTree) → fault_within limit t ≡ None → count t ≤ limit
few_values limit Boolean h = crowded-None limit 2 h
few_values limit (Range lo hi) h = range_few (in_bounds lo hi) limit (count (Range lo hi)) h
few_values limit (TupleOf ts) h = after_few (first_fault ts) limit (TupleOf ts) h
few_values limit (SetOf base) h = after_few (fault_within 16 base) limit (SetOf base) h
