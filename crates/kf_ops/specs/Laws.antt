-- For bodies: what holds of the values of the operators.
use Rattle.std.specs.Prelude.{◌≡◌, ◌↔◌, ◌⊎◌, ◌-◌, ◌^◌, ℤ, pos, negsuc, ◌+ℤ◌, ◌*ℤ◌, ◌≤ℤ◌, ◌<ℤ◌, unsigned_abs, List, [], ◌∷◌, true, Result, Ok, Err, IfOk}
use Rattle.std.specs.List.Sorted.{IsStrictlySortedBy}
use Rattle.kf_value.specs.Values.{ValueTree, Truth, Whole, Set, parts, order}
use Rattle.kf_value.specs.Laws.{IsIn}
use Rattle.kf_value.specs.Kinds.{KindTree}
use Rattle.kf_ops.specs.Rows.{Row}
use Rattle.kf_ops.specs.Fitting.{Fits, FitsWell}
use Rattle.kf_ops.specs.Values.{applied, Fault, DivZero, ArithWide}
use Rattle.kf_ops.specs.declared.row.Op.{Op}

-- the quotient q and the remainder r of a by b
pub record IsEuclidean (a b q r : ℤ) : Type 0 where
  pub whole : a ≡ (b *ℤ q) +ℤ r
  pub low : pos 0 ≤ℤ r
  pub high : r <ℤ pos (unsigned_abs b)

-- the list ascends, and has exactly the elements of which the property holds
pub record IsSetOf (Has : ValueTree → Type 0) (us : List ValueTree) : Type 0 where
  pub ascends : IsStrictlySortedBy order us
  pub has : (v : ValueTree) → IsIn v us ↔ Has v

-- the operator makes a set of two sets, with exactly the elements of which the property holds
abbrev pub MakesSets : Op → (ValueTree → List ValueTree → List ValueTree → Type 0) → Type 0
MakesSets code Has = (vs ws : List ValueTree) → IsStrictlySortedBy order vs → IsStrictlySortedBy order ws
    → (us : List ValueTree)
    × (applied code (Set (parts vs) ∷ Set (parts ws) ∷ []) ≡ Ok (Set (parts us)))
    × IsSetOf (λ v. Has v vs ws) us

-- the operator is true of the arguments exactly where the fact holds
abbrev pub Tells : Op → List ValueTree → Type 0 → Type 0
Tells code args fact = (applied code args ≡ Ok (Truth true)) ↔ fact

-- the number lies from -2^63 up to 2^63 - 1
abbrev pub IsNarrow : ℤ → Type 0
IsNarrow z = (negsuc (2 ^ 63 - 1) ≤ℤ z) × (z <ℤ pos (2 ^ 63))

-- the result is the number where that is narrow, and too wide elsewhere
pub record Gives (result : Result ValueTree Fault) (z : ℤ) : Type 0 where
  pub told : IsNarrow z → result ≡ Ok (Whole z)
  pub refused : ¬ IsNarrow z → result ≡ Err ArithWide

-- the operator gives the number of two whole numbers
abbrev pub GivesOfTwo : Op → (ℤ → ℤ → ℤ) → Type 0
GivesOfTwo code number = (i j : ℤ) → Gives (applied code (Whole i ∷ Whole j ∷ [])) (number i j)

-- the operator gives the one of two whole numbers that is so related to both
pub record IsPicked (IsBetter : ℤ → ℤ → Type 0) (i j z : ℤ) : Type 0 where
  pub one : (z ≡ i) ⊎ (z ≡ j)
  pub first : IsBetter z i
  pub second : IsBetter z j

abbrev pub PicksOfTwo : Op → (ℤ → ℤ → Type 0) → Type 0
PicksOfTwo code IsBetter = (i j : ℤ) → (z : ℤ) × (applied code (Whole i ∷ Whole j ∷ []) ≡ Ok (Whole z)) × IsPicked IsBetter i j z

-- a fitting value of the row's result comes from fitting arguments, unless there is a fault
abbrev pub KeepsKinds : Row → Type 0
KeepsKinds row = (k : KindTree) (args : List ValueTree) → Fits k row args
    → IfOk (applied row.code args) (FitsWell k row.result)

-- the row names each fault that it can have
pub record NamesFaults (row : Row) : Type 0 where
  pub by_zero : (args : List ValueTree) → applied row.code args ≡ Err DivZero → row.div_zero ≡ true
  pub too_wide : (args : List ValueTree) → applied row.code args ≡ Err ArithWide → row.wide ≡ true
