-- Believed: what a distribution chooses in a store: values with whole weights, or its first fault.
use Rattle.std.specs.Prelude.{ℕ, zero, suc, pos, negsuc, ◌-ℤ◌, ◌+◌, ◌-◌, ◌/◌, ℤ, true, false, List, [], ◌∷◌, map, nat_lt, if◌then◌else◌, Result, Ok, Err, filter, sum_by}
use Rattle.kf_frac.specs.Divisors.{gcd_of}
use Rattle.kf_value.specs.Values.{ValueTree, Truth, whole, elements, is_equal}
use Rattle.kf_value.specs.Types.{Range, values, counted}
use Rattle.kf_ops.specs.Values.{Fault}
use Rattle.kf_core.specs.Results.{then_ok, each_ok}
use Rattle.kf_core.specs.Evaluation.{Evaluated, ev, set_of}
use Rattle.kf_core.specs.Dxs.{DxCaseTree, case_of, DxShape, Sure, UniformSet, UniformRange, Choose, Flip}
use mathlib.Core.List.{foldr}

-- a value and its weight
pub record Weighted : Type 0 where
  pub value : ValueTree
  pub weight : ℕ

-- why a distribution has no choices in a store
pub data ChoiceFault : Type 0 where
  Arithmetic : Fault → ChoiceFault
  NoWeight : ChoiceFault
  NegativeWeight : ChoiceFault
  RangeLong : ChoiceFault

abbrev pub Chosen : Type 0
Chosen = Result (List Weighted) ChoiceFault

-- a value goes on, and the fault of an expression is one of its distribution
abbrev pub with_value : Evaluated → (ValueTree → Chosen) → Chosen
with_value (Ok v) next = next v
with_value (Err f) next = Err (Arithmetic f)

abbrev pub once : ValueTree → Weighted
once v = record { value = v; weight = 1 }

-- there is something to choose from
abbrev pub some_of : List Weighted → Chosen
some_of [] = Err NoWeight
some_of (w ∷ ws) = Ok (w ∷ ws)

-- each of the whole numbers from the first to the second, which are at most 65,536
abbrev pub each_from : ℤ → ℤ → Chosen
each_from a b = if nat_lt 65536 (counted (b -ℤ a)) then Err RangeLong else some_of (map once (values (Range a b)))

-- a case's value, at its weight: where that is 0 the value isn't evaluated
abbrev pub weighed : Evaluated → ℤ → Chosen
weighed value (negsuc n) = Err NegativeWeight
weighed value (pos zero) = Ok []
weighed value (pos (suc n)) = with_value value (λ v. Ok (record { value = v; weight = n + 1 } ∷ []))

abbrev pub case_listed : List ValueTree → DxCaseTree → Chosen
case_listed s (case_of x y) = with_value (ev s y) (λ w. weighed (ev s x) (whole w))

-- the values as they are written, each with its weight: a value may stand there twice
abbrev pub listed : List ValueTree → DxShape → Chosen
listed s (Sure x) = with_value (ev s x) (λ v. Ok (once v ∷ []))
listed s (UniformSet x) = with_value (ev s x) (λ v. some_of (map once (elements v)))
listed s (UniformRange x y) = with_value (ev s x) (λ a. with_value (ev s y) (λ b. each_from (whole a) (whole b)))
listed s (Choose cs) = then_ok (each_ok (case_listed s) cs) some_of
listed s (Flip num den) = Ok (record { value = Truth true; weight = num } ∷ record { value = Truth false; weight = den - num } ∷ [])

-- how much weight a value has in all
abbrev pub weight_in : List Weighted → ValueTree → ℕ
weight_in ws v = sum_by (λ w. w.weight) (filter (λ w. is_equal v w.value) ws)

-- the values of some weight, each once and ascending, each with all its weight
abbrev pub gathered : List Weighted → List Weighted
gathered ws = map (λ v. record { value = v; weight = weight_in ws v }) (set_of (map (λ w. w.value) (filter (λ w. nat_lt 0 w.weight) ws)))

-- the greatest number that divides all weights
abbrev pub common_factor : List Weighted → ℕ
common_factor ws = foldr (λ (w : Weighted) d. gcd_of w.weight d) 0 ws

-- the same weights in lowest terms
abbrev pub lowest : List Weighted → List Weighted
lowest ws = map (λ w. record { value = w.value; weight = w.weight / common_factor ws }) ws

-- what a distribution chooses in a store: distinct values, ascending, with positive weights that have no common factor
abbrev pub choices : List ValueTree → DxShape → Chosen
choices s d = then_ok (listed s d) (λ ws. Ok (lowest (gathered ws)))

-- the sum of all weights
abbrev pub total : List Weighted → ℕ
total ws = sum_by (λ w. w.weight) ws
