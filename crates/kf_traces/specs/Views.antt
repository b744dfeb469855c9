-- For bodies: what contracts see of states and their parts.
use Rattle.std.specs.Prelude.{◌≡◌, ℕ, ◌<◌, ◌^◌, List, [], ◌∷◌, map, sum_by}
use Rattle.std.specs.List.{All, AllByRecursion}
use Rattle.std.specs.declared.cmp.Ordering.TheVariants.{Less}
use Rattle.kf_value.specs.Values.{order}
use Rattle.kf_value.specs.Views.{value_tree}
use Rattle.kf_traces.specs.declared.parts.Part as coded
use Rattle.kf_traces.specs.declared.states.State.{State}
use Rattle.kf_traces.specs.Traced.{Weights, Part, Traced}
use Rattle.kf_traces.specs.Laws.{sum_of}

abbrev pub part_of : coded.Part → Part
part_of p = record { value = value_tree p.value; stores = p.stores }

-- all weight of all parts
abbrev pub parts_sum : List Part → ℕ
parts_sum ps = sum_by (λ p. sum_of p.stores) ps

-- the stores of the parts are below the number of all that there are
abbrev pub PartsBelow : ℕ → List Part → Type 0
PartsBelow size ps = All (λ p. All (λ e. e.0 < size) p.stores) ps

-- the values of the parts ascend
abbrev pub PartsAscend : List Part → Type 0
PartsAscend [] = Unit {0}
PartsAscend (p ∷ ps) = AllByRecursion (λ q. order p.value q.value ≡ Less) ps × PartsAscend ps

abbrev pub traced_of : State → Traced
traced_of s = record { trace = map value_tree s.trace.items; stores = s.stores.items }

-- stores of a shape that has so many, whose weights together are below 2^127
pub record Fits (size : ℕ) (es : Weights) : Type 0 where
  pub below : All (λ e. e.0 < size) es
  pub narrow : sum_of es < 2 ^ 127

-- the same of each state
abbrev pub AllFit : ℕ → List Traced → Type 0
AllFit size ss = All (λ s. Fits size s.stores) ss
