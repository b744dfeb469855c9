-- For bodies: lists of weights as they are made: a value more, and what a part of a distribution may answer.
use Rattle.std.specs.Prelude.{◌≡◌, ◌+◌, ◌^◌, ◌<◌, List, [], ◌∷◌, map, Option, None, Some, Result, Ok, MatchResult, Vec}
use Rattle.std.specs.Global.{Global}
use Rattle.std.specs.Ordering.{match_ordering}
use Rattle.kf_value.specs.Values.{order}
use Rattle.kf_core.specs.Choices as core
use Rattle.kf_core.specs.Choices.{Chosen, total}
use Rattle.kf_eval.specs.Choices.{weighted_tree, IsChoiceFaultOf}
use Rattle.kf_eval.specs.declared.choice.ChoiceError.{ChoiceError}
use Rattle.kf_eval.specs.declared.choice.Weighted.{Weighted}

-- an ascending list and one weight more: at its value where the list has it, else before the first greater value
abbrev pub added : core.Weighted → List core.Weighted → List core.Weighted
added w [] = w ∷ []
added w (u ∷ us) =
    match_ordering (order w.value u.value) (w ∷ u ∷ us) (record { value = u.value; weight = u.weight + w.weight } ∷ us) (u ∷ added w us)

-- the defined weights, few enough to be summed, or the defined fault, or want of memory
abbrev pub AnswersWeights : Result (Vec Weighted Global) ChoiceError → Chosen → Type 0
AnswersWeights result defined =
    MatchResult result
    (λ ws. (defined ≡ Ok (map weighted_tree ws.items)) × (total (map weighted_tree ws.items) < 2 ^ 127))
    (IsChoiceFaultOf defined)

-- one weight, or none
abbrev pub at_most_one : Option Weighted → List core.Weighted
at_most_one None = []
at_most_one (Some w) = weighted_tree w ∷ []

-- the defined weight of a case, or none where it is 0, or the defined fault, or want of memory
abbrev pub AnswersCase : Result (Option Weighted) ChoiceError → Chosen → Type 0
AnswersCase result defined = MatchResult result (λ w. defined ≡ Ok (at_most_one w)) (IsChoiceFaultOf defined)
