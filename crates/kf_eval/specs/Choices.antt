-- For bodies: what the program may answer where choices are defined.
use Rattle.std.specs.Prelude.{◌≡◌, List, map, Result, Ok, Err, MatchResult}
use Rattle.kf_value.specs.Views.{value_tree}
use Rattle.kf_ops.specs.Values.{DivZero, ArithWide}
use Rattle.kf_core.specs.Choices as core
use Rattle.kf_core.specs.Choices.{Chosen, ChoiceFault, Arithmetic, NoWeight, NegativeWeight, RangeLong, total}
use Rattle.kf_eval.specs.declared.choice.Choice.{Choice}
use Rattle.kf_eval.specs.declared.choice.ChoiceError.{ChoiceError}
use Rattle.kf_eval.specs.declared.choice.ChoiceError.TheVariants as error
use Rattle.kf_eval.specs.declared.choice.Weighted.{Weighted}
use Rattle.kf_eval.specs.declared.choice.WeightedList.{WeightedList}
use Rattle.kf_eval.specs.declared.fault.EvalError.{EvalError}
use Rattle.kf_eval.specs.declared.fault.EvalError.TheVariants as eval

-- an expression's error as a distribution's
abbrev pub choice_error : EvalError → ChoiceError
choice_error eval.DivZero = error.DivZero
choice_error eval.ArithWide = error.ArithWide
choice_error eval.Mem = error.Mem

abbrev pub weighted_items : WeightedList → List Weighted
weighted_items l = l.items.items

-- a value of the program with its weight
abbrev pub weighted_tree : Weighted → core.Weighted
weighted_tree w = record { value = value_tree w.value; weight = w.weight }

abbrev pub weighted_trees : Choice → List core.Weighted
weighted_trees c = map weighted_tree (weighted_items c.items)

-- the choices, with the sum of their weights
abbrev pub IsChoiceOf : Chosen → Choice → Type 0
IsChoiceOf defined c = (defined ≡ Ok (weighted_trees c)) × (c.total ≡ total (weighted_trees c))

-- the error is the defined fault, or want of memory
abbrev pub IsChoiceFaultOf : Chosen → ChoiceError → Type 0
IsChoiceFaultOf defined error.DivZero = defined ≡ Err (Arithmetic DivZero)
IsChoiceFaultOf defined error.ArithWide = defined ≡ Err (Arithmetic ArithWide)
IsChoiceFaultOf defined error.NoWeight = defined ≡ Err NoWeight
IsChoiceFaultOf defined error.NegativeWeight = defined ≡ Err NegativeWeight
IsChoiceFaultOf defined error.RangeLong = defined ≡ Err RangeLong
IsChoiceFaultOf defined error.Mem = Unit {0}

-- the defined choices, the defined fault, or want of memory
abbrev pub AnswersChoice : Result Choice ChoiceError → Chosen → Type 0
AnswersChoice result defined = MatchResult result (IsChoiceOf defined) (IsChoiceFaultOf defined)
