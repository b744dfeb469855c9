-- For bodies: what the program may answer where a value or a fault is defined.
use Rattle.std.specs.Prelude.{◌≡◌, Bool, false, List, [], ◌∷◌, Option, Some, None, Result, Ok, Err, MatchResult}
use Rattle.kf_value.specs.Values.{ValueTree, Truth, is_equal}
use Rattle.kf_value.specs.Views.{value_tree}
use Rattle.kf_value.specs.declared.value.Value.{Value}
use Rattle.kf_ops.specs.Values.{Fault, DivZero, ArithWide, applied}
use Rattle.kf_ops.specs.declared.fault.OpFault.{OpFault}
use Rattle.kf_ops.specs.declared.fault.OpFault.TheVariants as fault
use Rattle.kf_ops.specs.declared.row.Op.{Op}
use Rattle.kf_core.specs.Results.{then_ok}
use Rattle.kf_core.specs.Evaluation.{Evaluated, all_values}
use Rattle.kf_eval.specs.declared.fault.EvalError.{EvalError}
use Rattle.kf_eval.specs.declared.fault.EvalError.TheVariants as error

-- an operator's fault as an expression's
abbrev pub error_of : OpFault → EvalError
error_of fault.DivZero = error.DivZero
error_of fault.ArithWide = error.ArithWide
error_of fault.Mem = error.Mem

-- the error is the defined fault, or want of memory
abbrev pub IsFaultOf : {A : Type 0} → Result A Fault → EvalError → Type 0
IsFaultOf defined error.DivZero = defined ≡ Err DivZero
IsFaultOf defined error.ArithWide = defined ≡ Err ArithWide
IsFaultOf defined error.Mem = Unit {0}

-- the defined value, the defined fault, or want of memory
abbrev pub Answers : Result Value EvalError → Evaluated → Type 0
Answers result defined = MatchResult result (λ v. defined ≡ Ok (value_tree v)) (IsFaultOf defined)

-- the operator of a row at all its arguments
abbrev pub at_all : Option Op → List Evaluated → Evaluated
at_all (Some code) es = then_ok (all_values es) (applied code)
at_all None es = Ok (Truth false)

-- two expressions have values, and this says whether these are equal
pub record Compares (es : List Evaluated) (same : Bool) : Type 0 where
  pub left : ValueTree
  pub right : ValueTree
  pub values : es ≡ Ok left ∷ Ok right ∷ []
  pub told : same ≡ is_equal left right
