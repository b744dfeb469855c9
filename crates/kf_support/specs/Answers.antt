-- For bodies: what the program may answer where a pass is defined.
use Rattle.std.specs.Prelude.{◌≡◌, ℕ, ◌^◌, ◌<◌, ◌≤◌, List, [], ◌∷◌, map, Result, Ok, Err, MatchResult}
use Rattle.std.specs.List.{All, AllByRecursion as Each}
use Rattle.std.specs.Global.{Vec}
use Rattle.kf_ops.specs.Values as ops
use Rattle.kf_core.specs.Choices as choice
use Rattle.kf_core.specs.Runs.{Cause, Choosing, Halted}
use Rattle.kf_core.specs.Runs as run
use Rattle.kf_core.specs.Support.{Passed}
use Rattle.kf_eval.specs.declared.choice.ChoiceError.{ChoiceError}
use Rattle.kf_eval.specs.declared.choice.ChoiceError.TheVariants as error
use Rattle.kf_support.specs.Carried.{Reached}
use Rattle.kf_support.specs.declared.faults.RunFault.{RunFault}
use Rattle.kf_support.specs.declared.faults.RunFault.TheVariants as fault
use Rattle.kf_support.specs.declared.faults.Halt.{Halt}
use Rattle.kf_support.specs.declared.faults.Halt.TheVariants as halt

abbrev pub cause_of : RunFault → Cause
cause_of fault.DivZero = Choosing (choice.Arithmetic ops.DivZero)
cause_of fault.ArithWide = Choosing (choice.Arithmetic ops.ArithWide)
cause_of fault.OutOfRange = run.OutOfRange
cause_of fault.NoWeight = Choosing choice.NoWeight
cause_of fault.NegativeWeight = Choosing choice.NegativeWeight
cause_of fault.RangeLong = Choosing choice.RangeLong
cause_of fault.LoopBound = run.LoopBound

abbrev pub halted : RunFault → ℕ → Halted
halted kind at = record { cause = cause_of kind; at = at }

-- a fault of choices as one of the distribution at this place
abbrev pub halt_of : ChoiceError → ℕ → Halt
halt_of error.DivZero at = halt.Fault fault.DivZero at
halt_of error.ArithWide at = halt.Fault fault.ArithWide at
halt_of error.NoWeight at = halt.Fault fault.NoWeight at
halt_of error.NegativeWeight at = halt.Fault fault.NegativeWeight at
halt_of error.RangeLong at = halt.Fault fault.RangeLong at
halt_of error.Mem at = halt.Mem

-- the halt is the defined fault, or want of memory
abbrev pub IsHaltOf : {A : Type 0} → Passed A → Halt → Type 0
IsHaltOf defined (halt.Fault kind at) = defined ≡ Err (halted kind at)
IsHaltOf defined halt.Scale = ⊥
IsHaltOf defined halt.Mem = Unit {0}

-- the defined stores with their scales, the defined fault, or want of memory
abbrev pub AnswersPass : Result (Vec (ℕ × ℕ)) Halt → Passed Reached → Type 0
AnswersPass result defined = MatchResult result (λ m. defined ≡ Ok m.items) (IsHaltOf defined)

-- ways to stores below the number of all, each of a scale from 1 to 2^127
abbrev pub AreWays : ℕ → Reached → Type 0
AreWays size es = All (λ e. (e.0 < size) × ((1 ≤ e.1) × (e.1 ≤ 2 ^ 127))) es

-- each store comes before those behind it
abbrev pub Ascend : Reached → Type 0
Ascend [] = Unit {0}
Ascend (e ∷ es) = Each (λ f. e.0 < f.0) es × Ascend es

-- ways in ascending number of their stores, one to each
abbrev pub AreReached : ℕ → Reached → Type 0
AreReached size es = AreWays size es × Ascend es

-- a way of this scale to each of the stores
abbrev pub ways_to : List ℕ → ℕ → Reached
ways_to ns scale = map (λ n. (n, scale)) ns
