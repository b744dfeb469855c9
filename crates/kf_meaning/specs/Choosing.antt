-- For bodies: laws of operators whose arguments needn't all have a value: `or`, `and` and `cond` beside the other operators.
use Rattle.std.specs.Prelude.{◌≡◌, ◌⊎◌, true, false, List, [], ◌∷◌, All, map, Ok, Err}
use Rattle.kf_value.specs.Forms.{HasKind}
use Rattle.kf_value.specs.Kinds.{TruthKind}
use Rattle.kf_value.specs.Values.{ValueTree, truth}
use Rattle.kf_ops.specs.Values.{Fault, applied}
use Rattle.kf_ops.specs.declared.row.Op.{Op}
use Rattle.kf_ops.specs.declared.row.Op.TheVariants as op
use Rattle.kf_core.specs.Evaluation.{Evaluated, operated}

-- at arguments that all have a value each operator gives what the table of operators says, `or` and `and` at truth values: to leave out
-- what doesn't decide changes no value
abbrev pub OperatedIsApplied : Type 0
OperatedIsApplied = (code : Op) (vs : List ValueTree) → ((code ≡ op.Or) ⊎ (code ≡ op.And) → All (λ v. HasKind v TruthKind) vs)
    → operated code (map (λ v. Ok v) vs) ≡ applied code vs

-- what doesn't decide has no part in the result, whether it has a value or a fault: the second argument of `or` after one that is true
abbrev pub OrSkips : Type 0
OrSkips = (v : ValueTree) (e : Evaluated) → truth v ≡ true → operated op.Or (Ok v ∷ e ∷ []) ≡ Ok v

-- that of `and` after one that is false
abbrev pub AndSkips : Type 0
AndSkips = (v : ValueTree) (e : Evaluated) → truth v ≡ false → operated op.And (Ok v ∷ e ∷ []) ≡ Ok v

-- and the branch of `cond` that isn't chosen
abbrev pub CondSkips : Type 0
CondSkips = (v : ValueTree) (e f : Evaluated)
    → (truth v ≡ true → operated op.Cond (Ok v ∷ e ∷ f ∷ []) ≡ e) × (truth v ≡ false → operated op.Cond (Ok v ∷ e ∷ f ∷ []) ≡ f)

-- the first argument is never left out: its fault is that of the whole
abbrev pub FirstIsAsked : Type 0
FirstIsAsked = (code : Op) (f : Fault) (es : List Evaluated) → operated code (Err f ∷ es) ≡ Err f
