-- For bodies: what the program may answer where a value or a fault is defined.
use Rattle.std.specs.Prelude.{◌≡◌, Bool, true, false, Result, Ok, Err}
use Rattle.kf_value.specs.Values.{ValueTree}
use Rattle.kf_value.specs.Views.{value_tree}
use Rattle.kf_value.specs.declared.value.Value.{Value}
use Rattle.kf_ops.specs.Values.{Fault, DivZero, ArithWide}
use Rattle.kf_ops.specs.declared.fault.OpFault.{OpFault}
use Rattle.kf_ops.specs.declared.fault.OpFault.TheVariants as fault
use Rattle.kf_ops.specs.declared.row.Op.{Op}
use Rattle.kf_ops.specs.declared.row.Op.TheVariants as op

-- the defined value, the defined fault, or want of memory
abbrev pub Answers : Result Value OpFault → Result ValueTree Fault → Type 0
Answers (Ok v) defined = defined ≡ Ok (value_tree v)
Answers (Err fault.DivZero) defined = defined ≡ Err DivZero
Answers (Err fault.ArithWide) defined = defined ≡ Err ArithWide
Answers (Err fault.Mem) defined = Unit {0}

-- the operator's value is a new set or a copy, which may want memory
abbrev pub may_want_memory : Op → Bool
may_want_memory op.Union = true
may_want_memory op.Without = true
may_want_memory op.Inter = true
may_want_memory op.Cond = true
may_want_memory _ = false
