use Rattle.kf_ops.proofs.Readings.{value_stays}
use Rattle.kf_ops.proofs.values.value_of.Goals as goal

pub returns-in-Or-clause-memory : goal.returns-in-Or-clause-memory
returns-in-Or-clause-memory c = value_stays _

pub returns-in-And-clause-memory : goal.returns-in-And-clause-memory
returns-in-And-clause-memory c = value_stays _

pub returns-in-Not-clause-memory : goal.returns-in-Not-clause-memory
returns-in-Not-clause-memory c = value_stays _

pub returns-in-Equal-clause-memory : goal.returns-in-Equal-clause-memory
returns-in-Equal-clause-memory c = value_stays _

pub returns-in-NotEqual-clause-memory : goal.returns-in-NotEqual-clause-memory
returns-in-NotEqual-clause-memory c = value_stays _

pub returns-in-Less-clause-memory : goal.returns-in-Less-clause-memory
returns-in-Less-clause-memory c = value_stays _

pub returns-in-AtMost-clause-memory : goal.returns-in-AtMost-clause-memory
returns-in-AtMost-clause-memory c = value_stays _

pub returns-in-Greater-clause-memory : goal.returns-in-Greater-clause-memory
returns-in-Greater-clause-memory c = value_stays _

pub returns-in-AtLeast-clause-memory : goal.returns-in-AtLeast-clause-memory
returns-in-AtLeast-clause-memory c = value_stays _

pub returns-in-Elem-clause-memory : goal.returns-in-Elem-clause-memory
returns-in-Elem-clause-memory c = value_stays _

pub returns-in-Add-clause-memory : goal.returns-in-Add-clause-memory
returns-in-Add-clause-memory c = λ is. absurd (c.narrowed.ensures.memory is)

pub returns-in-Subtract-clause-memory : goal.returns-in-Subtract-clause-memory
returns-in-Subtract-clause-memory c = λ is. absurd (c.narrowed-in-Subtract.ensures.memory is)

pub returns-in-Multiply-clause-memory : goal.returns-in-Multiply-clause-memory
returns-in-Multiply-clause-memory c = λ is. absurd (c.narrowed-in-Multiply.ensures.memory is)

pub returns-in-Div-clause-memory : goal.returns-in-Div-clause-memory
returns-in-Div-clause-memory c = λ is. absurd (c.quotient.ensures.memory is)

pub returns-in-Mod-clause-memory : goal.returns-in-Mod-clause-memory
returns-in-Mod-clause-memory c = λ is. absurd (c.remainder.ensures.memory is)

pub returns-in-Negate-clause-memory : goal.returns-in-Negate-clause-memory
returns-in-Negate-clause-memory c = λ is. absurd (c.narrowed-in-Negate.ensures.memory is)

pub returns-in-Size-clause-memory : goal.returns-in-Size-clause-memory
returns-in-Size-clause-memory c = value_stays _

pub returns-in-Xor-clause-memory : goal.returns-in-Xor-clause-memory
returns-in-Xor-clause-memory c = value_stays _

pub returns-in-Implies-clause-memory : goal.returns-in-Implies-clause-memory
returns-in-Implies-clause-memory c = value_stays _

pub returns-in-Subset-clause-memory : goal.returns-in-Subset-clause-memory
returns-in-Subset-clause-memory c = value_stays _

pub returns-in-Min-clause-memory : goal.returns-in-Min-clause-memory
returns-in-Min-clause-memory c = value_stays _

pub returns-in-Max-clause-memory : goal.returns-in-Max-clause-memory
returns-in-Max-clause-memory c = value_stays _

pub returns-in-Abs-clause-memory : goal.returns-in-Abs-clause-memory
returns-in-Abs-clause-memory c = λ is. absurd (c.narrowed-in-Abs.ensures.memory is)
