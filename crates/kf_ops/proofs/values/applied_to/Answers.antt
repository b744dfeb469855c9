use Rattle.kf_ops.proofs.values.applied_to.Goals as goal

pub returns-in-len1-clause-memory : goal.returns-in-len1-clause-memory
returns-in-len1-clause-memory c = c.value_of.ensures.memory

pub returns-in-len2-clause-memory : goal.returns-in-len2-clause-memory
returns-in-len2-clause-memory c = c.value_of-in-len2.ensures.memory

pub returns-in-len3-clause-memory : goal.returns-in-len3-clause-memory
returns-in-len3-clause-memory c = c.value_of-in-len3.ensures.memory
