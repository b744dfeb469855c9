use Rattle.kf_check.proofs.targets.check_target.Goals as goal

pub all_variables-requires-clause-declared : goal.all_variables-requires-clause-declared
all_variables-requires-clause-declared c = rw c.deref.ensures.value c.requires.declared

pub check_items-requires-clause-declared : goal.check_items-requires-clause-declared
check_items-requires-clause-declared c = c.requires.declared

pub check_items-requires-clause-known : goal.check_items-requires-clause-known
check_items-requires-clause-known c = c.requires.known

pub check_items-requires-clause-counted : goal.check_items-requires-clause-counted
check_items-requires-clause-counted c = c.requires.counted

pub returns-else-is_empty : goal.returns-else-is_empty
returns-else-is_empty c = c.check_items.ensures
