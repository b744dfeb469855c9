use Rattle.std.specs.List.{IsDistinct}
use Rattle.kf_answer_tests.proofs.tests.hypers.stores_become_numbers_of_a_slot.Goals as goal

pub is_at_slots-requires-clause-apart : goal.is_at_slots-requires-clause-apart
unfolding IsDistinct
is_at_slots-requires-clause-apart g c = (tt, tt)
