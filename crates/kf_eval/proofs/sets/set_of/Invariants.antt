use Rattle.std.proofs.Common.{map, vec_len}
use Rattle.kf_value.specs.Views.{value_tree}
use Rattle.kf_eval.proofs.Inserting.{SetSoFar}
use Rattle.kf_eval.proofs.sets.set_of.Given as goal

abbrev pub invariant-loop-member : goal.invariant-loop-member
invariant-loop-member l = SetSoFar (map value_tree l.fn.members.items) (map value_tree l.members.items) (map value_tree l.set.items)

abbrev pub decreases-loop-member : goal.decreases-loop-member
decreases-loop-member l = vec_len l.members
