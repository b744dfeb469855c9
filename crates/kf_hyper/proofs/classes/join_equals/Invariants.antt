use Rattle.kf_hyper.proofs.Joining.{HalfJoined}
use Rattle.kf_hyper.proofs.classes.join_equals.Given as goal

abbrev pub invariant-loop-i : goal.invariant-loop-i
invariant-loop-i l = HalfJoined l.fn.classes.items l.last l.i l.classes.items
