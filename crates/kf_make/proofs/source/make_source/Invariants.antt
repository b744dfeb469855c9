use Rattle.std.proofs.Common.{◌≡◌}
use Rattle.kf_make.specs.Making.{make_source}
use Rattle.kf_make.proofs.source.make_source.Given as goal

abbrev pub invariant-loop-done : goal.invariant-loop-done
invariant-loop-done l = l.text.items ≡ make_source l.done
