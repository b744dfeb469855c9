use Rattle.std.proofs.Common.{◌<◌}
use Rattle.kf_cases.proofs.comparison.try_cases.Given as goal

abbrev pub invariant-loop-case : goal.invariant-loop-case
invariant-loop-case g l = 0 < l.fn.tally.differ → 0 < l.tally.differ
