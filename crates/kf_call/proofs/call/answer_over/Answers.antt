use Rattle.kf_call.proofs.Running.{has_run, none_failed, was_empty}
use Rattle.kf_call.proofs.call.answer_over.Goals as goal

pub returns-clause-run : goal.returns-clause-run
returns-clause-run g c =
    has_run _ _ _ _ _ _ _ _ _ _ _ c.in_ok-files.ensures.told c.in_ok-files.ensures.counts
    (was_empty _ _ c.new-out.ensures (none_failed _ _ c.has_failed.ensures.1 c.if-has_failed.false))
    (was_empty _ _ c.new-err.ensures (none_failed _ _ c.has_failed-else-has_failed.ensures.1 c.if-has_failed-2.false))
    c.run-status.ensures.causes c.run-status.ensures.quiet
