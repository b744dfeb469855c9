use Rattle.std.proofs.Common.{[], ◌∷◌, ◌++◌, codes}
use Rattle.kf_laws.proofs.Accepted.{accepted_or_refused}
use Rattle.kf_laws.proofs.runs.check_what_was_written.Goals as goal
use Rattle.kf_top.specs.Steps.{wide_cert}

pub returns : goal.returns
returns g c w room had =
    let now = c.run_over_sure_files.ensures.answered room had in
    accepted_or_refused c.run_over_sure_files.result now.answer (codes "accepted" ++ 10 ∷ []) wide_cert now.shows.status_is
    (c.certificates_accepted.ensures _ _ _ _ _ _ _ _ _ _ w.asked w.is_answer w.shown w.asks now.is_answer w.same_first w.same_second w.stands w.short)
