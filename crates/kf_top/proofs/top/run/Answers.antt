use Rattle.kf_top.proofs.top.run.Goals as goal

pub returns-clause-causes : goal.returns-clause-causes
returns-clause-causes g c =
    rw c.report.ensures.status (c.carry_out-end.ensures.causes _ c.read_words-asked.ensures.job c.read_words-asked.ensures.usage _ c.report.ensures.line)
