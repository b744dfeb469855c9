use Rattle.std.proofs.Common.{◌+◌, ◌∙◌}
use Rattle.kf_run.proofs.Meant.{push_keeps}
use Rattle.kf_run.proofs.cleared_stages.ClearedStages.pass.Goals as goal

pub returns-clause-mass : goal.returns-clause-mass
returns-clause-mass c =
    push_keeps c.args.self.now c.run_laws.ensures.block c.run_laws.ensures.sequence c.args.at (c.args.at + 1) c.args.columns.now.columns
    c.in_ok-after.after.columns c.are_columns.ensures.are c.requires.ready c.in_ok-after.ensures.pushed
    ∙ c.requires.mass
