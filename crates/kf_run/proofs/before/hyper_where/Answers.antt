use Rattle.std.proofs.Common.{◌∙◌}
use Rattle.kf_hyper.specs.Views.{inners_of}
use Rattle.kf_push.proofs.Carrying.{pushed_again}
use Rattle.kf_run.proofs.SilentPrograms as silent
use Rattle.kf_run.proofs.before.hyper_where.Goals as goal

pub push_one-requires-clause-sound : goal.push_one-requires-clause-sound
push_one-requires-clause-sound c =
    silent.statement_sound c.args.program.now c.args.turns c.args.at c.args.path.now c.args.columns.now c.requires.meaning c.choice_laws.ensures.shares
    c.run_laws.ensures.program c.run_laws.ensures.sequence c.run_laws.ensures.positive c.run_laws.ensures.least c.run_laws.ensures.block
    c.requires.behind.0 c.requires.behind.1 c.as_slice-statements.result.now c.as_slice-statements.ensures c.index-statements-at.result c.index-statements-at.is
    c.requires.within

pub push_one-requires-clause-can : goal.push_one-requires-clause-can
push_one-requires-clause-can c =
    silent.statement_can c.args.program.now c.args.turns c.args.at c.args.path.now c.args.columns.now c.requires.meaning c.choice_laws.ensures.shares
    c.run_laws.ensures.program c.run_laws.ensures.sequence c.run_laws.ensures.positive c.run_laws.ensures.least c.run_laws.ensures.block
    c.requires.behind.0 c.requires.behind.1 c.as_slice-statements.result.now c.as_slice-statements.ensures c.index-statements-at.result c.index-statements-at.is
    c.requires.within

pub push_all-requires-clause-sound : goal.push_all-requires-clause-sound
push_all-requires-clause-sound c =
    silent.rest_sound c.args.program.now c.args.turns c.args.at c.args.path.now c.args.columns.now c.requires.meaning c.choice_laws.ensures.shares
    c.run_laws.ensures.program c.run_laws.ensures.sequence c.run_laws.ensures.positive c.run_laws.ensures.least c.run_laws.ensures.block
    c.requires.behind.0 c.requires.behind.1 c.as_slice-statements.result.now c.as_slice-statements.ensures c.index-statements-at.result c.index-statements-at.is
    c.requires.within c.in_ok-silenced.silenced c.in_ok-silenced.ensures

pub push_all-requires-clause-can : goal.push_all-requires-clause-can
push_all-requires-clause-can c =
    silent.rest_can c.args.program.now c.args.turns c.args.at c.args.path.now c.args.columns.now c.requires.meaning c.choice_laws.ensures.shares
    c.run_laws.ensures.program c.run_laws.ensures.sequence c.run_laws.ensures.positive c.run_laws.ensures.least c.run_laws.ensures.block
    c.requires.behind.0 c.requires.behind.1 c.as_slice-statements.result.now c.as_slice-statements.ensures c.index-statements-at.result c.index-statements-at.is
    c.requires.within c.in_ok-silenced.silenced c.in_ok-silenced.ensures

pub push_all-requires-clause-merged : goal.push_all-requires-clause-merged
push_all-requires-clause-merged c = pushed_again _ c.args.columns.now.columns c.in_ok-silenced.silenced.columns c.in_ok-silenced.ensures.pushed

pub about_target-requires-clause-mass : goal.about_target-requires-clause-mass
about_target-requires-clause-mass c =
    silent.all_there c.args.program.now c.args.turns c.args.at c.args.path.now c.args.columns.now c.requires.meaning c.choice_laws.ensures.shares
    c.run_laws.ensures.program c.run_laws.ensures.sequence c.run_laws.ensures.positive c.run_laws.ensures.least c.run_laws.ensures.block
    c.requires.behind.0 c.requires.behind.1 c.as_slice-statements.result.now c.as_slice-statements.ensures c.index-statements-at.result c.index-statements-at.is
    c.requires.within c.in_ok-silenced.silenced c.in_ok-silenced.ensures
    c.in_ok-after.after c.in_ok-after.ensures

pub returns-clause-hyper : goal.returns-clause-hyper
returns-clause-hyper c =
    silent.silent_finished c.args.program.now c.args.turns c.args.at c.args.path.now c.args.columns.now c.requires.meaning c.choice_laws.ensures.shares
    c.run_laws.ensures.program c.run_laws.ensures.sequence c.run_laws.ensures.positive c.run_laws.ensures.least c.run_laws.ensures.block
    c.requires.behind.0 c.requires.behind.1 c.as_slice-statements.result.now c.as_slice-statements.ensures c.index-statements-at.result c.index-statements-at.is
    c.requires.within c.in_ok-silenced.silenced c.in_ok-silenced.ensures
    c.in_ok-after.after c.in_ok-after.ensures (inners_of c.in_ok-hyper.hyper) c.in_ok-hyper.ensures.hyper

pub about_target-requires-clause-checked : goal.about_target-requires-clause-checked
about_target-requires-clause-checked c = c.requires.meaning.checked

pub about_target-requires-clause-below : goal.about_target-requires-clause-below
about_target-requires-clause-below c = c.in_ok-after.ensures.below

pub returns-clause-scale : goal.returns-clause-scale
returns-clause-scale c = c.in_ok-hyper.ensures.scale ∙ c.in_ok-after.ensures.scale ∙ c.in_ok-silenced.ensures.scale

pub returns-clause-target : goal.returns-clause-target
returns-clause-target c = c.in_ok-hyper.ensures.target
