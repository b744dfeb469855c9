use Rattle.std.proofs.Common.{◌<◌, ◌∙◌, ℕ, sym, subst, arith}
use Rattle.kf_core.specs.Views.{program_tree}
use Rattle.kf_core.proofs.SoundParts.{decl_kinded}
use Rattle.kf_run.proofs.Declarations.{declared_first, declaration_goes, declaration_done, begun_at_start, begun_ready}
use Rattle.kf_push.proofs.Programs.{whole_some}
use Rattle.kf_run.proofs.first_columns.begin.Goals as goal

pub first-requires-clause-some : goal.first-requires-clause-some
first-requires-clause-some c =
    subst (λ (n : ℕ). 0 < n) (sym c.requires.scale_is)
    (whole_some c.args.turns (program_tree c.args.program.now) c.requires.checked c.requires.clear c.choice_laws.ensures.shares
    c.run_laws.ensures.program c.run_laws.ensures.sequence c.run_laws.ensures.positive c.run_laws.ensures.least)

pub loop-i-init : goal.loop-i-init
loop-i-init c =
    declared_first c.args.program.now c.args.turns c.requires.checked c.requires.clear c.choice_laws.ensures.shares
    c.run_laws.ensures.program c.run_laws.ensures.sequence c.run_laws.ensures.positive c.run_laws.ensures.least
    c.args.scale c.in_ok-now.now c.requires.scale_is c.in_ok-now.ensures.column c.in_ok-now.ensures.scale

pub assign-requires-clause-kinded : goal.assign-requires-clause-kinded
assign-requires-clause-kinded c =
    decl_kinded c.args.program.now c.requires.checked c.as_slice-decls.result.now c.loop-i.i c.index-decls-i.result c.as_slice-decls.ensures
    (omega arith) c.index-decls-i.is

pub assign-requires-clause-goes : goal.assign-requires-clause-goes
assign-requires-clause-goes c =
    declaration_goes c.args.program.now c.args.turns c.requires.checked c.requires.clear c.choice_laws.ensures.shares
    c.run_laws.ensures.program c.run_laws.ensures.sequence c.run_laws.ensures.positive c.run_laws.ensures.least
    c.as_slice-decls.result.now c.loop-i.i c.loop-i.now c.as_slice-decls.ensures c.loop-i.invariant c.index-decls-i.result (omega arith) c.index-decls-i.is

pub loop-i-preserved : goal.loop-i-preserved
loop-i-preserved c =
    declaration_done c.args.program.now c.args.turns c.requires.checked c.requires.clear c.choice_laws.ensures.shares
    c.run_laws.ensures.program c.run_laws.ensures.sequence c.run_laws.ensures.positive c.run_laws.ensures.least
    c.as_slice-decls.result.now c.loop-i.i c.loop-i.now c.as_slice-decls.ensures c.loop-i.invariant c.index-decls-i.result (omega arith) c.index-decls-i.is
    c.in_ok-now-2.now c.in_ok-now-2.ensures.pushed c.in_ok-now-2.ensures.scale c.in_ok-now-2.ensures.below

pub returns-clause-start : goal.returns-clause-start
returns-clause-start c =
    begun_at_start c.args.program.now c.args.turns c.requires.checked c.requires.clear c.choice_laws.ensures.shares
    c.run_laws.ensures.program c.run_laws.ensures.sequence c.run_laws.ensures.positive c.run_laws.ensures.least
    c.as_slice-decls.result.now c.loop-i.i c.loop-i.now c.as_slice-decls.ensures c.loop-i.invariant (omega arith)
    c.in_ok-start.start.columns c.in_ok-start.ensures.pushed

pub returns-clause-ready : goal.returns-clause-ready
returns-clause-ready c =
    begun_ready c.args.program.now c.args.turns c.requires.checked c.requires.clear c.choice_laws.ensures.shares
    c.run_laws.ensures.program c.run_laws.ensures.sequence c.run_laws.ensures.positive c.run_laws.ensures.least
    c.as_slice-decls.result.now c.loop-i.i c.loop-i.now c.as_slice-decls.ensures c.loop-i.invariant (omega arith)
    c.in_ok-start.start.columns c.in_ok-start.ensures.pushed
    c.run_laws.ensures.block

pub first-requires-clause-narrow : goal.first-requires-clause-narrow
first-requires-clause-narrow c = c.requires.narrow

pub copy-requires-clause-checked : goal.copy-requires-clause-checked
copy-requires-clause-checked c = c.requires.checked

pub returns-clause-below : goal.returns-clause-below
returns-clause-below c = c.in_ok-start.ensures.below

pub assign-requires-clause-below : goal.assign-requires-clause-below
assign-requires-clause-below c = c.loop-i.invariant.below

pub copy-requires-clause-below : goal.copy-requires-clause-below
copy-requires-clause-below c = c.loop-i.invariant.below

pub returns-clause-scale : goal.returns-clause-scale
returns-clause-scale c = c.in_ok-start.ensures.scale ∙ c.loop-i.invariant.scale ∙ sym c.requires.scale_is
