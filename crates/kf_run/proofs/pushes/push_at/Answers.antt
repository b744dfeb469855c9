use Rattle.std.proofs.Common.{◌∙◌, All, subst}
use Rattle.kf_value.specs.Shapes.{shape_size}
use Rattle.kf_column.specs.Shapes.{IsBelow}
use Rattle.kf_core.specs.declared.program.Program.{Program}
use Rattle.kf_core.specs.Views.{program_tree}
use Rattle.kf_core.proofs.Unsquashed.{checked_again}
use Rattle.kf_support.specs.Cleared.{program_of, turns_of}
use Rattle.kf_run.proofs.Parts as parts
use Rattle.kf_run.proofs.pushes.push_at.Goals as goal

pub push_one-requires-clause-sound : goal.push_one-requires-clause-sound
push_one-requires-clause-sound c =
    let program = program_of c.args.c.now in
    let checked = checked_again (program_tree program) c.args.c.now.checked in
    parts.step_sound program c.program-program.result.now (turns_of c.args.c.now) c.turns.result c.args.at c.as_slice.result.now c.index-as_slice-at.result
    c.program-program.ensures c.turns.ensures c.as_slice.ensures c.requires.within c.index-as_slice-at.is checked

pub push_one-requires-clause-can : goal.push_one-requires-clause-can
push_one-requires-clause-can c =
    let program = program_of c.args.c.now in
    let checked = checked_again (program_tree program) c.args.c.now.checked in
    parts.step_can program c.program-program.result.now (turns_of c.args.c.now) c.turns.result c.args.at c.as_slice.result.now c.index-as_slice-at.result
    c.program-program.ensures c.turns.ensures c.as_slice.ensures c.requires.within c.index-as_slice-at.is checked
    c.run_laws.ensures.block c.run_laws.ensures.sequence c.args.columns.now c.are_columns.ensures.are c.are_columns.ensures.fits c.requires.below c.requires.ready

pub returns-clause-pushed : goal.returns-clause-pushed
returns-clause-pushed c =
    let program = program_of c.args.c.now in
    let checked = checked_again (program_tree program) c.args.c.now.checked in
    parts.step_pushed program c.program-program.result.now (turns_of c.args.c.now) c.turns.result c.args.at c.as_slice.result.now c.index-as_slice-at.result
    c.program-program.ensures c.turns.ensures c.as_slice.ensures c.requires.within c.index-as_slice-at.is checked
    c.run_laws.ensures.block c.run_laws.ensures.sequence c.args.columns.now c.are_columns.ensures.are c.are_columns.ensures.fits c.requires.below c.requires.ready
    c.in_ok-after.after c.in_ok-after.ensures

pub returns-clause-ready : goal.returns-clause-ready
returns-clause-ready c =
    let program = program_of c.args.c.now in
    let checked = checked_again (program_tree program) c.args.c.now.checked in
    parts.step_ready program c.program-program.result.now (turns_of c.args.c.now) c.turns.result c.args.at c.as_slice.result.now c.index-as_slice-at.result
    c.program-program.ensures c.turns.ensures c.as_slice.ensures c.requires.within c.index-as_slice-at.is checked
    c.run_laws.ensures.block c.run_laws.ensures.sequence c.args.columns.now c.are_columns.ensures.are c.are_columns.ensures.fits c.requires.below c.requires.ready
    c.in_ok-after.after c.in_ok-after.ensures

pub returns-clause-scale : goal.returns-clause-scale
returns-clause-scale c = c.in_ok-after.ensures.scale ∙ c.requires.scale

pub returns-clause-below : goal.returns-clause-below
returns-clause-below c =
    subst (λ (p : Program). All (IsBelow (shape_size p.shape)) c.in_ok-after.after.columns) c.program-program.ensures c.in_ok-after.ensures.below
