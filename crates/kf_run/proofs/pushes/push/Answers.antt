use Rattle.std.proofs.Common.{◌∙◌, All, subst}
use Rattle.kf_value.specs.Shapes.{shape_size}
use Rattle.kf_column.specs.Shapes.{IsBelow}
use Rattle.kf_core.specs.declared.program.Program.{Program}
use Rattle.kf_core.specs.Views.{program_tree}
use Rattle.kf_core.proofs.Unsquashed.{checked_again}
use Rattle.kf_support.specs.Cleared.{program_of, turns_of}
use Rattle.kf_column.proofs.Beliefs.{merged_again}
use Rattle.kf_run.proofs.Parts as parts
use Rattle.kf_run.proofs.pushes.push.Goals as goal

pub push_all-requires-clause-sound : goal.push_all-requires-clause-sound
push_all-requires-clause-sound c =
    let program = program_of c.args.c.now in
    let checked = checked_again (program_tree program) c.args.c.now.checked in
    parts.own_sound program c.program-program.result.now (turns_of c.args.c.now) c.turns.result c.args.from c.args.to c.as_slice.result.now
    c.program-program.ensures c.turns.ensures c.as_slice.ensures
    (parts.part_sound program (turns_of c.args.c.now) c.args.from c.args.to c.requires.order checked)

pub push_all-requires-clause-merged : goal.push_all-requires-clause-merged
push_all-requires-clause-merged c =
    merged_again c.args.columns.now.columns c.in_ok-merged.merged.columns c.are_columns.ensures.are c.in_ok-merged.ensures.merged

pub push_all-requires-clause-can : goal.push_all-requires-clause-can
push_all-requires-clause-can c =
    let program = program_of c.args.c.now in
    let checked = checked_again (program_tree program) c.args.c.now.checked in
    parts.own_can program c.program-program.result.now (turns_of c.args.c.now) c.turns.result c.args.from c.args.to c.as_slice.result.now
    c.program-program.ensures c.turns.ensures c.as_slice.ensures c.in_ok-merged.merged
    (parts.merged_can program (turns_of c.args.c.now) c.args.from c.args.to c.requires.order checked c.run_laws.ensures.block c.run_laws.ensures.sequence
    c.args.columns.now c.are_columns.ensures.are c.requires.ready c.in_ok-merged.merged c.in_ok-merged.ensures.merged
    c.are_columns.ensures.fits c.in_ok-merged.ensures.scale c.requires.below)

pub returns-clause-pushed : goal.returns-clause-pushed
returns-clause-pushed c =
    let program = program_of c.args.c.now in
    let checked = checked_again (program_tree program) c.args.c.now.checked in
    let gone = parts.own_gone program c.program-program.result.now (turns_of c.args.c.now) c.turns.result c.args.from c.args.to c.as_slice.result.now
    c.program-program.ensures c.turns.ensures c.as_slice.ensures c.in_ok-merged.merged c.in_ok-after.after c.in_ok-after.ensures in
    parts.part_pushed program (turns_of c.args.c.now) c.args.from c.args.to c.requires.order checked c.run_laws.ensures.block c.run_laws.ensures.sequence
    c.args.columns.now c.are_columns.ensures.are c.requires.ready c.in_ok-after.after.columns
    (parts.merged_gone program (turns_of c.args.c.now) c.args.from c.args.to c.requires.order checked c.run_laws.ensures.block c.run_laws.ensures.sequence
    c.args.columns.now c.are_columns.ensures.are c.requires.ready c.in_ok-merged.merged c.in_ok-merged.ensures.merged c.in_ok-after.after.columns gone.pushed)

pub returns-clause-ready : goal.returns-clause-ready
returns-clause-ready c =
    let program = program_of c.args.c.now in
    let checked = checked_again (program_tree program) c.args.c.now.checked in
    let gone = parts.own_gone program c.program-program.result.now (turns_of c.args.c.now) c.turns.result c.args.from c.args.to c.as_slice.result.now
    c.program-program.ensures c.turns.ensures c.as_slice.ensures c.in_ok-merged.merged c.in_ok-after.after c.in_ok-after.ensures in
    parts.rest_ready program (turns_of c.args.c.now) c.args.from c.args.to c.requires.order checked c.run_laws.ensures.block c.run_laws.ensures.sequence
    c.args.columns.now c.are_columns.ensures.are c.requires.ready c.in_ok-after.after.columns
    (parts.merged_gone program (turns_of c.args.c.now) c.args.from c.args.to c.requires.order checked c.run_laws.ensures.block c.run_laws.ensures.sequence
    c.args.columns.now c.are_columns.ensures.are c.requires.ready c.in_ok-merged.merged c.in_ok-merged.ensures.merged c.in_ok-after.after.columns gone.pushed)

pub returns-clause-scale : goal.returns-clause-scale
returns-clause-scale c = c.in_ok-after.ensures.scale ∙ c.in_ok-merged.ensures.scale ∙ c.requires.scale

pub returns-clause-below : goal.returns-clause-below
returns-clause-below c =
    subst (λ (p : Program). All (IsBelow (shape_size p.shape)) c.in_ok-after.after.columns) c.program-program.ensures c.in_ok-after.ensures.below
