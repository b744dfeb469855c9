use Rattle.std.proofs.Common.{◌^◌, [], All, ◌∙◌}
use Rattle.kf_value.specs.Shapes.{shape_size, shape_types}
use Rattle.kf_column.specs.declared.entry.Entry.{Entry}
use Rattle.kf_core.specs.Runs.{assigned}
use Rattle.kf_core.specs.Views.{dx_tree}
use Rattle.kf_core.specs.Leaks.{silent}
use Rattle.kf_push.specs.Following.{Takes}
use Rattle.kf_run.proofs.Sharing.{at_entry, entries_fit, entries_positive, shared_all, shared_next}
use Rattle.kf_run.proofs.assigned.move_column.Goals as goal

pub move_entry-requires-clause-takes : goal.move_entry-requires-clause-takes
move_entry-requires-clause-takes c =
    let runs = assigned silent (shape_types c.args.shape.now) c.args.slot (dx_tree c.args.dist.now) in
    at_entry c.as_slice-entries.result.now c.args.column.now (c.as_slice-entries.ensures ∙ c.entries.ensures.kept) c.loop-entry.entry-index c.loop-entry-test.true (record { value = 0; weight = 0 })
    (λ (e : Entry). All (Takes e.weight) (runs e.value)) c.requires.goes

pub add_column-requires-clause-positive : goal.add_column-requires-clause-positive
add_column-requires-clause-positive c =
    let runs = assigned silent (shape_types c.args.shape.now) c.args.slot (dx_tree c.args.dist.now) in
    let shared = shared_all runs c.as_slice-entries.result.now c.args.column.now (c.as_slice-entries.ensures ∙ c.entries.ensures.kept) c.loop-entry.entry-index c.loop-entry-test.false _ c.loop-entry.invariant.shared in
    entries_positive runs c.args.column.now [] c.loop-entry.behind.items shared

pub add_column-requires-clause-fits : goal.add_column-requires-clause-fits
add_column-requires-clause-fits c =
    let runs = assigned silent (shape_types c.args.shape.now) c.args.slot (dx_tree c.args.dist.now) in
    let shared = shared_all runs c.as_slice-entries.result.now c.args.column.now (c.as_slice-entries.ensures ∙ c.entries.ensures.kept) c.loop-entry.entry-index c.loop-entry-test.false _ c.loop-entry.invariant.shared in
    entries_fit runs c.args.column.now [] c.loop-entry.behind.items shared (2 ^ 128) c.requires.fits

pub loop-entry-preserved : goal.loop-entry-preserved
loop-entry-preserved c =
    let runs = assigned silent (shape_types c.args.shape.now) c.args.slot (dx_tree c.args.dist.now) in
    record {
      shared = shared_next runs c.as_slice-entries.result.now c.args.column.now (c.as_slice-entries.ensures ∙ c.entries.ensures.kept) c.loop-entry.entry-index (record { value = 0; weight = 0 }) c.loop-entry-test.true _ _ c.loop-entry.invariant.shared
          c.in_ok-move_entry.ensures.added;
      memo = c.in_ok-move_entry.ensures.memo;
      below = c.in_ok-move_entry.ensures.below c.loop-entry.invariant.below;
    }

pub returns-clause-rows : goal.returns-clause-rows
returns-clause-rows c =
    let runs = assigned silent (shape_types c.args.shape.now) c.args.slot (dx_tree c.args.dist.now) in
    let shared = shared_all runs c.as_slice-entries.result.now c.args.column.now (c.as_slice-entries.ensures ∙ c.entries.ensures.kept) c.loop-entry.entry-index c.loop-entry-test.false _ c.loop-entry.invariant.shared in
    c.in_ok-add_column.ensures runs (shape_size c.args.shape.now) c.args.column.now [] shared c.loop-entry.invariant.below
