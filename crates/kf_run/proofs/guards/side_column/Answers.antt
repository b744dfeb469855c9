use Rattle.std.proofs.Common.{◌^◌, true, false, [], ◌∷◌, All, ◌∙◌}
use Rattle.kf_value.specs.Values.{Truth}
use Rattle.kf_value.specs.Shapes.{shape_size, shape_types}
use Rattle.kf_column.specs.declared.entry.Entry.{Entry}
use Rattle.kf_core.specs.Runs.{tried}
use Rattle.kf_core.specs.Views.{dx_tree}
use Rattle.kf_push.specs.Following.{Takes, observed, side}
use Rattle.kf_run.proofs.Sharing.{at_entry, entries_fit, entries_positive, shared_all, shared_next}
use Rattle.kf_run.proofs.guards.side_column.Goals as goal

pub side_entry-requires-clause-takes : goal.side_entry-requires-clause-takes
side_entry-requires-clause-takes c =
    at_entry c.as_slice-entry-items.result.now c.args.column.now (c.as_slice-entry-items.ensures ∙ c.entries.ensures.kept) c.loop-entry.entry-index c.loop-entry-test.true (record { value = 0; weight = 0 })
    (λ (e : Entry). All (Takes e.weight) (observed (tried (shape_types c.args.shape.now) (dx_tree c.args.dist.now)) e.value)) c.requires.goes

pub loop-entry-preserved : goal.loop-entry-preserved
loop-entry-preserved c =
    let tries = tried (shape_types c.args.shape.now) (dx_tree c.args.dist.now) in
    let known = c.loop-entry.invariant in
    record {
      memo = c.in_ok-side_entry.ensures.memo;
      taken = shared_next (side true tries) c.as_slice-entry-items.result.now c.args.column.now (c.as_slice-entry-items.ensures ∙ c.entries.ensures.kept) c.loop-entry.entry-index (record { value = 0; weight = 0 }) c.loop-entry-test.true _ _ known.taken c.in_ok-side_entry.ensures.taken;
      left = shared_next (side false tries) c.as_slice-entry-items.result.now c.args.column.now (c.as_slice-entry-items.ensures ∙ c.entries.ensures.kept) c.loop-entry.entry-index (record { value = 0; weight = 0 }) c.loop-entry-test.true _ _ known.left c.in_ok-side_entry.ensures.left;
      below_taken = c.in_ok-side_entry.ensures.below_taken known.below_taken;
      below_left = c.in_ok-side_entry.ensures.below_left known.below_left;
    }

pub add_column-requires-clause-positive : goal.add_column-requires-clause-positive
add_column-requires-clause-positive c =
    let runs = side true (tried (shape_types c.args.shape.now) (dx_tree c.args.dist.now)) in
    let shared = shared_all runs c.as_slice-entry-items.result.now c.args.column.now (c.as_slice-entry-items.ensures ∙ c.entries.ensures.kept) c.loop-entry.entry-index c.loop-entry-test.false _ c.loop-entry.invariant.taken in
    entries_positive runs c.args.column.now (Truth true ∷ []) c.loop-entry.taken.items shared

pub add_column-requires-clause-fits : goal.add_column-requires-clause-fits
add_column-requires-clause-fits c =
    let runs = side true (tried (shape_types c.args.shape.now) (dx_tree c.args.dist.now)) in
    let shared = shared_all runs c.as_slice-entry-items.result.now c.args.column.now (c.as_slice-entry-items.ensures ∙ c.entries.ensures.kept) c.loop-entry.entry-index c.loop-entry-test.false _ c.loop-entry.invariant.taken in
    entries_fit runs c.args.column.now (Truth true ∷ []) c.loop-entry.taken.items shared (2 ^ 128) c.requires.fits

pub returns-clause-taken : goal.returns-clause-taken
returns-clause-taken c =
    let runs = side true (tried (shape_types c.args.shape.now) (dx_tree c.args.dist.now)) in
    let shared = shared_all runs c.as_slice-entry-items.result.now c.args.column.now (c.as_slice-entry-items.ensures ∙ c.entries.ensures.kept) c.loop-entry.entry-index c.loop-entry-test.false _ c.loop-entry.invariant.taken in
    c.in_ok-add_column.ensures runs (shape_size c.args.shape.now) c.args.column.now (Truth true ∷ []) shared c.loop-entry.invariant.below_taken

pub add_column-requires-2-clause-positive : goal.add_column-requires-2-clause-positive
add_column-requires-2-clause-positive c =
    let runs = side false (tried (shape_types c.args.shape.now) (dx_tree c.args.dist.now)) in
    let shared = shared_all runs c.as_slice-entry-items.result.now c.args.column.now (c.as_slice-entry-items.ensures ∙ c.entries.ensures.kept) c.loop-entry.entry-index c.loop-entry-test.false _ c.loop-entry.invariant.left in
    entries_positive runs c.args.column.now (Truth false ∷ []) c.loop-entry.left.items shared

pub add_column-requires-2-clause-fits : goal.add_column-requires-2-clause-fits
add_column-requires-2-clause-fits c =
    let runs = side false (tried (shape_types c.args.shape.now) (dx_tree c.args.dist.now)) in
    let shared = shared_all runs c.as_slice-entry-items.result.now c.args.column.now (c.as_slice-entry-items.ensures ∙ c.entries.ensures.kept) c.loop-entry.entry-index c.loop-entry-test.false _ c.loop-entry.invariant.left in
    entries_fit runs c.args.column.now (Truth false ∷ []) c.loop-entry.left.items shared (2 ^ 128) c.requires.fits

pub returns-clause-left : goal.returns-clause-left
returns-clause-left c =
    let runs = side false (tried (shape_types c.args.shape.now) (dx_tree c.args.dist.now)) in
    let shared = shared_all runs c.as_slice-entry-items.result.now c.args.column.now (c.as_slice-entry-items.ensures ∙ c.entries.ensures.kept) c.loop-entry.entry-index c.loop-entry-test.false _ c.loop-entry.invariant.left in
    c.in_ok-add_column-2.ensures runs (shape_size c.args.shape.now) c.args.column.now (Truth false ∷ []) shared c.loop-entry.invariant.below_left
