use Rattle.std.proofs.Common.{ℕ, List, ◌^◌, [], ◌∙◌}
use Rattle.kf_value.specs.Shapes.{shape_size, shape_types}
use Rattle.kf_core.specs.Runs.{Run}
use Rattle.kf_run.specs.Forgetting.{forgetting}
use Rattle.kf_value.specs.Views.{value_tree}
use Rattle.kf_run.proofs.Sharing.{entries_fit, entries_positive, shared_all, shared_next}
use Rattle.kf_run.proofs.forgotten.forget_column.Goals as goal

pub add_column-requires-clause-positive : goal.add_column-requires-clause-positive
add_column-requires-clause-positive c =
    let runs : ℕ → List Run = forgetting (shape_types c.args.shape.now) c.args.slot (value_tree c.args.value.now) in
    let shared = shared_all runs c.as_slice-entries.result.now c.args.column.now (c.as_slice-entries.ensures ∙ c.entries.ensures.kept) c.loop-entry.entry-index c.loop-entry-test.false _ c.loop-entry.invariant.shared in
    entries_positive runs c.args.column.now [] c.loop-entry.behind.items shared

pub add_column-requires-clause-fits : goal.add_column-requires-clause-fits
add_column-requires-clause-fits c =
    let runs : ℕ → List Run = forgetting (shape_types c.args.shape.now) c.args.slot (value_tree c.args.value.now) in
    let shared = shared_all runs c.as_slice-entries.result.now c.args.column.now (c.as_slice-entries.ensures ∙ c.entries.ensures.kept) c.loop-entry.entry-index c.loop-entry-test.false _ c.loop-entry.invariant.shared in
    entries_fit runs c.args.column.now [] c.loop-entry.behind.items shared (2 ^ 128) c.requires.fits

pub loop-entry-preserved : goal.loop-entry-preserved
loop-entry-preserved c =
    let runs : ℕ → List Run = forgetting (shape_types c.args.shape.now) c.args.slot (value_tree c.args.value.now) in
    record {
      shared = shared_next runs c.as_slice-entries.result.now c.args.column.now (c.as_slice-entries.ensures ∙ c.entries.ensures.kept) c.loop-entry.entry-index (record { value = 0; weight = 0 }) c.loop-entry-test.true _ _ c.loop-entry.invariant.shared
          c.in_ok-forget_entry.ensures.added;
      below = c.in_ok-forget_entry.ensures.below c.loop-entry.invariant.below;
    }

pub returns : goal.returns
returns c =
    let runs : ℕ → List Run = forgetting (shape_types c.args.shape.now) c.args.slot (value_tree c.args.value.now) in
    let shared = shared_all runs c.as_slice-entries.result.now c.args.column.now (c.as_slice-entries.ensures ∙ c.entries.ensures.kept) c.loop-entry.entry-index c.loop-entry-test.false _ c.loop-entry.invariant.shared in
    c.in_ok-add_column.ensures runs (shape_size c.args.shape.now) c.args.column.now [] shared c.loop-entry.invariant.below
