use Rattle.std.proofs.Common.{◌<◌, All, ◌∙◌, arith}
use Rattle.std.proofs.lemmas.List.Elements.{All-from_recursion}
use Rattle.kf_run.specs.declared.ways.Leak.{Leak}
use Rattle.kf_value.specs.Shapes.{shape_size, shape_types}
use Rattle.kf_column.specs.declared.entry.Entry.{Entry}
use Rattle.kf_core.specs.Views.{dx_tree}
use Rattle.kf_push.specs.Following.{Takes}
use Rattle.kf_run.specs.Following.{shown_to}
use Rattle.kf_run.proofs.Sharing.{at_entry, leaks_positive, shared_all, shared_next}
use Rattle.kf_run.proofs.observation.show_column.Goals as goal

pub show_entry-requires-clause-takes : goal.show_entry-requires-clause-takes
show_entry-requires-clause-takes c =
    let runs = shown_to (shape_types c.args.shape.now) c.args.into (dx_tree c.args.dist.now) in
    at_entry c.as_slice-entries.result.now c.args.column.now (c.as_slice-entries.ensures ∙ c.entries.ensures.kept) c.loop-entry.entry-index c.loop-entry-test.true (record { value = 0; weight = 0 })
    (λ (e : Entry). All (Takes e.weight) (runs e.value)) c.requires.goes

pub add_columns-requires-clause-positive : goal.add_columns-requires-clause-positive
add_columns-requires-clause-positive c =
    let runs = shown_to (shape_types c.args.shape.now) c.args.into (dx_tree c.args.dist.now) in
    let shared = shared_all runs c.as_slice-entries.result.now c.args.column.now (c.as_slice-entries.ensures ∙ c.entries.ensures.kept) c.loop-entry.entry-index c.loop-entry-test.false _ c.loop-entry.invariant.shared in
    All-from_recursion (λ (l : Leak). 0 < l.weight) c.loop-entry.leaks.items (leaks_positive c.loop-entry.leaks.items shared.positive)

pub add_columns-requires-clause-fits : goal.add_columns-requires-clause-fits
add_columns-requires-clause-fits c =
    let runs = shown_to (shape_types c.args.shape.now) c.args.into (dx_tree c.args.dist.now) in
    let shared = shared_all runs c.as_slice-entries.result.now c.args.column.now (c.as_slice-entries.ensures ∙ c.entries.ensures.kept) c.loop-entry.entry-index c.loop-entry-test.false _ c.loop-entry.invariant.shared in
    omega (arith, shared.fits, c.requires.fits)

pub loop-entry-preserved : goal.loop-entry-preserved
loop-entry-preserved c =
    let runs = shown_to (shape_types c.args.shape.now) c.args.into (dx_tree c.args.dist.now) in
    record {
      shared = shared_next runs c.as_slice-entries.result.now c.args.column.now (c.as_slice-entries.ensures ∙ c.entries.ensures.kept) c.loop-entry.entry-index (record { value = 0; weight = 0 }) c.loop-entry-test.true _ _ c.loop-entry.invariant.shared
          c.in_ok-show_entry.ensures.added;
      memo = c.in_ok-show_entry.ensures.memo;
      below = c.in_ok-show_entry.ensures.below c.loop-entry.invariant.below;
    }

pub returns-clause-rows : goal.returns-clause-rows
returns-clause-rows c =
    let runs = shown_to (shape_types c.args.shape.now) c.args.into (dx_tree c.args.dist.now) in
    let shared = shared_all runs c.as_slice-entries.result.now c.args.column.now (c.as_slice-entries.ensures ∙ c.entries.ensures.kept) c.loop-entry.entry-index c.loop-entry-test.false _ c.loop-entry.invariant.shared in
    c.in_ok-add_columns.ensures runs (shape_size c.args.shape.now) c.args.column.now shared c.loop-entry.invariant.below
