use Rattle.std.proofs.Common.{◌≡◌, ℕ, List, All, ◌∙◌}
use Rattle.kf_value.specs.Shapes.{shape_size, shape_types}
use Rattle.kf_column.specs.declared.entry.Entry.{Entry}
use Rattle.kf_column.specs.Shapes.{IsBelow}
use Rattle.std.proofs.Common.{true, false}
use Rattle.kf_core.specs.Runs.{Run, tried}
use Rattle.kf_core.specs.Views.{dx_tree}
use Rattle.kf_core.proofs.Solid.{dist_filled}
use Rattle.kf_push.specs.Following.{Takes, observed, side}
use Rattle.kf_run.proofs.Parting.{both_mass}
use Rattle.kf_run.proofs.Spread.{column_fits, column_has, spread_all, spread_joint, spread_more, spread_none}
use Rattle.kf_run.proofs.steps.guard.Goals as goal

pub side_column-requires-clause-below : goal.side_column-requires-clause-below
side_column-requires-clause-below c =
    let runs : ℕ → List Run = observed (tried (shape_types c.args.shape.now) (dx_tree c.args.dist.now)) in
    let size = shape_size c.args.shape.now in
    let columns = c.args.columns.now.columns in
    let items = c.as_slice-column-items.result.now in
    let same : items ≡ columns = c.as_slice-column-items.ensures ∙ c.columns.ensures.kept in
    let i = c.loop-column.column-index in
    column_has items columns same i c.column-item.result c.loop-column-test.true c.column-item.is (IsBelow size) c.requires.below

pub side_column-requires-clause-fits : goal.side_column-requires-clause-fits
side_column-requires-clause-fits c =
    let runs : ℕ → List Run = observed (tried (shape_types c.args.shape.now) (dx_tree c.args.dist.now)) in
    let size = shape_size c.args.shape.now in
    let columns = c.args.columns.now.columns in
    let items = c.as_slice-column-items.result.now in
    let same : items ≡ columns = c.as_slice-column-items.ensures ∙ c.columns.ensures.kept in
    let i = c.loop-column.column-index in
    column_fits items columns same i c.column-item.result c.loop-column-test.true c.column-item.is c.args.columns.now.scale c.columns.ensures.joint

pub side_column-requires-clause-goes : goal.side_column-requires-clause-goes
side_column-requires-clause-goes c =
    let runs : ℕ → List Run = observed (tried (shape_types c.args.shape.now) (dx_tree c.args.dist.now)) in
    let size = shape_size c.args.shape.now in
    let columns = c.args.columns.now.columns in
    let items = c.as_slice-column-items.result.now in
    let same : items ≡ columns = c.as_slice-column-items.ensures ∙ c.columns.ensures.kept in
    let i = c.loop-column.column-index in
    column_has items columns same i c.column-item.result c.loop-column-test.true c.column-item.is (λ (column : List Entry). All (λ e. All (Takes e.weight) (runs e.value)) column) c.requires.goes

pub loop-column-init : goal.loop-column-init
loop-column-init c =
    let tries = tried (shape_types c.args.shape.now) (dx_tree c.args.dist.now) in
    let size = shape_size c.args.shape.now in
    record { memo = c.in_ok-memo.ensures; taken = rw c.new-held.ensures.items (spread_none (side true tries) size); left = rw c.new-failed.ensures.items (spread_none (side false tries) size) }

pub loop-column-preserved : goal.loop-column-preserved
loop-column-preserved c =
    let tries = tried (shape_types c.args.shape.now) (dx_tree c.args.dist.now) in
    let size = shape_size c.args.shape.now in
    let columns = c.args.columns.now.columns in
    let items = c.as_slice-column-items.result.now in
    let same : items ≡ columns = c.as_slice-column-items.ensures ∙ c.columns.ensures.kept in
    let i = c.loop-column.column-index in
    record {
      memo = c.in_ok-side_column.ensures.memo;
      taken = spread_more (side true tries) size items columns same i c.column-item.result c.loop-column-test.true c.column-item.is _ _ c.loop-column.invariant.taken c.in_ok-side_column.ensures.taken;
      left = spread_more (side false tries) size items columns same i c.column-item.result c.loop-column-test.true c.column-item.is _ _ c.loop-column.invariant.left c.in_ok-side_column.ensures.left;
    }

pub merged-requires : goal.merged-requires
merged-requires c =
    let runs : ℕ → List Run = side true (tried (shape_types c.args.shape.now) (dx_tree c.args.dist.now)) in
    let size = shape_size c.args.shape.now in
    let columns = c.args.columns.now.columns in
    let items = c.as_slice-column-items.result.now in
    let same : items ≡ columns = c.as_slice-column-items.ensures ∙ c.columns.ensures.kept in
    let i = c.loop-column.column-index in
    let on = spread_all runs size items columns same i c.loop-column-test.false c.loop-column.held.items c.loop-column.invariant.taken in
    record { joint = rw c.scale.ensures.kept (spread_joint runs size c.args.columns.now.scale columns c.loop-column.held.items on c.columns.ensures.joint) }

pub merged-requires-2 : goal.merged-requires-2
merged-requires-2 c =
    let runs : ℕ → List Run = side false (tried (shape_types c.args.shape.now) (dx_tree c.args.dist.now)) in
    let size = shape_size c.args.shape.now in
    let columns = c.args.columns.now.columns in
    let items = c.as_slice-column-items.result.now in
    let same : items ≡ columns = c.as_slice-column-items.ensures ∙ c.columns.ensures.kept in
    let i = c.loop-column.column-index in
    let on = spread_all runs size items columns same i c.loop-column-test.false c.loop-column.failed.items c.loop-column.invariant.left in
    record { joint = rw c.scale-2.ensures.kept (spread_joint runs size c.args.columns.now.scale columns c.loop-column.failed.items on c.columns.ensures.joint) }

pub returns : goal.returns
returns c =
    let ts = shape_types c.args.shape.now in
    let d = dx_tree c.args.dist.now in
    let size = shape_size c.args.shape.now in
    let columns = c.args.columns.now.columns in
    let items = c.as_slice-column-items.result.now in
    let same : items ≡ columns = c.as_slice-column-items.ensures ∙ c.columns.ensures.kept in
    let i = c.loop-column.column-index in
    let taken = c.in_ok-taken.ensures (side true (tried ts d)) size columns
    (spread_all (side true (tried ts d)) size items columns same i c.loop-column-test.false c.loop-column.held.items c.loop-column.invariant.taken) in
    let left = c.in_ok-left.ensures (side false (tried ts d)) size columns
    (spread_all (side false (tried ts d)) size items columns same i c.loop-column-test.false c.loop-column.failed.items c.loop-column.invariant.left) in
    record {
      to_taken = taken.0;
      to_left = left.0;
      scale_taken = taken.1 ∙ c.scale.ensures.kept;
      scale_left = left.1 ∙ c.scale-2.ensures.kept;
      below_taken = taken.2;
      below_left = left.2;
      whole = both_mass (tried ts d) (dist_filled ts d c.requires.kinded) columns c.in_ok-taken.taken.columns c.in_ok-left.left.columns c.requires.goes taken.0 left.0;
    }
