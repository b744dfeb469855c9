use Rattle.std.proofs.Common.{◌≡◌, ℕ, List, ◌∙◌}
use Rattle.kf_value.specs.Shapes.{shape_size, shape_types}
use Rattle.kf_column.specs.Shapes.{IsBelow}
use Rattle.kf_core.specs.Runs.{Run}
use Rattle.kf_run.specs.Forgetting.{forgetting}
use Rattle.kf_value.specs.Views.{value_tree}
use Rattle.kf_run.proofs.Spread.{column_fits, column_has, spread_all, spread_joint, spread_more, spread_none}
use Rattle.kf_run.proofs.steps.set_to.Goals as goal

pub forget_column-requires-clause-below : goal.forget_column-requires-clause-below
forget_column-requires-clause-below c =
    let runs : ℕ → List Run = forgetting (shape_types c.args.shape.now) c.args.slot (value_tree c.args.value.now) in
    let size = shape_size c.args.shape.now in
    let columns = c.args.columns.now.columns in
    let items = c.as_slice-column-items.result.now in
    let same : items ≡ columns = c.as_slice-column-items.ensures ∙ c.columns.ensures.kept in
    let i = c.loop-column.column-index in
    column_has items columns same i c.column-item.result c.loop-column-test.true c.column-item.is (IsBelow size) c.requires.below

pub forget_column-requires-clause-fits : goal.forget_column-requires-clause-fits
forget_column-requires-clause-fits c =
    let runs : ℕ → List Run = forgetting (shape_types c.args.shape.now) c.args.slot (value_tree c.args.value.now) in
    let size = shape_size c.args.shape.now in
    let columns = c.args.columns.now.columns in
    let items = c.as_slice-column-items.result.now in
    let same : items ≡ columns = c.as_slice-column-items.ensures ∙ c.columns.ensures.kept in
    let i = c.loop-column.column-index in
    column_fits items columns same i c.column-item.result c.loop-column-test.true c.column-item.is c.args.columns.now.scale c.columns.ensures.joint

pub loop-column-init : goal.loop-column-init
loop-column-init c =
    let runs : ℕ → List Run = forgetting (shape_types c.args.shape.now) c.args.slot (value_tree c.args.value.now) in
    let size = shape_size c.args.shape.now in
    rw c.new-list.ensures.items (spread_none runs size)

pub loop-column-preserved : goal.loop-column-preserved
loop-column-preserved c =
    let runs : ℕ → List Run = forgetting (shape_types c.args.shape.now) c.args.slot (value_tree c.args.value.now) in
    let size = shape_size c.args.shape.now in
    let columns = c.args.columns.now.columns in
    let items = c.as_slice-column-items.result.now in
    let same : items ≡ columns = c.as_slice-column-items.ensures ∙ c.columns.ensures.kept in
    let i = c.loop-column.column-index in
    spread_more runs size items columns same i c.column-item.result c.loop-column-test.true c.column-item.is _ _ c.loop-column.invariant c.in_ok-forget_column.ensures

pub merged-requires : goal.merged-requires
merged-requires c =
    let runs : ℕ → List Run = forgetting (shape_types c.args.shape.now) c.args.slot (value_tree c.args.value.now) in
    let size = shape_size c.args.shape.now in
    let columns = c.args.columns.now.columns in
    let items = c.as_slice-column-items.result.now in
    let same : items ≡ columns = c.as_slice-column-items.ensures ∙ c.columns.ensures.kept in
    let i = c.loop-column.column-index in
    let on = spread_all runs size items columns same i c.loop-column-test.false c.loop-column.list.items c.loop-column.invariant in
    record { joint = rw c.scale.ensures.kept (spread_joint runs size c.args.columns.now.scale columns c.loop-column.list.items on c.columns.ensures.joint) }

pub returns-clause-pushed : goal.returns-clause-pushed
returns-clause-pushed c =
    let runs : ℕ → List Run = forgetting (shape_types c.args.shape.now) c.args.slot (value_tree c.args.value.now) in
    let size = shape_size c.args.shape.now in
    let columns = c.args.columns.now.columns in
    let items = c.as_slice-column-items.result.now in
    let same : items ≡ columns = c.as_slice-column-items.ensures ∙ c.columns.ensures.kept in
    let i = c.loop-column.column-index in
    let on = spread_all runs size items columns same i c.loop-column-test.false c.loop-column.list.items c.loop-column.invariant in
    (c.in_ok-after.ensures runs size columns on).0

pub returns-clause-scale : goal.returns-clause-scale
returns-clause-scale c =
    let runs : ℕ → List Run = forgetting (shape_types c.args.shape.now) c.args.slot (value_tree c.args.value.now) in
    let size = shape_size c.args.shape.now in
    let columns = c.args.columns.now.columns in
    let items = c.as_slice-column-items.result.now in
    let same : items ≡ columns = c.as_slice-column-items.ensures ∙ c.columns.ensures.kept in
    let i = c.loop-column.column-index in
    let on = spread_all runs size items columns same i c.loop-column-test.false c.loop-column.list.items c.loop-column.invariant in
    (c.in_ok-after.ensures runs size columns on).1 ∙ c.scale.ensures.kept

pub returns-clause-below : goal.returns-clause-below
returns-clause-below c =
    let runs : ℕ → List Run = forgetting (shape_types c.args.shape.now) c.args.slot (value_tree c.args.value.now) in
    let size = shape_size c.args.shape.now in
    let columns = c.args.columns.now.columns in
    let items = c.as_slice-column-items.result.now in
    let same : items ≡ columns = c.as_slice-column-items.ensures ∙ c.columns.ensures.kept in
    let i = c.loop-column.column-index in
    let on = spread_all runs size items columns same i c.loop-column-test.false c.loop-column.list.items c.loop-column.invariant in
    (c.in_ok-after.ensures runs size columns on).2
