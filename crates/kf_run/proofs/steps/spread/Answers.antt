use Rattle.std.proofs.Common.{◌≡◌, ℕ, List, All, ◌∙◌}
use Rattle.kf_value.specs.Shapes.{shape_size, shape_types}
use Rattle.kf_column.specs.declared.entry.Entry.{Entry}
use Rattle.kf_column.specs.Shapes.{IsBelow}
use Rattle.kf_core.specs.Runs.{Run, assigned}
use Rattle.kf_core.specs.Views.{dx_tree}
use Rattle.kf_core.specs.Leaks.{silent}
use Rattle.kf_push.specs.Following.{Takes}
use Rattle.kf_run.proofs.Spread.{column_fits, column_has, spread_all, spread_joint, spread_more, spread_none}
use Rattle.kf_run.proofs.steps.spread.Goals as goal

pub move_column-requires-clause-below : goal.move_column-requires-clause-below
move_column-requires-clause-below c =
    let runs : ℕ → List Run = assigned silent (shape_types c.args.shape.now) c.args.slot (dx_tree c.args.dist.now) in
    let size = shape_size c.args.shape.now in
    let columns = c.args.columns.now.columns in
    let items = c.as_slice-column-items.result.now in
    let same : items ≡ columns = c.as_slice-column-items.ensures ∙ c.columns.ensures.kept in
    let i = c.loop-column.column-index in
    column_has items columns same i c.column-item.result c.loop-column-test.true c.column-item.is (IsBelow size) c.requires.below

pub move_column-requires-clause-fits : goal.move_column-requires-clause-fits
move_column-requires-clause-fits c =
    let runs : ℕ → List Run = assigned silent (shape_types c.args.shape.now) c.args.slot (dx_tree c.args.dist.now) in
    let size = shape_size c.args.shape.now in
    let columns = c.args.columns.now.columns in
    let items = c.as_slice-column-items.result.now in
    let same : items ≡ columns = c.as_slice-column-items.ensures ∙ c.columns.ensures.kept in
    let i = c.loop-column.column-index in
    column_fits items columns same i c.column-item.result c.loop-column-test.true c.column-item.is c.args.columns.now.scale c.columns.ensures.joint

pub move_column-requires-clause-goes : goal.move_column-requires-clause-goes
move_column-requires-clause-goes c =
    let runs : ℕ → List Run = assigned silent (shape_types c.args.shape.now) c.args.slot (dx_tree c.args.dist.now) in
    let size = shape_size c.args.shape.now in
    let columns = c.args.columns.now.columns in
    let items = c.as_slice-column-items.result.now in
    let same : items ≡ columns = c.as_slice-column-items.ensures ∙ c.columns.ensures.kept in
    let i = c.loop-column.column-index in
    column_has items columns same i c.column-item.result c.loop-column-test.true c.column-item.is (λ (column : List Entry). All (λ e. All (Takes e.weight) (runs e.value)) column) c.requires.goes

pub loop-column-init : goal.loop-column-init
loop-column-init c =
    let runs : ℕ → List Run = assigned silent (shape_types c.args.shape.now) c.args.slot (dx_tree c.args.dist.now) in
    let size = shape_size c.args.shape.now in
    record { memo = c.in_ok-memo.ensures; spread = rw c.new-list.ensures.items (spread_none runs size) }

pub loop-column-preserved : goal.loop-column-preserved
loop-column-preserved c =
    let runs : ℕ → List Run = assigned silent (shape_types c.args.shape.now) c.args.slot (dx_tree c.args.dist.now) in
    let size = shape_size c.args.shape.now in
    let columns = c.args.columns.now.columns in
    let items = c.as_slice-column-items.result.now in
    let same : items ≡ columns = c.as_slice-column-items.ensures ∙ c.columns.ensures.kept in
    let i = c.loop-column.column-index in
    record { memo = c.in_ok-move_column.ensures.memo; spread = spread_more runs size items columns same i c.column-item.result c.loop-column-test.true c.column-item.is _ _ c.loop-column.invariant.spread c.in_ok-move_column.ensures.rows }

pub merged-requires : goal.merged-requires
merged-requires c =
    let runs : ℕ → List Run = assigned silent (shape_types c.args.shape.now) c.args.slot (dx_tree c.args.dist.now) in
    let size = shape_size c.args.shape.now in
    let columns = c.args.columns.now.columns in
    let items = c.as_slice-column-items.result.now in
    let same : items ≡ columns = c.as_slice-column-items.ensures ∙ c.columns.ensures.kept in
    let i = c.loop-column.column-index in
    let on = spread_all runs size items columns same i c.loop-column-test.false c.loop-column.list.items c.loop-column.invariant.spread in
    record { joint = rw c.scale.ensures.kept (spread_joint runs size c.args.columns.now.scale columns c.loop-column.list.items on c.columns.ensures.joint) }

pub returns-clause-pushed : goal.returns-clause-pushed
returns-clause-pushed c =
    let runs : ℕ → List Run = assigned silent (shape_types c.args.shape.now) c.args.slot (dx_tree c.args.dist.now) in
    let size = shape_size c.args.shape.now in
    let columns = c.args.columns.now.columns in
    let items = c.as_slice-column-items.result.now in
    let same : items ≡ columns = c.as_slice-column-items.ensures ∙ c.columns.ensures.kept in
    let i = c.loop-column.column-index in
    let on = spread_all runs size items columns same i c.loop-column-test.false c.loop-column.list.items c.loop-column.invariant.spread in
    (c.in_ok-after.ensures runs size columns on).0

pub returns-clause-scale : goal.returns-clause-scale
returns-clause-scale c =
    let runs : ℕ → List Run = assigned silent (shape_types c.args.shape.now) c.args.slot (dx_tree c.args.dist.now) in
    let size = shape_size c.args.shape.now in
    let columns = c.args.columns.now.columns in
    let items = c.as_slice-column-items.result.now in
    let same : items ≡ columns = c.as_slice-column-items.ensures ∙ c.columns.ensures.kept in
    let i = c.loop-column.column-index in
    let on = spread_all runs size items columns same i c.loop-column-test.false c.loop-column.list.items c.loop-column.invariant.spread in
    (c.in_ok-after.ensures runs size columns on).1 ∙ c.scale.ensures.kept

pub returns-clause-below : goal.returns-clause-below
returns-clause-below c =
    let runs : ℕ → List Run = assigned silent (shape_types c.args.shape.now) c.args.slot (dx_tree c.args.dist.now) in
    let size = shape_size c.args.shape.now in
    let columns = c.args.columns.now.columns in
    let items = c.as_slice-column-items.result.now in
    let same : items ≡ columns = c.as_slice-column-items.ensures ∙ c.columns.ensures.kept in
    let i = c.loop-column.column-index in
    let on = spread_all runs size items columns same i c.loop-column-test.false c.loop-column.list.items c.loop-column.invariant.spread in
    (c.in_ok-after.ensures runs size columns on).2
