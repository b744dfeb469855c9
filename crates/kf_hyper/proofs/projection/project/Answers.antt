use Rattle.std.proofs.Common.{◌≡◌, ◌<◌, ◌≤◌, All, length, get_or, sym, ◌∙◌, ap, subst, arith}
use Rattle.std.proofs.lemmas.List.Elements.{All-push}
use Rattle.std.proofs.lemmas.List.Sums.{get_or-le-sum_by, sum_by-take-le}
use Rattle.kf_frac.specs.Fractions.{limit}
use Rattle.kf_value.specs.Types.{product}
use Rattle.kf_value.specs.Shapes.{shape_sizes, shape_size}
use Rattle.kf_column.specs.Columns.{weight_at, total}
use Rattle.kf_column.specs.Shapes.{IsBelow}
use Rattle.kf_column.specs.Joint.{mass}
use Rattle.kf_column.specs.Projection.{at_places, projected, weight_through}
use Rattle.kf_hyper.proofs.OneMore.{mapped_push, mass_push}
use Rattle.kf_hyper.proofs.projection.project.Goals as goal

pub projected_column-requires-clause-fits : goal.projected_column-requires-clause-fits
projected_column-requires-clause-fits c =
    let same = c.as_slice-whole.ensures ∙ c.columns.ensures.kept in
    let part = get_or-le-sum_by total c.as_slice-whole.result.now c.loop-column.column-index c.column-item.result c.loop-column-test.true in
    let joint = c.columns.ensures.joint in
    omega (arith, part, ap total c.column-item.is, ap mass same, joint.fits, joint.narrow)

pub projected_column-requires-clause-stores : goal.projected_column-requires-clause-stores
projected_column-requires-clause-stores c =
    let size = shape_size c.args.shape.now in
    let same = c.as_slice-whole.ensures ∙ c.columns.ensures.kept in
    let stores = subst (All (IsBelow size)) (sym same) c.requires.stores in
    subst (IsBelow size) (sym c.column-item.is) (stores c.loop-column.column-index c.column-item.result c.loop-column-test.true)

pub loop-column-preserved : goal.loop-column-preserved
loop-column-preserved c =
    let columns = c.args.columns.now.columns in
    let i = c.loop-column.column-index in
    let sizes = shape_sizes c.args.shape.now in
    let list = c.loop-column.list.items in
    let column = c.column-item.result in
    let made = c.in_ok-projected_column.field-0 in
    let same = c.as_slice-whole.ensures ∙ c.columns.ensures.kept in
    let inside : i < length columns = subst (λ cs. i < length cs) same c.loop-column-test.true in
    let is : column ≡ get_or columns i column = c.column-item.is ∙ ap (λ cs. get_or cs i column) same in
    let weights = rw (c.as_slice.ensures) at c.in_ok-projected_column.ensures.weights in
    let below = rw (c.as_slice.ensures) at c.in_ok-projected_column.ensures.below in
    rw (c.in_ok-push.ensures.items) (record {
      weights = mapped_push columns list i column made inside is weight_at (weight_through (projected sizes c.args.slots.now)) c.loop-column.invariant.weights weights;
      below = All-push (IsBelow (product (at_places c.args.slots.now sizes))) list made c.loop-column.invariant.below below;
      mass = mass_push columns list i column made inside is c.loop-column.invariant.mass c.in_ok-projected_column.ensures.total;
    })

pub new-requires-2 : goal.new-requires-2
new-requires-2 c =
    let joint = c.scale.ensures.joint in
    let part = sum_by-take-le total c.args.columns.now.columns c.loop-column.column-index in
    record {
      some = subst (λ s. 0 < s) (sym c.scale.ensures.kept) joint.some;
      narrow = subst (λ s. s ≤ limit) (sym c.scale.ensures.kept) joint.narrow;
      fits = omega (arith, ap mass c.new.ensures, c.loop-column.invariant.mass, part, joint.fits, c.scale.ensures.kept);
    }
