use Rattle.std.proofs.Common.{ap, sym, subst, ◌∙◌, arith}
use Rattle.kf_value.specs.Shapes.{shape_size, shape_sizes}
use Rattle.kf_value.specs.Types.{product}
use Rattle.kf_core.specs.Joint.{target_number}
use Rattle.kf_core.specs.Views.{program_tree}
use Rattle.kf_column.specs.Projection.{at_places, projected, weight_through}
use Rattle.kf_column.specs.Shapes.{IsBelow}
use Rattle.kf_core.proofs.Numbering.{slots_within, slots_distinct, target_size_is, target_number_is}
use Rattle.kf_hyper.specs.Sums.{summed}
use Rattle.kf_traces.proofs.Tabling.{gathers_stores, total_summed, stores_positive, stores_some, only_pushed, alone_is_joint, alone_below, about_weights, about_below, about_alone, about_total}
use Rattle.kf_traces.proofs.columns.column.Goals as goal

pub gathered-requires : goal.gathered-requires
gathered-requires c =
    let es = c.args.stores.items in
    let positive = stores_positive es c.requires.positive in
    let some = stores_some es c.requires.positive c.requires.some in
    let all = total_summed es in
    let within = c.requires.fits.narrow in
    rw (c.in_ok-entries.ensures, c.as_slice.ensures.value) (record { some = some; positive = positive; fits = omega (arith, all, within) })

pub new-joint-requires : goal.new-joint-requires
new-joint-requires c =
    let column = c.gathered.result in
    let gathers =
    gathers_stores c.args.stores.items c.in_ok-entries.entries.items column (c.in_ok-entries.ensures ∙ ap summed c.as_slice.ensures.value) c.gathered.ensures.weights c.gathered.ensures.total c.gathered.ensures.below in
    let one = only_pushed column c.new-columns.result.items c.push.new.self.items c.new.result c.new-columns.ensures.items c.in_ok-push.ensures.items c.new.ensures in
    alone_is_joint c.args.scale c.args.stores.items column c.new.result one gathers (stores_some c.args.stores.items c.requires.positive c.requires.some) c.requires.within
    c.requires.narrow

pub project-requires-clause-stores : goal.project-requires-clause-stores
project-requires-clause-stores c =
    let column = c.gathered.result in
    let gathers =
    gathers_stores c.args.stores.items c.in_ok-entries.entries.items column (c.in_ok-entries.ensures ∙ ap summed c.as_slice.ensures.value) c.gathered.ensures.weights c.gathered.ensures.total c.gathered.ensures.below in
    let one = ap (λ j. j.columns) c.new-joint.ensures ∙ only_pushed column c.new-columns.result.items c.push.new.self.items c.new.result c.new-columns.ensures.items c.in_ok-push.ensures.items c.new.ensures in
    alone_below (shape_size c.args.program.now.shape) c.args.stores.items column c.new-joint.result.columns one gathers c.requires.fits.below

pub project-requires-clause-places : goal.project-requires-clause-places
project-requires-clause-places c = slots_within (program_tree c.args.program.now) c.requires.checked

pub project-requires-clause-apart : goal.project-requires-clause-apart
project-requires-clause-apart c = slots_distinct (program_tree c.args.program.now) c.requires.checked

pub returns-clause-weights : goal.returns-clause-weights
returns-clause-weights c =
    let p = program_tree c.args.program.now in
    let column = c.gathered.result in
    let gathers =
    gathers_stores c.args.stores.items c.in_ok-entries.entries.items column (c.in_ok-entries.ensures ∙ ap summed c.as_slice.ensures.value) c.gathered.ensures.weights c.gathered.ensures.total c.gathered.ensures.below in
    let one = ap (λ j. j.columns) c.new-joint.ensures ∙ only_pushed column c.new-columns.result.items c.push.new.self.items c.new.result c.new-columns.ensures.items c.in_ok-push.ensures.items c.new.ensures in
    about_weights c.args.stores.items column c.in_ok-column.column c.new-joint.result.columns c.in_ok-about.about.columns one gathers c.in_ok-column.ensures.only
    (projected (shape_sizes c.args.program.now.shape) c.args.program.now.target_slots) (target_number p) (shape_size c.args.program.now.shape)
    (target_number_is p c.requires.checked c.projection_laws.ensures) c.requires.fits.below c.in_ok-about.ensures.weights

pub returns-clause-below : goal.returns-clause-below
returns-clause-below c =
    let p = program_tree c.args.program.now in
    let room = product (at_places c.args.program.now.target_slots (shape_sizes c.args.program.now.shape)) in
    subst (λ n. IsBelow n c.in_ok-column.column) (sym (target_size_is p c.requires.checked))
    (about_below room c.in_ok-column.column c.in_ok-about.about.columns c.in_ok-column.ensures.only c.in_ok-about.ensures.below)

pub only_column-requires : goal.only_column-requires
only_column-requires c =
    let column = c.gathered.result in
    let gathers =
    gathers_stores c.args.stores.items c.in_ok-entries.entries.items column (c.in_ok-entries.ensures ∙ ap summed c.as_slice.ensures.value) c.gathered.ensures.weights c.gathered.ensures.total c.gathered.ensures.below in
    let one = ap (λ j. j.columns) c.new-joint.ensures ∙ only_pushed column c.new-columns.result.items c.push.new.self.items c.new.result c.new-columns.ensures.items c.in_ok-push.ensures.items c.new.ensures in
    about_alone column c.new-joint.result.columns c.in_ok-about.about.columns (weight_through (projected (shape_sizes c.args.program.now.shape) c.args.program.now.target_slots)) one c.in_ok-about.ensures.weights

pub returns-clause-total : goal.returns-clause-total
returns-clause-total c =
    let column = c.gathered.result in
    let gathers =
    gathers_stores c.args.stores.items c.in_ok-entries.entries.items column (c.in_ok-entries.ensures ∙ ap summed c.as_slice.ensures.value) c.gathered.ensures.weights c.gathered.ensures.total c.gathered.ensures.below in
    let one = ap (λ j. j.columns) c.new-joint.ensures ∙ only_pushed column c.new-columns.result.items c.push.new.self.items c.new.result c.new-columns.ensures.items c.in_ok-push.ensures.items c.new.ensures in
    about_total c.args.stores.items column c.in_ok-column.column c.new-joint.result.columns c.in_ok-about.about.columns one gathers c.in_ok-column.ensures.only c.in_ok-about.ensures.mass

pub returns-clause-column : goal.returns-clause-column
returns-clause-column c = c.in_ok-column.ensures.column
