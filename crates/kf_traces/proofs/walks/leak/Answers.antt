use Rattle.std.proofs.Common.{[], map, ap, ◌∙◌}
use Rattle.std.proofs.lemmas.List.Elements.{All-same}
use Rattle.kf_value.specs.Shapes.{shape_size, shape_types}
use Rattle.kf_core.specs.Runs.{tried}
use Rattle.kf_support.specs.Moves.{store_behind}
use Rattle.kf_core.specs.Views.{dx_tree}
use Rattle.kf_value.specs.Views.{value_tree}
use Rattle.kf_traces.specs.Traced.{behind}
use Rattle.kf_traces.specs.Traced.{split as split_of}
use Rattle.kf_traces.specs.Views.{part_of, traced_of}
use Rattle.kf_traces.proofs.Walking.{InSize, leaked_fit}
use Rattle.kf_traces.proofs.walks.leak.Goals as goal

pub split-requires-clause-kinded : goal.split-requires-clause-kinded
split-requires-clause-kinded c = c.requires.kinded

pub returns-clause-leaked : goal.returns-clause-leaked
returns-clause-leaked c =
    let tries = tried (shape_types c.args.shape.now) (dx_tree c.args.dist.now) in
    let go = store_behind (shape_types c.args.shape.now) c.args.into in
    c.in_ok-states.ensures ∙ ap (map (behind (map value_tree c.args.from.trace.items))) (c.in_ok-parts.ensures.parts ∙ ap (split_of go tries []) c.as_slice.ensures.value)

pub returns-clause-fits : goal.returns-clause-fits
returns-clause-fits c =
    let size = shape_size c.args.shape.now in
    let t = map value_tree c.args.from.trace.items in
    let parts = map part_of c.in_ok-parts.parts.items in
    All-same (InSize size) (map traced_of c.in_ok-states.states.items) (map (behind t) parts) c.in_ok-states.ensures (leaked_fit size t parts c.in_ok-parts.ensures.below c.in_ok-parts.ensures.within)
