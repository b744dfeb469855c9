use Rattle.std.proofs.Common.{◌≡◌, [], ◌∷◌, ap, map, arith}
use Rattle.std.proofs.lemmas.List.Elements.{All-cons, All-nil}
use Rattle.std.specs.Prelude.{flat_map}
use Rattle.std.specs.Vec.Iter.{into_iter_items}
use Rattle.kf_value.specs.Shapes.{shape_size, shape_types}
use Rattle.kf_core.specs.Views.{dx_tree}
use Rattle.kf_traces.specs.Traced.{alone, assign_traced}
use Rattle.kf_traces.specs.Views.{traced_of}
use Rattle.kf_traces.proofs.Walking.{InSize, goes_start, goes_next, goes_step, goes_end, mapped_joined, none_left}
use Rattle.kf_traces.proofs.walks.assigned_each.Goals as goal

pub loop-state-init : goal.loop-state-init
loop-state-init c =
    let size = shape_size c.args.shape.now in
    let next = assign_traced (shape_types c.args.shape.now) c.args.slot (dx_tree c.args.dist.now) in
    record {
      on = goes_start next (InSize size) (InSize size) (map traced_of c.new-next.result.items) (map traced_of c.args.states.items) (map traced_of (into_iter_items c.into_iter-state-iterator.result))
          (ap (map traced_of) c.new-next.ensures.items) (ap (map traced_of) c.into_iter-state-iterator.ensures.into_iter_gives.0) c.requires.fits;
      memo = c.in_ok-memo.ensures;
    }

pub assigned-requires-clause-kinded : goal.assigned-requires-clause-kinded
assigned-requires-clause-kinded c = c.requires.kinded

pub assigned-requires-clause-memo : goal.assigned-requires-clause-memo
assigned-requires-clause-memo c = c.loop-state.invariant.memo

pub assigned-requires-clause-fits : goal.assigned-requires-clause-fits
assigned-requires-clause-fits c =
    let size = shape_size c.args.shape.now in
    let next = assign_traced (shape_types c.args.shape.now) c.args.slot (dx_tree c.args.dist.now) in
    goes_next next (InSize size) (InSize size) (flat_map next (map traced_of c.args.states.items)) (map traced_of c.loop-state.next.items) (map traced_of (into_iter_items c.loop-state.state-iterator)) (traced_of c.in-Some.state) (map traced_of (into_iter_items c.next.new.self))
    (ap (map traced_of) c.in-Some.ensures.steps.0) c.loop-state.invariant.on

pub loop-state-preserved : goal.loop-state-preserved
loop-state-preserved c =
    let size = shape_size c.args.shape.now in
    let next = assign_traced (shape_types c.args.shape.now) c.args.slot (dx_tree c.args.dist.now) in
    record {
      on = goes_step next (InSize size) (InSize size) (flat_map next (map traced_of c.args.states.items)) (map traced_of c.loop-state.next.items) (map traced_of (into_iter_items c.loop-state.state-iterator)) (traced_of c.in-Some.state) (map traced_of (into_iter_items c.next.new.self))
          (ap (map traced_of) c.in-Some.ensures.steps.0) c.loop-state.invariant.on (alone (traced_of c.in_ok-reached.reached)) (map traced_of c.push.new.self.items)
          c.in_ok-reached.ensures.assigned
          (mapped_joined traced_of c.push.new.self.items c.loop-state.next.items (c.in_ok-reached.reached ∷ []) c.in_ok-push.ensures.items) (All-cons (InSize size) (traced_of c.in_ok-reached.reached) [] c.in_ok-reached.ensures.fits (All-nil (InSize size)));
      memo = c.in_ok-reached.ensures.memo;
    }

pub returns-clause-assigned : goal.returns-clause-assigned
returns-clause-assigned c =
    let size = shape_size c.args.shape.now in
    let next = assign_traced (shape_types c.args.shape.now) c.args.slot (dx_tree c.args.dist.now) in
    let none : into_iter_items c.loop-state.state-iterator ≡ [] = none_left _ (omega (arith, c.in-None.ensures.steps.0, c.loop-state.state-iterator.rest.ok)) in
    goes_end next (InSize size) (InSize size) (flat_map next (map traced_of c.args.states.items)) (map traced_of c.loop-state.next.items) (map traced_of (into_iter_items c.loop-state.state-iterator))
    (ap (map traced_of) none) c.loop-state.invariant.on

pub returns-clause-fits : goal.returns-clause-fits
returns-clause-fits c = c.loop-state.invariant.on.holds
