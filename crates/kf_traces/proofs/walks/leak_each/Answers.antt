use Rattle.std.proofs.Common.{◌≡◌, [], ap, map, arith}
use Rattle.std.specs.Prelude.{flat_map}
use Rattle.std.specs.Vec.Iter.{into_iter_items}
use Rattle.kf_value.specs.Shapes.{shape_size, shape_types}
use Rattle.kf_core.specs.Runs.{tried}
use Rattle.kf_core.specs.Views.{dx_tree}
use Rattle.kf_support.specs.Moves.{store_behind}
use Rattle.kf_traces.specs.Views.{traced_of}
use Rattle.kf_traces.specs.Visits.{leaked}
use Rattle.kf_traces.proofs.Walking.{InSize, goes_start, goes_next, goes_step, goes_end, mapped_joined, none_left}
use Rattle.kf_traces.proofs.walks.leak_each.Goals as goal

pub loop-state-init : goal.loop-state-init
loop-state-init c =
    let size = shape_size c.args.shape.now in
    let next = leaked (store_behind (shape_types c.args.shape.now) c.args.into) (tried (shape_types c.args.shape.now) (dx_tree c.args.dist.now)) in
    record {
      on = goes_start next (InSize size) (InSize size) (map traced_of c.new-next.result.items) (map traced_of c.args.states.items) (map traced_of (into_iter_items c.into_iter-state-iterator.result))
          (ap (map traced_of) c.new-next.ensures.items) (ap (map traced_of) c.into_iter-state-iterator.ensures.into_iter_gives.0) c.requires.fits;
      memo = c.in_ok-memo.ensures;
    }

pub leak-requires-clause-kinded : goal.leak-requires-clause-kinded
leak-requires-clause-kinded c = c.requires.kinded

pub leak-requires-clause-memo : goal.leak-requires-clause-memo
leak-requires-clause-memo c = c.loop-state.invariant.memo

pub leak-requires-clause-fits : goal.leak-requires-clause-fits
leak-requires-clause-fits c =
    let size = shape_size c.args.shape.now in
    let next = leaked (store_behind (shape_types c.args.shape.now) c.args.into) (tried (shape_types c.args.shape.now) (dx_tree c.args.dist.now)) in
    goes_next next (InSize size) (InSize size) (flat_map next (map traced_of c.args.states.items)) (map traced_of c.loop-state.next.items) (map traced_of (into_iter_items c.loop-state.state-iterator)) (traced_of c.in-Some.state) (map traced_of (into_iter_items c.next.new.self))
    (ap (map traced_of) c.in-Some.ensures.steps.0) c.loop-state.invariant.on

pub loop-state-preserved : goal.loop-state-preserved
loop-state-preserved c =
    let size = shape_size c.args.shape.now in
    let next = leaked (store_behind (shape_types c.args.shape.now) c.args.into) (tried (shape_types c.args.shape.now) (dx_tree c.args.dist.now)) in
    record {
      on = goes_step next (InSize size) (InSize size) (flat_map next (map traced_of c.args.states.items)) (map traced_of c.loop-state.next.items) (map traced_of (into_iter_items c.loop-state.state-iterator)) (traced_of c.in-Some.state) (map traced_of (into_iter_items c.next.new.self))
          (ap (map traced_of) c.in-Some.ensures.steps.0) c.loop-state.invariant.on (map traced_of c.in_ok-leaks.leaks.items) (map traced_of c.append.new.self.items)
          c.in_ok-leaks.ensures.leaked
          (mapped_joined traced_of c.append.new.self.items c.loop-state.next.items c.in_ok-leaks.leaks.items c.in_ok-append.ensures.items) c.in_ok-leaks.ensures.fits;
      memo = c.in_ok-leaks.ensures.memo;
    }

pub returns-clause-leaked : goal.returns-clause-leaked
returns-clause-leaked c =
    let size = shape_size c.args.shape.now in
    let next = leaked (store_behind (shape_types c.args.shape.now) c.args.into) (tried (shape_types c.args.shape.now) (dx_tree c.args.dist.now)) in
    let none : into_iter_items c.loop-state.state-iterator ≡ [] = none_left _ (omega (arith, c.in-None.ensures.steps.0, c.loop-state.state-iterator.rest.ok)) in
    goes_end next (InSize size) (InSize size) (flat_map next (map traced_of c.args.states.items)) (map traced_of c.loop-state.next.items) (map traced_of (into_iter_items c.loop-state.state-iterator))
    (ap (map traced_of) none) c.loop-state.invariant.on

pub returns-clause-fits : goal.returns-clause-fits
returns-clause-fits c = c.loop-state.invariant.on.holds
