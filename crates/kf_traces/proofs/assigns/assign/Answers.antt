use Rattle.std.proofs.lemmas.List.{drop_all, drop_more}
use Rattle.std.proofs.Common.{subst, drop, get_or, refl, ◌+◌, [], ap, sym, ◌∙◌, arith, Ok}
use Rattle.kf_value.specs.Shapes.{shape_size, shape_types}
use Rattle.kf_core.specs.Views.{dx_tree}
use Rattle.kf_eval.specs.Choices.{weighted_trees}
use Rattle.kf_traces.specs.Traced.{assign_all}
use Rattle.kf_traces.specs.Views.{Fits}
use Rattle.kf_traces.proofs.Assigning.{goes_start, goes_here, assign_room, assign_more, assign_past}
use Rattle.kf_traces.proofs.Choosing.{chosen_at}
use Rattle.kf_traces.proofs.assigns.assign.Goals as goal
use Rattle.kf_traces.proofs.assigns.assign.Goals.{in-Some+in_ok-add_moves, in_default}

pub loop-entry-init : goal.loop-entry-init
loop-entry-init c =
    record {
      on = goes_start (assign_all (shape_types c.args.shape.now) c.args.slot (dx_tree c.args.dist.now)) (shape_size c.args.shape.now) c.args.stores.now c.args.stores.now c.new-reached.result
          c.new-reached.ensures refl c.requires.fits.below c.requires.fits.narrow;
      memo = c.requires.memo;
    }

pub chosen_in-requires-clause-store : goal.chosen_in-requires-clause-store
chosen_in-requires-clause-store c =
    goes_here (assign_all (shape_types c.args.shape.now) c.args.slot (dx_tree c.args.dist.now)) (shape_size c.args.shape.now) (drop c.loop-entry.entry-index c.args.stores.now) (drop (c.loop-entry.entry-index + 1) c.args.stores.now)
    (get_or c.args.stores.now c.loop-entry.entry-index (0, 0)) _ c.loop-entry.reached (drop_more c.args.stores.now c.loop-entry.entry-index (0, 0) c.loop-entry-test.true) c.loop-entry.invariant.on

pub chosen_in-requires-clause-kinded : goal.chosen_in-requires-clause-kinded
chosen_in-requires-clause-kinded c = c.requires.kinded

pub quotient-share-requires : goal.quotient-share-requires
quotient-share-requires c =
    let known = chosen_at (rw c.in-Some.is at c.in_ok-place.ensures.found) c.at-choice.ensures in
    omega (arith, known.some)

pub add_moves-requires-clause-variable : goal.add_moves-requires-clause-variable
add_moves-requires-clause-variable c = c.requires.variable

pub add_moves-requires-clause-store : goal.add_moves-requires-clause-store
add_moves-requires-clause-store c =
    goes_here (assign_all (shape_types c.args.shape.now) c.args.slot (dx_tree c.args.dist.now)) (shape_size c.args.shape.now) (drop c.loop-entry.entry-index c.args.stores.now) (drop (c.loop-entry.entry-index + 1) c.args.stores.now)
    (get_or c.args.stores.now c.loop-entry.entry-index (0, 0)) _ c.loop-entry.reached (drop_more c.args.stores.now c.loop-entry.entry-index (0, 0) c.loop-entry-test.true) c.loop-entry.invariant.on

pub add_moves-requires-clause-formed : goal.add_moves-requires-clause-formed
add_moves-requires-clause-formed c =
    let known = chosen_at (rw c.in-Some.is at c.in_ok-place.ensures.found) c.at-choice.ensures in
    rw c.as_slice.ensures known.formed

pub add_moves-requires-clause-below : goal.add_moves-requires-clause-below
add_moves-requires-clause-below c = c.loop-entry.invariant.on.held

pub add_moves-requires-clause-within : goal.add_moves-requires-clause-within
add_moves-requires-clause-within c =
    let known = chosen_at (rw c.in-Some.is at c.in_ok-place.ensures.found) c.at-choice.ensures in
    rw (c.as_slice.ensures, c.quotient-share.ensures)
    (assign_room (shape_types c.args.shape.now) c.args.slot (dx_tree c.args.dist.now) (shape_size c.args.shape.now) (drop c.loop-entry.entry-index c.args.stores.now) (drop (c.loop-entry.entry-index + 1) c.args.stores.now) (get_or c.args.stores.now c.loop-entry.entry-index (0, 0)) _
    c.loop-entry.reached (drop_more c.args.stores.now c.loop-entry.entry-index (0, 0) c.loop-entry-test.true) c.loop-entry.invariant.on (weighted_trees c.at-choice.result.now) c.at-choice.result.now.total known.total_is)

pub returns-clause-assigned : goal.returns-clause-assigned
returns-clause-assigned c =
    c.settled.ensures
    ∙ ap (assign_all (shape_types c.args.shape.now) c.args.slot (dx_tree c.args.dist.now) c.loop-entry.reached)
    (sym (drop_all c.loop-entry.entry-index c.args.stores.now (omega (arith, c.loop-entry-test.false))))
    ∙ c.loop-entry.invariant.on.same

pub returns-clause-fits : goal.returns-clause-fits
returns-clause-fits c =
    subst (Fits (shape_size c.args.shape.now)) (sym c.settled.ensures) (record { below = c.loop-entry.invariant.on.held; narrow = omega (arith, c.loop-entry.invariant.on.within) })

pub loop-entry-preserved : goal.loop-entry-preserved
loop-entry-preserved c =
    let ts = shape_types c.args.shape.now in
    let d = dx_tree c.args.dist.now in
    let size = shape_size c.args.shape.now in
    let stores = c.args.stores.now in
    let i = c.loop-entry.entry-index in
    let whole = assign_all ts c.args.slot d [] stores in
    let next = drop_more stores i (0, 0) c.loop-entry-test.true in
    elim c.match-branch-2.branch [
      | in-Some+in_ok-add_moves w ↦
          let known = chosen_at (rw w.in-Some.is at c.in_ok-place.ensures.found) w.at-choice.ensures in
          let made = rw (w.as_slice.ensures, w.quotient-share.ensures) at w.in_ok-add_moves.ensures.moved in
          rw w.reached-is
          (record {
            on = assign_more ts c.args.slot d size (drop i stores) (drop (i + 1) stores) (get_or stores i (0, 0)) whole c.loop-entry.reached next c.loop-entry.invariant.on
                (weighted_trees w.at-choice.result.now) w.at-choice.result.now.total w.add_moves.new.reached known.chosen known.total_is made w.in_ok-add_moves.ensures.below;
            memo = c.in_ok-place.ensures.memo;
          })
      | in_default w ↦
          let fault = c.in_ok-place.ensures.fault (ap (λ o. Ok o) w.in_default.is) in
          rw w.reached-is
          (record {
            on = assign_past ts c.args.slot d size (drop i stores) (drop (i + 1) stores) (get_or stores i (0, 0)) whole c.loop-entry.reached next c.loop-entry.invariant.on fault.0 fault.1;
            memo = c.in_ok-place.ensures.memo;
          })
    ]
