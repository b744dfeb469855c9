use Rattle.std.proofs.Common.{drop, get_or, ◌+◌, ℕ, [], true, false, sym, ◌∙◌, Ok}
use Rattle.std.proofs.lemmas.List.{drop_more}
use Rattle.std.proofs.lemmas.Result.{err_from_is_err_and}
use Rattle.kf_value.specs.Shapes.{shape_types, shape_sizes}
use Rattle.kf_value.specs.Types.{product}
use Rattle.kf_core.specs.Views.{dx_tree}
use Rattle.kf_core.specs.Runs.{tried}
use Rattle.kf_eval.specs.Choices.{weighted_trees}
use Rattle.kf_support.specs.Carried.{with_all, carry_step, guard_lead}
use Rattle.kf_support.proofs.Settling.{settled_reached}
use Rattle.kf_support.proofs.Weighing.{kept_choice}
use Rattle.kf_support.proofs.Stepping.{guard_step, way_at, fault_at, ways_end, guard_fault}
use Rattle.kf_support.proofs.steps.guard.Goals as goal

pub loop-way-preserved : goal.loop-way-preserved
loop-way-preserved c =
    let e : ℕ × ℕ = get_or c.args.from.now c.loop-way.way-index (0, 0) in
    let later = drop (c.loop-way.way-index + 1) c.args.from.now in
    let left = drop c.loop-way.way-index c.args.from.now in
    let next = drop_more c.args.from.now c.loop-way.way-index (0, 0) c.loop-way-test.true in
    let known = kept_choice c.args.shape.now (dx_tree c.args.dist.now) e.0 c.in_ok-place.place c.find_in.new.memo c.at-choice.result.now c.in_ok-place.ensures.found c.at-choice.ensures in
    let size = product (shape_sizes c.args.shape.now) in
    let guard = tried (shape_types c.args.shape.now) (dx_tree c.args.dist.now) in
    let ws = weighted_trees c.at-choice.result.now in
    let on = rw c.as_slice-choices.ensures at c.can_be.ensures in
    let off = rw c.as_slice-choices.ensures at c.can_be-in-loop-way.ensures in
    let taken = rw c.scaled-grown.ensures at c.in_ok-add_if.ensures in
    let gone = rw c.scaled-grown.ensures at c.in_ok-add_if-2.ensures in
    record {
      on = guard_step true guard size (carry_step (guard_lead true guard) [] c.args.from.now) c.loop-way.taken.items e later left next
          c.loop-way.invariant.on ws c.at-choice.result.now.total known.chosen known.total_is known.some c.can_be.result c.add_if.new.ways.items on taken;
      memo = c.in_ok-place.ensures.memo;
      off = guard_step false guard size (carry_step (guard_lead false guard) (with_all [] c.args.left.items) c.args.from.now) c.loop-way.left.items e later left next
          c.loop-way.invariant.off ws c.at-choice.result.now.total known.chosen known.total_is known.some c.can_be-in-loop-way.result c.add_if-in-loop-way.new.ways.items off gone;
    }

pub returns-clause-ways : goal.returns-clause-ways
returns-clause-ways c =
    (settled_reached (product (shape_sizes c.args.shape.now)) c.loop-way.taken.items c.in_ok-taken-2.taken.items c.loop-way.invariant.on.ways c.in_ok-taken-2.ensures.settled, c.loop-way.invariant.off.ways)

pub find_in-requires-clause-store : goal.find_in-requires-clause-store
find_in-requires-clause-store c = (way_at _ _ _ _ c.args.from.now c.loop-way.way-index c.loop-way.invariant.on c.loop-way-test.true).0

pub find_in-requires-clause-kinded : goal.find_in-requires-clause-kinded
find_in-requires-clause-kinded c = (_, c.requires.kinded)

pub returns-in_err-place-clause-fault : goal.returns-in_err-place-clause-fault
returns-in_err-place-clause-fault c =
    let p = err_from_is_err_and c.from_residual-in_err-place.result c.from_residual-in_err-place.ensures.1 in
    let guard = tried (shape_types c.args.shape.now) (dx_tree c.args.dist.now) in
    rw (p.1, p.2)
    (fault_at _ _ _ _ c.args.from.now c.loop-way.way-index c.loop-way.invariant.on c.loop-way-test.true c.in_err-place.field-0.0
    (guard_fault true guard _ c.in_err-place.field-0.0 c.in_err-place.ensures.fault))

pub settled-requires : goal.settled-requires
settled-requires c = record { ways = ((product (shape_sizes c.args.shape.now)), c.loop-way.invariant.on.ways) }

pub returns-clause-taken : goal.returns-clause-taken
returns-clause-taken c = ways_end _ _ _ _ c.args.from.now c.loop-way.way-index c.loop-way.invariant.on c.loop-way-test.false ∙ (λ i. Ok (sym c.in_ok-taken-2.ensures.settled i))

pub returns-clause-left : goal.returns-clause-left
returns-clause-left c = ways_end _ _ _ _ c.args.from.now c.loop-way.way-index c.loop-way.invariant.off c.loop-way-test.false
