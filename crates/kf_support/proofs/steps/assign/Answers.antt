use Rattle.std.proofs.lemmas.Result.{err_from_is_err_and}
use Rattle.std.proofs.Common.{ℕ, drop, get_or, ◌+◌, List, [], ◌*◌, ◌++◌, map, sym, ◌∙◌, Ok}
use Rattle.std.proofs.lemmas.List.{drop_more}
use Rattle.kf_value.specs.Shapes.{shape_types, shape_sizes}
use Rattle.kf_value.specs.Types.{product}
use Rattle.kf_core.specs.Choices.{Weighted}
use Rattle.kf_core.specs.Views.{dx_tree}
use Rattle.kf_core.specs.Runs.{tried, replaced}
use Rattle.kf_core.specs.Support.{Passed}
use Rattle.kf_core.specs.Each.{each_moved}
use Rattle.kf_eval.specs.Choices.{weighted_trees}
use Rattle.kf_support.specs.Answers.{ways_to}
use Rattle.kf_support.specs.Carried.{capped, carry_step, assign_lead}
use Rattle.kf_support.proofs.Adding.{first_way}
use Rattle.kf_support.proofs.Settling.{settled_reached}
use Rattle.kf_support.proofs.Weighing.{kept_choice}
use Rattle.kf_support.proofs.Stepping.{carries_step, carries_same, carries_fault, grown_scale, passed_value, moved_value, moved_fault, way_at, fault_at, ways_end, assign_fault}
use Rattle.kf_support.proofs.steps.assign.Goals as goal

pub add_moved-requires-clause-some : goal.add_moved-requires-clause-some
add_moved-requires-clause-some c =
    let e : ℕ × ℕ = get_or c.args.from.now c.loop-way.way-index (0, 0) in
    let later = drop (c.loop-way.way-index + 1) c.args.from.now in
    let left = drop c.loop-way.way-index c.args.from.now in
    let next = drop_more c.args.from.now c.loop-way.way-index (0, 0) c.loop-way-test.true in
    let known = kept_choice c.args.shape.now (dx_tree c.args.dist.now) e.0 c.in_ok-place.place c.find_in.new.memo c.at-choice.result.now c.in_ok-place.ensures.found c.at-choice.ensures in
    let way = (first_way (product (shape_sizes c.args.shape.now)) e later left next c.loop-way.invariant.carried.rest).0 in
    rw c.scaled-grown.ensures (grown_scale e.1 c.at-choice.result.now.total way.1.0 known.some).0

pub returns-in_err-add_moved-clause-answer : goal.returns-in_err-add_moved-clause-answer
returns-in_err-add_moved-clause-answer c =
    let e : ℕ × ℕ = get_or c.args.from.now c.loop-way.way-index (0, 0) in
    let later = drop (c.loop-way.way-index + 1) c.args.from.now in
    let left = drop c.loop-way.way-index c.args.from.now in
    let next = drop_more c.args.from.now c.loop-way.way-index (0, 0) c.loop-way-test.true in
    let known = kept_choice c.args.shape.now (dx_tree c.args.dist.now) e.0 c.in_ok-place.place c.find_in.new.memo c.at-choice.result.now c.in_ok-place.ensures.found c.at-choice.ensures in
    let ts = shape_types c.args.shape.now in
    let d = dx_tree c.args.dist.now in
    let lead = assign_lead ts c.args.slot d in
    let store = e.0 in
    let ws = weighted_trees c.at-choice.result.now in
    let moves : List Weighted → Passed (List ℕ) = λ ws. each_moved c.args.dist.now.at (map (λ w. replaced ts c.args.slot w.value store) ws) in
    let fault = rw c.as_slice.ensures at c.in_err-add_moved.ensures.fault in
    let led = moved_fault (tried ts d store) moves ws known.chosen _ fault in
    let p = err_from_is_err_and c.from_residual-in_err-add_moved.result c.from_residual-in_err-add_moved.ensures.1 in
    rw (p.1, p.2) (carries_fault lead (product (shape_sizes c.args.shape.now)) (carry_step lead [] c.args.from.now) c.loop-way.next.items
    e later left next c.loop-way.invariant.carried _ led)

pub loop-way-preserved : goal.loop-way-preserved
loop-way-preserved c =
    let e : ℕ × ℕ = get_or c.args.from.now c.loop-way.way-index (0, 0) in
    let later = drop (c.loop-way.way-index + 1) c.args.from.now in
    let left = drop c.loop-way.way-index c.args.from.now in
    let next = drop_more c.args.from.now c.loop-way.way-index (0, 0) c.loop-way-test.true in
    let known = kept_choice c.args.shape.now (dx_tree c.args.dist.now) e.0 c.in_ok-place.place c.find_in.new.memo c.at-choice.result.now c.in_ok-place.ensures.found c.at-choice.ensures in
    let ts = shape_types c.args.shape.now in
    let d = dx_tree c.args.dist.now in
    let lead = assign_lead ts c.args.slot d in
    let size = product (shape_sizes c.args.shape.now) in
    let whole = carry_step lead [] c.args.from.now in
    let store = e.0 in
    let scale = e.1 in
    let now = c.loop-way.next.items in
    let after = c.add_moved.new.next.items in
    let n = c.at-choice.result.now.total in
    let ws = weighted_trees c.at-choice.result.now in
    let moves : List Weighted → Passed (List ℕ) = λ ws. each_moved c.args.dist.now.at (map (λ w. replaced ts c.args.slot w.value store) ws) in
    let moved = rw (c.as_slice.ensures, c.scaled-grown.ensures) at c.in_ok-add_moved.ensures.moved in
    let told = passed_value (moves ws) (λ ms. now ++ ways_to ms (capped (scale * n))) after moved in
    let leads = moved_value (tried ts d store) moves ws known.chosen told.0 n told.1 known.total_is in
    record {
      carried = carries_same lead size later whole after c.in_ok-next-2.next.items c.in_ok-next-2.ensures.same (c.in_ok-next-2.ensures.ways size c.in_ok-add_moved.ensures.ways)
          (carries_step lead size whole now e later left next c.loop-way.invariant.carried told.0 n after leads told.2 c.in_ok-add_moved.ensures.ways);
      memo = c.in_ok-place.ensures.memo;
    }

pub returns-clause-ways : goal.returns-clause-ways
returns-clause-ways c = settled_reached (product (shape_sizes c.args.shape.now)) c.loop-way.next.items c.in_ok-reached.reached.items c.loop-way.invariant.carried.ways c.in_ok-reached.ensures.settled

pub find_in-requires-clause-store : goal.find_in-requires-clause-store
find_in-requires-clause-store c = (way_at _ _ _ _ c.args.from.now c.loop-way.way-index c.loop-way.invariant.carried c.loop-way-test.true).0

pub find_in-requires-clause-kinded : goal.find_in-requires-clause-kinded
find_in-requires-clause-kinded c = c.requires.kinded

pub returns-in_err-place-clause-answer : goal.returns-in_err-place-clause-answer
returns-in_err-place-clause-answer c =
    let p = err_from_is_err_and c.from_residual-in_err-place.result c.from_residual-in_err-place.ensures.1 in
    rw (p.1, p.2)
    (fault_at _ _ _ _ c.args.from.now c.loop-way.way-index c.loop-way.invariant.carried c.loop-way-test.true c.in_err-place.field-0.0
    (assign_fault (shape_types c.args.shape.now) c.args.slot (dx_tree c.args.dist.now) _ c.in_err-place.field-0.0 c.in_err-place.ensures.fault))

pub add_moved-requires-clause-store : goal.add_moved-requires-clause-store
add_moved-requires-clause-store c = (way_at _ _ _ _ c.args.from.now c.loop-way.way-index c.loop-way.invariant.carried c.loop-way-test.true).0

pub add_moved-requires-clause-formed : goal.add_moved-requires-clause-formed
add_moved-requires-clause-formed c =
    rw c.as_slice.ensures
    (kept_choice c.args.shape.now (dx_tree c.args.dist.now) _ c.in_ok-place.place c.find_in.new.memo c.at-choice.result.now c.in_ok-place.ensures.found c.at-choice.ensures).formed

pub add_moved-requires-clause-ways : goal.add_moved-requires-clause-ways
add_moved-requires-clause-ways c = c.loop-way.invariant.carried.ways

pub shortened-requires : goal.shortened-requires
shortened-requires c = record { ways = ((product (shape_sizes c.args.shape.now)), c.in_ok-add_moved.ensures.ways) }

pub settled-requires : goal.settled-requires
settled-requires c = record { ways = ((product (shape_sizes c.args.shape.now)), c.loop-way.invariant.carried.ways) }

pub returns-clause-answer : goal.returns-clause-answer
returns-clause-answer c = ways_end _ _ _ _ c.args.from.now c.loop-way.way-index c.loop-way.invariant.carried c.loop-way-test.false ∙ (λ i. Ok (sym c.in_ok-reached.ensures.settled i))
