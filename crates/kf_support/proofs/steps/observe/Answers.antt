use Rattle.std.proofs.Common.{ℕ, ◌≤◌, ◌<◌, [], ◌∙◌, Ok, sym, ap, subst, arith, length, set}
use Rattle.std.proofs.lemmas.List.{length-set}
use Rattle.kf_value.specs.Shapes.{shape_types, shape_sizes}
use Rattle.kf_value.specs.Types.{product}
use Rattle.kf_core.specs.Views.{dx_tree}
use Rattle.kf_core.specs.Runs.{tried}
use Rattle.kf_eval.specs.Choices.{weighted_trees}
use Rattle.kf_support.specs.Carried.{carry_step, observe_lead, staying}
use Rattle.kf_support.proofs.Settling.{settled_reached}
use Rattle.kf_support.proofs.Staying.{observe_stays, stay_there}
use Rattle.kf_support.proofs.Stepping.{led, part_end, part_step, part_way, same_value, stays}
use Rattle.kf_support.proofs.Weighing.{kept_choice}
use Rattle.kf_support.proofs.steps.observe.Goals as goal

pub returns-then-is_always_sure-clause-answer : goal.returns-then-is_always_sure-clause-answer
returns-then-is_always_sure-clause-answer c =
    let size = product (shape_sizes c.args.shape.now) in
    let ts = shape_types c.args.shape.now in
    let d = dx_tree c.args.dist.now in
    stay_there (observe_lead ts d) size c.args.from.items (observe_stays size ts d (c.is_always_sure.ensures c.if-is_always_sure.true)) c.requires.ways

pub find_in-requires-clause-store : goal.find_in-requires-clause-store
find_in-requires-clause-store c =
    let lead = observe_lead (shape_types c.args.shape.now) (dx_tree c.args.dist.now) in
    let within : c.loop-i.i < length c.loop-i.next.items = omega (arith, c.len-i-end.ensures, c.loop-i-test.true, c.loop-i.invariant.long) in
    (part_way lead (product (shape_sizes c.args.shape.now)) (carry_step lead [] c.args.from.items) c.loop-i.next.items c.loop-i.i c.index.result.now c.index.ensures within c.loop-i.invariant.carried).0

pub loop-i-preserved : goal.loop-i-preserved
loop-i-preserved c =
    let ts = shape_types c.args.shape.now in
    let d = dx_tree c.args.dist.now in
    let lead = observe_lead ts d in
    let e : ℕ × ℕ = c.index.result.now in
    let now = c.loop-i.next.items in
    let i = c.loop-i.i in
    let within : i < length now = omega (arith, c.len-i-end.ensures, c.loop-i-test.true, c.loop-i.invariant.long) in
    let known = kept_choice c.args.shape.now d e.0 c.in_ok-place.place c.find_in.new.memo c.at-choice.result.now c.in_ok-place.ensures.found c.at-choice.ensures in
    let ws = weighted_trees c.at-choice.result.now in
    let total = c.at-choice.result.now.total in
    let way = part_way lead (product (shape_sizes c.args.shape.now)) (carry_step lead [] c.args.from.items) now i e c.index.ensures within c.loop-i.invariant.carried in
    let stay = stays e.0 ws (subst (λ n. 1 ≤ n) known.total_is known.some) in
    let leads = same_value (tried ts d e.0) ws (staying e.0) total known.chosen known.total_is ∙ ap (λ ns. led ns total) stay in
    let changed : ℕ × ℕ = (e.0, c.scaled.result) in
    record {
      carried = part_step lead (product (shape_sizes c.args.shape.now)) (carry_step lead [] c.args.from.items) now i e c.index.ensures within c.loop-i.invariant.carried e.0 total
          (set now i changed) leads way.0 known.some (ap (λ (s : ℕ). set now i (e.0, s)) c.scaled.ensures);
      long = length-set now i changed ∙ c.loop-i.invariant.long;
      memo = c.in_ok-place.ensures.memo;
    }

pub settled-requires : goal.settled-requires
settled-requires c =
    let size = product (shape_sizes c.args.shape.now) in
    let lead = observe_lead (shape_types c.args.shape.now) (dx_tree c.args.dist.now) in
    let past : length c.loop-i.next.items ≤ c.loop-i.i = omega (arith, c.len-i-end.ensures, c.loop-i-test.false, c.loop-i.invariant.long) in
    record { ways = (size, (part_end lead size (carry_step lead [] c.args.from.items) c.loop-i.next.items c.loop-i.i past c.loop-i.invariant.carried).1) }

pub returns-clause-answer : goal.returns-clause-answer
returns-clause-answer c =
    let size = product (shape_sizes c.args.shape.now) in
    let lead = observe_lead (shape_types c.args.shape.now) (dx_tree c.args.dist.now) in
    let past : length c.loop-i.next.items ≤ c.loop-i.i = omega (arith, c.len-i-end.ensures, c.loop-i-test.false, c.loop-i.invariant.long) in
    let all = part_end lead size (carry_step lead [] c.args.from.items) c.loop-i.next.items c.loop-i.i past c.loop-i.invariant.carried in
    all.0 ∙ (λ i. Ok (sym c.in_ok-reached.ensures.settled i))

pub returns-clause-ways : goal.returns-clause-ways
returns-clause-ways c =
    let size = product (shape_sizes c.args.shape.now) in
    let lead = observe_lead (shape_types c.args.shape.now) (dx_tree c.args.dist.now) in
    let past : length c.loop-i.next.items ≤ c.loop-i.i = omega (arith, c.len-i-end.ensures, c.loop-i-test.false, c.loop-i.invariant.long) in
    let all = part_end lead size (carry_step lead [] c.args.from.items) c.loop-i.next.items c.loop-i.i past c.loop-i.invariant.carried in
    settled_reached size c.loop-i.next.items c.in_ok-reached.reached.items all.1 c.in_ok-reached.ensures.settled

pub find_in-requires-clause-kinded : goal.find_in-requires-clause-kinded
find_in-requires-clause-kinded c = c.requires.kinded
