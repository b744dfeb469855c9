use Rattle.std.proofs.Common.{map, ap}
use Rattle.std.proofs.lemmas.List.{drop_all}
use Rattle.kf_value.specs.Forms.{IsWellFormed}
use Rattle.kf_value.specs.Shapes.{shape_types, shape_sizes}
use Rattle.kf_value.specs.Types.{product}
use Rattle.kf_core.specs.Runs.{replaced}
use Rattle.kf_eval.specs.Choices.{weighted_tree}
use Rattle.kf_support.proofs.Stepping.{moves_step, moves_end}
use Rattle.kf_support.proofs.Weighing.{choice_holds, choice_next}
use Rattle.kf_support.proofs.steps.add_moved.Goals as goal

pub moved-requires-clause-formed : goal.moved-requires-clause-formed
moved-requires-clause-formed c =
    choice_holds (λ w. IsWellFormed w.value) c.args.choices.now c.loop-choice.choice-index c.choice-item.result c.loop-choice-test.true c.choice-item.is c.requires.formed

pub loop-choice-preserved : goal.loop-choice-preserved
loop-choice-preserved c =
    let cs = c.args.choices.now in
    let i = c.loop-choice.choice-index in
    let next = choice_next (λ w. replaced (shape_types c.args.shape.now) c.args.slot w.value c.args.store) cs i c.choice-item.result _ c.loop-choice-test.true c.choice-item.is c.in-Some.ensures.moved in
    rw c.in_ok-push.ensures.items (moves_step c.args.at c.args.scale (product (shape_sizes c.args.shape.now)) _ c.loop-choice.next.items c.in-Some.after _ _ next c.in-Some.ensures.below (c.requires.some, c.requires.told) c.loop-choice.invariant)

pub returns-clause-moved : goal.returns-clause-moved
returns-clause-moved c =
    let none = ap (λ cs. map (λ w. replaced (shape_types c.args.shape.now) c.args.slot w.value c.args.store) (map weighted_tree cs)) (drop_all c.loop-choice.choice-index c.args.choices.now c.loop-choice-test.false) in
    moves_end c.args.at c.args.scale (product (shape_sizes c.args.shape.now)) _ c.loop-choice.next.items _ none c.loop-choice.invariant

pub returns-clause-ways : goal.returns-clause-ways
returns-clause-ways c = c.loop-choice.invariant.ways
