use Rattle.std.proofs.Common.{◌+◌, map, drop, refl, arith}
use Rattle.std.proofs.lemmas.List.Elements.{recursion_from_All}
use Rattle.kf_value.specs.Shapes.{shape_size, shape_types}
use Rattle.kf_value.specs.Forms.{IsWellFormed}
use Rattle.kf_value.proofs.ListLemmas.{each_at, left_step, mapped_read}
use Rattle.kf_core.specs.Choices.{Weighted}
use Rattle.kf_eval.specs.Choices.{weighted_tree}
use Rattle.kf_traces.proofs.Moving.{move_room, moves_step, moves_past}
use Rattle.kf_traces.proofs.assigns.add_moves.Goals as goal
use Rattle.kf_traces.proofs.assigns.add_moves.Goals.{in-Some+in_ok-add_weight, in_default}

pub moved-requires-clause-formed : goal.moved-requires-clause-formed
moved-requires-clause-formed c =
    let ws = map weighted_tree c.args.choices.now in
    each_at (λ (w : Weighted). IsWellFormed w.value) ws c.loop-choice.choice-index (weighted_tree c.choice-item.result)
    (recursion_from_All (λ (w : Weighted). IsWellFormed w.value) ws c.requires.formed)
    (mapped_read weighted_tree c.args.choices.now c.loop-choice.choice-index c.choice-item.result c.loop-choice-test.true c.choice-item.is)

pub loop-choice-init : goal.loop-choice-init
loop-choice-init c = record { same = refl; below = c.requires.below; within = c.requires.within }

pub moved-requires-clause-variable : goal.moved-requires-clause-variable
moved-requires-clause-variable c = c.requires.variable

pub moved-requires-clause-store : goal.moved-requires-clause-store
moved-requires-clause-store c = c.requires.store

pub add_weight-requires : goal.add_weight-requires
add_weight-requires c =
    let cs = c.args.choices.now in
    let i = c.loop-choice.choice-index in
    let room = move_room (shape_types c.args.shape.now) c.args.slot c.args.store c.args.share (shape_size c.args.shape.now) (map weighted_tree (drop i cs)) (map weighted_tree (drop (i + 1) cs))
    (weighted_tree c.choice-item.result) _ c.loop-choice.reached (left_step weighted_tree cs i c.choice-item.result c.loop-choice-test.true c.choice-item.is) c.loop-choice.invariant in
    omega (arith, room)

pub loop-choice-preserved : goal.loop-choice-preserved
loop-choice-preserved c =
    let ts = shape_types c.args.shape.now in
    let size = shape_size c.args.shape.now in
    let cs = c.args.choices.now in
    let i = c.loop-choice.choice-index in
    let rest = map weighted_tree (drop (i + 1) cs) in
    let next = left_step weighted_tree cs i c.choice-item.result c.loop-choice-test.true c.choice-item.is in
    elim c.match-moved.branch [
      | in-Some+in_ok-add_weight w ↦
          rw w.reached-is
          (moves_step ts c.args.slot c.args.store c.args.share size (map weighted_tree (drop i cs)) rest (weighted_tree c.choice-item.result) _ c.loop-choice.reached next c.loop-choice.invariant
          w.in-Some.after w.add_weight.new.self w.in-Some.ensures.moved w.in-Some.ensures.below w.in_ok-add_weight.ensures)
      | in_default w ↦
          rw w.reached-is
          (moves_past ts c.args.slot c.args.store c.args.share size (map weighted_tree (drop i cs)) rest (weighted_tree c.choice-item.result) _ c.loop-choice.reached next c.loop-choice.invariant
          w.in_default.ensures.moved)
    ]
