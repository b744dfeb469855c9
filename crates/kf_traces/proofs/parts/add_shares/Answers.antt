use Rattle.std.proofs.Common.{◌+◌, ◌∙◌, ap, sym, map, drop, refl, arith}
use Rattle.std.proofs.lemmas.List.Elements.{recursion_from_All}
use Rattle.kf_value.specs.Forms.{IsWellFormed}
use Rattle.kf_value.specs.Shapes.{shape_size, shape_types}
use Rattle.kf_value.proofs.ListLemmas.{each_at, left_end, left_step, mapped_read}
use Rattle.kf_core.specs.Choices.{Weighted}
use Rattle.kf_eval.specs.Choices.{weighted_tree}
use Rattle.kf_support.specs.Moves.{store_behind}
use Rattle.kf_traces.specs.Traced.{with_shares}
use Rattle.kf_traces.specs.Views.{part_of}
use Rattle.kf_traces.proofs.Splits.{share_room, shares_step, shares_past}
use Rattle.kf_traces.proofs.parts.add_shares.Goals as goal
use Rattle.kf_traces.proofs.parts.add_shares.Goals.{in-Some+in_ok-add_part, in_default}

pub store_behind-requires-clause-formed : goal.store_behind-requires-clause-formed
store_behind-requires-clause-formed c =
    let ws = map weighted_tree c.args.choices.now in
    each_at (λ (w : Weighted). IsWellFormed w.value) ws c.loop-i.i (weighted_tree c.index-choices-i.result)
    (recursion_from_All (λ (w : Weighted). IsWellFormed w.value) ws c.requires.formed)
    (mapped_read weighted_tree c.args.choices.now c.loop-i.i c.index-choices-i.result c.loop-i-test.true c.index-choices-i.is)

pub loop-i-init : goal.loop-i-init
loop-i-init c = record { same = refl; ascending = c.requires.ascending; below = c.requires.below; within = c.requires.within }

pub store_behind-requires-clause-variable : goal.store_behind-requires-clause-variable
store_behind-requires-clause-variable c = c.requires.variable

pub store_behind-requires-clause-store : goal.store_behind-requires-clause-store
store_behind-requires-clause-store c = c.requires.store

pub add_part-requires-clause-ascending : goal.add_part-requires-clause-ascending
add_part-requires-clause-ascending c = c.loop-i.invariant.ascending

pub add_part-requires-clause-within : goal.add_part-requires-clause-within
add_part-requires-clause-within c =
    let cs = c.args.choices.now in
    let i = c.loop-i.i in
    share_room (store_behind (shape_types c.args.shape.now) c.args.into) c.args.store c.args.share (shape_size c.args.shape.now) (map weighted_tree (drop i cs)) (map weighted_tree (drop (i + 1) cs))
    (weighted_tree c.index-choices-i.result) _ (map part_of c.loop-i.parts.items) (left_step weighted_tree cs i c.index-choices-i.result c.loop-i-test.true c.index-choices-i.is) c.loop-i.invariant

pub overflow_mul-share : goal.overflow_mul-share
overflow_mul-share c =
    let cs = c.args.choices.now in
    let i = c.loop-i.i in
    let room =
    share_room (store_behind (shape_types c.args.shape.now) c.args.into) c.args.store c.args.share (shape_size c.args.shape.now) (map weighted_tree (drop i cs)) (map weighted_tree (drop (i + 1) cs))
    (weighted_tree c.index-choices-i.result) _ (map part_of c.loop-i.parts.items) (left_step weighted_tree cs i c.index-choices-i.result c.loop-i-test.true c.index-choices-i.is) c.loop-i.invariant in
    omega (arith, room)

pub loop-i-preserved : goal.loop-i-preserved
loop-i-preserved c =
    let go = store_behind (shape_types c.args.shape.now) c.args.into in
    let size = shape_size c.args.shape.now in
    let cs = c.args.choices.now in
    let i = c.loop-i.i in
    let rest = map weighted_tree (drop (i + 1) cs) in
    let next = left_step weighted_tree cs i c.index-choices-i.result c.loop-i-test.true c.index-choices-i.is in
    elim c.match-store_behind.branch [
      | in-Some+in_ok-add_part w ↦
          rw w.parts-is
          (shares_step go c.args.store c.args.share size (map weighted_tree (drop i cs)) rest (weighted_tree c.index-choices-i.result) _ (map part_of c.loop-i.parts.items) next c.loop-i.invariant
          w.in-Some.after (map part_of w.add_part.new.parts.items) w.in-Some.ensures.behind w.in-Some.ensures.below w.in_ok-add_part.ensures)
      | in_default w ↦
          rw w.parts-is
          (shares_past go c.args.store c.args.share size (map weighted_tree (drop i cs)) rest (weighted_tree c.index-choices-i.result) _ (map part_of c.loop-i.parts.items) next c.loop-i.invariant
          w.in_default.ensures.behind)
    ]

pub returns-clause-shares : goal.returns-clause-shares
returns-clause-shares c =
    let go = store_behind (shape_types c.args.shape.now) c.args.into in
    ap (with_shares go (map part_of c.loop-i.parts.items) c.args.store c.args.share) (sym (left_end weighted_tree c.args.choices.now c.loop-i.i (omega arith)))
    ∙ c.loop-i.invariant.same

pub returns-clause-below : goal.returns-clause-below
returns-clause-below c = c.loop-i.invariant.below
