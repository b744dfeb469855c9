use Rattle.std.proofs.Common.{[], drop, get_or, ◌+◌}
use Rattle.std.proofs.lemmas.List.{drop_more}
use Rattle.kf_support.specs.Carried.{with_all}
use Rattle.kf_support.proofs.Settling.{joins_start, join_last, joins_step, join_some}
use Rattle.kf_support.proofs.ways.joined.Goals as goal

pub loop-way-init : goal.loop-way-init
loop-way-init c = joins_start c.args.ways.now c.new-reached.result.items c.requires.ways.0 c.new-reached.ensures.items c.requires.ways.1 c.requires.order

pub add_last-requires-clause-last : goal.add_last-requires-clause-last
add_last-requires-clause-last c =
    let ways = c.args.ways.now in
    let i = c.loop-way.way-index in
    join_last (get_or ways i (0, 0)) (drop (i + 1) ways) (drop i ways) (with_all [] ways) c.loop-way.reached.items (drop_more ways i (0, 0) c.loop-way-test.true) c.loop-way.invariant

pub loop-way-preserved : goal.loop-way-preserved
loop-way-preserved c =
    let ways = c.args.ways.now in
    let i = c.loop-way.way-index in
    joins_step (get_or ways i (0, 0)) (drop (i + 1) ways) (drop i ways) (with_all [] ways) c.loop-way.reached.items (drop_more ways i (0, 0) c.loop-way-test.true) c.loop-way.invariant
    c.add_last.new.reached.items c.in_ok-add_last.ensures.way

pub add_last-requires-clause-reached : goal.add_last-requires-clause-reached
add_last-requires-clause-reached c = (c.loop-way.invariant.size, c.loop-way.invariant.reached)

pub add_last-requires-clause-some : goal.add_last-requires-clause-some
add_last-requires-clause-some c =
    let ways = c.args.ways.now in
    let i = c.loop-way.way-index in
    join_some (get_or ways i (0, 0)) (drop (i + 1) ways) (drop i ways) (with_all [] ways) c.loop-way.reached.items (drop_more ways i (0, 0) c.loop-way-test.true) c.loop-way.invariant
