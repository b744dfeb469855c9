use Rattle.std.proofs.Common.{◌≡◌, length, map, arith}
use Rattle.kf_value.specs.Views.{value_tree}
use Rattle.kf_eval.proofs.Inserting.{set_start, set_step, set_end}
use Rattle.kf_eval.proofs.sets.set_of.Goals as goal

pub loop-member-init : goal.loop-member-init
loop-member-init c = set_start (map value_tree c.args.members.items) c.in_ok-set.set.items c.in_ok-set.ensures.items

pub loop-member-preserved : goal.loop-member-preserved
loop-member-preserved c =
    set_step (map value_tree c.args.members.items) c.loop-member.members.items c.pop.new.self.items c.loop-member.set.items c.insert.new.set.items c.in-Some.member
    c.in-Some.ensures.items c.in_ok-insert.ensures c.loop-member.invariant

pub returns : goal.returns
returns c =
    let held = c.loop-member.members.ok.0 in
    let empty = c.in_default.ensures.cases.0 in
    let none : length c.loop-member.members.items ≡ 0 = omega arith in
    set_end (map value_tree c.args.members.items) c.loop-member.members.items c.loop-member.set.items none c.loop-member.invariant
