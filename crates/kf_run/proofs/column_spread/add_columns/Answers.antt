use Rattle.std.proofs.Common.{map, subst}
use Rattle.std.specs.Prelude.{IfSome}
use Rattle.std.specs.List.{flat_map}
use Rattle.kf_run.specs.Groups.{AreGroupsOf, ways_in}
use Rattle.kf_run.specs.Ways.{leaked}
use Rattle.kf_run.proofs.Rows.{ways_below, ways_positive, same_positive}
use Rattle.kf_run.proofs.column_spread.add_columns.Goals as goal

pub add_groups-requires-clause-positive : goal.add_groups-requires-clause-positive
add_groups-requires-clause-positive c =
    let ways = map leaked c.args.leaks.items in
    let told = subst (λ o. IfSome o (λ groups. AreGroupsOf (map leaked c.deref.result.now) groups.items)) c.in-Some.is c.in_ok-groups.ensures in
    let groups = subst (λ ls. AreGroupsOf (map leaked ls) c.in-Some.groups.items) c.deref.ensures.value told in
    same_positive ways (flat_map ways_in c.in-Some.groups.items) groups.same (ways_positive c.args.leaks.items c.requires.positive)

pub returns-in-Some : goal.returns-in-Some
returns-in-Some c = λ from size column shared low.
    let ways = map leaked c.args.leaks.items in
    let told = subst (λ o. IfSome o (λ groups. AreGroupsOf (map leaked c.deref.result.now) groups.items)) c.in-Some.is c.in_ok-groups.ensures in
    let groups = subst (λ ls. AreGroupsOf (map leaked ls) c.in-Some.groups.items) c.deref.ensures.value told in
    c.in_ok-add_groups.ensures from size column ways groups.same shared (ways_below size c.args.leaks.items low)
