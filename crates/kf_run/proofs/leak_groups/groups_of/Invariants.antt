use Rattle.std.proofs.Common.{map, take}
use Rattle.kf_run.specs.Groups.{AreGroupsOf}
use Rattle.kf_run.specs.Ways.{leaked}
use Rattle.kf_run.proofs.leak_groups.groups_of.Given as goal

abbrev pub invariant-loop-leak : goal.invariant-loop-leak
invariant-loop-leak l = AreGroupsOf (map leaked (take l.leak-index l.leaks)) l.groups.items
