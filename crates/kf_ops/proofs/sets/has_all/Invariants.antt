use Rattle.std.proofs.Common.{◌≡◌, ◌+◌, length, map}
use Rattle.std.specs.List.Sorted.{IsStrictlySortedBy}
use Rattle.kf_value.specs.Values.{order}
use Rattle.kf_value.specs.Views.{value_tree}
use Rattle.kf_ops.proofs.sets.has_all.Given as goal
use Rattle.kf_ops.specs.Sets.{without}

abbrev pub decreases-loop-next : goal.decreases-loop-next
decreases-loop-next l = length l.wanted + length l.there

-- what is missing is missing behind what was passed
abbrev pub invariant-loop-next : goal.invariant-loop-next
invariant-loop-next l = record {
  first : IsStrictlySortedBy order (map value_tree l.wanted);
  second : IsStrictlySortedBy order (map value_tree l.there);
  missing : without (map value_tree l.wanted) (map value_tree l.there) ≡ without (map value_tree l.xs) (map value_tree l.ys);
}
