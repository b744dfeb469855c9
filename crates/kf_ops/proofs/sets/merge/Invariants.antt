use Rattle.std.proofs.Common.{◌≡◌, ◌+◌, ◌++◌, length, map}
use Rattle.std.specs.List.Sorted.{IsStrictlySortedBy}
use Rattle.kf_value.specs.Values.{order}
use Rattle.kf_value.specs.Views.{value_tree}
use Rattle.kf_ops.specs.Merging.{kept_of}
use Rattle.kf_ops.proofs.sets.merge.Given as goal

abbrev pub decreases-loop-next : goal.decreases-loop-next
decreases-loop-next l = length l.left + length l.right

-- what was merged and what will be make the whole
abbrev pub invariant-loop-next : goal.invariant-loop-next
invariant-loop-next l = record {
  first : IsStrictlySortedBy order (map value_tree l.left);
  second : IsStrictlySortedBy order (map value_tree l.right);
  whole : map value_tree l.merged.items ++ kept_of l.kept (map value_tree l.left) (map value_tree l.right)
      ≡ kept_of l.kept (map value_tree l.xs) (map value_tree l.ys);
}
