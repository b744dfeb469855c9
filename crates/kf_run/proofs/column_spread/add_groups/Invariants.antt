use Rattle.std.proofs.Common.{◌≡◌, [], length}
use Rattle.std.specs.List.{AllByRecursion as Each, flat_map}
use Rattle.std.specs.Vec.Iter.{into_iter_items, into_iter_len}
use Rattle.kf_run.specs.Groups.{Ascend, ways_in}
use Rattle.kf_run.proofs.Rows.{GoesOn}
use Rattle.kf_run.proofs.column_spread.add_groups.Given as goal

abbrev pub invariant-loop-group : goal.invariant-loop-group
invariant-loop-group l = record {
  on : GoesOn (flat_map ways_in l.fn.groups.items) (flat_map ways_in (into_iter_items l.group-iterator)) l.initial.list.items l.list.items;
  ascend : Ascend (into_iter_items l.group-iterator);
  full : Each (λ g. g.entries.items ≡ [] → ⊥) (into_iter_items l.group-iterator);
  long : into_iter_len l.group-iterator ≡ length (into_iter_items l.group-iterator);
}
