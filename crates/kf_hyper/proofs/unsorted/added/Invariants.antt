use Rattle.std.proofs.Common.{◌≡◌, ◌<◌, length}
use Rattle.kf_hyper.proofs.Neighbours.{half_joined}
use Rattle.kf_hyper.proofs.unsorted.added.Given as goal

abbrev pub invariant-loop-i : goal.invariant-loop-i
invariant-loop-i l = record {
  before : l.last < l.i;
  as_long : length l.entries.items ≡ length l.fn.entries.items;
  joined : half_joined l.last l.i l.entries.items ≡ half_joined 0 1 l.fn.entries.items;
}
