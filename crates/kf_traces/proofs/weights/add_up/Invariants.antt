use Rattle.std.proofs.Common.{◌≡◌, ◌<◌, ◌≤◌, length}
use Rattle.kf_traces.proofs.Neighbours.{half_joined}
use Rattle.kf_traces.proofs.weights.add_up.Given as goal

abbrev pub invariant-loop-i : goal.invariant-loop-i
invariant-loop-i l = record {
  before : l.last < l.i;
  near : l.last ≤ length l.fn.ways.items;
  as_long : length l.ways.items ≡ length l.fn.ways.items;
  joined : half_joined l.last l.i l.ways.items ≡ half_joined 0 1 l.fn.ways.items;
}
