use Rattle.std.proofs.Common.{◌≡◌, ◌<◌, ◌≤◌, drop}
use Rattle.kf_channel.specs.Views.{rows_of}
use Rattle.kf_frac.specs.Fractions.{limit}
use Rattle.kf_frac.specs.Laws.{multiple_from}
use Rattle.kf_capacity.specs.Dens.{dens}
use Rattle.kf_capacity.specs.Grids.{denominator}
use Rattle.kf_capacity.specs.Views.{channel_tree}
use Rattle.kf_capacity.proofs.multiples.denominator_of.Given as goal

abbrev pub invariant-loop-j : goal.invariant-loop-j
invariant-loop-j l = record {
  same : multiple_from l.multiple (dens (channel_tree l.c) (drop l.j (rows_of l.c))) ≡ denominator (channel_tree l.c);
  some : 0 < l.multiple;
  narrow : l.multiple ≤ limit;
}
