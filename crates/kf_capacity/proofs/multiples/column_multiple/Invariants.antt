use Rattle.std.proofs.Common.{◌≡◌, ◌<◌, ◌≤◌, drop, map}
use Rattle.kf_channel.specs.Views.{row_at, secrets_of}
use Rattle.kf_frac.specs.Fractions.{limit}
use Rattle.kf_frac.specs.Laws.{multiple_from}
use Rattle.kf_capacity.specs.Dens.{column_dens}
use Rattle.kf_capacity.specs.Grids.{cell_den}
use Rattle.kf_capacity.specs.Views.{channel_tree}
use Rattle.kf_capacity.proofs.multiples.column_multiple.Given as goal

abbrev pub invariant-loop-i : goal.invariant-loop-i
invariant-loop-i l = record {
  same : multiple_from l.multiple (map (cell_den (channel_tree l.c) (row_at l.c l.j)) (drop l.i (secrets_of l.c)))
      ≡ multiple_from l.start (column_dens (channel_tree l.c) (row_at l.c l.j));
  some : 0 < l.multiple;
  narrow : l.multiple ≤ limit;
}
