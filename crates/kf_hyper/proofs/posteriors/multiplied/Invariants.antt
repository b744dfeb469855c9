use Rattle.std.proofs.Common.{◌≡◌}
use Rattle.kf_column.specs.Averages.{scaled}
use Rattle.kf_hyper.proofs.InPlace.{part_mapped}
use Rattle.kf_hyper.proofs.posteriors.multiplied.Given as goal

abbrev pub invariant-loop-i : goal.invariant-loop-i
invariant-loop-i l = l.entries.items ≡ part_mapped (scaled l.times) l.i l.initial.entries.items
