use Rattle.std.proofs.Common.{◌≡◌, map, max, drop, flat_map}
use Rattle.kf_gain.specs.Vulnerabilities.{greatest, gains_of}
use Rattle.kf_gain.specs.Views.{table_tree}
use Rattle.kf_gain.proofs.widths.greatest_gain.Given as goal

abbrev pub invariant-loop-action : goal.invariant-loop-action
invariant-loop-action l = max l.most (greatest (flat_map (λ a. map (λ e. e.gain) a.gains) (drop l.action-index l.table.actions))) ≡ greatest (gains_of (table_tree l.table))
