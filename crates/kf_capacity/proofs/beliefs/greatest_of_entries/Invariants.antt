use Rattle.std.proofs.Common.{◌≡◌, ◌*◌, ◌/◌, drop, map, max}
use Rattle.kf_column.specs.Columns.{weight_at}
use Rattle.kf_capacity.proofs.beliefs.greatest_of_entries.Given as goal
use Rattle.kf_capacity.specs.Vulnerabilities.{greatest}

abbrev pub invariant-loop-entry : goal.invariant-loop-entry
invariant-loop-entry l =
    max l.most (greatest (map (λ e. e.weight * l.times * (l.n / weight_at l.average e.value)) (drop l.entry-index l.entries)))
    ≡ greatest (map (λ e. e.weight * l.times * (l.n / weight_at l.average e.value)) l.entries)
