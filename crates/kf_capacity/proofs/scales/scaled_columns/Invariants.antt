use Rattle.std.proofs.Common.{◌≡◌, ◌++◌, map, drop}
use Rattle.kf_capacity.specs.Divided.{number_in}
use Rattle.kf_capacity.proofs.scales.scaled_columns.Given as goal

abbrev pub invariant-loop-row : goal.invariant-loop-row
invariant-loop-row l =
    l.columns.items ++ map (λ row. map (number_in row.column) l.scales) (drop l.row-index l.traces)
    ≡ map (λ row. map (number_in row.column) l.scales) l.traces
