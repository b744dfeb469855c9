use Rattle.std.proofs.Common.{◌≡◌, map, take}
use Rattle.kf_hyper.specs.Tables.{table_row}
use Rattle.kf_hyper.proofs.traces.TraceRowList.copy.Given as goal

abbrev pub invariant-loop-row : goal.invariant-loop-row
invariant-loop-row l = map table_row l.items.items ≡ map table_row (take l.row-index l.self)
