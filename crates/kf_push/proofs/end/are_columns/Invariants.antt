use Rattle.std.specs.List.{AllWithin}
use Rattle.kf_column.specs.Columns.{IsColumn}
use Rattle.kf_push.proofs.end.are_columns.Given as goal

abbrev pub invariant-loop-column : goal.invariant-loop-column
invariant-loop-column l = AllWithin IsColumn l.column-items 0 l.column-index
