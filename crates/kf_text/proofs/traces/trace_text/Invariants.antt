use Rattle.std.proofs.Common.{◌≡◌, ◌++◌, drop}
use Rattle.std.specs.List.{flat_map}
use Rattle.kf_value.specs.Views.{items_of}
use Rattle.kf_hyper.specs.Views.{rows_of}
use Rattle.kf_text.specs.Texts.{row_lines, trace_text}
use Rattle.kf_text.proofs.traces.trace_text.Given as goal

abbrev pub invariant-loop-row : goal.invariant-loop-row
invariant-loop-row l =
    l.out.items ++ flat_map (row_lines (items_of l.table.target) l.table.scale) (drop l.row-index (rows_of l.table))
    ≡ trace_text (items_of l.table.target) l.table.scale (rows_of l.table)
