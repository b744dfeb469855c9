use Rattle.std.proofs.Common.{◌≡◌, ◌++◌, drop}
use Rattle.std.specs.List.{flat_map, enumerate_from}
use Rattle.kf_channel.specs.Views.{rows_of}
use Rattle.kf_text.specs.Parts.{column_line}
use Rattle.kf_text.proofs.channel.print_columns.Given as goal
use Rattle.kf_text.specs.Parts.{columns_lines}

abbrev pub invariant-loop-j : goal.invariant-loop-j
invariant-loop-j l =
    l.out.items ++ flat_map column_line (enumerate_from l.j (drop l.j (rows_of l.channel)))
    ≡ l.fn.out.items ++ columns_lines (rows_of l.channel)
