use Rattle.std.proofs.Common.{◌≡◌, ◌++◌, drop, slice_index}
use Rattle.std.specs.List.{flat_map}
use Rattle.kf_channel.specs.Views.{rows_of, secrets_of}
use Rattle.kf_text.specs.Parts.{cell_line}
use Rattle.kf_text.proofs.channel.print_cells.Given as goal

abbrev pub invariant-loop-j : goal.invariant-loop-j
invariant-loop-j l =
    l.out.items ++ flat_map (cell_line (rows_of l.channel) (slice_index (secrets_of l.channel) l.i)) (drop l.j (rows_of l.channel))
    ≡ l.initial.out.items ++ flat_map (cell_line (rows_of l.channel) (slice_index (secrets_of l.channel) l.i)) (rows_of l.channel)
