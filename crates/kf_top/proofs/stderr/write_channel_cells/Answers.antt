use Rattle.std.proofs.Common.{List, ℕ, subst}
use Rattle.kf_top.specs.Ends.{sunk, TookLine}
use Rattle.kf_top.proofs.StderrLines.{channel_cells_line}
use Rattle.kf_top.proofs.stderr.write_channel_cells.Goals as goal

pub returns : goal.returns
returns g c =
    subst (λ (line : List ℕ). TookLine (sunk g.E.Sink.taken g.E.Sink.faults g.E.Sink.room c.args.err.now c.write_line.new.err) line)
    (channel_cells_line c.format-cells.result.now c.args.cells c.format-cells.ensures.text) c.write_line.ensures
