use Rattle.std.proofs.Common.{List, ℕ, subst}
use Rattle.kf_top.specs.Ends.{sunk, TookLine}
use Rattle.kf_top.proofs.StderrLines.{pivots_line}
use Rattle.kf_top.proofs.stderr.write_pivots.Goals as goal

pub returns : goal.returns
returns g c =
    subst (λ (line : List ℕ). TookLine (sunk g.E.Sink.taken g.E.Sink.faults g.E.Sink.room c.args.err.now c.write_line.new.err) line)
    (pivots_line c.format-pivots.result.now c.args.pivots c.format-pivots.ensures.text) c.write_line.ensures
