use Rattle.std.proofs.Common.{List, ℕ, subst}
use Rattle.kf_top.specs.Ends.{sunk, TookLine}
use Rattle.kf_top.proofs.StderrLines.{bad_line}
use Rattle.kf_top.proofs.stderr.write_place.Goals as goal

pub returns : goal.returns
returns g c =
    subst (λ (line : List ℕ). TookLine (sunk g.E.Sink.taken g.E.Sink.faults g.E.Sink.room c.args.err.now c.write_line.new.err) line)
    (bad_line c.args.name.now c.args.word.now c.format-line.result.now c.format-column.result.now c.args.line c.args.column c.format-line.ensures.text c.format-column.ensures.text) c.write_line.ensures
