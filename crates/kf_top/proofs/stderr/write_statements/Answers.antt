use Rattle.std.proofs.Common.{List, ℕ, subst}
use Rattle.kf_top.specs.Ends.{sunk, TookLine}
use Rattle.kf_top.proofs.StderrLines.{statements_line}
use Rattle.kf_top.proofs.stderr.write_statements.Goals as goal

pub returns : goal.returns
returns g c =
    subst (λ (line : List ℕ). TookLine (sunk g.E.Sink.taken g.E.Sink.faults g.E.Sink.room c.args.err.now c.write_line.new.err) line)
    (statements_line c.args.name.now c.format-statements.result.now c.args.statements c.format-statements.ensures.text) c.write_line.ensures
