use Rattle.std.proofs.Common.{ap, ◌∙◌}
use Rattle.kf_load.proofs.Lines.{at_end}
use Rattle.kf_load.proofs.position.place.Goals as goal
use Rattle.kf_load.specs.Views.{line_after, column_after}

pub returns-clause-line : goal.returns-clause-line
returns-clause-line c = c.after.ensures.line ∙ ap line_after (at_end c.args.src.now c.args.at c.min.result c.min.ensures)

pub returns-clause-column : goal.returns-clause-column
returns-clause-column c = c.after.ensures.column ∙ ap column_after (at_end c.args.src.now c.args.at c.min.result c.min.ensures)
