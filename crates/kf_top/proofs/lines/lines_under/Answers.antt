use Rattle.std.proofs.Common.{Err, ap}
use Rattle.kf_ast.specs.Views.{source_tree}
use Rattle.kf_gain.specs.Views.{gain_tree}
use Rattle.kf_top.proofs.LineAnswers.{lines_print, lines_wide}
use Rattle.kf_top.proofs.lines.lines_under.Goals as goal

pub returns-in-Ok-clause-answer : goal.returns-in-Ok-clause-answer
returns-in-Ok-clause-answer c =
    lines_print c.args.cleared.now c.args.bytes.now (source_tree c.args.source.now) (gain_tree c.args.gain.now) c.in-Ok.ensures.narrow c.in-Ok.bytes.items
    c.in-Ok.ensures.text

pub returns-in-Err-Wide-clause-answer : goal.returns-in-Err-Wide-clause-answer
returns-in-Err-Wide-clause-answer c =
    lines_wide c.args.cleared.now c.args.bytes.now (source_tree c.args.source.now) (gain_tree c.args.gain.now)
    (c.in-Err-Wide.ensures.wide (ap Err c.in-Err-Wide.field-0-is))
