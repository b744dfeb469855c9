use Rattle.kf_gain.specs.Views.{gain_tree}
use Rattle.kf_lines.proofs.EachLine.{HasLines}
use Rattle.kf_lines.proofs.summaries.lines_of.Given as goal

abbrev pub invariant-loop-i : goal.invariant-loop-i
invariant-loop-i l = HasLines l.cleared (gain_tree l.g) l.stmts l.sts l.i l.before l.lines.items
