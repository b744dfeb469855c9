use Rattle.std.proofs.Common.{map, ap, ◌∙◌}
use Rattle.std.proofs.lemmas.List.{take_all}
use Rattle.kf_run.proofs.Rows.{entry_of}
use Rattle.kf_run.proofs.column_spread.entries_of.Goals as goal

pub returns : goal.returns
returns c = c.loop-leak.invariant ∙ ap (map entry_of) (take_all c.loop-leak.leak-index c.args.leaks.now c.loop-leak-test.false)
