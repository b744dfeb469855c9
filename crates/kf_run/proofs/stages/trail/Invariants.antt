use Rattle.std.proofs.Common.{List}
use Rattle.kf_column.specs.declared.entry.Entry.{Entry}
use Rattle.kf_run.specs.Behind.{Behind}
use Rattle.kf_run.proofs.Outermost.{Counted}
use Rattle.kf_run.proofs.stages.trail.Given as goal

abbrev pub invariant-loop-at : goal.invariant-loop-at
invariant-loop-at g l = (column : List Entry) × Behind (g.S.Stages.meaning l.s) l.at column l.now × Counted (g.S.Stages.meaning l.s) l.at column
    l.counts.items
