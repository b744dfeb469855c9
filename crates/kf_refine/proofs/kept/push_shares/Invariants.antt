use Rattle.std.proofs.Common.{drop}
use Rattle.kf_refine.specs.Rows.{shares}
use Rattle.kf_refine.proofs.Pushing.{GoesOn}
use Rattle.kf_refine.proofs.kept.push_shares.Given as goal

abbrev pub invariant-loop-entry : goal.invariant-loop-entry
invariant-loop-entry l = GoesOn (shares l.number l.times (drop l.entry-index l.entries)) (shares l.number l.times l.entries) l.initial.rows.entries l.rows.entries
