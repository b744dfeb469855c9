use Rattle.std.proofs.Common.{◌≤◌, List}
use Rattle.kf_quiet.specs.Standing.{StandsBefore}
use Rattle.kf_quiet.specs.Views.{ShowBlames}
use Rattle.kf_quiet.proofs.Blames.{AreFirst}
use Rattle.kf_quiet.proofs.statements.blame_of.Given as goal
use Rattle.kf_quiet.specs.Summaries.{SummaryTree}

abbrev pub invariant-loop-i : goal.invariant-loop-i
invariant-loop-i g l =
    (trees : List SummaryTree) × AreFirst (g.P.Pusher.meaning l.p).turns (g.P.Pusher.meaning l.p).program l.i trees
    × ShowBlames (g.P.Pusher.meaning l.p).scale trees l.blames.items
    × (l.before.at ≤ l.i) × StandsBefore (g.P.Pusher.meaning l.p) l.before.at l.before.columns
