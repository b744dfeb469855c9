use Rattle.std.proofs.Common.{ap, subst, sym, ◌∙◌}
use Rattle.kf_core.proofs.SoundParts.{tree-Assign}
use Rattle.kf_core.specs.Views.{dx_tree, st_tree}
use Rattle.kf_quiet.proofs.Unseen.{hidden_shows}
use Rattle.kf_quiet.proofs.statements.shows_nothing.Goals as goal
use Rattle.kf_quiet.specs.Unseen.{ShowsNothing}

pub returns-in-Assign : goal.returns-in-Assign
returns-in-Assign c =
    let slot = c.in-Assign.slot in
    let dist = c.in-Assign.dist in
    let shown = c.in-Assign.shown in
    λ hidden. subst ShowsNothing (sym (ap st_tree c.in-Assign.is ∙ tree-Assign slot dist shown)) (hidden_shows slot (dx_tree dist) shown hidden)
