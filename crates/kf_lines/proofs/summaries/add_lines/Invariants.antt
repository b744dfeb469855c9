use Rattle.std.proofs.Common.{List}
use Rattle.kf_gain.specs.Views.{gain_tree}
use Rattle.kf_lines.specs.Sites as spec
use Rattle.kf_lines.specs.Views.{AreLinesIn}
use Rattle.kf_run.specs.Before.{cleared_before, place_before}
use Rattle.kf_lines.proofs.EachLine.{AddsOn}
use Rattle.kf_lines.proofs.summaries.add_lines.Given as goal

abbrev pub invariant-loop-site : goal.invariant-loop-site
invariant-loop-site l =
    (done : List spec.Site) → AreLinesIn (cleared_before l.before) (gain_tree l.g) done l.initial.out.items
    → AddsOn (cleared_before l.before) (gain_tree l.g) (place_before l.before) done l.sites l.site-index l.out.items
