use Rattle.std.proofs.Common.{ap, subst, ◌∙◌}
use Rattle.kf_column.specs.Joint.{Joint}
use Rattle.kf_column.specs.Merged.{AreMerged}
use Rattle.kf_run.proofs.Spread.{spread_merged}
use Rattle.kf_run.proofs.steps.merged.Goals as goal

pub returns : goal.returns
returns c = λ from size columns on.
    let after = c.in_ok-merged.merged.columns in
    let behind = ap (λ (j : Joint). j.columns) c.new-behind.ensures ∙ c.new.ensures in
    let pushed = spread_merged from size columns c.args.list.items after on (subst (λ l. AreMerged l after) behind c.in_ok-merged.ensures.merged) in
    (pushed.0, c.in_ok-merged.ensures.scale ∙ ap (λ (j : Joint). j.scale) c.new-behind.ensures, pushed.1)
