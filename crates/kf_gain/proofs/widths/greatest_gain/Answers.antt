use Rattle.std.proofs.Common.{◌≡◌, ℕ, ◌<◌, ◌∙◌, List, length, subst, get_or}
use Rattle.kf_gain.specs.declared.table.Action.{Action}
use Rattle.kf_gain.proofs.Acting.{next_greatest}
use Rattle.kf_gain.proofs.widths.greatest_gain.Goals as goal

pub loop-action-preserved : goal.loop-action-preserved
loop-action-preserved c =
    let actions : List Action = c.args.table.now.actions in
    let i : ℕ = c.loop-action.action-index in
    let a : Action = c.action-item.result in
    let inside : i < length actions = subst (λ (l : List Action). i < length l) c.as_slice-action-items.ensures c.loop-action-test.true in
    let is : a ≡ get_or actions i a = subst (λ (l : List Action). a ≡ get_or l i a) c.as_slice-action-items.ensures c.action-item.is in
    next_greatest c.loop-action.most c.greatest_of-most.result actions i a c.as_slice.result.now inside is c.as_slice.ensures c.greatest_of-most.ensures ∙ c.loop-action.invariant
