use Rattle.std.proofs.Common.{◌≡◌, ◌≤◌, sym, ap, subst, Ok}
use Rattle.kf_value.specs.Shapes.{shape_types}
use Rattle.kf_core.specs.Views.{dx_tree}
use Rattle.kf_core.specs.Runs.{store_at, tried}
use Rattle.kf_core.proofs.Scales.{weighty}
use Rattle.kf_core.proofs.Solid.{dist_filled}
use Rattle.kf_core.proofs.Stores.{store_is}
use Rattle.kf_core.specs.Each.{placed_at}
use Rattle.kf_eval.specs.Choices.{weighted_trees}
use Rattle.kf_eval.proofs.Chosen.{total_some, all_weigh}
use Rattle.kf_eval.proofs.memo.chosen_in.Goals as goal

pub returns-in-Ok-clause-choice : goal.returns-in-Ok-clause-choice
returns-in-Ok-clause-choice c =
    let ts = shape_types c.args.shape.now in
    let d = dx_tree c.args.dist.now in
    let ws = weighted_trees c.in-Ok.choice in
    let known = c.in-Ok.ensures.choice (store_at ts c.args.store) (store_is ts c.args.store c.requires.store) in
    let chosen : tried ts d c.args.store ≡ Ok ws = ap (placed_at c.args.dist.now.at) known.0 in
    let weighs = weighty c.choice_laws.ensures.shares ts d c.args.store in
    record {
      below = c.requires.store;
      chosen = chosen;
      total_is = known.1;
      some = subst (λ n. 1 ≤ n) (sym known.1) (total_some (tried ts d c.args.store) ws chosen (dist_filled ts d c.requires.kinded.1 c.args.store) weighs);
      weigh = all_weigh (tried ts d c.args.store) ws chosen weighs;
      formed = λ i w within. (c.in-Ok.ensures.kind c.requires.kinded.0 c.requires.kinded.1 i w within).1;
      kinded = λ k is i w within. (c.in-Ok.ensures.kind k is i w within).0;
    }
