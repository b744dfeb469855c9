use Rattle.std.proofs.Common.{◌*◌, true, false, [], ◌∷◌, sym, ap, subst, arith}
use Rattle.std.specs.List.{flat_map}
use Rattle.kf_value.specs.Kinds.{TruthKind}
use Rattle.kf_value.specs.Shapes.{shape_types}
use Rattle.kf_core.specs.Choices.{total}
use Rattle.kf_core.specs.Runs.{stay, tried}
use Rattle.kf_core.specs.Views.{dx_tree}
use Rattle.kf_core.specs.Leaks.{shown}
use Rattle.kf_eval.specs.Choices.{weighted_trees}
use Rattle.kf_push.specs.Following.{side}
use Rattle.kf_run.specs.Ways.{IsShared, sides}
use Rattle.kf_run.proofs.Sharing.{chosen_at, clear, share_fits, sides_divide, sides_shared}
use Rattle.kf_run.proofs.guards.side_entry.Goals as goal

pub chosen_in-requires-clause-clear : goal.chosen_in-requires-clause-clear
chosen_in-requires-clause-clear c =
    let e = c.args.entry in
    clear shown e.value e.weight (λ v. stay e.value) (tried (shape_types c.args.shape.now) (dx_tree c.args.dist.now) e.value) c.requires.takes

pub add_sides-requires : goal.add_sides-requires
add_sides-requires c =
    let d = dx_tree c.args.dist.now in
    let e = c.args.entry in
    let is = (chosen_at c.in_ok-choice_at.ensures.found c.at-choice.ensures) in
    let divides = sides_divide c.args.shape.now d e c.at-choice.result.now is c.requires.some c.requires.takes in
    let most = share_fits c.args.shape.now d e c.at-choice.result.now is c.requires.some divides in
    let same = ap (λ n. n * total (weighted_trees c.at-choice.result.now)) c.share_of-share.ensures in
    record { fits = omega (arith, most, same) }

pub returns-clause-taken : goal.returns-clause-taken
returns-clause-taken c =
    let ts = shape_types c.args.shape.now in
    let d = dx_tree c.args.dist.now in
    let e = c.args.entry in
    let cs = weighted_trees c.at-choice.result.now in
    record {
      more = flat_map (sides true e.value c.share_of-share.result) cs;
      is = c.in_ok-add_sides.ensures.taken;
      shared = subst (λ n. IsShared (side true (tried ts d)) (e ∷ []) (flat_map (sides true e.value n) cs)) (sym c.share_of-share.ensures)
          (sides_shared c.args.shape.now d e c.at-choice.result.now (chosen_at c.in_ok-choice_at.ensures.found c.at-choice.ensures) c.requires.some c.requires.takes true ((chosen_at c.in_ok-choice_at.ensures.found c.at-choice.ensures).kinded TruthKind c.requires.kinded));
    }

pub returns-clause-left : goal.returns-clause-left
returns-clause-left c =
    let ts = shape_types c.args.shape.now in
    let d = dx_tree c.args.dist.now in
    let e = c.args.entry in
    let cs = weighted_trees c.at-choice.result.now in
    record {
      more = flat_map (sides false e.value c.share_of-share.result) cs;
      is = c.in_ok-add_sides.ensures.left;
      shared = subst (λ n. IsShared (side false (tried ts d)) (e ∷ []) (flat_map (sides false e.value n) cs)) (sym c.share_of-share.ensures)
          (sides_shared c.args.shape.now d e c.at-choice.result.now (chosen_at c.in_ok-choice_at.ensures.found c.at-choice.ensures) c.requires.some c.requires.takes false ((chosen_at c.in_ok-choice_at.ensures.found c.at-choice.ensures).kinded TruthKind c.requires.kinded));
    }

pub chosen_in-requires-clause-store : goal.chosen_in-requires-clause-store
chosen_in-requires-clause-store c = c.requires.store

pub chosen_in-requires-clause-kinded : goal.chosen_in-requires-clause-kinded
chosen_in-requires-clause-kinded c = (TruthKind, c.requires.kinded)

pub chosen_in-requires-clause-memo : goal.chosen_in-requires-clause-memo
chosen_in-requires-clause-memo c = c.requires.memo

pub at-choice-requires : goal.at-choice-requires
at-choice-requires c = c.in_ok-choice_at.ensures.within

pub returns-clause-below_taken : goal.returns-clause-below_taken
returns-clause-below_taken c = c.in_ok-add_sides.ensures.below_taken _ c.requires.store

pub returns-clause-below_left : goal.returns-clause-below_left
returns-clause-below_left c = c.in_ok-add_sides.ensures.below_left _ c.requires.store
