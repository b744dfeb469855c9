use Rattle.std.proofs.Common.{◌*◌, [], ◌∷◌, sym, ap, subst, arith}
use Rattle.std.specs.List.{flat_map}
use Rattle.kf_value.specs.Shapes.{shape_types}
use Rattle.kf_core.specs.Choices.{total}
use Rattle.kf_core.specs.Runs.{place, tried}
use Rattle.kf_core.specs.Views.{dx_tree}
use Rattle.kf_core.specs.Each.{moved}
use Rattle.kf_core.specs.Leaks.{shown}
use Rattle.kf_eval.specs.Choices.{weighted_trees}
use Rattle.kf_support.specs.Moves.{store_behind}
use Rattle.kf_run.specs.Following.{shown_to}
use Rattle.kf_run.specs.Ways.{IsShared, shows}
use Rattle.kf_run.proofs.Sharing.{chosen_at, clear, shows_divide, shows_shared, share_fits}
use Rattle.kf_run.proofs.observation.show_entry.Goals as goal

pub chosen_in-requires-clause-clear : goal.chosen_in-requires-clause-clear
chosen_in-requires-clause-clear c =
    let ts = shape_types c.args.shape.now in
    let d = dx_tree c.args.dist.now in
    let e = c.args.entry in
    clear shown e.value e.weight (λ v. moved (place d) (store_behind ts c.args.into e.value v)) (tried ts d e.value) c.requires.takes

pub add_leaks-requires-clause-fits : goal.add_leaks-requires-clause-fits
add_leaks-requires-clause-fits c =
    let d = dx_tree c.args.dist.now in
    let e = c.args.entry in
    let is = (chosen_at c.in_ok-choice_at.ensures.found c.at-choice.ensures) in
    let divides = shows_divide c.args.shape.now d e c.at-choice.result.now is c.requires.some c.args.into c.requires.takes in
    let most = share_fits c.args.shape.now d e c.at-choice.result.now is c.requires.some divides in
    let same = ap (λ n. n * total (weighted_trees c.at-choice.result.now)) c.share_of-share.ensures in
    omega (arith, most, same)

pub returns-clause-added : goal.returns-clause-added
returns-clause-added c =
    let ts = shape_types c.args.shape.now in
    let d = dx_tree c.args.dist.now in
    let e = c.args.entry in
    let cs = weighted_trees c.at-choice.result.now in
    record {
      more = flat_map (shows ts c.args.into e.value c.share_of-share.result) cs;
      is = c.in_ok-add_leaks.ensures.added;
      shared = subst (λ n. IsShared (shown_to ts c.args.into d) (e ∷ []) (flat_map (shows ts c.args.into e.value n) cs)) (sym c.share_of-share.ensures)
          (shows_shared c.args.shape.now d e c.at-choice.result.now (chosen_at c.in_ok-choice_at.ensures.found c.at-choice.ensures) c.requires.some c.args.into c.requires.takes);
    }
