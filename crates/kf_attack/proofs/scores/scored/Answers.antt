use Rattle.std.proofs.Common.{rules, ◌≡◌, ℕ, ◌+◌, ◌<◌, ◌≤◌, ◌∙◌, ◌++◌, ◌∷◌, [], List, length, refl, sym, subst, to_z, of_z, get_or, take, arith}
use Rattle.std.specs.Prelude.{ℤ, FitsSigned}
use Rattle.std.specs.Int.{w128, int_max}
use Rattle.std.specs.List.{AllZip, range_with_len}
use Rattle.std.proofs.lemmas.Int.{to_z-of_z}
use Rattle.std.proofs.lemmas.List.Elements.{Contains-get_or}
use Rattle.kf_frac.specs.Fractions.{limit}
use Rattle.kf_column.specs.declared.entry.Entry.{Entry}
use Rattle.kf_gain.specs.declared.table.Action.{Action}
use Rattle.kf_gain.specs.Gains.{TableTree}
use Rattle.kf_gain.specs.Worth.{gained}
use Rattle.kf_gain.specs.Views.{table_tree}
use Rattle.kf_attack.specs.declared.attack.Score.{Score}
use Rattle.kf_attack.specs.Views.{ShowsScore, places, scored}
use Rattle.kf_attack.proofs.Scoring.{whole_positive, whole_fits, total_fits, gains_fit, gained_fits, places_next, score_next, still_reached, still_best, scores_shown}
use Rattle.kf_attack.proofs.scores.scored.Goals as goal

pub whole_of-whole-requires-clause-narrow : goal.whole_of-whole-requires-clause-narrow
whole_of-whole-requires-clause-narrow c = total_fits (table_tree c.args.table.now) c.args.entries.now c.requires.column c.args.table.now.shape.positive limit c.requires.fits

pub whole_of-whole-requires-clause-fits : goal.whole_of-whole-requires-clause-fits
whole_of-whole-requires-clause-fits c = whole_fits (table_tree c.args.table.now) c.args.entries.now c.requires.column c.args.table.now.shape.positive limit c.requires.fits

pub action_gain-best-requires-clause-narrow : goal.action_gain-best-requires-clause-narrow
action_gain-best-requires-clause-narrow c = total_fits (table_tree c.args.table.now) c.args.entries.now c.requires.column c.args.table.now.shape.positive limit c.requires.fits

pub action_gain-best-requires-clause-fits : goal.action_gain-best-requires-clause-fits
action_gain-best-requires-clause-fits c = gains_fit (table_tree c.args.table.now) c.args.entries.now c.requires.column c.args.table.now.shape.positive limit c.requires.fits

pub action_gain-gain-requires-clause-narrow : goal.action_gain-gain-requires-clause-narrow
action_gain-gain-requires-clause-narrow c = total_fits (table_tree c.args.table.now) c.args.entries.now c.requires.column c.args.table.now.shape.positive limit c.requires.fits

pub action_gain-gain-requires-clause-fits : goal.action_gain-gain-requires-clause-fits
action_gain-gain-requires-clause-fits c = gains_fit (table_tree c.args.table.now) c.args.entries.now c.requires.column c.args.table.now.shape.positive limit c.requires.fits

pub fraction-score-requires-clause-den : goal.fraction-score-requires-clause-den
fraction-score-requires-clause-den c = rw c.whole_of-whole.ensures (whole_fits (table_tree c.args.table.now) c.args.entries.now c.requires.column c.args.table.now.shape.positive limit c.requires.fits)

pub fraction-score-requires-clause-num : goal.fraction-score-requires-clause-num
fraction-score-requires-clause-num c =
    let t : TableTree = table_tree c.args.table.now in
    let none : Action = record { name = []; gains = [] } in
    let i : ℕ = c.loop-action.action in
    let inside : i < length t.actions = subst (λ (l : List Action). i < length l) c.as_slice-action-end.ensures c.loop-action-test.true in
    let ranged : FitsSigned w128 c.action_gain-gain.result = search rules in
    let new : to_z w128 (of_z w128 c.action_gain-gain.result) ≡ gained t.rest (get_or t.actions i none).gains c.args.entries.now =
    to_z-of_z w128 c.action_gain-gain.result ranged ∙ c.action_gain-gain.ensures in
    gained_fits t c.args.entries.now c.requires.column c.args.table.now.shape.positive limit c.requires.fits (get_or t.actions i none) _
    (Contains-get_or t.actions i none inside) new

pub fraction-score-requires-clause-some : goal.fraction-score-requires-clause-some
fraction-score-requires-clause-some c =
    let t : TableTree = table_tree c.args.table.now in
    rw c.whole_of-whole.ensures (whole_positive t c.args.entries.now c.requires.column c.args.table.now.shape.positive)

pub loop-action-preserved : goal.loop-action-preserved
loop-action-preserved c =
    let t : TableTree = table_tree c.args.table.now in
    let column : List Entry = c.args.entries.now in
    let whole : ℕ = c.whole_of-whole.result in
    let none : Action = record { name = []; gains = [] } in
    let i : ℕ = c.loop-action.action in
    let a : Action = get_or t.actions i none in
    let inside : i < length t.actions = subst (λ (l : List Action). i < length l) c.as_slice-action-end.ensures c.loop-action-test.true in
    let ranged : FitsSigned w128 c.action_gain-gain.result = search rules in
    let fits : FitsSigned w128 c.max-best.result = search rules in
    let best : ℤ = to_z w128 c.loop-action.best-bits in
    let new : ℤ = to_z w128 (of_z w128 c.action_gain-gain.result) in
    let z : ℤ = to_z w128 (of_z w128 c.max-best.result) in
    let gains : new ≡ gained t.rest a.gains column = to_z-of_z w128 c.action_gain-gain.result ranged ∙ c.action_gain-gain.ensures in
    let most : z ≡ int_max best new = to_z-of_z w128 c.max-best.result fits ∙ c.max-best.ensures.value in
    let s : Score = record { action = i; score = c.fraction-score.result } in
    let grown : c.push.new.self.items ≡ c.loop-action.scores.items ++ s ∷ [] = search rules in
    record {
      scores = subst (λ (l : List Score). AllZip (λ a s. ShowsScore t.actions whole (scored t column a) s) (take (i + 1) t.actions) l) (sym grown)
          (score_next t column whole i inside a refl new gains c.loop-action.scores.items c.fraction-score.result c.fraction-score.ensures
          c.loop-action.invariant.scores);
      places = subst (λ (l : List Score). places l ≡ range_with_len 0 (i + 1)) (sym grown)
          (places_next c.loop-action.scores.items i s refl c.loop-action.invariant.places);
      within = omega (arith, inside);
      reached = still_reached t column whole i inside a refl new gains best z most c.loop-action.invariant.reached;
      best = still_best t column whole i inside a refl new gains best z most c.loop-action.invariant.best;
    }

pub fraction-requires-clause-num : goal.fraction-requires-clause-num
fraction-requires-clause-num c =
    let t : TableTree = table_tree c.args.table.now in
    let (a, there, is) = c.loop-action.invariant.reached in
    gained_fits t c.args.entries.now c.requires.column c.args.table.now.shape.positive limit c.requires.fits a _ there is

pub fraction-requires-clause-some : goal.fraction-requires-clause-some
fraction-requires-clause-some c =
    let t : TableTree = table_tree c.args.table.now in
    rw c.whole_of-whole.ensures (whole_positive t c.args.entries.now c.requires.column c.args.table.now.shape.positive)

pub returns : goal.returns
returns c =
    let t : TableTree = table_tree c.args.table.now in
    let column : List Entry = c.args.entries.now in
    let whole : ℕ = c.whole_of-whole.result in
    let i : ℕ = c.loop-action.action in
    let past : length t.actions ≤ i = subst (λ (l : List Action). length l ≤ i) c.as_slice-action-end.ensures c.loop-action-test.false in
    let z : ℤ = to_z w128 c.loop-action.best-bits in
    rw c.new.ensures
    (scores_shown t column whole i past z c.loop-action.scores.items c.fraction.result c.whole_of-whole.ensures c.fraction.ensures
    c.loop-action.invariant.scores c.loop-action.invariant.places c.loop-action.invariant.within c.loop-action.invariant.reached
    c.loop-action.invariant.best)
