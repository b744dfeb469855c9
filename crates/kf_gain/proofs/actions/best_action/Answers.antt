use Rattle.std.proofs.Common.{rules, ◌≡◌, ℕ, ◌<◌, ◌≤◌, ◌∙◌, List, length, ap, sym, subst, arith, to_z, of_z, get_or}
use Rattle.std.specs.Prelude.{ℤ, FitsSigned}
use Rattle.std.specs.Int.{w128, int_max}
use Rattle.std.proofs.lemmas.Int.{to_z-of_z}
use Rattle.kf_frac.specs.Fractions.{limit}
use Rattle.kf_gain.specs.declared.table.Action.{Action}
use Rattle.kf_gain.specs.Worth.{gained}
use Rattle.kf_gain.specs.Views.{table_tree}
use Rattle.kf_gain.proofs.Acting.{some_actions, action_ascends, action_fits, reached_next, bounds_next, best_is}
use Rattle.kf_gain.proofs.actions.best_action.Goals.{After-as_slice, After-as_slice-in-loop-action}
use Rattle.kf_gain.proofs.actions.best_action.Goals as goal

-- the first action
module _ (c : After-as_slice) where
  some : 0 < length c.args.table.now.actions
  some = some_actions c.args.table.now.actions c.args.table.now.shape.some

  first : c.index-actions-0.result ≡ get_or c.args.table.now.actions 0 c.index-actions-0.result
  first = subst (λ (l : List Action). c.index-actions-0.result ≡ get_or l 0 c.index-actions-0.result) c.as_slice-actions.ensures c.index-actions-0.is

  mine : c.as_slice.result.now ≡ c.index-actions-0.result.gains
  mine = c.as_slice.ensures ∙ ap (λ (a : Action). a.gains) (sym c.index-actions-0.is)

pub gained-best-requires-clause-ascending : goal.gained-best-requires-clause-ascending
gained-best-requires-clause-ascending c =
    action_ascends (table_tree c.args.table.now) c.args.table.now.shape c.index-actions-0.result _ 0 (mine c) (some c) (first c)

pub gained-best-requires-clause-fits : goal.gained-best-requires-clause-fits
gained-best-requires-clause-fits c =
    let fits : FitsSigned w128 c.args.table.now.rest = search rules in
    action_fits (table_tree c.args.table.now) c.index-actions-0.result c.as_slice.result.now c.args.entries.now 0 limit _
    (to_z-of_z w128 c.args.table.now.rest fits) (mine c) (some c) (first c) c.requires.fits

-- an action's turn
module _ (c : After-as_slice-in-loop-action) where
  inside : c.loop-action.action-index < length c.args.table.now.actions
  inside = subst (λ (l : List Action). c.loop-action.action-index < length l) c.as_slice-actions.ensures c.loop-action-test.true

  is : c.action-item.result ≡ get_or c.args.table.now.actions c.loop-action.action-index c.action-item.result
  is = subst (λ (l : List Action). c.action-item.result ≡ get_or l c.loop-action.action-index c.action-item.result) c.as_slice-actions.ensures
      c.action-item.is

pub gained-requires-clause-ascending : goal.gained-requires-clause-ascending
gained-requires-clause-ascending c =
    action_ascends (table_tree c.args.table.now) c.args.table.now.shape c.action-item.result _ c.loop-action.action-index
    c.as_slice-in-loop-action.ensures (inside c) (is c)

pub gained-requires-clause-fits : goal.gained-requires-clause-fits
gained-requires-clause-fits c =
    let fits : FitsSigned w128 c.args.table.now.rest = search rules in
    action_fits (table_tree c.args.table.now) c.action-item.result c.as_slice-in-loop-action.result.now c.args.entries.now c.loop-action.action-index limit _
    (to_z-of_z w128 c.args.table.now.rest fits) c.as_slice-in-loop-action.ensures (inside c) (is c) c.requires.fits

pub loop-action-preserved : goal.loop-action-preserved
loop-action-preserved c =
    let rest : ℤ = c.args.table.now.rest in
    let entries = c.args.entries.now in
    let i : ℕ = c.loop-action.action-index in
    let a : Action = c.action-item.result in
    let at = (goal.at.loop-action-preserved c).After-as_slice-in-loop-action in
    let ranged : FitsSigned w128 rest = search rules in
    let fit : FitsSigned w128 c.gained.result = search rules in
    let fits : FitsSigned w128 c.max-best.result = search rules in
    let best : ℤ = to_z w128 c.loop-action.best-bits in
    let new : ℤ = to_z w128 (of_z w128 c.gained.result) in
    let z : ℤ = to_z w128 (of_z w128 c.max-best.result) in
    let worth : new ≡ gained rest a.gains entries =
    to_z-of_z w128 c.gained.result fit ∙ c.gained.ensures ∙ (λ j. gained (to_z-of_z w128 rest ranged j) (c.as_slice-in-loop-action.ensures j) entries) in
    let most : z ≡ int_max best new = to_z-of_z w128 c.max-best.result fits ∙ c.max-best.ensures.value in
    record {
      reached = reached_next rest entries c.args.table.now.actions i a (inside at) (is at) best new z worth most c.loop-action.invariant.reached;
      best = bounds_next rest entries c.args.table.now.actions i a (inside at) (is at) best new z worth most c.loop-action.invariant.best;
    }

pub returns : goal.returns
returns c =
    let past : length c.args.table.now.actions ≤ c.loop-action.action-index =
    subst (λ (l : List Action). length l ≤ c.loop-action.action-index) c.as_slice-actions.ensures c.loop-action-test.false in
    best_is (table_tree c.args.table.now) c.args.entries.now _ (record {
      reached = c.loop-action.invariant.reached;
      best = λ a (k, inside, is). c.loop-action.invariant.best k a (omega (arith, inside, past)) is;
    })
