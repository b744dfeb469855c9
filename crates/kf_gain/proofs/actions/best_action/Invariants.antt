use Rattle.std.proofs.Common.{◌≡◌, ℕ, ◌<◌, get_or}
use Rattle.std.specs.Prelude.{◌≤ℤ◌, Contains}
use Rattle.kf_gain.specs.declared.table.Action.{Action}
use Rattle.kf_gain.specs.Worth.{gained}
use Rattle.kf_gain.proofs.actions.best_action.Given as goal

abbrev pub invariant-loop-action : goal.invariant-loop-action
invariant-loop-action l = record {
  reached : (a : Action) × Contains l.table.actions a × (l.best ≡ gained l.table.rest a.gains l.entries);
  best : (k : ℕ) (a : Action) → k < l.action-index → get_or l.table.actions k a ≡ a → gained l.table.rest a.gains l.entries ≤ℤ l.best;
}
