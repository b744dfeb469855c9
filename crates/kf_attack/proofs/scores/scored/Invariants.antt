use Rattle.std.proofs.Common.{◌≡◌, ℕ, ◌<◌, ◌≤◌, length, get_or, take}
use Rattle.std.specs.Prelude.{◌≤ℤ◌, Contains}
use Rattle.std.specs.List.{AllZip, range_with_len}
use Rattle.kf_gain.specs.declared.table.Action.{Action}
use Rattle.kf_gain.specs.Worth.{gained}
use Rattle.kf_gain.specs.Views.{table_tree}
use Rattle.kf_attack.specs.Views.{ShowsScore, places, scored}
use Rattle.kf_attack.proofs.scores.scored.Given as goal

abbrev pub invariant-loop-action : goal.invariant-loop-action
invariant-loop-action l = record {
  scores : AllZip (λ a s. ShowsScore l.table.actions l.whole (scored (table_tree l.table) l.entries a) s) (take l.action l.table.actions) l.scores.items;
  places : places l.scores.items ≡ range_with_len 0 l.action;
  within : l.action ≤ length l.table.actions;
  reached : (a : Action) × Contains l.table.actions a × (l.best ≡ gained l.table.rest a.gains l.entries);
  best : (k : ℕ) (a : Action) → k < l.action → get_or l.table.actions k a ≡ a → gained l.table.rest a.gains l.entries ≤ℤ l.best;
}
