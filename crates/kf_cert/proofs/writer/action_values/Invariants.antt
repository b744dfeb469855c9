use Rattle.std.proofs.Common.{◌≡◌, ◌++◌, map, drop}
use Rattle.serde_json.specs.View.{view}
use Rattle.kf_value.specs.Views.{items_of}
use Rattle.kf_cert.specs.CertTexts.{action_data}
use Rattle.kf_cert.proofs.writer.action_values.Given as goal

abbrev pub invariant-loop-action : goal.invariant-loop-action
invariant-loop-action l =
    map view l.values.items ++ map (action_data (items_of l.target)) (drop l.action-index l.actions) ≡ map (action_data (items_of l.target)) l.actions
