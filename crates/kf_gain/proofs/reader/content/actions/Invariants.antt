use Rattle.std.proofs.Common.{map, drop}
use Rattle.serde_json.specs.View.{view}
use Rattle.kf_value.specs.Views.{items_of}
use Rattle.kf_gain.specs.Reading.{IsRead}
use Rattle.kf_json.proofs.Carrying.{Carries}
use Rattle.kf_gain.proofs.Entries.{action_known}
use Rattle.kf_gain.proofs.reader.content.actions.Given as goal

abbrev pub invariant-loop-value : goal.invariant-loop-value
invariant-loop-value l = Carries (IsRead (items_of l.fn.target)) (action_known (items_of l.fn.target)) (map view (drop l.value-index l.value-items)) (map view l.value-items) l.actions.items
