use Rattle.std.proofs.Common.{map, drop}
use Rattle.serde_json.specs.View.{view}
use Rattle.kf_value.specs.Views.{items_of}
use Rattle.kf_gain.specs.Reading.{IsEntry}
use Rattle.kf_json.proofs.Carrying.{Carries}
use Rattle.kf_gain.proofs.TargetTexts.{gain_known}
use Rattle.kf_gain.proofs.reader.content.entries.Given as goal

abbrev pub invariant-loop-gain : goal.invariant-loop-gain
invariant-loop-gain l = Carries (IsEntry (items_of l.fn.target)) (gain_known (items_of l.fn.target)) (map view (drop l.gain-index l.gain-items)) (map view l.gain-items) l.entries.items
