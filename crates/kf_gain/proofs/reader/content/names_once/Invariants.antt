use Rattle.std.proofs.Common.{map, drop, true}
use Rattle.serde_json.specs.View.{view}
use Rattle.kf_json.specs.Json.{at_place, text_of}
use Rattle.kf_json.proofs.Carrying.{Carries}
use Rattle.kf_gain.proofs.Entries.{text_shown}
use Rattle.kf_gain.proofs.reader.content.names_once.Given as goal

abbrev pub invariant-loop-gain : goal.invariant-loop-gain
invariant-loop-gain l = Carries (text_shown (λ g. text_of (at_place 0 g))) (λ d. true) (map view (drop l.gain-index l.gain-items)) (map view l.gain-items) l.texts.items
