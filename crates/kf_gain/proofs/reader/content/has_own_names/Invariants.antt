use Rattle.std.proofs.Common.{map, drop, true}
use Rattle.serde_json.specs.View.{view}
use Rattle.kf_json.specs.Json.{text_of}
use Rattle.kf_gain.specs.Tables.{name_at}
use Rattle.kf_json.proofs.Carrying.{Carries}
use Rattle.kf_gain.proofs.Entries.{text_shown}
use Rattle.kf_gain.proofs.reader.content.has_own_names.Given as goal

abbrev pub invariant-loop-action : goal.invariant-loop-action
invariant-loop-action l = Carries (text_shown (λ a. text_of (name_at a))) (λ d. true) (map view (drop l.action-index l.action-items)) (map view l.action-items) l.names.items
