use Rattle.serde_json.specs.View.{view}
use Rattle.kf_json.specs.Rules.{are_distinct}
use Rattle.kf_gain.specs.Tables.{value_texts}
use Rattle.kf_json.proofs.Carrying.{StillTests}
use Rattle.kf_gain.proofs.reader.content.is_once.Given as goal

abbrev pub invariant-loop-action : goal.invariant-loop-action
invariant-loop-action l = StillTests (λ a. are_distinct (value_texts a)) view l.action-items l.action-index
