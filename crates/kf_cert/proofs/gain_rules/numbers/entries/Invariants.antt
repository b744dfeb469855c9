use Rattle.std.proofs.Common.{drop}
use Rattle.kf_gain.specs.Tables.{is_value_text}
use Rattle.kf_json.proofs.Carrying.{Carries}
use Rattle.kf_value.specs.Views.{items_of}
use Rattle.kf_cert.specs.Naming.{IsEntryOf}
use Rattle.kf_cert.proofs.gain_rules.numbers.entries.Given as goal

abbrev pub invariant-loop-gain : goal.invariant-loop-gain
invariant-loop-gain l = Carries (IsEntryOf (items_of l.fn.target)) (λ g. is_value_text (items_of l.fn.target) g.value) (drop l.gain-index l.gains) l.gains l.entries.items
