use Rattle.std.proofs.Common.{◌≡◌, drop, true}
use Rattle.kf_json.proofs.Carrying.{Carries}
use Rattle.kf_cert.proofs.gain_rules.numbers.names_once.Given as goal

abbrev pub invariant-loop-gain : goal.invariant-loop-gain
invariant-loop-gain l = Carries (λ g t. t.now ≡ g.value) (λ g. true) (drop l.gain-index l.gains) l.gains l.texts.items
