use Rattle.std.proofs.Common.{drop, true}
use Rattle.kf_json.proofs.Carrying.{Carries}
use Rattle.kf_value.specs.Views.{items_of}
use Rattle.kf_cert.specs.Naming.{IsMade}
use Rattle.kf_cert.proofs.gain_rules.numbers.actions.Given as goal

abbrev pub invariant-loop-one : goal.invariant-loop-one
invariant-loop-one l = Carries (IsMade (items_of l.fn.target)) (λ named. true) (drop l.one-index l.named) l.named l.actions.items
