use Rattle.std.proofs.Common.{◌≡◌, ◌++◌, drop}
use Rattle.kf_cert.specs.NamedGains.{action_excesses}
use Rattle.kf_cert.proofs.gain_rules.excess.add_action.Given as goal

abbrev pub invariant-loop-entry : goal.invariant-loop-entry
invariant-loop-entry l =
    l.excesses.items ++ action_excesses l.rest l.action (drop l.entry-index l.gains) ≡ l.initial.excesses.items ++ action_excesses l.rest l.action l.gains
