use Rattle.std.proofs.Common.{◌≡◌, ◌++◌, drop}
use Rattle.kf_cert.specs.NamedGains.{excesses_from}
use Rattle.kf_cert.proofs.gain_rules.excess.excesses.Given as goal

abbrev pub invariant-loop-action : goal.invariant-loop-action
invariant-loop-action l =
    l.excesses.items ++ excesses_from l.table.rest l.action (drop l.action l.table.actions) ≡ excesses_from l.table.rest 0 l.table.actions
