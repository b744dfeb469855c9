use Rattle.std.proofs.Common.{◌≡◌, map, take}
use Rattle.kf_run.proofs.column_spread.entries_of.Given as goal

abbrev pub invariant-loop-leak : goal.invariant-loop-leak
invariant-loop-leak l = l.entries.items ≡ map (λ m. record { value = m.to; weight = m.weight }) (take l.leak-index l.leaks)
