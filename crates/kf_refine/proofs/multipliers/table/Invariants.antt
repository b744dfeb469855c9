use Rattle.kf_refine.proofs.Tabling.{HasActions}
use Rattle.kf_refine.proofs.multipliers.table.Given as goal

-- the actions of the first j inners are there
abbrev pub invariant-loop-j : goal.invariant-loop-j
invariant-loop-j l = HasActions l.kept l.inners l.of_values l.shift l.factor l.j l.actions.items
