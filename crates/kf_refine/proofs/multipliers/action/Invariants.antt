use Rattle.kf_refine.proofs.Tabling.{HasGains}
use Rattle.kf_refine.proofs.multipliers.action.Given as goal

-- the gains of the first q kept values are there
abbrev pub invariant-loop-q : goal.invariant-loop-q
invariant-loop-q l = HasGains l.kept l.inners l.multipliers l.shift l.factor l.j l.q l.gains.items
