use Rattle.std.proofs.Common.{◌+◌, ◌*◌}
use Rattle.kf_simplex.proofs.Entries.{IsMade}
use Rattle.kf_refine.proofs.Coefficients.{IsOne}
use Rattle.kf_refine.proofs.equations.sum_coefficients.Given as goal

-- the first l places of row p are 1
abbrev pub invariant-loop-l : goal.invariant-loop-l
invariant-loop-l l = IsMade (IsOne l.columns l.p) (l.p * l.columns + l.l) l.entries.items
