use Rattle.std.proofs.Common.{map}
use Rattle.kf_simplex.specs.Cells.{IsCommonGcd}
use Rattle.kf_simplex.specs.declared.row.Entry.{Entry}
use Rattle.kf_simplex.proofs.rows.common_factor.Given as goal

abbrev pub invariant-loop-e : goal.invariant-loop-e
invariant-loop-e l = IsCommonGcd (map (λ (e : Entry). e.number) l.row.entries.items) l.e-index l.g
