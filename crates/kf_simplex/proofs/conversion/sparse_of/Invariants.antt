use Rattle.std.proofs.Common.{◌≡◌, ◌++◌, map, drop}
use Rattle.std.specs.List.{All}
use Rattle.kf_simplex.specs.Entries.{IsRowWithin}
use Rattle.kf_simplex.proofs.Converting.{sides, sparse_sides}
use Rattle.kf_simplex.proofs.conversion.sparse_of.Given as goal

-- the equations before the index are there
abbrev pub invariant-loop-equation : goal.invariant-loop-equation
invariant-loop-equation l = record {
  same : map sparse_sides l.rows.items ++ map sides (drop l.equation-index l.s.rows) ≡ map sides l.s.rows;
  within : All (λ q. IsRowWithin l.s.unknowns q.coefs.entries.items) l.rows.items;
}
