use Rattle.std.proofs.Common.{◌+◌, ◌*◌, ◌≤◌, sym, subst}
use Rattle.kf_simplex.specs.Systems.{LinearSystem}
use Rattle.kf_simplex.proofs.solving.solve.Goals as goal

pub solve_sparse-requires : goal.solve_sparse-requires
solve_sparse-requires c =
    subst (λ (s : LinearSystem). (s.equations + 1) * (s.unknowns + s.equations + 1) ≤ 4000000) (sym c.in_ok-system.ensures) c.requires
