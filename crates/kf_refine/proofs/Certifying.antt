-- What the run answers proves itself, and so decides.
use Rattle.std.proofs.Common.{ℕ}
use Rattle.std.specs.Prelude.{Ok}
use Rattle.kf_refine.specs.Refinements.{HyperTree}
use Rattle.kf_refine.specs.Verdicts.{VerdictTree, Yes, No, IsVerdict, Proves}
use Rattle.kf_refine.specs.Views.{IsProper}
use Rattle.kf_refine.specs.Laws.{NothingSeparates, VerdictsDecide}
use Rattle.kf_refine.proofs.Refuting.{table_proves}
use Rattle.kf_refine.proofs.Solving.{solution_carries}

pub verdicts_prove : (a b : HyperTree) (pivots : ℕ) (v : VerdictTree) → IsProper a → IsProper b → IsVerdict a b pivots (Ok v) → Proves a b v
verdicts_prove a b pivots (Yes rows) is_a is_b (solution, run, matrix) = solution_carries a b pivots solution rows run matrix
verdicts_prove a b pivots (No t) is_a is_b (multipliers, run, table) = table_proves a b pivots multipliers t is_a is_b run table

-- a table that separates excludes matrices, by the soundness of refinement
pub decides : NothingSeparates → VerdictsDecide
decides nothing a b pivots is_a is_b = (
  λ rows is. (rows, verdicts_prove a b pivots (Yes rows) is_a is_b is),
  λ t is refines. nothing a b t is_a is_b refines (verdicts_prove a b pivots (No t) is_a is_b is).0,
)
