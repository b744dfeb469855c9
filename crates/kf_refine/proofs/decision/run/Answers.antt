use Rattle.std.proofs.Common.{sym}
use Rattle.kf_simplex.specs.Views.{sparse}
use Rattle.kf_refine.proofs.Multiplying.{some_inner, some_multiplier, some_place}
use Rattle.kf_refine.proofs.VerdictParts.{matrix_of, run_of, table_of}
use Rattle.kf_refine.specs.Views.{hyper_tree}
use Rattle.kf_refine.proofs.decision.run.Goals as goal

pub returns-in_ok-matrix-in-Ok-Solution-clause-is : goal.returns-in_ok-matrix-in-Ok-Solution-clause-is
returns-in_ok-matrix-in-Ok-Solution-clause-is c = (
  c.in-Ok-Solution.solution,
  (run_of (hyper_tree c.args.a.now) (hyper_tree c.args.b.now) c.args.pivots (sparse c.args.system) c.args.kept.now _
      c.requires.equations c.requires.few c.requires.targets (rw c.in-Ok-Solution.field-0-is at c.in-Ok-Solution.ensures.run)).0,
  matrix_of _ _ _ _ _ _ c.count.ensures c.count-in-Ok-Solution.ensures c.in_ok-matrix-in-Ok-Solution.ensures,
)

pub table-requires-clause-ascending : goal.table-requires-clause-ascending
table-requires-clause-ascending c = c.requires.kept.ascending

pub table-requires-clause-some : goal.table-requires-clause-some
table-requires-clause-some c =
    let e = c.requires.equations in
    some_place _ _ c.in-Ok-Multipliers.multipliers _ _ c.count-in-Ok-Multipliers.ensures e.1
    (some_multiplier (hyper_tree c.args.a.now) (hyper_tree c.args.b.now) (sparse c.args.system) e.0 c.in-Ok-Multipliers.multipliers
    (some_inner _ _ _ c.args.b.now.shape) (rw c.in-Ok-Multipliers.field-0-is at c.in-Ok-Multipliers.ensures.right))

pub returns-in_ok-table-in-Ok-Multipliers-clause-is : goal.returns-in_ok-table-in-Ok-Multipliers-clause-is
returns-in_ok-table-in-Ok-Multipliers-clause-is c =
    let run = run_of (hyper_tree c.args.a.now) (hyper_tree c.args.b.now) c.args.pivots (sparse c.args.system) c.args.kept.now _
    c.requires.equations c.requires.few c.requires.targets (rw c.in-Ok-Multipliers.field-0-is at c.in-Ok-Multipliers.ensures.run) in (
      c.in-Ok-Multipliers.multipliers,
      run.0,
      table_of _ c.args.kept.now _ _ _ _ (sym run.1) c.count-in-Ok-Multipliers.ensures c.in_ok-table-in-Ok-Multipliers.ensures,
    )

pub returns-in-Err-Wide-clause-err : goal.returns-in-Err-Wide-clause-err
returns-in-Err-Wide-clause-err c = λ other.
    rw c.in-Err-Wide.field-0-is
    (run_of (hyper_tree c.args.a.now) (hyper_tree c.args.b.now) c.args.pivots (sparse c.args.system) c.args.kept.now _
    c.requires.equations c.requires.few c.requires.targets (rw c.in-Err-Wide.field-0-is at c.in-Err-Wide.ensures.run)).0

pub returns-in-Err-Budget-clause-err : goal.returns-in-Err-Budget-clause-err
returns-in-Err-Budget-clause-err c = λ other.
    (run_of (hyper_tree c.args.a.now) (hyper_tree c.args.b.now) c.args.pivots (sparse c.args.system) c.args.kept.now _
    c.requires.equations c.requires.few c.requires.targets (rw c.in-Err-Budget.field-0-is at c.in-Err-Budget.ensures.run)).0
