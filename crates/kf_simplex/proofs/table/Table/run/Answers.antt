use Rattle.std.proofs.Common.{◌≢◌, ◌+◌, arith, ◌∙◌}
use Rattle.kf_simplex.specs.Systems.{IsSystem}
use Rattle.kf_simplex.specs.Runs.{Ends}
use Rattle.kf_simplex.specs.Flat.{cell, tableau_of}
use Rattle.kf_simplex.specs.Turns.{system, InRun, cause_of}
use Rattle.kf_simplex.proofs.FlatTurns.{in_run_passed, within_passed, along}
use Rattle.kf_simplex.proofs.table.Table.run.Goals as goal

pub returns-in-Ends-clause-runs : goal.returns-in-Ends-clause-runs
returns-in-Ends-clause-runs c = c.loop-stop.invariant.runs

pub returns-in-Ends-clause-ends : goal.returns-in-Ends-clause-ends
returns-in-Ends-clause-ends c = λ number y r.
    along
    (λ v e. IsSystem (system v e number) → InRun (system v e number) c.args.limit c.loop-stop.pivots (cell c.loop-stop.self.rows.items) c.loop-stop.self.basis.items
    → Ends (system v e number) c.args.limit c.loop-stop.pivots (tableau_of (system v e number) (cell c.loop-stop.self.rows.items) c.loop-stop.self.basis.items) (cause_of c.in-Ends.stop))
    c.args.self.now.unknowns c.args.self.now.equations c.loop-stop.self.unknowns c.loop-stop.self.equations c.loop-stop.invariant.unknowns c.loop-stop.invariant.equations
    (λ y' r'. c.in-Ends.ensures.judges number y' r') y (c.loop-stop.invariant.runs number y r)

pub loop-stop-preserved : goal.loop-stop-preserved
loop-stop-preserved c = record {
  bound = (let ne : c.loop-stop.pivots ≢ c.args.limit = λ q. c.in-Pivot.ensures.goes_on q in let b = c.loop-stop.invariant.bound in omega arith);
  unknowns = c.in_ok-narrow-in-Pivot.ensures.shape.0 ∙ c.loop-stop.invariant.unknowns;
  equations = c.in_ok-narrow-in-Pivot.ensures.shape.1 ∙ c.loop-stop.invariant.equations;
  runs = λ number y r.
      along
      (λ v e. IsSystem (system v e number) → InRun (system v e number) c.args.limit c.loop-stop.pivots (cell c.loop-stop.self.rows.items) c.loop-stop.self.basis.items
      → InRun (system v e number) c.args.limit (c.loop-stop.pivots + 1) (cell c.pivot.new.self.rows.items) c.pivot.new.self.basis.items)
      c.args.self.now.unknowns c.args.self.now.equations c.loop-stop.self.unknowns c.loop-stop.self.equations c.loop-stop.invariant.unknowns c.loop-stop.invariant.equations
      (λ y' r'. in_run_passed (system c.loop-stop.self.unknowns c.loop-stop.self.equations number) c.args.limit c.loop-stop.pivots (cell c.loop-stop.self.rows.items) (cell c.pivot.new.self.rows.items)
      c.loop-stop.self.basis.items c.pivot.new.self.basis.items c.in-Pivot.column c.in-Pivot.row y' r' (c.in-Pivot.ensures.judges number y' r') c.loop-stop.self.basis_len
      c.loop-stop.invariant.within c.in_ok-narrow-in-Pivot.ensures.rows c.in_ok-narrow-in-Pivot.ensures.basis)
      y (c.loop-stop.invariant.runs number y r);
  within = rw (c.in_ok-narrow-in-Pivot.ensures.shape.0, c.in_ok-narrow-in-Pivot.ensures.shape.1)
      (within_passed (c.loop-stop.self.unknowns + c.loop-stop.self.equations) (cell c.loop-stop.self.rows.items) (cell c.pivot.new.self.rows.items) c.in-Pivot.row c.in-Pivot.column
      (c.loop-stop.self.equations + 1) c.loop-stop.invariant.within c.in_ok-narrow-in-Pivot.ensures.rows);
  narrow = c.in_ok-narrow-in-Pivot.ensures.narrow;
}
