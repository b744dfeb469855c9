use Rattle.std.proofs.Common.{◌≡◌, ℕ, ◌+◌, ◌-◌, ◌≤◌, ℤ}
use Rattle.kf_simplex.specs.Systems.{IsSystem}
use Rattle.kf_simplex.specs.Cells.{AllNarrow}
use Rattle.kf_simplex.specs.Flat.{IsWithin, cell}
use Rattle.std.specs.Prelude.{IsTrue, ◌↔◌}
use Rattle.kf_simplex.specs.Turns.{system, InRun}
use Rattle.kf_simplex.proofs.table.Table.run.Given as goal

abbrev pub invariant-loop-stop : goal.invariant-loop-stop
invariant-loop-stop l = record {
  bound : l.pivots ≤ l.limit;
  unknowns : l.self.unknowns ≡ l.initial.self.unknowns;
  equations : l.self.equations ≡ l.initial.self.equations;
  runs : (number : ℕ → ℕ → ℤ)
      → IsSystem (system l.initial.self.unknowns l.initial.self.equations number)
      → InRun (system l.initial.self.unknowns l.initial.self.equations number) l.limit 0 (cell l.initial.self.rows.items) l.initial.self.basis.items
      → InRun (system l.initial.self.unknowns l.initial.self.equations number) l.limit l.pivots (cell l.self.rows.items) l.self.basis.items;
  within : IsWithin (l.self.unknowns + l.self.equations) (cell l.self.rows.items);
  narrow : IsTrue l.narrow ↔ ((i : ℕ) → AllNarrow (cell l.self.rows.items i));
}

abbrev pub decreases-loop-stop : goal.decreases-loop-stop
decreases-loop-stop l = l.limit - l.pivots
