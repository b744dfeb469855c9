use Rattle.std.proofs.Common.{◌≡◌, ◌≤◌, ◌*◌, map, take, drop, max}
use Rattle.std.specs.Prelude.{◌+ℤ◌, unsigned_abs}
use Rattle.kf_column.specs.Columns.{total}
use Rattle.kf_gain.specs.Vulnerabilities.{greatest}
use Rattle.kf_gain.specs.Worth.{gained}
use Rattle.kf_gain.proofs.actions.gained.Given as goal

abbrev pub invariant-loop-entry : goal.invariant-loop-entry
invariant-loop-entry l = record {
  sum : l.sum +ℤ gained l.rest l.gains (drop l.entry-index l.entries) ≡ gained l.rest l.gains l.entries;
  within : unsigned_abs l.sum ≤ total (take l.entry-index l.entries) * max (unsigned_abs l.rest) (greatest (map (λ e. e.gain) l.gains));
}
