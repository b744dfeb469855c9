use Rattle.std.proofs.Common.{◌≡◌, ◌<◌, ◌≤◌, ◌+◌, ◌*◌, ℕ, pos, ◌+ℤ◌, ◌*ℤ◌, All, unsigned_abs, drop}
use Rattle.kf_frac.specs.Fractions.{limit}
use Rattle.kf_cert.specs.NamedGains.{sum_at, AreBelow, amount_at, size_at}
use Rattle.kf_cert.proofs.gain_rules.sums.add_all.Given as goal

abbrev pub invariant-loop-excess : goal.invariant-loop-excess
invariant-loop-excess l = record {
  sums : (k : ℕ) → sum_at l.sums k +ℤ pos l.weight *ℤ amount_at (drop l.excess-index l.excesses) k ≡ sum_at l.initial.sums k +ℤ pos l.weight *ℤ amount_at l.excesses k;
  fits : (k : ℕ) → unsigned_abs (sum_at l.sums k) + l.weight * size_at (drop l.excess-index l.excesses) k ≤ limit;
  below : (count : ℕ) → All (λ e. e.action < count) l.excesses → AreBelow count l.initial.sums → AreBelow count l.sums;
}
