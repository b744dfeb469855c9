use Rattle.std.proofs.Common.{rules, ◌≡◌, ℕ, ◌*◌, ◌≤◌, ◌+◌, pos, map, max, to_z, of_z, arith, ap, ◌∙◌, drop, slice_index_or}
use Rattle.std.specs.Prelude.{ℤ, ◌+ℤ◌, ◌*ℤ◌, unsigned_abs, FitsSigned}
use Rattle.std.specs.Int.{w128}
use Rattle.std.proofs.lemmas.Int.{to_z-of_z, fits_signed_from_abs}
use Rattle.kf_frac.specs.Fractions.{limit}
use Rattle.kf_column.specs.declared.entry.Entry.{Entry}
use Rattle.kf_column.specs.Columns.{total}
use Rattle.kf_gain.specs.declared.table.GainEntry.{GainEntry}
use Rattle.kf_gain.specs.Gains.{gain_at}
use Rattle.kf_gain.specs.Worth.{gained}
use Rattle.kf_gain.specs.Vulnerabilities.{greatest}
use Rattle.kf_gain.proofs.Acting.{weight_fits, product_fits, next_within, next_fits, next_gained}
use Rattle.kf_gain.proofs.actions.gained.Goals.{After-gain_at, After-times-sum}
use Rattle.kf_gain.proofs.actions.gained.Goals as goal

abbrev none : Entry
none = record { value = 0; weight = 0 }

-- an entry's gain is known
module _ (c : After-gain_at) where
  abbrev rest : ℤ
  rest = to_z w128 (of_z w128 c.args.rest)

  abbrev m : ℕ
  m = max (unsigned_abs rest) (greatest (map (λ (e : GainEntry). e.gain) c.args.gains.now))

  abbrev entry : Entry
  entry = slice_index_or c.args.entries.now c.loop-entry.entry-index none

  room : total c.args.entries.now * m ≤ limit
  room = let same : rest ≡ c.args.rest = to_z-of_z w128 c.args.rest c.ranges.rest in rw same c.requires.fits

  gain : to_z w128 (of_z w128 c.gain_at.result) ≡ gain_at rest c.args.gains.now entry.value
  gain = let ranged : FitsSigned w128 c.gain_at.result = search rules in to_z-of_z w128 c.gain_at.result ranged ∙ c.gain_at.ensures

pub times-sum-requires-clause-narrow : goal.times-sum-requires-clause-narrow
times-sum-requires-clause-narrow c =
    weight_fits (rest c) c.args.gains.now c.args.entries.now c.loop-entry.entry-index (m c) (pos 0) none c.loop-entry-test.true (omega arith)
    (omega arith) limit
    c.requires.narrow

pub times-sum-requires-clause-fits : goal.times-sum-requires-clause-fits
times-sum-requires-clause-fits c =
    rw (gain c)
    (product_fits (rest c) c.args.gains.now c.args.entries.now c.loop-entry.entry-index (m c) (pos 0) none c.loop-entry-test.true (omega arith)
    (omega arith) limit
    (room c))

-- its product is worked out
module _ (c : After-times-sum) where
  abbrev before : After-gain_at
  before = (goal.at.overflow_add-sum c).After-gain_at

  abbrev sum : ℤ
  sum = to_z w128 c.loop-entry.sum-bits

  abbrev z : ℤ
  z = to_z w128 (of_z w128 c.times-sum.result)

  is : z ≡ pos (entry before).weight *ℤ gain_at (rest before) c.args.gains.now (entry before).value
  is =
      let fit : FitsSigned w128 c.times-sum.result = search rules in
      to_z-of_z w128 c.times-sum.result fit ∙ c.times-sum.ensures ∙ ap (λ (g : ℤ). pos (entry before).weight *ℤ g) (gain before)

  fits : FitsSigned w128 (sum +ℤ z)
  fits =
      let bound =
      next_fits (rest before) c.args.gains.now c.args.entries.now c.loop-entry.entry-index (m before) sum none c.loop-entry-test.true (omega arith)
      (omega arith)
      c.loop-entry.invariant.within z is limit (room before) in
      fits_signed_from_abs w128 (sum +ℤ z) (omega (arith, bound))

pub overflow_add-sum : goal.overflow_add-sum
overflow_add-sum c = fits c

pub loop-entry-preserved : goal.loop-entry-preserved
loop-entry-preserved c =
    let kept : to_z w128 (of_z w128 (sum c +ℤ z c)) ≡ sum c +ℤ z c = to_z-of_z w128 (sum c +ℤ z c) (fits c) in
    let left = drop (c.loop-entry.entry-index + 1) c.args.entries.now in
    record {
      sum = ap (λ (s : ℤ). s +ℤ gained (rest (before c)) c.args.gains.now left) kept
          ∙ next_gained (rest (before c)) c.args.gains.now c.args.entries.now c.loop-entry.entry-index (m (before c))
          (sum c) none c.loop-entry-test.true
          (omega arith) (omega arith) c.loop-entry.invariant.within (z c) (is c) c.loop-entry.invariant.sum;
      within = rw kept
          (next_within (rest (before c)) c.args.gains.now c.args.entries.now c.loop-entry.entry-index (m (before c))
          (sum c) none c.loop-entry-test.true
          (omega arith) (omega arith) c.loop-entry.invariant.within (z c) (is c));
    }
