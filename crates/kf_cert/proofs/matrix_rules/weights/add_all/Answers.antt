use Rattle.std.proofs.Common.{◌^◌}
use Rattle.kf_hyper.specs.Sums.{summed}
use Rattle.kf_hyper.proofs.Summing.{gains_start, gains_more, gains_all, next_fits, next_some}
use Rattle.kf_cert.proofs.matrix_rules.weights.add_all.Goals as goal

pub loop-entry-init : goal.loop-entry-init
loop-entry-init c = record { gains = gains_start c.args.entries.now c.args.times (summed c.args.sums.now.entries); positive = λ h. h }

pub add-requires : goal.add-requires
add-requires c = record {
  some = next_some c.args.entries.now c.args.times c.loop-entry.entry-index (record { value = 0; weight = 0 }) c.loop-entry-test.true c.requires.some c.requires.positive;
  fits = next_fits c.args.entries.now c.args.times c.loop-entry.entry-index (2 ^ 128) (record { value = 0; weight = 0 }) (summed c.args.sums.now.entries) (summed c.loop-entry.sums.entries) c.loop-entry-test.true c.loop-entry.invariant.gains c.requires.fits;
}

pub loop-entry-preserved : goal.loop-entry-preserved
loop-entry-preserved c = record {
  gains = gains_more c.args.entries.now c.args.times c.loop-entry.entry-index (record { value = 0; weight = 0 }) (summed c.args.sums.now.entries) (summed c.loop-entry.sums.entries) (summed c.add.new.sums.entries)
      c.loop-entry-test.true c.loop-entry.invariant.gains c.in_ok-add.ensures.gains;
  positive = λ h. c.in_ok-add.ensures.positive (c.loop-entry.invariant.positive h);
}

pub returns-clause-gains : goal.returns-clause-gains
returns-clause-gains c = gains_all c.args.entries.now c.args.times c.loop-entry.entry-index (summed c.args.sums.now.entries) (summed c.loop-entry.sums.entries) c.loop-entry-test.false c.loop-entry.invariant.gains
