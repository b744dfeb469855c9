use Rattle.std.proofs.Common.{◌^◌, arith}
use Rattle.kf_column.specs.declared.entry.Entry.{Entry}
use Rattle.kf_refine.proofs.Pushing.{share_fits, shares_step}
use Rattle.kf_refine.proofs.kept.push_shares.Goals as goal

abbrev none : Entry
none = record { value = 0; weight = 0 }

pub overflow_mul-weight : goal.overflow_mul-weight
overflow_mul-weight c = omega (
  arith,
  share_fits c.args.number c.args.times c.args.entries.now c.loop-entry.entry-index none c.loop-entry-test.true
      (2 ^ 128) c.requires.fits,
)

pub loop-entry-preserved : goal.loop-entry-preserved
loop-entry-preserved c =
    shares_step c.args.number c.args.times c.args.entries.now c.loop-entry.entry-index none c.loop-entry-test.true c.args.rows.now.entries
    c.loop-entry.rows.entries c.push.new.rows.entries
    c.loop-entry.invariant c.in_ok-push.ensures.rows c.in_ok-push.ensures.filled
