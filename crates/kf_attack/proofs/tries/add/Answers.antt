use Rattle.std.proofs.Common.{arith}
use Rattle.kf_attack.proofs.Positions.{adds_nothing_yet, adds_next}
use Rattle.kf_attack.proofs.tries.add.Goals as goal

pub add_at-requires-clause-fits : goal.add_at-requires-clause-fits
add_at-requires-clause-fits c =
    omega (
      arith,
      adds_nothing_yet c.args.multiple c.loop-position.position c.args.entries.now c.args.gains.now.items c.loop-position.gains.items c.loop-position.invariant,
      c.requires.fits c.loop-position.position,
    )

pub loop-position-preserved : goal.loop-position-preserved
loop-position-preserved c =
    adds_next c.args.multiple c.loop-position.position c.args.entries.now c.args.gains.now.items c.loop-position.gains.items c.add_at.new.gains.items c.loop-position-test.true c.loop-position.invariant
    c.in_ok-add_at.ensures.within c.in_ok-add_at.ensures.added
