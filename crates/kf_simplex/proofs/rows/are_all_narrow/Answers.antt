use Rattle.kf_simplex.proofs.Reducing.{narrow_read, narrow_more, narrow_each, narrow_lost}
use Rattle.kf_simplex.specs.Flat.{cell}
use Rattle.kf_simplex.proofs.FlatTurns.{yes_of, not_of}
use Rattle.kf_simplex.proofs.rows.are_all_narrow.Goals as goal
use Rattle.std.proofs.Common.{refl}

pub returns-then-not-is_narrow : goal.returns-then-not-is_narrow
returns-then-not-is_narrow c =
    narrow_lost c.is_narrow.result (cell c.args.rows.now) c.loop-i.i (not_of c.is_narrow.result c.if-not-is_narrow.true)
    (narrow_read c.is_narrow.result c.args.rows.now c.loop-i.i c.index-rows-i.result c.loop-i-test.true c.index-rows-i.is c.is_narrow.ensures).1

pub loop-i-preserved : goal.loop-i-preserved
loop-i-preserved c =
    narrow_more (cell c.args.rows.now) c.loop-i.i
    ((narrow_read c.is_narrow.result c.args.rows.now c.loop-i.i c.index-rows-i.result c.loop-i-test.true c.index-rows-i.is c.is_narrow.ensures).0 (yes_of c.is_narrow.result c.if-not-is_narrow.false))
    c.loop-i.invariant

pub returns : goal.returns
returns c = ((λ t. narrow_each c.args.rows.now c.loop-i.i c.loop-i-test.false c.loop-i.invariant), (λ all. refl))
