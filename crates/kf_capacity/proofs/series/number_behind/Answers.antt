use Rattle.std.proofs.Common.{arith}
use Rattle.std.proofs.lemmas.Slice.Zip.{zip_end}
use Rattle.kf_capacity.proofs.Fitting.{through_done}
use Rattle.kf_capacity.proofs.series.number_behind.Goals as goal

pub returns : goal.returns
returns c =
    let all = zip_end c.args.columns.now c.args.places.now c.loop-first.yielded
    c.into_iter-first-iterator.result c.loop-first.first-iterator c.next.new.self c.next.result
    (cc) (cc) c.loop-first.yielded_by c.in-None.is c.next.ensures.steps in
    let done = through_done _ c.args.columns.now c.args.places.now c.args.column.now c.args.i all in
    omega (arith, done, c.loop-first.invariant)
