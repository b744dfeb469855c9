use Rattle.std.proofs.Common.{sym, arith}
use Rattle.std.proofs.lemmas.List.FromFn.{map-range_with_len_more}
use Rattle.kf_capacity.specs.Compositions.{through}
use Rattle.kf_capacity.proofs.series.column_behind.Goals as goal

pub loop-i-preserved : goal.loop-i-preserved
loop-i-preserved c =
    let f = through c.args.columns.now c.args.places.now c.args.column.now in
    rw (c.in_ok-push.ensures.items, c.loop-i.invariant, c.number_behind.ensures) (sym (map-range_with_len_more f 0 c.loop-i.i c.loop-i.i (omega arith)))
