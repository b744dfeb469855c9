use Rattle.std.proofs.Common.{◌≡◌, ◌<◌, arith, length}
use Rattle.kf_traces.proofs.Neighbours.{added_up, pair_fits}
use Rattle.kf_traces.proofs.weights.add_up.Goals as goal

pub overflow_add-index_mut : goal.overflow_add-index_mut
overflow_add-index_mut c =
    let long : c.len-i-end.result ≡ length c.args.ways.now.items = omega (arith, c.len-i-end.ensures) in
    let within : c.loop-i.i < length c.loop-i.ways.items = omega (arith, long, c.loop-i.invariant.as_long, c.loop-i-test.true) in
    let some : 0 < length c.args.ways.now.items = omega (arith, within, c.loop-i.invariant.as_long) in
    let fits =
    pair_fits c.args.ways.now.items c.loop-i.ways.items c.loop-i.last c.loop-i.i some c.loop-i.invariant.joined
    c.index_mut.result.now c.index-way.result.now c.index_mut.ensures.value c.index-way.ensures c.loop-i.invariant.before within in
    omega (arith, fits, c.requires.fits)

pub overflow_add-last-2 : goal.overflow_add-last-2
overflow_add-last-2 c = omega (arith, c.loop-i.invariant.near, c.len-i-end.ensures, c.len-i-end.type_inv)

pub returns : goal.returns
returns c =
    let long : c.len-i-end.result ≡ length c.args.ways.now.items = omega (arith, c.len-i-end.ensures) in
    rw c.truncate.ensures.items
    (added_up c.args.ways.now.items c.loop-i.ways.items c.loop-i.last c.loop-i.i c.loop-i.invariant.as_long
    (λ some. let end = c.loop-i.auto.i-end (omega (arith, long, some)) in omega (arith, end, long, c.loop-i.invariant.before, c.loop-i.invariant.as_long))
    (omega (arith, long, c.loop-i.invariant.as_long, c.loop-i-test.false)) c.loop-i.invariant.joined c.requires.order)
