use Rattle.std.proofs.Common.{◌≡◌, ◌<◌, ◌≤◌, arith, length}
use Rattle.kf_hyper.proofs.Neighbours.{some_entry, added_gathers, added_column, pair_fits}
use Rattle.kf_hyper.proofs.unsorted.added.Goals as goal

pub overflow_add-index_mut : goal.overflow_add-index_mut
overflow_add-index_mut c =
    let long : c.len-i-end.result ≡ length c.args.entries.items = omega (arith, c.len-i-end.ensures) in
    let within : c.loop-i.i < length c.loop-i.entries.items = omega (arith, long, c.loop-i.invariant.as_long, c.loop-i-test.true) in
    let fits =
    pair_fits c.args.entries.items c.loop-i.entries.items c.loop-i.last c.loop-i.i c.requires.some c.loop-i.invariant.joined
    c.index_mut.result.now c.index-entry.result.now c.index_mut.ensures.value c.index-entry.ensures c.loop-i.invariant.before within in
    omega (arith, fits, c.requires.fits)

pub returns-clause-column : goal.returns-clause-column
returns-clause-column c =
    let long : c.len-i-end.result ≡ length c.args.entries.items = omega (arith, c.len-i-end.ensures) in
    let some = some_entry c.args.entries.items c.requires.some in
    let end : c.loop-i.i ≤ length c.args.entries.items = omega (arith, c.loop-i.auto.i-end (omega (arith, long, some)), long) in
    rw c.truncate.ensures.items
    (added_column c.args.entries.items c.loop-i.entries.items c.loop-i.last c.loop-i.i c.requires.some c.loop-i.invariant.joined
    (omega (arith, end, c.loop-i.invariant.before, c.loop-i.invariant.as_long)) (omega (arith, long, c.loop-i.invariant.as_long, c.loop-i-test.false)) c.requires.ascending c.requires.positive)

pub returns-clause-gathers : goal.returns-clause-gathers
returns-clause-gathers c =
    let long : c.len-i-end.result ≡ length c.args.entries.items = omega (arith, c.len-i-end.ensures) in
    let some = some_entry c.args.entries.items c.requires.some in
    let end : c.loop-i.i ≤ length c.args.entries.items = omega (arith, c.loop-i.auto.i-end (omega (arith, long, some)), long) in
    rw c.truncate.ensures.items
    (added_gathers c.args.entries.items c.loop-i.entries.items c.loop-i.last c.loop-i.i c.requires.some c.loop-i.invariant.joined
    (omega (arith, end, c.loop-i.invariant.before, c.loop-i.invariant.as_long)) (omega (arith, long, c.loop-i.invariant.as_long, c.loop-i-test.false)))
