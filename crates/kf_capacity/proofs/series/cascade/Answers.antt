use Rattle.std.proofs.Common.{◌≡◌, ◌<◌, ap, Err, length}
use Rattle.std.proofs.lemmas.Result.{err_from_is_err_and}
use Rattle.kf_capacity.specs.Grids.{denominator}
use Rattle.kf_capacity.specs.Views.{channel_tree}
use Rattle.kf_capacity.proofs.Named.{places_within}
use Rattle.kf_capacity.proofs.Channels.{some_denominator}
use Rattle.kf_capacity.proofs.Widths.{cascade_first}
use Rattle.kf_capacity.proofs.series.cascade.Goals as goal

pub returns-in_err-g-clause-err : goal.returns-in_err-g-clause-err
returns-in_err-g-clause-err c =
    let first = channel_tree c.args.c.now in
    let second = channel_tree c.args.d.now in
    let found = rw c.in-Some.is at c.in_ok-places.ensures in
    let some : 0 < denominator second = some_denominator c.args.d.now in
    let p = err_from_is_err_and c.from_residual-in_err-g.result c.from_residual-in_err-g.ensures.1 in
    rw (p.1) (cascade_first first second c.in_err-g.field-0.0 p.0 p.2 found.0 (λ is. c.in_err-g.ensures.wide.0 (ap (λ fault. Err fault) is)) some)

pub one_behind-requires-clause-within : goal.one_behind-requires-clause-within
one_behind-requires-clause-within c =
    let first = channel_tree c.args.c.now in
    let second = channel_tree c.args.d.now in
    let found = rw c.in-Some.is at c.in_ok-places.ensures in
    let rows : c.in_ok-h.h.rows ≡ length second.secrets = ap (λ h. h.rows) c.in_ok-h.ensures.is.1 in
    rw (c.as_slice.ensures.value, found.1, rows) (places_within first second found.0)
