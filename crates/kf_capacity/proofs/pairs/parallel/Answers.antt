use Rattle.std.proofs.Common.{◌≡◌, ◌<◌, ◌≤◌, length, rules, ap, ◌∙◌, arith, Err}
use Rattle.std.proofs.lemmas.List.{length-map}
use Rattle.std.proofs.lemmas.Result.{err_from_is_err_and}
use Rattle.kf_capacity.specs.Compositions.{cells_of}
use Rattle.kf_capacity.specs.Cases.{HaveSameRows}
use Rattle.kf_capacity.specs.Grids.{denominator, column_in}
use Rattle.kf_capacity.specs.Views.{channel_tree}
use Rattle.kf_capacity.proofs.Channels.{some_denominator}
use Rattle.kf_capacity.proofs.Widths.{some_values, pairs_few, parallel_first}
use Rattle.kf_capacity.proofs.pairs.parallel.Goals as goal

pub both_seen-requires-clause-few : goal.both_seen-requires-clause-few
both_seen-requires-clause-few c =
    let t = channel_tree c.args.c.now in
    let u = channel_tree c.args.d.now in
    let some : 0 < length t.secrets = some_values c.args.c.now.secrets c.args.c.now.channel.column.some in
    let few : cells_of t u ≤ 4000000 = search rules in
    let first : length c.in_ok-g.g.columns ≡ length t.rows = ap (λ g. length g.columns) c.in_ok-g.ensures.is.1 ∙ length-map t.rows (column_in (denominator t) t) in
    let second : length c.in_ok-h.h.columns ≡ length u.rows = ap (λ g. length g.columns) c.in_ok-h.ensures.is.1 ∙ length-map u.rows (column_in (denominator u) u) in
    let pairs = pairs_few (length t.secrets) (length t.rows) (length u.rows) some few in
    rw (first, second) (omega (arith, pairs))

pub returns-in_err-g-clause-err : goal.returns-in_err-g-clause-err
returns-in_err-g-clause-err c =
    let some : 0 < denominator (channel_tree c.args.d.now) = some_denominator c.args.d.now in
    let p = err_from_is_err_and c.from_residual.result c.from_residual.ensures.1 in
    let same : HaveSameRows (channel_tree c.args.c.now) (channel_tree c.args.d.now) = search rules in
    let few : cells_of (channel_tree c.args.c.now) (channel_tree c.args.d.now) ≤ 4000000 = search rules in
    rw (p.1) (parallel_first (channel_tree c.args.c.now) (channel_tree c.args.d.now) c.in_err-g.field-0.0 p.0 p.2 same few
    (λ is. c.in_err-g.ensures.wide.0 (ap (λ found. Err found) is)) some)
