use Rattle.std.proofs.Common.{◌<◌, arith, rules, ap, Err, inl, inr}
use Rattle.std.proofs.lemmas.Result.{err_from_is_err_and}
use Rattle.kf_capacity.specs.Cases.{HaveSameRows}
use Rattle.kf_capacity.specs.Grids.{denominator}
use Rattle.kf_capacity.specs.Views.{channel_tree}
use Rattle.kf_capacity.proofs.Channels.{some_denominator}
use Rattle.kf_capacity.proofs.Widths.{choice_fails}
use Rattle.kf_capacity.proofs.visible_choice.choice.Goals as goal

pub returns-in_err-g-clause-err : goal.returns-in_err-g-clause-err
returns-in_err-g-clause-err c =
    let first : 0 < denominator (channel_tree c.args.c.now) = some_denominator c.args.c.now in
    let second : 0 < denominator (channel_tree c.args.d.now) = some_denominator c.args.d.now in
    let p = err_from_is_err_and c.from_residual.result c.from_residual.ensures.1 in
    let same : HaveSameRows (channel_tree c.args.c.now) (channel_tree c.args.d.now) = search rules in
    rw (p.1) (choice_fails c.args.num c.args.den (channel_tree c.args.c.now) (channel_tree c.args.d.now) c.in_err-g.field-0.0 p.0 p.2 same (omega arith)
    first second (λ is. inl (c.in_err-g.ensures.wide.0 (ap (λ found. Err found) is))))

pub returns-in_err-h-clause-err : goal.returns-in_err-h-clause-err
returns-in_err-h-clause-err c =
    let first : 0 < denominator (channel_tree c.args.c.now) = some_denominator c.args.c.now in
    let second : 0 < denominator (channel_tree c.args.d.now) = some_denominator c.args.d.now in
    let p = err_from_is_err_and c.from_residual-in_err-h.result c.from_residual-in_err-h.ensures.1 in
    let same : HaveSameRows (channel_tree c.args.c.now) (channel_tree c.args.d.now) = search rules in
    rw (p.1) (choice_fails c.args.num c.args.den (channel_tree c.args.c.now) (channel_tree c.args.d.now) c.in_err-h.field-0.0 p.0 p.2 same (omega arith)
    first second (λ is. inr (c.in_err-h.ensures.wide.0 (ap (λ found. Err found) is))))
