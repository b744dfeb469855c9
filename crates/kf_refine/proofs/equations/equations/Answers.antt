use Rattle.std.proofs.Common.{◌*◌, refl}
use Rattle.kf_refine.specs.Refinements.{count}
use Rattle.kf_refine.specs.Built.{whole}
use Rattle.kf_refine.specs.Views.{hyper_tree}
use Rattle.kf_refine.proofs.Scaled.{count_some}
use Rattle.kf_refine.proofs.Built.{passed, rows_are, weight_is_wide}
use Rattle.kf_refine.proofs.equations.equations.Goals as goal

pub returns-in_default-clause-err : goal.returns-in_default-clause-err
returns-in_default-clause-err c =
    let found = c.in_default.ensures.none refl in
    let wide = weight_is_wide (hyper_tree c.args.a.now) (hyper_tree c.args.b.now) c.args.kept.now found.0 found.1 c.requires.kept found.2
    (count_some _ _ _ c.args.b.now.shape) (found.3, found.4, found.5) in
    λ other. (refl, wide.0, wide.1, wide.2, wide.3)

pub returns-in_err-rows-clause-err : goal.returns-in_err-rows-clause-err
returns-in_err-rows-clause-err c =
    let u = whole (hyper_tree c.args.a.now) c.in-Some.scaling.a_divisor c.in-Some.scaling.a_factor in
    let v = whole (hyper_tree c.args.b.now) c.in-Some.scaling.b_divisor c.in-Some.scaling.b_factor in
    rw (passed c.from_residual.result c.in_err-rows.field-0.0 c.from_residual.ensures.1)
    (λ other. let found = c.in_err-rows.ensures.err other in
    let wide = weight_is_wide (hyper_tree c.args.a.now) (hyper_tree c.args.b.now) c.args.kept.now u v c.requires.kept c.in-Some.ensures.some
    (count_some _ _ _ c.args.b.now.shape) found.1 in
    (found.0, wide.0, wide.1, wide.2, wide.3))

pub returns-clause-ok : goal.returns-clause-ok
returns-clause-ok c =
    let a = hyper_tree c.args.a.now in
    let b = hyper_tree c.args.b.now in
    let u = whole (hyper_tree c.args.a.now) c.in-Some.scaling.a_divisor c.in-Some.scaling.a_factor in
    let v = whole (hyper_tree c.args.b.now) c.in-Some.scaling.b_divisor c.in-Some.scaling.b_factor in
    rows_are a b c.args.kept.now u v c.in_ok-rows.rows.items (c.count.result * c.count-2.result) c.requires.kept c.in-Some.ensures.some
    (λ k. c.count.ensures k * c.count-2.ensures k) c.in_ok-rows.ensures.ok
