use Rattle.std.proofs.Common.{ℕ, ◌+◌, ◌*◌, ◌<◌, arith, inr, get_or}
use Rattle.std.proofs.lemmas.List.{get_or_default}
use Rattle.kf_refine.specs.Refinements.{count}
use Rattle.kf_refine.specs.Built.{whole}
use Rattle.kf_refine.specs.Views.{hyper_tree}
use Rattle.kf_refine.proofs.Built.{built_next, of_value_numbers, passed}
use Rattle.kf_refine.proofs.Coefficients.{spread_numbers}
use Rattle.kf_refine.proofs.equations.push_equations.Goals as goal

pub returns-in_err-row-clause-err : goal.returns-in_err-row-clause-err
returns-in_err-row-clause-err c =
    let kept = c.args.kept.now in
    let x : ℕ = get_or kept c.args.q 0 in
    let low : c.loop-j.j < count (hyper_tree c.args.b.now) = omega (arith, c.loop-j-test.true, c.count-j-end.ensures) in
    rw (passed c.from_residual-in_err-row.result c.in_err-row.field-0.0 c.from_residual-in_err-row.ensures.1)
    (λ other. let found = c.in_err-row.ensures.err other in
    (found.0, (x, (c.args.q, c.requires.value, get_or_default kept c.args.q x 0 c.requires.value), inr (c.loop-j.j, low, found.1))))

pub loop-j-preserved : goal.loop-j-preserved
loop-j-preserved c =
    let m = count (hyper_tree c.args.a.now) in
    let n = count (hyper_tree c.args.b.now) in
    let kept = c.args.kept.now in
    let x : ℕ = get_or kept c.args.q 0 in
    let u = whole (hyper_tree c.args.a.now) c.args.scaling.now.a_divisor c.args.scaling.now.a_factor in
    let v = whole (hyper_tree c.args.b.now) c.args.scaling.now.b_divisor c.args.scaling.now.b_factor in
    let row = c.in_ok-row.row in
    let low : c.loop-j.j < n = omega (arith, c.loop-j-test.true, c.count-j-end.ensures) in
    built_next m n kept u v c.loop-j.rows.items c.push.new.self.items row (c.args.q * n) c.loop-j.j c.in_ok-push.ensures.items
    (of_value_numbers (m * n) n kept u v row c.args.q c.loop-j.j c.requires.value low
    (spread_numbers n c.loop-j.j low m (u x) c.in_ok-weights.weights.entries.items _ row c.in_ok-weights.ensures.ok c.in_ok-row.ensures.coefs c.in_ok-row.ensures.rhs))
    c.loop-j.invariant
