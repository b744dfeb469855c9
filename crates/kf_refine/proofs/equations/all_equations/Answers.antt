use Rattle.std.proofs.Common.{ℕ, ◌*◌, ◌<◌, pos, subst, length, arith}
use Rattle.kf_refine.specs.Refinements.{count}
use Rattle.kf_refine.specs.Built.{HasNumbers, sum_number, whole}
use Rattle.kf_refine.specs.Views.{hyper_tree}
use Rattle.kf_refine.proofs.Built.{built_next, of_sum_numbers}
use Rattle.kf_refine.proofs.Coefficients.{sum_numbers}
use Rattle.kf_refine.proofs.equations.all_equations.Goals as goal

pub loop-p-preserved : goal.loop-p-preserved
loop-p-preserved c =
    let m = count (hyper_tree c.args.a.now) in
    let n = count (hyper_tree c.args.b.now) in
    let kept = c.args.kept.now in
    let u = whole (hyper_tree c.args.a.now) c.args.scaling.now.a_divisor c.args.scaling.now.a_factor in
    let v = whole (hyper_tree c.args.b.now) c.args.scaling.now.b_divisor c.args.scaling.now.b_factor in
    let row = c.in_ok-row.row in
    let p = c.loop-p.p in
    let inside : p < m = omega (arith, c.loop-p-test.true, c.count-p-end.ensures) in
    built_next m n kept u v c.loop-p.rows.items c.push.new.self.items row (length kept * n) p c.in_ok-push.ensures.items
    (of_sum_numbers (m * n) n kept u v row p
    (subst (λ (k : ℕ). HasNumbers (m * k) (sum_number k p) (pos 1) row) c.count.ensures
    (sum_numbers m c.count.result p row inside c.in_ok-row.ensures.within c.in_ok-row.ensures.coefs c.in_ok-row.ensures.rhs)))
    c.loop-p.invariant
