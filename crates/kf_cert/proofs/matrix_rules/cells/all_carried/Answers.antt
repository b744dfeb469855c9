use Rattle.std.proofs.Common.{◌≡◌, ◌<◌, ◌≤◌, arith, subst, ⊎_elim}
use Rattle.std.proofs.lemmas.Bool.{cases_lt}
use Rattle.kf_refine.specs.Views.{hyper_tree}
use Rattle.kf_cert.specs.Cells.{IsCarried}
use Rattle.kf_cert.proofs.matrix_rules.cells.all_carried.Goals as goal

pub loop-j-preserved : goal.loop-j-preserved
loop-j-preserved c = λ k within.
    ⊎_elim
    (λ (before : k < c.loop-j.j). c.loop-j.invariant k before)
    (λ (past : c.loop-j.j ≤ k).
    let same : c.loop-j.j ≡ k = omega (arith, within, past) in
    subst (λ n. IsCarried (hyper_tree c.args.a.now) (hyper_tree c.args.b.now) c.args.over c.args.shares.now n) same (c.in_ok-is_carried.ensures.0 c.if-not-branch.false))
    (cases_lt k c.loop-j.j)
