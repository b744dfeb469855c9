use Rattle.std.proofs.Common.{ap, ◌∙◌, map, take_all}
use Rattle.kf_ast.specs.Dists.{case_of}
use Rattle.kf_ast.specs.Views.{case_tree, expr_tree}
use Rattle.kf_ast.proofs.Copies.{copied_more}
use Rattle.kf_ast.proofs.dist.CaseList.copy.Goals as goal

pub loop-case-preserved : goal.loop-case-preserved
loop-case-preserved c =
    copied_more case_tree c.deref-case-items.result.now c.loop-case.items.items c.push.new.self.items c.loop-case.case-index c.case-item.result _
    c.loop-case-test.true c.case-item.is
    (ap (λ t. case_of t (expr_tree c.in_ok-copy-2.field-0)) c.in_ok-copy.ensures ∙ ap (case_of (expr_tree c.case-item.result.value))
    c.in_ok-copy-2.ensures)
    c.in_ok-push.ensures.items c.loop-case.invariant

pub returns : goal.returns
returns c =
    c.loop-case.invariant ∙ ap (map case_tree) (take_all c.loop-case.case-index c.deref-case-items.result.now c.loop-case-test.false
    ∙ c.deref-case-items.ensures.value)
