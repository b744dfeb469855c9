use Rattle.std.proofs.Common.{Ok, map, get_or, ap, ◌∙◌, refl, subst, arith}
use Rattle.kf_value.specs.declared.kind.Kind.{Kind}
use Rattle.kf_value.specs.Views.{kind_tree}
use Rattle.kf_ast.specs.Views.{expr_tree, case_tree}
use Rattle.kf_ast.specs.Dists.{dist_at, Choose}
use Rattle.kf_core.specs.Dxs.{dx_at}
use Rattle.kf_core.specs.Views.{dx_tree, dx_case_tree}
use Rattle.kf_core.specs.Dxs as dx
use Rattle.kf_check.specs.Kinds.{Judges}
use Rattle.kf_check.specs.Views.{known_in}
use Rattle.kf_check.proofs.Each.{each_start, each_turn, each_end}
use Rattle.kf_check.proofs.DistRules.{fails_dist, IsCase, cases_judged, cases_become, cases_broken, choose_judged, choose_broken, case_built, made}
use Rattle.kf_check.proofs.dists.choose.Goals as goal

pub returns-in_err-kind : goal.returns-in_err-kind
returns-in_err-kind c =
    fails_dist (known_in c.args.known.now) (dist_at c.args.at (Choose (map case_tree c.args.cases.now))) c.from_residual.result c.in_err-kind.field-0.0 c.from_residual.ensures.1
    (λ told. choose_broken (known_in c.args.known.now) c.args.at c.args.cases.now c.index-cases-0.result _ c.requires.some (c.in_err-kind.ensures told))

pub loop-case-init : goal.loop-case-init
loop-case-init c =
    let no_cases = c.new-typed.ensures.items in
    record { same = refl; judged = rw no_cases (each_start (IsCase (known_in c.args.known.now) (kind_tree c.in_ok-kind.field-0.kind)) c.args.cases.now) }

pub choice-requires-clause-value : goal.choice-requires-clause-value
choice-requires-clause-value c = (case_built c.args.cases.now c.loop-case.case-index c.case-item.result c.loop-case-test.true c.case-item.is c.requires.built).0

pub choice-requires-clause-weight : goal.choice-requires-clause-weight
choice-requires-clause-weight c = (case_built c.args.cases.now c.loop-case.case-index c.case-item.result c.loop-case-test.true c.case-item.is c.requires.built).1

pub returns-in_err-choice : goal.returns-in_err-choice
returns-in_err-choice c =
    let P : Kind → Type 0 = λ k. Judges (known_in c.args.known.now) (expr_tree (get_or c.args.cases.now 0 c.index-cases-0.result).value) (Ok (kind_tree k)) in
    fails_dist (known_in c.args.known.now) (dist_at c.args.at (Choose (map case_tree c.args.cases.now))) c.from_residual-in_err-choice.result c.in_err-choice.field-0.0 c.from_residual-in_err-choice.ensures.1
    (λ told.
    choose_judged (known_in c.args.known.now) c.args.at c.args.cases.now c.index-cases-0.result _ _ c.requires.some (subst P c.loop-case.invariant.same c.in_ok-kind.ensures.0)
    (cases_broken (known_in c.args.known.now) _ c.args.cases.now c.loop-case.typed.items c.loop-case.case-index c.case-item.result _ c.loop-case-test.true c.case-item.is c.loop-case.invariant.judged (c.in_err-choice.ensures told)))

pub loop-case-preserved : goal.loop-case-preserved
loop-case-preserved c =
    let longer = c.in_ok-push.ensures.items in
    record {
      same = c.loop-case.invariant.same;
      judged = rw longer (each_turn (IsCase (known_in c.args.known.now) _) c.args.cases.now c.loop-case.typed.items c.loop-case.case-index c.case-item.result c.in_ok-choice.field-0 c.loop-case-test.true c.case-item.is
          c.loop-case.invariant.judged c.in_ok-choice.ensures);
    }

pub returns : goal.returns
returns c =
    let P : Kind → Type 0 = λ k. Judges (known_in c.args.known.now) (expr_tree (get_or c.args.cases.now 0 c.index-cases-0.result).value) (Ok (kind_tree k)) in
    let all = each_end (IsCase (known_in c.args.known.now) _) c.args.cases.now c.loop-case.typed.items c.loop-case.case-index (omega arith) c.loop-case.invariant.judged in
    made (known_in c.args.known.now) (dist_at c.args.at (Choose (map case_tree c.args.cases.now))) c.new-2.result _ (dx_at c.args.at (dx.Choose (map dx_case_tree c.loop-case.typed.items)))
    (ap kind_tree c.new-2.ensures.kind) (ap dx_tree c.new-2.ensures.dx ∙ ap (λ ts. dx_at c.args.at (dx.Choose (map dx_case_tree ts))) c.new.ensures)
    (choose_judged (known_in c.args.known.now) c.args.at c.args.cases.now c.index-cases-0.result _ _ c.requires.some (subst P c.loop-case.invariant.same c.in_ok-kind.ensures.0)
    (cases_judged (known_in c.args.known.now) _ all))
    (ap (λ ds. dx_at c.args.at (dx.Choose ds)) (cases_become (known_in c.args.known.now) _ all))
