use Rattle.std.proofs.Common.{Ok, ◌+◌, ◌∙◌, map, drop, ap, arith}
use Rattle.std.proofs.lemmas.List.{length-map, nil_from_length}
use Rattle.std.proofs.lemmas.Result.{err_from_is_err_and}
use Rattle.kf_value.proofs.ListLemmas.{left_step, left_end}
use Rattle.kf_value.specs.Shapes.{shape_types}
use Rattle.kf_core.specs.Runs.{store_at}
use Rattle.kf_core.specs.Views.{dx_case_tree, ex_tree}
use Rattle.kf_eval.specs.Choices.{weighted_tree}
use Rattle.kf_eval.specs.Gathering.{at_most_one}
use Rattle.kf_eval.specs.Kinds.{shape_kinds}
use Rattle.kf_eval.proofs.Placing.{trees}
use Rattle.kf_eval.proofs.Weighing.{case_parts, cases_start, cases_pass, cases_add, cases_fault, cases_none, cases_weights, some_counted, none_counted}
use Rattle.kf_eval.proofs.weights.choose.Goals as goal
use Rattle.kf_eval.proofs.weights.choose.Goals.{in-Some+in_ok-add, in_default}

pub loop-case-init : goal.loop-case-init
loop-case-init c =
    cases_start (shape_kinds c.args.shape.now) (store_at (shape_types c.args.shape.now) c.args.store) (map dx_case_tree c.args.cases.now) c.in_ok-items.items.items c.in_ok-items.ensures.items
    c.requires.kinded

pub weighed-requires-clause-value : goal.weighed-requires-clause-value
weighed-requires-clause-value c =
    let here = left_step dx_case_tree c.args.cases.now c.loop-case.case-index c.case-item.result (omega arith) c.case-item.is in
    let so_far = rw here at c.loop-case.invariant in
    (so_far.kind, (case_parts so_far.kinded).0)

pub weighed-requires-clause-weight : goal.weighed-requires-clause-weight
weighed-requires-clause-weight c =
    let here = left_step dx_case_tree c.args.cases.now c.loop-case.case-index c.case-item.result (omega arith) c.case-item.is in
    let so_far = rw here at c.loop-case.invariant in
    (case_parts so_far.kinded).1

pub weighed-requires-clause-store : goal.weighed-requires-clause-store
weighed-requires-clause-store c = c.requires.store

pub returns-in_err-item : goal.returns-in_err-item
returns-in_err-item c =
    let here = left_step dx_case_tree c.args.cases.now c.loop-case.case-index c.case-item.result (omega arith) c.case-item.is in
    let so_far = rw here at c.loop-case.invariant in
    let p = err_from_is_err_and c.from_residual-in_err-item.result c.from_residual-in_err-item.ensures.1 in
    rw (p.1, p.2)
    (cases_fault (shape_kinds c.args.shape.now) (store_at (shape_types c.args.shape.now) c.args.store) (map dx_case_tree c.args.cases.now)
    (map dx_case_tree (drop (c.loop-case.case-index + 1) c.args.cases.now)) (ex_tree c.case-item.result.value) (ex_tree c.case-item.result.weight) (trees c.loop-case.items.items)
    c.loop-case.case-index so_far c.in_err-item.field-0.0 c.in_err-item.ensures.listed)

pub loop-case-preserved : goal.loop-case-preserved
loop-case-preserved c =
    let ks = shape_kinds c.args.shape.now in
    let s = store_at (shape_types c.args.shape.now) c.args.store in
    let all = map dx_case_tree c.args.cases.now in
    let left = map dx_case_tree (drop (c.loop-case.case-index + 1) c.args.cases.now) in
    let x = ex_tree c.case-item.result.value in
    let y = ex_tree c.case-item.result.weight in
    let here = left_step dx_case_tree c.args.cases.now c.loop-case.case-index c.case-item.result (omega arith) c.case-item.is in
    let so_far = rw here at c.loop-case.invariant in
    elim c.match-branch-3.branch [
      | in-Some+in_ok-add w ↦
          let known = c.in_ok-item.ensures.listed ∙ ap (λ o. Ok (at_most_one o)) w.in-Some.is in
          let within = rw (w.in-Some.is) at c.in_ok-item.ensures.within in
          let grown = ap (λ v. trees v.items) w.items-is ∙ w.in_ok-add.ensures in
          cases_add ks s all left x y (trees c.loop-case.items.items) c.loop-case.case-index so_far (weighted_tree w.in-Some.item) (trees c.match-branch-3.items.items) known within.0 within.1 grown
      | in_default w ↦
          let known = c.in_ok-item.ensures.listed ∙ ap (λ o. Ok (at_most_one o)) w.in_default.is in
          let kept = ap (λ v. trees v.items) w.items-is in
          rw kept (cases_pass ks s all left x y (trees c.loop-case.items.items) c.loop-case.case-index so_far known)
    ]

pub returns-then-is_empty : goal.returns-then-is_empty
returns-then-is_empty c =
    let used = left_end dx_case_tree c.args.cases.now c.loop-case.case-index (omega arith) in
    let at_end = rw used at c.loop-case.invariant in
    cases_none (shape_kinds c.args.shape.now) (store_at (shape_types c.args.shape.now) c.args.store) (map dx_case_tree c.args.cases.now) (trees c.loop-case.items.items) c.loop-case.case-index at_end
    (nil_from_length (trees c.loop-case.items.items) (omega (
      arith,
      length-map c.loop-case.items.items weighted_tree,
      c.loop-case.items.ok.0,
      none_counted c.loop-case.items.len c.is_empty.result c.is_empty.ensures c.if-is_empty.true,
    )))

pub returns-else-is_empty : goal.returns-else-is_empty
returns-else-is_empty c =
    let used = left_end dx_case_tree c.args.cases.now c.loop-case.case-index (omega arith) in
    let at_end = rw used at c.loop-case.invariant in
    let long = length-map c.loop-case.items.items weighted_tree in
    cases_weights (shape_kinds c.args.shape.now) (store_at (shape_types c.args.shape.now) c.args.store) (map dx_case_tree c.args.cases.now) (trees c.loop-case.items.items) c.loop-case.case-index at_end
    c.in_lowest_terms.result.items
    (omega (arith, long, c.loop-case.items.ok.0, some_counted c.loop-case.items.len c.is_empty.result c.is_empty.ensures c.if-is_empty.false)) (omega arith) c.in_lowest_terms.ensures
