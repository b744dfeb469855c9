use Rattle.std.proofs.Common.{◌≡◌, ◌≤◌, ◌∙◌, List, ℕ, length, sym, subst, arith}
use Rattle.std.proofs.lemmas.Result.{err_from_is_err_and}
use Rattle.kf_hyper.specs.Views.{target_of}
use Rattle.kf_refine.specs.Equations.{AreKept, cells_of}
use Rattle.kf_refine.specs.Refinements.{count}
use Rattle.kf_refine.specs.Views.{hyper_tree}
use Rattle.kf_refine.proofs.VerdictParts.{few_cells, run_of}
use Rattle.kf_refine.proofs.decision.decide.Goals.{Else-count-gt-MOST_CELLS}
use Rattle.kf_refine.proofs.decision.decide.Goals as goal

few : (c : Else-count-gt-MOST_CELLS)
    → cells_of (length c.in_ok-kept.kept.items) (count (hyper_tree c.args.a.now)) (count (hyper_tree c.args.b.now)) ≤ 4000000
few c =
    few_cells (hyper_tree c.args.a.now) (hyper_tree c.args.b.now) c.count_cells-count.result c.len.result c.count.result c.count-2.result
    c.in_ok-kept.kept.items (c.len.ensures ∙ c.in_ok-kept.kept.ok.0) c.count.ensures c.count-2.ensures c.count_cells-count.ensures (omega arith)

pub equations-requires-clause-kept : goal.equations-requires-clause-kept
equations-requires-clause-kept c =
    subst (AreKept (hyper_tree c.args.a.now) (hyper_tree c.args.b.now)) (sym c.deref.ensures.value) c.in_ok-kept.ensures

pub equations-requires-clause-few : goal.equations-requires-clause-few
equations-requires-clause-few c =
    let fits = few (goal.at.equations-requires-clause-few c).Else-count-gt-MOST_CELLS in
    subst (λ (xs : List ℕ). cells_of (length xs) (count (hyper_tree c.args.a.now)) (count (hyper_tree c.args.b.now)) ≤ 4000000)
    (sym c.deref.ensures.value) fits

pub returns-in_err-system-clause-err : goal.returns-in_err-system-clause-err
returns-in_err-system-clause-err c =
    let targets : target_of c.args.a.now ≡ target_of c.args.b.now = sym c.target.ensures ∙ c.same_target.ensures.0 c.if-not-same_target.false ∙ c.target-2.ensures in
    let fits = few (goal.at.returns-in_err-system-clause-err c).Else-count-gt-MOST_CELLS in
    let p = err_from_is_err_and c.from_residual-in_err-system.result c.from_residual-in_err-system.ensures.1 in
    rw (p.1, p.2) (λ other. let w = c.in_err-system.ensures.err other in
    rw w.0 (run_of (hyper_tree c.args.a.now) (hyper_tree c.args.b.now) c.args.pivots w.1
    c.in_ok-kept.kept.items _ (w.2, w.3 ∙ c.deref.ensures.value) fits targets (w.4 c.args.pivots)).0)

pub run-requires-clause-kept : goal.run-requires-clause-kept
run-requires-clause-kept c =
    subst (AreKept (hyper_tree c.args.a.now) (hyper_tree c.args.b.now)) (sym c.deref-2.ensures.value) c.in_ok-kept.ensures

pub run-requires-clause-few : goal.run-requires-clause-few
run-requires-clause-few c =
    let fits = few (goal.at.run-requires-clause-few c).Else-count-gt-MOST_CELLS in
    subst (λ (xs : List ℕ). cells_of (length xs) (count (hyper_tree c.args.a.now)) (count (hyper_tree c.args.b.now)) ≤ 4000000)
    (sym c.deref-2.ensures.value) fits

pub run-requires-clause-equations : goal.run-requires-clause-equations
run-requires-clause-equations c = let e = c.in_ok-system.ensures.ok in (e.0, e.1 ∙ c.deref.ensures.value ∙ sym c.deref-2.ensures.value)

pub returns-clause-is : goal.returns-clause-is
returns-clause-is c = c.run.ensures.is

pub returns-clause-err : goal.returns-clause-err
returns-clause-err c = c.run.ensures.err
