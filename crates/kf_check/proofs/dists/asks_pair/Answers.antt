use Rattle.std.proofs.Common.{Ok, Err, inl, inr, sym, ap, ◌∙◌, subst}
use Rattle.kf_value.specs.declared.kind.Kind.TheVariants as kind
use Rattle.kf_value.specs.Views.{kind_tree}
use Rattle.kf_ast.specs.Views.{expr_tree}
use Rattle.kf_core.specs.Views.{ex_tree}
use Rattle.kf_check.specs.declared.errors.TypeError.{TypeError}
use Rattle.kf_check.specs.Kinds.{JudgesPair}
use Rattle.kf_check.specs.Views.{known_in}
use Rattle.kf_check.proofs.Judging.{passed_on}
use Rattle.kf_check.proofs.Nodes.{kind_tree-Int}
use Rattle.kf_check.proofs.DistRules.{first_clashes, second_clashes, pair_judged, read_beside, held_beside, clash_beside, asked_beside}
use Rattle.kf_check.proofs.dists.asks_pair.Goals as goal

pub returns-in_err-one-clause-err : goal.returns-in_err-one-clause-err
returns-in_err-one-clause-err c =
    passed_on (λ e. JudgesPair (known_in c.args.known.now) (kind_tree c.args.kind.now) (expr_tree c.args.first.now) (expr_tree c.args.second.now) (Err e)) c.from_residual.result c.in_err-one.field-0.0 c.from_residual.ensures.1
    (λ told. inl (c.in_err-one.ensures told))

pub returns-in_err-other-clause-err : goal.returns-in_err-other-clause-err
returns-in_err-other-clause-err c =
    passed_on (λ e. JudgesPair (known_in c.args.known.now) (kind_tree c.args.kind.now) (expr_tree c.args.first.now) (expr_tree c.args.second.now) (Err e)) c.from_residual-in_err-other.result c.in_err-other.field-0.0 c.from_residual-in_err-other.ensures.1
    (λ told. inr (kind_tree c.in_ok-one.one.kind, c.in_ok-one.ensures.0, inl (read_beside (known_in c.args.known.now) c.args.second.now c.expr-2.result (Err c.in_err-other.field-0.0) c.in_err-other.ensures.err c.expr-2.ensures told)))

pub returns-in_err-first-clause-err : goal.returns-in_err-first-clause-err
returns-in_err-first-clause-err c =
    let P : TypeError → Type 0 = λ e. JudgesPair (known_in c.args.known.now) (kind_tree c.args.kind.now) (expr_tree c.args.first.now) (expr_tree c.args.second.now) (Err e) in
    let other = c.in_ok-other.other in
    let one = c.in_ok-other.one in
    let clash = clash_beside one (kind_tree c.args.kind.now) c.args.first.now.at c.asked.result c.in_err-first.field-0.0 c.in_err-first.ensures.err c.asked.ensures.err in
    passed_on P c.from_residual-in_err-first.result c.in_err-first.field-0.0 c.from_residual-in_err-first.ensures.1
    (λ told. subst P (sym clash.0) (first_clashes (known_in c.args.known.now) (kind_tree c.args.kind.now) c.args.first.now c.args.second.now (kind_tree one.kind) (kind_tree other.kind)
    (held_beside (known_in c.args.known.now) c.args.first.now c.in_ok-one.one one c.in_ok-other.ensures.ok.1 c.in_ok-one.ensures).0
    (read_beside (known_in c.args.known.now) c.args.second.now c.expr-2.result (Ok other) c.in_ok-other.ensures.ok.0 c.expr-2.ensures).0 clash.1))

pub returns-in_err-second-clause-err : goal.returns-in_err-second-clause-err
returns-in_err-second-clause-err c =
    let P : TypeError → Type 0 = λ e. JudgesPair (known_in c.args.known.now) (kind_tree c.args.kind.now) (expr_tree c.args.first.now) (expr_tree c.args.second.now) (Err e) in
    let one = c.in_ok-other.one in
    let other = c.in_ok-first.other in
    let clash = clash_beside other (kind_tree kind.Int) c.args.second.now.at c.asked-2.result c.in_err-second.field-0.0 c.in_err-second.ensures.err c.asked-2.ensures.err in
    passed_on P c.from_residual-in_err-second.result c.in_err-second.field-0.0 c.from_residual-in_err-second.ensures.1
    (λ told. subst P (sym clash.0) (second_clashes (known_in c.args.known.now) (kind_tree c.args.kind.now) c.args.first.now c.args.second.now (kind_tree one.kind) (kind_tree other.kind)
    (held_beside (known_in c.args.known.now) c.args.first.now c.in_ok-one.one one c.in_ok-other.ensures.ok.1 c.in_ok-one.ensures).0
    (held_beside (known_in c.args.known.now) c.args.second.now c.in_ok-other.other other c.in_ok-first.ensures.ok.1 (read_beside (known_in c.args.known.now) c.args.second.now c.expr-2.result (Ok c.in_ok-other.other) c.in_ok-other.ensures.ok.0 c.expr-2.ensures)).0
    (asked_beside one (kind_tree c.args.kind.now) c.asked.result c.in_ok-first.first c.in_ok-first.ensures.ok.0 c.asked.ensures.ok).1 (λ whole. clash.1 (whole ∙ sym kind_tree-Int))))

pub returns-clause-judged : goal.returns-clause-judged
returns-clause-judged c =
    let one = c.in_ok-other.one in
    let other = c.in_ok-first.other in
    pair_judged (known_in c.args.known.now) (kind_tree c.args.kind.now) c.args.first.now c.args.second.now (kind_tree one.kind) (kind_tree other.kind)
    (held_beside (known_in c.args.known.now) c.args.first.now c.in_ok-one.one one c.in_ok-other.ensures.ok.1 c.in_ok-one.ensures).0
    (held_beside (known_in c.args.known.now) c.args.second.now c.in_ok-other.other other c.in_ok-first.ensures.ok.1 (read_beside (known_in c.args.known.now) c.args.second.now c.expr-2.result (Ok c.in_ok-other.other) c.in_ok-other.ensures.ok.0 c.expr-2.ensures)).0
    (asked_beside one (kind_tree c.args.kind.now) c.asked.result c.in_ok-first.first c.in_ok-first.ensures.ok.0 c.asked.ensures.ok).1
    ((asked_beside other (kind_tree kind.Int) c.asked-2.result c.in_ok-second.second c.in_ok-second.ensures.ok.0 c.asked-2.ensures.ok).1 ∙ kind_tree-Int)

pub returns-clause-first : goal.returns-clause-first
returns-clause-first c =
    let one = c.in_ok-other.one in
    ap ex_tree (c.in_ok-second.ensures.ok.1 ∙ (asked_beside one (kind_tree c.args.kind.now) c.asked.result c.in_ok-first.first c.in_ok-first.ensures.ok.0 c.asked.ensures.ok).0)
    ∙ (held_beside (known_in c.args.known.now) c.args.first.now c.in_ok-one.one one c.in_ok-other.ensures.ok.1 c.in_ok-one.ensures).1

pub returns-clause-second : goal.returns-clause-second
returns-clause-second c =
    let other = c.in_ok-first.other in
    ap ex_tree (asked_beside other (kind_tree kind.Int) c.asked-2.result c.in_ok-second.second c.in_ok-second.ensures.ok.0 c.asked-2.ensures.ok).0
    ∙ (held_beside (known_in c.args.known.now) c.args.second.now c.in_ok-other.other other c.in_ok-first.ensures.ok.1 (read_beside (known_in c.args.known.now) c.args.second.now c.expr-2.result (Ok c.in_ok-other.other) c.in_ok-other.ensures.ok.0 c.expr-2.ensures)).1
