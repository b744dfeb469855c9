use Rattle.std.proofs.Common.{◌≡◌, map, take, length, ap, ◌∙◌, arith}
use Rattle.std.proofs.Math.Seq.{take-length}
use Rattle.kf_value.specs.TypeViews.{type_tree}
use Rattle.kf_value.specs.Types.{values}
use Rattle.kf_value.proofs.Ascending.{length-values}
use Rattle.kf_ast.specs.Views.{expr_tree}
use Rattle.kf_prior.specs.FullSources.{literal}
use Rattle.kf_prior.proofs.Turns.{listed_more}
use Rattle.kf_prior.proofs.declarations.all_literals.Goals as goal

pub loop-n-preserved : goal.loop-n-preserved
loop-n-preserved c =
    let found = c.in_ok-nth_literal.ensures in
    rw (c.in_ok-push.ensures.items)
    (listed_more expr_tree (literal c.args.at (type_tree c.args.ty.now)) c.loop-n.literals.items c.in_ok-nth_literal.field-0 (values (type_tree c.args.ty.now)) c.loop-n.n found.0 found.1
    found.2 c.loop-n.invariant)

pub returns : goal.returns
returns c =
    let all = length-values (type_tree c.args.ty.now) in
    let whole : c.loop-n.n ≡ length (values (type_tree c.args.ty.now)) = omega arith in
    let vs = values (type_tree c.args.ty.now) in
    c.loop-n.invariant ∙ ap (map (literal c.args.at (type_tree c.args.ty.now))) (ap (λ n. take n vs) whole ∙ take-length vs)
