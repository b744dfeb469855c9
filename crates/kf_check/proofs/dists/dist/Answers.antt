use Rattle.std.proofs.Common.{inl, inr, ap, ◌∙◌, arith}
use Rattle.kf_value.specs.Kinds.{TruthKind}
use Rattle.kf_value.specs.Views.{kind_tree}
use Rattle.kf_ast.specs.Views.{dist_tree}
use Rattle.kf_core.specs.Views.{ex_tree, dx_tree}
use Rattle.kf_core.specs.Dxs.{dx_at}
use Rattle.kf_core.specs.Dxs as dx
use Rattle.kf_check.specs.Views.{known_in}
use Rattle.kf_check.proofs.Nodes.{kind_tree-Bool}
use Rattle.kf_check.proofs.DistRules.{fails_dist, sure_judged, sure_becomes, set_broken, set_clashes, set_judged, set_becomes, bad_flip, flip_judged, flip_becomes, made}
use Rattle.kf_check.proofs.dists.dist.Goals as goal
use Rattle.kf_check.proofs.dists.dist.Goals.{then-den-eq0-via-then-den-eq0, then-den-eq0-via-else-den-eq0+then-num-den}

pub returns-in_err-typed-in-Sure : goal.returns-in_err-typed-in-Sure
returns-in_err-typed-in-Sure c =
    fails_dist (known_in c.args.known.now) (dist_tree c.args.d.now) c.from_residual.result c.in_err-typed-in-Sure.field-0.0 c.from_residual.ensures.1
    (λ told. sure_judged (known_in c.args.known.now) c.args.d.now c.in-Sure.x c.in-Sure.is _ (c.in_err-typed-in-Sure.ensures told))

pub returns-in_err-typed-in-UniformSet : goal.returns-in_err-typed-in-UniformSet
returns-in_err-typed-in-UniformSet c =
    fails_dist (known_in c.args.known.now) (dist_tree c.args.d.now) c.from_residual-in_err-typed-in-UniformSet.result c.in_err-typed-in-UniformSet.field-0.0 c.from_residual-in_err-typed-in-UniformSet.ensures.1
    (λ told. set_broken (known_in c.args.known.now) c.args.d.now c.in-UniformSet.x c.in-UniformSet.is _ (c.in_err-typed-in-UniformSet.ensures told))

pub returns-in_err-kind-in-UniformSet : goal.returns-in_err-kind-in-UniformSet
returns-in_err-kind-in-UniformSet c =
    fails_dist (known_in c.args.known.now) (dist_tree c.args.d.now) c.from_residual-in_err-kind-in-UniformSet.result c.in_err-kind-in-UniformSet.field-0.0 c.from_residual-in_err-kind-in-UniformSet.ensures.1
    (set_clashes (known_in c.args.known.now) c.args.d.now c.in-UniformSet.x c.in-UniformSet.is (kind_tree c.in_ok-typed-in-UniformSet.typed.kind) c.element_kind.result c.in_err-kind-in-UniformSet.field-0.0 c.in_ok-typed-in-UniformSet.ensures.0
    c.in_err-kind-in-UniformSet.ensures.err c.element_kind.ensures.err)

pub returns-then-den-eq0 : goal.returns-then-den-eq0
returns-then-den-eq0 c told =
    bad_flip (known_in c.args.known.now) c.args.d.now c.in-Flip.num c.in-Flip.den c.in-Flip.is
    (elim c.then-den-eq0.branch [ then-den-eq0-via-then-den-eq0 w ↦ inl w.if-den-eq0.true | then-den-eq0-via-else-den-eq0+then-num-den w ↦ inr w.if-num-den.true ])

pub returns-in_ok-typed-in-Sure : goal.returns-in_ok-typed-in-Sure
returns-in_ok-typed-in-Sure c =
    made (known_in c.args.known.now) (dist_tree c.args.d.now) c.new.result (kind_tree c.in_ok-typed-in-Sure.typed.kind) (dx_at c.args.d.now.at (dx.Sure (ex_tree c.in_ok-typed-in-Sure.typed.ex)))
    (ap kind_tree c.new.ensures.kind) (ap dx_tree c.new.ensures.dx)
    (sure_judged (known_in c.args.known.now) c.args.d.now c.in-Sure.x c.in-Sure.is _ c.in_ok-typed-in-Sure.ensures.0)
    (sure_becomes (known_in c.args.known.now) c.args.d.now c.in-Sure.x c.in-Sure.is _ c.in_ok-typed-in-Sure.ensures.1)

pub returns-in_ok-kind-in-UniformSet : goal.returns-in_ok-kind-in-UniformSet
returns-in_ok-kind-in-UniformSet c =
    let n = c.new-in-UniformSet.ensures in
    let kind = c.in_ok-kind-in-UniformSet.kind in
    let typed = c.in_ok-kind-in-UniformSet.typed in
    made (known_in c.args.known.now) (dist_tree c.args.d.now) c.new-in-UniformSet.result (kind_tree kind) (dx_at c.args.d.now.at (dx.UniformSet (ex_tree typed.ex)))
    (ap kind_tree n.kind) (ap dx_tree n.dx)
    (set_judged (known_in c.args.known.now) c.args.d.now c.in-UniformSet.x c.in-UniformSet.is (kind_tree c.in_ok-typed-in-UniformSet.typed.kind) c.element_kind.result kind c.in_ok-typed-in-UniformSet.ensures.0 c.in_ok-kind-in-UniformSet.ensures.ok.0 c.element_kind.ensures.ok)
    (set_becomes (known_in c.args.known.now) c.args.d.now c.in-UniformSet.x c.in-UniformSet.is _ (ap (λ t. ex_tree t.ex) c.in_ok-kind-in-UniformSet.ensures.ok.1 ∙ c.in_ok-typed-in-UniformSet.ensures.1))

pub returns-else-num-den : goal.returns-else-num-den
returns-else-num-den c =
    let n = c.new-in-Flip.ensures in
    let some = c.if-den-eq0.false in
    made (known_in c.args.known.now) (dist_tree c.args.d.now) c.new-in-Flip.result TruthKind (dx_at c.args.d.now.at (dx.Flip c.in-Flip.num c.in-Flip.den)) (ap kind_tree n.kind ∙ kind_tree-Bool) (ap dx_tree n.dx)
    (flip_judged (known_in c.args.known.now) c.args.d.now c.in-Flip.num c.in-Flip.den c.in-Flip.is (omega arith) c.if-num-den.false)
    (flip_becomes (known_in c.args.known.now) c.args.d.now c.in-Flip.num c.in-Flip.den c.in-Flip.is)
