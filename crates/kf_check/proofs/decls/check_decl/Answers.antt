use Rattle.std.proofs.Common.{◌≡◌, map, length, sym, ap, ◌∙◌}
use Rattle.std.proofs.lemmas.List.{length-map}
use Rattle.kf_value.specs.TypeViews.{type_tree}
use Rattle.kf_value.specs.Views.{kind_tree}
use Rattle.kf_ast.specs.Views.{type_form, dist_tree}
use Rattle.kf_core.specs.Views.{dx_tree}
use Rattle.kf_check.specs.Views.{known_in}
use Rattle.kf_check.specs.Variables.{variable_of}
use Rattle.kf_check.proofs.Left.{passed}
use Rattle.kf_check.proofs.Sized.{sized}
use Rattle.kf_check.proofs.DeclTurns as turn
use Rattle.kf_check.proofs.decls.check_decl.Goals as goal

pub returns-in-Some-clause-answer : goal.returns-in-Some-clause-answer
returns-in-Some-clause-answer c other =
    turn.twice (map variable_of c.args.variables.now) (known_in c.args.names.now) c.requires.known c.args.decl.now.visible c.args.decl.now.name.text c.args.decl.now.name.at (type_form c.args.decl.now.ty) (dist_tree c.args.decl.now.dist)
    c.as_str.result.now _ _ c.as_str.ensures c.in-Some.ensures.0

pub returns-in_err-ty-clause-answer : goal.returns-in_err-ty-clause-answer
returns-in_err-ty-clause-answer c =
    rw (passed c.from_residual.result c.in_err-ty.field-0.0 c.from_residual.ensures.1)
    (turn.type_fails (map variable_of c.args.variables.now) (known_in c.args.names.now) c.requires.known c.args.decl.now.visible c.args.decl.now.name.text c.args.decl.now.name.at (type_form c.args.decl.now.ty) (dist_tree c.args.decl.now.dist)
    c.as_str.result.now c.as_str.ensures c.in_default.ensures c.in_err-ty.field-0.0 c.in_err-ty.ensures)

pub grow-requires : goal.grow-requires
grow-requires c = sized (type_form c.args.decl.now.ty) (type_tree c.in_ok-ty.ty) c.in_ok-ty.ensures

pub returns-in_err-stores-clause-answer : goal.returns-in_err-stores-clause-answer
returns-in_err-stores-clause-answer c =
    let many : length c.args.variables.now ≡ length (map (λ v. v.type) (map variable_of c.args.variables.now)) = sym (length-map (map variable_of c.args.variables.now) (λ v. v.type) ∙ length-map c.args.variables.now variable_of) in
    rw (passed c.from_residual-in_err-stores.result c.in_err-stores.field-0.0 c.from_residual-in_err-stores.ensures.1)
    (λ other.
    turn.growth_fails (map variable_of c.args.variables.now) (known_in c.args.names.now) c.requires.known c.args.decl.now.visible c.args.decl.now.name.text c.args.decl.now.name.at (type_form c.args.decl.now.ty) (dist_tree c.args.decl.now.dist)
    c.as_str.result.now c.as_str.ensures c.in_default.ensures (type_tree c.in_ok-ty.ty) c.in_ok-ty.ensures (length c.args.variables.now) c.args.stores many c.requires.counted c.in_err-stores.field-0.0 (rw c.in_err-stores.ensures.err at c.grow.ensures))

pub returns-in_err-dist-clause-answer : goal.returns-in_err-dist-clause-answer
returns-in_err-dist-clause-answer c =
    let many : length c.args.variables.now ≡ length (map (λ v. v.type) (map variable_of c.args.variables.now)) = sym (length-map (map variable_of c.args.variables.now) (λ v. v.type) ∙ length-map c.args.variables.now variable_of) in
    rw (passed c.from_residual-in_err-dist.result c.in_err-dist.field-0.0 c.from_residual-in_err-dist.ensures.1)
    (turn.dist_fails (map variable_of c.args.variables.now) (known_in c.args.names.now) c.requires.known c.args.decl.now.visible c.args.decl.now.name.text c.args.decl.now.name.at (type_form c.args.decl.now.ty) (dist_tree c.args.decl.now.dist)
    c.as_str.result.now c.as_str.ensures c.in_default.ensures (type_tree c.in_ok-ty.ty) c.in_ok-ty.ensures (length c.args.variables.now) c.args.stores many c.requires.counted
    c.in_ok-stores.stores (rw c.in_ok-stores.ensures.ok.0 at c.grow.ensures) (kind_tree c.in_ok-kind.kind) c.in_err-dist.field-0.0 (rw (c.in_ok-kind.ensures.ok.0, c.in_ok-stores.ensures.ok.1) at c.kind_of.ensures) (rw (c.in_err-dist.ensures.err, ap (λ h. h.1) c.in_ok-name.ensures.ok.1) at c.asks_dist-dist.ensures))

pub returns-clause-answer : goal.returns-clause-answer
returns-clause-answer c =
    let many : length c.args.variables.now ≡ length (map (λ v. v.type) (map variable_of c.args.variables.now)) = sym (length-map (map variable_of c.args.variables.now) (λ v. v.type) ∙ length-map c.args.variables.now variable_of) in
    rw (ap (λ h. h.0) c.in_ok-dist.ensures.ok.1, rw c.in_ok-name.ensures.ok.0 at c.copy.ensures, ap (λ h. h.0) c.in_ok-name.ensures.ok.1, c.in_ok-kind.ensures.ok.1, c.in_ok-stores.ensures.ok.1)
    (turn.declares (map variable_of c.args.variables.now) (known_in c.args.names.now) c.requires.known c.args.decl.now.visible c.args.decl.now.name.text c.args.decl.now.name.at (type_form c.args.decl.now.ty) (dist_tree c.args.decl.now.dist)
    c.as_str.result.now c.as_str.ensures c.in_default.ensures (type_tree c.in_ok-ty.ty) c.in_ok-ty.ensures (length c.args.variables.now) c.args.stores many c.requires.counted
    c.in_ok-stores.stores (rw c.in_ok-stores.ensures.ok.0 at c.grow.ensures) (kind_tree c.in_ok-kind.kind) (dx_tree c.in_ok-dist.dist) (rw (c.in_ok-kind.ensures.ok.0, c.in_ok-stores.ensures.ok.1) at c.kind_of.ensures) (rw (c.in_ok-dist.ensures.ok.0, ap (λ h. h.1) c.in_ok-name.ensures.ok.1) at c.asks_dist-dist.ensures))
