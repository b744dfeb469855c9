use Rattle.std.proofs.Common.{◌≡◌, ◌++◌, map, refl, ap, ◌∙◌}
use Rattle.kf_value.specs.TypeViews.{type_tree}
use Rattle.kf_value.specs.Views.{type_trees}
use Rattle.kf_check.specs.Sources.{types_of}
use Rattle.kf_check.specs.Variables.{variable_of}
use Rattle.kf_check.proofs.Copied.{all_sized, all_formed}
use Rattle.kf_check.proofs.Left.{passed}
use Rattle.kf_check.proofs.shapes.shape_of.Goals as goal

pub new-requires-2-clause-formed : goal.new-requires-2-clause-formed
new-requires-2-clause-formed c =
    let added = c.in_ok-types-2.ensures.types in
    let same : type_trees c.new.result ≡ types_of (map variable_of c.args.variables.now) ++ added.0 = ap (map type_tree) c.new.ensures ∙ (added.1 ∙ ap (λ ts. ts ++ added.0) c.in_ok-types.ensures.types) in
    rw same (all_formed (map variable_of c.args.variables.now) c.args.copies.now added.0 c.requires.declared added.2)

pub new-requires-2-clause-sized : goal.new-requires-2-clause-sized
new-requires-2-clause-sized c =
    let added = c.in_ok-types-2.ensures.types in
    let same : type_trees c.new.result ≡ types_of (map variable_of c.args.variables.now) ++ added.0 = ap (map type_tree) c.new.ensures ∙ (added.1 ∙ ap (λ ts. ts ++ added.0) c.in_ok-types.ensures.types) in
    rw same (all_sized (map variable_of c.args.variables.now) c.args.copies.now added.0 c.requires.declared added.2)

pub with_copies-requires : goal.with_copies-requires
with_copies-requires c = c.requires.within

pub returns-in_err-types : goal.returns-in_err-types
returns-in_err-types c = rw (passed c.from_residual.result _ c.from_residual.ensures.1) (record { shape = tt; memory = c.in_err-types.ensures.memory })

pub returns-in_err-types-2 : goal.returns-in_err-types-2
returns-in_err-types-2 c = rw (passed c.from_residual-in_err-types-2.result _ c.from_residual-in_err-types-2.ensures.1) (record { shape = tt; memory = c.in_err-types-2.ensures.memory })

pub returns-in-Err : goal.returns-in-Err
returns-in-Err c = record { shape = tt; memory = refl }

pub returns-in-Ok : goal.returns-in-Ok
returns-in-Ok c =
    let added = c.in_ok-types-2.ensures.types in
    let same : type_trees c.new.result ≡ types_of (map variable_of c.args.variables.now) ++ added.0 = ap (map type_tree) c.new.ensures ∙ (added.1 ∙ ap (λ ts. ts ++ added.0) c.in_ok-types.ensures.types) in
    record { shape = (added.0, c.in-Ok.ensures.types ∙ same, added.2); memory = tt }
