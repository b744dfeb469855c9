use Rattle.std.proofs.Common.{◌≡◌, map, take}
use Rattle.kf_value.specs.Types.{values}
use Rattle.kf_value.specs.TypeViews.{type_tree}
use Rattle.kf_ast.specs.Views.{expr_tree}
use Rattle.kf_prior.specs.FullSources.{literal}
use Rattle.kf_prior.proofs.declarations.all_literals.Given as goal

abbrev pub invariant-loop-n : goal.invariant-loop-n
invariant-loop-n l = map expr_tree l.literals.items ≡ map (literal l.at (type_tree l.ty)) (take l.n (values (type_tree l.ty)))
