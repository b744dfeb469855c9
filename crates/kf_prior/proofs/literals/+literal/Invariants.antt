use Rattle.std.proofs.Common.{◌≡◌, map, take}
use Rattle.kf_value.specs.TypeViews.{type_tree}
use Rattle.kf_value.specs.Views.{value_tree}
use Rattle.kf_ast.specs.Views.{expr_tree}
use Rattle.kf_prior.specs.FullSources.{literal}
use Rattle.kf_prior.proofs.Written.{PartsGoOn}
use Rattle.kf_prior.proofs.literals.+literal.Given as goal

abbrev pub invariant-part_literals-loop-i : goal.invariant-part_literals-loop-i
invariant-part_literals-loop-i l = PartsGoOn l.at l.types l.values l.i l.parts.items

abbrev pub invariant-set_literal-loop-value : goal.invariant-set_literal-loop-value
invariant-set_literal-loop-value l = map expr_tree l.members.items ≡ map (literal l.at (type_tree l.base)) (map value_tree (take l.value-index l.values))
