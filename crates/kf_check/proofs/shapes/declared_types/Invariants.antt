use Rattle.std.proofs.Common.{◌≡◌, ◌++◌, map, drop}
use Rattle.kf_value.specs.TypeViews.{type_tree}
use Rattle.kf_check.specs.Sources.{types_of}
use Rattle.kf_check.specs.Variables.{variable_of}
use Rattle.kf_check.proofs.shapes.declared_types.Given as goal

abbrev pub invariant-loop-variable : goal.invariant-loop-variable
invariant-loop-variable l = map type_tree l.types.items ++ types_of (map variable_of (drop l.variable-index l.variables)) ≡ types_of (map variable_of l.variables)
