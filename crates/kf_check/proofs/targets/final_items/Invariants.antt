use Rattle.std.proofs.Common.{◌≡◌, ◌++◌, map, drop}
use Rattle.kf_value.specs.TypeViews.{item_of}
use Rattle.kf_check.specs.Variables.{variable_of}
use Rattle.kf_check.specs.SourceAnswers.{as_items}
use Rattle.kf_check.proofs.targets.final_items.Given as goal

abbrev pub invariant-loop-variable : goal.invariant-loop-variable
invariant-loop-variable l = map item_of l.items.items ++ as_items (map variable_of (drop l.variable-index l.variables)) ≡ as_items (map variable_of l.variables)
