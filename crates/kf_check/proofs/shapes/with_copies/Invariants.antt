use Rattle.std.proofs.Common.{map, drop}
use Rattle.kf_value.specs.TypeViews.{type_tree}
use Rattle.kf_check.specs.Variables.{variable_of}
use Rattle.kf_check.proofs.CopyTurns.{CopiedBefore}
use Rattle.kf_check.proofs.shapes.with_copies.Given as goal

abbrev pub invariant-loop-copy : goal.invariant-loop-copy
invariant-loop-copy l = CopiedBefore (map variable_of l.variables) l.copies (drop l.copy-index l.copies) (map type_tree l.fn.types.items) (map type_tree l.types.items)
