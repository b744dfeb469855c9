use Rattle.std.proofs.Common.{map, drop}
use Rattle.kf_ast.specs.Views.{item_tree}
use Rattle.kf_check.specs.SourceAnswers.{Stands}
use Rattle.kf_check.proofs.items.stands.Given as goal

abbrev pub invariant-loop-other : goal.invariant-loop-other
invariant-loop-other l = Stands (map item_tree l.before) l.item.initial l.item.name.text → Stands (map item_tree (drop l.other-index l.before)) l.item.initial l.item.name.text
