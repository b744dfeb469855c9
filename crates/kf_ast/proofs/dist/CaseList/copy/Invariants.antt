use Rattle.std.proofs.Common.{◌≡◌, map, take}
use Rattle.kf_ast.specs.Views.{case_tree}
use Rattle.kf_ast.proofs.dist.CaseList.copy.Given as goal

abbrev pub invariant-loop-case : goal.invariant-loop-case
invariant-loop-case l = map case_tree l.items.items ≡ map case_tree (take l.case-index l.case-items)
