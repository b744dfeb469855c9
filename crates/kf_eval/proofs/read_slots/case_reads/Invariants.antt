use Rattle.std.proofs.Common.{◌≡◌, map, drop}
use Rattle.std.specs.List.{list_any}
use Rattle.kf_core.specs.Views.{dx_case_tree}
use Rattle.kf_eval.specs.Reads.{case_reads}
use Rattle.kf_eval.proofs.read_slots.case_reads.Given as goal

-- looking through what is left gives the answer
abbrev pub invariant-loop-case : goal.invariant-loop-case
invariant-loop-case l = list_any (case_reads l.slot) (map dx_case_tree (drop l.case-index l.cases)) ≡ list_any (case_reads l.slot) (map dx_case_tree l.cases)
