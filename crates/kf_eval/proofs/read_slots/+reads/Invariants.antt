use Rattle.std.proofs.Common.{◌≡◌, map, drop}
use Rattle.kf_core.specs.Views.{ex_tree}
use Rattle.kf_core.specs.Each.{exs}
use Rattle.kf_eval.specs.Reads.{some_reads}
use Rattle.kf_eval.proofs.read_slots.+reads.Given as goal

-- looking through what is left gives the answer
abbrev pub invariant-some_reads-loop-ex : goal.invariant-some_reads-loop-ex
invariant-some_reads-loop-ex l = some_reads l.slot (exs (map ex_tree (drop l.ex-index l.exs))) ≡ some_reads l.slot (exs (map ex_tree l.exs))
