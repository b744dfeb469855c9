use Rattle.std.proofs.Common.{◌≡◌, map, drop}
use Rattle.kf_core.specs.Views.{ex_tree}
use Rattle.kf_core.specs.Each.{exs}
use Rattle.kf_eval.specs.Totals.{have_values}
use Rattle.kf_eval.proofs.sureness.+has_value.Given as goal

-- looking through what is left gives the answer
abbrev pub invariant-have_values-loop-ex : goal.invariant-have_values-loop-ex
invariant-have_values-loop-ex l = have_values (exs (map ex_tree (drop l.ex-index l.exs))) ≡ have_values (exs (map ex_tree l.exs))
