use Rattle.std.proofs.Common.{◌≡◌, take}
use Rattle.std.specs.List.{All}
use Rattle.kf_value.specs.Views.{kind_tree}
use Rattle.kf_check.proofs.picks.common_kind.Given as goal

abbrev pub invariant-loop-kind : goal.invariant-loop-kind
invariant-loop-kind l = All (λ k. kind_tree k ≡ kind_tree l.first) (take l.kind-index l.kinds)
