use Rattle.std.proofs.Common.{◌≡◌, map, take}
use Rattle.kf_value.specs.Views.{kind_tree}
use Rattle.kf_value.proofs.kind.+copy_kind.Given as goal

abbrev pub invariant-KindList::copy-loop-kind : goal.invariant-KindList::copy-loop-kind
invariant-KindList::copy-loop-kind l = map kind_tree l.items.items ≡ map kind_tree (take l.kind-index l.kind-items)
