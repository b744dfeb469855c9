use Rattle.std.proofs.Common.{◌≡◌, take}
use Rattle.kf_value.specs.Views.{kind_tree}
use Rattle.kf_check.specs.Views.{known_in}
use Rattle.kf_check.proofs.Each.{Each}
use Rattle.kf_check.proofs.DistRules.{IsCase}
use Rattle.kf_check.proofs.dists.choose.Given as goal

abbrev pub invariant-loop-case : goal.invariant-loop-case
invariant-loop-case l = record {
  same : l.initial.kind ≡ l.kind;
  judged : Each (IsCase (known_in l.known) (kind_tree l.kind)) (take l.case-index l.cases) l.typed.items;
}
