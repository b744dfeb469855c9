use Rattle.std.proofs.Common.{take}
use Rattle.std.specs.List.{AllZip}
use Rattle.kf_attack.specs.Views.{ShowsValue}
use Rattle.kf_attack.proofs.guesses.weighed.Given as goal

abbrev pub invariant-loop-entry : goal.invariant-loop-entry
invariant-loop-entry l = AllZip (ShowsValue l.whole) (take l.entry-index l.entries) l.values.items
