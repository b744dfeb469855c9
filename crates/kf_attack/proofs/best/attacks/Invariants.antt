use Rattle.std.proofs.Common.{take}
use Rattle.kf_hyper.specs.Views.{inners_of}
use Rattle.kf_gain.specs.Views.{gain_tree}
use Rattle.kf_attack.proofs.Attacked.{Attacked}
use Rattle.kf_attack.proofs.best.attacks.Given as goal

abbrev pub invariant-loop-i : goal.invariant-loop-i
invariant-loop-i l = Attacked (gain_tree l.g) (take l.i (inners_of l.h)) l.attacks.items
