use Rattle.std.proofs.Common.{take}
use Rattle.kf_column.specs.Classes.{IsCommonFactor}
use Rattle.kf_hyper.proofs.reduction.common_factor.Given as goal

abbrev pub invariant-loop-entry : goal.invariant-loop-entry
invariant-loop-entry l = IsCommonFactor l.factor (take l.entry-index l.entries)
