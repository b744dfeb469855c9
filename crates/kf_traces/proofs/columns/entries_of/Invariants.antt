use Rattle.std.proofs.Common.{◌≡◌, take}
use Rattle.kf_hyper.specs.Sums.{summed}
use Rattle.kf_traces.proofs.columns.entries_of.Given as goal

abbrev pub invariant-loop-store : goal.invariant-loop-store
invariant-loop-store l = l.entries.items ≡ summed (take l.store-index l.stores)
