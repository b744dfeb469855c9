use Rattle.kf_cert.specs.Views.{entry_tree}
use Rattle.kf_cert.proofs.PlaceOrder.{StillAscends}
use Rattle.kf_cert.proofs.places.are_ascending.Given as goal

abbrev pub invariant-loop-k : goal.invariant-loop-k
invariant-loop-k l = StillAscends entry_tree l.entries l.k
