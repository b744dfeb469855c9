use Rattle.std.proofs.Common.{◌≡◌, ◌++◌, map}
use Rattle.std.specs.Vec.Iter.{into_iter_items}
use Rattle.kf_traces.specs.Views.{traced_of}
use Rattle.kf_traces.specs.Visits.{Asks, visit_of}
use Rattle.kf_traces.proofs.walks.all_ask.Given as goal

abbrev pub invariant-loop-state : goal.invariant-loop-state
invariant-loop-state l = map visit_of l.visits.items ++ map (λ s. Asks s l.rest) (map traced_of (into_iter_items l.state-iterator)) ≡ map (λ s. Asks s l.rest) (map traced_of l.fn.states.items)
