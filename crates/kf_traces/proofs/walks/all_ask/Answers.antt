use Rattle.std.proofs.Common.{◌≡◌, [], ◌∷◌, ap, map, arith}
use Rattle.std.specs.Vec.Iter.{into_iter_items}
use Rattle.kf_traces.specs.declared.walks.Visit.TheVariants as code
use Rattle.kf_traces.specs.Traced.{Traced}
use Rattle.kf_traces.specs.Views.{traced_of}
use Rattle.kf_traces.specs.Visits.{Asks, visit_of}
use Rattle.kf_traces.proofs.Walking.{mapped_joined, none_left, ones_start, ones_step, ones_end}
use Rattle.kf_traces.proofs.walks.all_ask.Goals as goal

pub loop-state-init : goal.loop-state-init
loop-state-init c =
    ones_start (λ (s : Traced). Asks s c.args.rest) (map visit_of c.new-visits.result.items) (map traced_of (into_iter_items c.into_iter-state-iterator.result)) (map traced_of c.args.states.items)
    (ap (map visit_of) c.new-visits.ensures.items) (ap (map traced_of) c.into_iter-state-iterator.ensures.into_iter_gives.0)

pub loop-state-preserved : goal.loop-state-preserved
loop-state-preserved c =
    let asks = λ (s : Traced). Asks s c.args.rest in
    ones_step asks (map asks (map traced_of c.args.states.items)) (map visit_of c.loop-state.visits.items) (map visit_of c.push.new.self.items) (map traced_of (into_iter_items c.loop-state.state-iterator))
    (map traced_of (into_iter_items c.next.new.self)) (traced_of c.in-Some.state) (ap (map traced_of) c.in-Some.ensures.steps.0)
    (mapped_joined visit_of c.push.new.self.items c.loop-state.visits.items (code.Asks c.in-Some.state c.args.rest ∷ []) c.in_ok-push.ensures.items) c.loop-state.invariant

pub returns : goal.returns
returns c =
    let asks = λ (s : Traced). Asks s c.args.rest in
    let none : into_iter_items c.loop-state.state-iterator ≡ [] = none_left _ (omega (arith, c.in-None.ensures.steps.0, c.loop-state.state-iterator.rest.ok)) in
    ones_end asks (map asks (map traced_of c.args.states.items)) (map visit_of c.loop-state.visits.items) (map traced_of (into_iter_items c.loop-state.state-iterator)) (ap (map traced_of) none) c.loop-state.invariant
