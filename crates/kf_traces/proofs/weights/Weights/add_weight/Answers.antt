use Rattle.std.proofs.Common.{◌≡◌, [], ap, ◌∙◌}
use Rattle.kf_traces.specs.Folded.{folded}
use Rattle.kf_traces.specs.Traced.{with_weight}
use Rattle.kf_traces.proofs.Folding.{again, one_more, room_left}
use Rattle.kf_traces.proofs.weights.Weights.add_weight.Goals as goal
use Rattle.kf_traces.proofs.weights.Weights.add_weight.Goals.{then-len-self, else-len-self}

pub invariant_of-self-2 : goal.invariant_of-self-2
invariant_of-self-2 c =
    let same : folded [] c.if-len-self.self-inside.ways.items ≡ c.args.self.now =
    elim c.if-len-self.branch [
      | then-len-self w ↦ rw w.self-inside-is (again c.self.inside.ways.items w.settle.new.ways.items w.settle.ensures ∙ c.self.view_is)
      | else-len-self w ↦ rw w.self-inside-is c.self.view_is
    ] in
    room_left c.if-len-self.self-inside.ways.items c.push.new.self.items c.args.self.now c.args.store c.args.weight same c.in_ok-push.ensures.items c.requires.within

pub returns : goal.returns
returns c =
    let same : folded [] c.if-len-self.self-inside.ways.items ≡ c.args.self.now =
    elim c.if-len-self.branch [
      | then-len-self w ↦ rw w.self-inside-is (again c.self.inside.ways.items w.settle.new.ways.items w.settle.ensures ∙ c.self.view_is)
      | else-len-self w ↦ rw w.self-inside-is c.self.view_is
    ] in
    ap (folded []) c.in_ok-push.ensures.items ∙ one_more [] c.if-len-self.self-inside.ways.items c.args.store c.args.weight ∙ ap (λ es. with_weight es c.args.store c.args.weight) same
