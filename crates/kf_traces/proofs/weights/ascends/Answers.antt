use Rattle.std.proofs.Common.{ℕ, nat_lt, rules, tests}
use Rattle.std.proofs.lemmas.List.Sorted.{answers_always}
use Rattle.kf_traces.proofs.Neighbours.{adjacent_ascend}
use Rattle.kf_traces.proofs.weights.ascends.Goals as goal

pub returns : goal.returns
returns c =
    adjacent_ascend c.args.ways.now c.is_sorted_by.result
    (c.is_sorted_by.ensures.cases (λ (x y : ℕ × ℕ). nat_lt x.0 y.0) (answers_always _ _ _ (λ f a r g called. search (rules, tests))))
