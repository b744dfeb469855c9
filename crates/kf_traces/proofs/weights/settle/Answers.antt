use Rattle.std.proofs.Common.{ℕ, sym, subst, ◌∙◌, arith, rules, tests}
use Rattle.std.proofs.lemmas.List.Sorted.{IsNonDecreasingBy-from_sort_by_key, sum_by-IsPermutation}
use Rattle.kf_support.specs.Answers.{Ascend}
use Rattle.kf_traces.proofs.Folding.{in_any_order}
use Rattle.kf_traces.proofs.Neighbours.{ascending}
use Rattle.kf_traces.proofs.weights.settle.Goals as goal

pub returns-then-ascends : goal.returns-then-ascends
returns-then-ascends c = sym (ascending c.args.ways.now.items (subst Ascend c.as_slice.ensures.value (c.ascends.ensures c.if-ascends.true)))

pub add_up-requires : goal.add_up-requires
add_up-requires c =
    let sorted = c.sort_unstable_by_key.new.self.items in
    let sum = sum_by-IsPermutation (λ (e : ℕ × ℕ). e.1) c.args.ways.now.items sorted c.sort_unstable_by_key.ensures.permutation in
    record {
      fits = omega (arith, sum, c.requires);
      order = IsNonDecreasingBy-from_sort_by_key (λ (e : ℕ × ℕ). e.0) sorted c.sort_unstable_by_key.ensures.sorted (λ a r q k. search (rules, tests));
    }

pub returns : goal.returns
returns c = c.add_up.ensures ∙ in_any_order c.args.ways.now.items c.sort_unstable_by_key.new.self.items c.sort_unstable_by_key.ensures.permutation
