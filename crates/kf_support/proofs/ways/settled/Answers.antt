use Rattle.std.proofs.Common.{ℕ, sym, subst, ◌∙◌, rules, tests}
use Rattle.std.proofs.lemmas.List.Sorted.{All-permutation, IsNonDecreasingBy-from_sort_by_key}
use Rattle.kf_support.specs.Answers.{Ascend}
use Rattle.kf_support.proofs.Adding.{IsWay}
use Rattle.kf_support.proofs.Settling.{ascending, in_any_order}
use Rattle.kf_support.proofs.ways.settled.Goals as goal

pub returns-then-ascends : goal.returns-then-ascends
returns-then-ascends c =
    let up = subst Ascend c.as_slice.ensures.value (c.ascends.ensures c.if-ascends.true) in
    record { settled = sym (ascending c.args.ways.items up) }

pub returns-then-ascends-2 : goal.returns-then-ascends-2
returns-then-ascends-2 c =
    let ways = c.args.ways.items in
    let sorted = c.sort_by_key.new.self.items in
    let up = subst Ascend c.as_slice-2.ensures.value (c.ascends-2.ensures c.if-ascends-2.true) in
    record { settled = sym (ascending sorted up) ∙ in_any_order c.requires.ways.0 ways sorted c.requires.ways.1 c.in_ok-sort_by_key.ensures.permutation }

pub joined-requires-clause-ways : goal.joined-requires-clause-ways
joined-requires-clause-ways c =
    let size = c.requires.ways.0 in
    rw c.as_slice-3.ensures.value (size, All-permutation (IsWay size) c.args.ways.items c.sort_by_key.new.self.items c.in_ok-sort_by_key.ensures.permutation c.requires.ways.1)

pub joined-requires-clause-order : goal.joined-requires-clause-order
joined-requires-clause-order c =
    rw c.as_slice-3.ensures.value
    (IsNonDecreasingBy-from_sort_by_key (λ (e : ℕ × ℕ). e.0) c.sort_by_key.new.self.items c.in_ok-sort_by_key.ensures.sorted (λ a r q k. search (rules, tests)))

pub returns : goal.returns
returns c =
    let sorted = c.sort_by_key.new.self.items in
    record {
      settled = rw c.as_slice-3.ensures.value at c.in_ok-reached.ensures ∙ in_any_order c.requires.ways.0 c.args.ways.items sorted c.requires.ways.1 c.in_ok-sort_by_key.ensures.permutation;
    }
