use Rattle.std.proofs.Common.{rules, ◌≡◌, ◌<◌, ◌∙◌, ap, subst, sym, arith, Vec, Global}
use borrow.Author.Tests.{tests}
use Rattle.std.proofs.lemmas.List.Sorted.{IsNonDecreasingBy-from_sort_by_key, sum_by-IsPermutation, All-permutation}
use Rattle.kf_column.specs.declared.entry.Entry.{Entry}
use Rattle.kf_hyper.specs.Sums.{Gathers}
use Rattle.kf_hyper.proofs.Neighbours.{gathers_sorted}
use Rattle.kf_hyper.proofs.unsorted.gathered.Goals as goal
use Rattle.kf_hyper.proofs.unsorted.gathered.Goals.{then-len-before, else-len-before}

pub added-sums-requires : goal.added-sums-requires
added-sums-requires c =
    let sorted = c.sort_unstable_by_key.new.self.items in
    let same = c.sort_unstable_by_key.ensures.permutation in
    let total = sum_by-IsPermutation (λ (e : Entry). e.weight) c.args.entries.items sorted same in
    record {
      some = omega (arith, total, c.requires.some);
      positive = All-permutation (λ (e : Entry). 0 < e.weight) c.args.entries.items sorted same c.requires.positive;
      fits = omega (arith, total, c.requires.fits);
      ascending = IsNonDecreasingBy-from_sort_by_key (λ (e : Entry). e.value) sorted c.sort_unstable_by_key.ensures.sorted (λ a r q k. search (rules, tests));
    }

pub returns : goal.returns
returns c =
    let kept : c.if-len-before.sums.items ≡ c.added-sums.result.items =
    elim c.if-len-before.branch [ then-len-before w ↦ ap (λ (v : Vec Entry Global). v.items) w.sums-is ∙ w.shrink_to_fit.ensures.items | else-len-before w ↦ ap (λ (v : Vec Entry Global). v.items) w.sums-is ] in
    let gathers : Gathers c.args.entries.items c.new-2.result =
    subst (Gathers c.args.entries.items) (sym (c.new-2.ensures ∙ c.new.ensures ∙ kept))
    (gathers_sorted c.args.entries.items c.sort_unstable_by_key.new.self.items c.added-sums.result.items c.sort_unstable_by_key.ensures.permutation c.added-sums.ensures.gathers) in
    record { weights = gathers.weights; total = gathers.total; below = gathers.below }
