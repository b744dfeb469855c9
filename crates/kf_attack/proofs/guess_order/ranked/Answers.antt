use Rattle.std.proofs.Common.{◌≡◌, List, rules, subst}
use Rattle.std.specs.Prelude.{IsPermutation}
use Rattle.std.specs.List.Sorted.{IsSorted}
use Rattle.std.specs.Ordering.{is_lt}
use Rattle.std.proofs.lemmas.List.Sorted.{answers_always, ranks_by}
use Rattle.kf_column.specs.declared.entry.Entry.{Entry}
use Rattle.kf_attack.specs.Attacks.{rank}
use Rattle.kf_attack.proofs.Ranks.{rank_total, strictly_ranked}
use Rattle.kf_attack.proofs.guess_order.ranked.Goals as goal

pub returns : goal.returns
returns c =
    let column : List Entry = c.args.entries.now in
    let es : List Entry = c.sort_by.new.self.items in
    let same : c.in_ok-ranked.ranked.items ≡ column = search rules in
    let moved : IsPermutation column es = subst (λ (l : List Entry). IsPermutation l es) same c.sort_by.ensures.permutation in
    let sorted : IsSorted rank es =
    c.in_ok-sort_by.ensures.sorted (λ (a : Entry) (b : Entry). is_lt (rank a b)) (ranks_by rank_total (λ (e : Entry). e)) (answers_always _ _ _ (λ f a r g called. search rules)) in
    record { same = moved; ordered = strictly_ranked column es c.requires moved sorted }
