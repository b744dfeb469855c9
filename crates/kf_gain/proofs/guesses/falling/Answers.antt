use Rattle.std.proofs.Common.{◌≡◌, ℕ, ◌+◌, ◌≤◌, false, arith, rules, get_or}
use Rattle.std.specs.Ordering.{nat_cmp, is_lt}
use Rattle.std.proofs.lemmas.Bool.Decides.{nat_tests}
use Rattle.std.proofs.lemmas.Cmp.{nat_cmp_total}
use Rattle.std.proofs.lemmas.List.Sorted.{answers_always, IsStrictWeakOrder-flip, ranks_by}
use Rattle.kf_gain.proofs.guesses.falling.Goals as goal

not_above : (m n : ℕ) → is_lt (nat_cmp m n) ≡ false → n ≤ m
not_above m n h = grind (arith, nat_tests)

pub returns-clause-falling : goal.returns-clause-falling
returns-clause-falling c =
    let flipped = IsStrictWeakOrder-flip (λ (x : ℕ) (y : ℕ). is_lt (nat_cmp x y)) (ranks_by nat_cmp_total (λ (x : ℕ). x)) in
    let sorted = c.in_ok-sort_by.ensures.sorted (λ x y. is_lt (nat_cmp y x)) flipped (answers_always _ _ _ (λ f a r g called. search rules)) in
    λ k within. not_above (get_or c.sort_by.new.self.items k 0) (get_or c.sort_by.new.self.items (k + 1) 0) (sorted k 0 (omega arith) within)
