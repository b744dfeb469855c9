use Rattle.std.proofs.Common.{rules, ◌≡◌, ◌<◌, ℕ, pos, to_z, unwrap_or, sym, ◌∙◌, ap, subst, get_or}
use Rattle.std.specs.Prelude.{ℤ, ◌≤ℤ◌, FitsSigned}
use Rattle.std.specs.BTreeMap.{is_at}
use Rattle.std.specs.Int.{w128}
use Rattle.std.specs.Ordering.{nat_cmp}
use Rattle.std.proofs.lemmas.Int.{to_z-of_z}
use Rattle.kf_cert.specs.NamedGains.{sum_at}
use Rattle.kf_cert.proofs.GreatestSum.{greatest_from, taken, sum_bounded}
use Rattle.kf_cert.proofs.Idle.{entry_found, entry_below}
use Rattle.kf_cert.proofs.gain_rules.sums.greatest_sum.Goals as goal

pub returns-clause-reached : goal.returns-clause-reached
returns-clause-reached c =
    let sums = c.args.sums in
    let first : ℤ = c.some_sum-greatest.result in
    let fits : FitsSigned w128 first = search rules in
    let done : to_z w128 c.loop-sum.greatest-bits ≡ greatest_from first sums.entries =
    ap (greatest_from (to_z w128 c.loop-sum.greatest-bits)) (sym c.in-None.ensures.steps.0) ∙ c.loop-sum.invariant ∙ ap (λ z. greatest_from z sums.entries) (to_z-of_z w128 first fits) in
    let sorted = c.into_iter-sum-iterator.ensures.into_iter_gives.5 in
    let is_sum = λ (z : ℤ). (k : ℕ) × (k < c.args.count) × (z ≡ sum_at sums k) in
    subst is_sum (sym done)
    (taken is_sum first sums.entries c.some_sum-greatest.ensures.reached
    (λ i d inside. (
      (get_or sums.entries i d).0,
      entry_below c.args.count sums.entries sorted c.requires.below i d inside,
      ap (λ o. unwrap_or o (pos 0)) (sym (entry_found c.args.count sums.entries sorted i d inside)),
    )))

pub returns-clause-best : goal.returns-clause-best
returns-clause-best c =
    let sums = c.args.sums in
    let first : ℤ = c.some_sum-greatest.result in
    let fits : FitsSigned w128 first = search rules in
    let done : to_z w128 c.loop-sum.greatest-bits ≡ greatest_from first sums.entries =
    ap (greatest_from (to_z w128 c.loop-sum.greatest-bits)) (sym c.in-None.ensures.steps.0) ∙ c.loop-sum.invariant ∙ ap (λ z. greatest_from z sums.entries) (to_z-of_z w128 first fits) in
    λ k under.
    subst (λ (z : ℤ). sum_at sums k ≤ℤ z) (sym done) (sum_bounded (is_at (nat_cmp k)) first sums.entries (c.some_sum-greatest.ensures.idle k under))
