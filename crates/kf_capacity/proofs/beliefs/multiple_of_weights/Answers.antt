use Rattle.std.proofs.Common.{All, take, subst, arith}
use Rattle.std.proofs.lemmas.List.{take_all}
use Rattle.std.proofs.lemmas.List.Elements.{All-more, All-weaker}
use Rattle.std.proofs.lemmas.Nat.Gcd.{dvd_trans}
use Rattle.std.specs.Int.{◌∣◌}
use Rattle.kf_column.specs.declared.entry.Entry.{Entry}
use Rattle.kf_capacity.proofs.beliefs.multiple_of_weights.Goals as goal

pub loop-entry-preserved : goal.loop-entry-preserved
loop-entry-preserved c =
    let none : Entry = record { value = 0; weight = 0 } in
    let es = c.args.entries.now in
    let m = c.in_ok-multiple.multiple in
    record {
      some = c.in_ok-multiple.ensures.least.positive;
      seen =
          All-more (λ e. e.weight ∣ m) es c.loop-entry.entry-index none (omega (arith, c.loop-entry-test.true))
          (All-weaker (λ e. e.weight ∣ c.loop-entry.multiple) (λ e. e.weight ∣ m) (λ e h. dvd_trans e.weight h c.in_ok-multiple.ensures.least.right)
          (take c.loop-entry.entry-index es) c.loop-entry.invariant.seen) c.in_ok-multiple.ensures.least.left;
    }

pub returns-clause-multiple : goal.returns-clause-multiple
returns-clause-multiple c =
    let es = c.args.entries.now in
    subst (All (λ e. e.weight ∣ c.loop-entry.multiple)) (take_all c.loop-entry.entry-index es (omega (arith, c.loop-entry-test.false))) c.loop-entry.invariant.seen
