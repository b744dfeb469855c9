use Rattle.std.proofs.Common.{refl, sym, ◌∙◌, true≢false}
use Rattle.kf_cert.specs.Rows.{IsWithin}
use Rattle.kf_cert.specs.Views.{entry_tree}
use Rattle.kf_cert.proofs.Each.{all_seen, seen_here}
use Rattle.kf_cert.proofs.matrix_rules.are_within.Goals as goal

pub returns-then-not-is_within : goal.returns-then-not-is_within
returns-then-not-is_within c = (
  λ yes. absurd (true≢false (sym yes)),
  λ all.
      absurd (true≢false (sym (c.is_within.ensures.1 (seen_here entry_tree (λ e. IsWithin e.value) c.args.entries.now c.loop-entry.entry-index c.entry-item.result c.loop-entry-test.true c.entry-item.is all)) ∙ c.if-not-is_within.true)),
)

pub returns : goal.returns
returns c = (λ yes. all_seen entry_tree (λ e. IsWithin e.value) c.args.entries.now c.loop-entry.entry-index c.loop-entry-test.false c.loop-entry.invariant, λ all. refl)
