use Rattle.std.proofs.Common.{refl, sym, ◌∙◌, ap, ◌++◌, append_assoc, append-nil}
use Rattle.kf_hyper.specs.Sums.{summed}
use Rattle.kf_cert.proofs.Carrying.{summed_ascending}
use Rattle.kf_cert.proofs.matrix_rules.weights.entries_of.Goals as goal

pub loop-value-init : goal.loop-value-init
loop-value-init c = rw (c.new-entries.ensures.items, c.into_iter-value-iterator.ensures.into_iter_gives.0) refl

pub loop-value-preserved : goal.loop-value-preserved
loop-value-preserved c =
    ap (λ l. l ++ summed c.next.new.self) c.in_ok-push.ensures.items ∙ append_assoc c.loop-value.entries.items _ (summed c.next.new.self)
    ∙ ap (λ es. c.loop-value.entries.items ++ summed es) (sym c.in-Some.ensures.steps) ∙ c.loop-value.invariant

pub returns-clause-kept : goal.returns-clause-kept
returns-clause-kept c = sym (append-nil c.loop-value.entries.items) ∙ ap (λ es. c.loop-value.entries.items ++ summed es) (sym c.in-None.ensures.steps.0) ∙ c.loop-value.invariant

pub returns-clause-ascending : goal.returns-clause-ascending
returns-clause-ascending c =
    let all = sym (append-nil c.loop-value.entries.items) ∙ ap (λ es. c.loop-value.entries.items ++ summed es) (sym c.in-None.ensures.steps.0) ∙ c.loop-value.invariant in
    rw all (summed_ascending c.args.sums.entries c.into_iter-value-iterator.ensures.into_iter_gives.5 c.requires)
