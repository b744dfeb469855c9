use Rattle.std.proofs.Common.{refl, sym, ◌∙◌, ap, ◌++◌, append_assoc, append-nil}
use Rattle.kf_hyper.specs.Sums.{summed}
use Rattle.kf_hyper.proofs.Summing.{summed_column}
use Rattle.kf_hyper.proofs.sums.column_of.Goals as goal

pub loop-value-init : goal.loop-value-init
loop-value-init c = rw (c.new-entries.ensures.items, c.into_iter-value-iterator.ensures.into_iter_gives.0) refl

pub loop-value-preserved : goal.loop-value-preserved
loop-value-preserved c =
    ap (λ l. l ++ summed c.next.new.self) c.in_ok-push.ensures.items ∙ append_assoc c.loop-value.entries.items _ (summed c.next.new.self)
    ∙ ap (λ es. c.loop-value.entries.items ++ summed es) (sym c.in-Some.ensures.steps) ∙ c.loop-value.invariant

pub new-requires-2 : goal.new-requires-2
new-requires-2 c =
    let all = sym (append-nil c.loop-value.entries.items) ∙ ap (λ es. c.loop-value.entries.items ++ summed es) (sym c.in-None.ensures.steps.0) ∙ c.loop-value.invariant in
    rw (c.new.ensures, all) (summed_column c.args.sums.entries c.into_iter-value-iterator.ensures.into_iter_gives.5 c.requires.positive c.requires.some)

pub returns : goal.returns
returns c =
    let all = sym (append-nil c.loop-value.entries.items) ∙ ap (λ es. c.loop-value.entries.items ++ summed es) (sym c.in-None.ensures.steps.0) ∙ c.loop-value.invariant in
    c.new-2.ensures ∙ c.new.ensures ∙ all
