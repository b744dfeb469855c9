use Rattle.std.proofs.Common.{◌∙◌, ◌^◌, ap, arith, unwrap_or}
use Rattle.kf_hyper.proofs.Summing.{before_fits, gains, stays_positive}
use Rattle.kf_cert.proofs.matrix_rules.weights.add.Goals as goal

pub overflow_add-before : goal.overflow_add-before
overflow_add-before c =
    let before = c.unwrap_or-before.ensures ∙ ap (λ o. unwrap_or o 0) (c.copied.ensures ∙ c.get.ensures.value) in
    omega (arith, before, before_fits c.args.value c.args.weight (2 ^ 128) c.args.sums.now.entries c.requires.fits)

pub returns-clause-gains : goal.returns-clause-gains
returns-clause-gains c =
    let before = c.unwrap_or-before.ensures ∙ ap (λ o. unwrap_or o 0) (c.copied.ensures ∙ c.get.ensures.value) in
    rw (c.in_ok-insert.ensures.entries, before) (gains c.args.value c.args.weight c.args.sums.now.entries c.in_ok-insert.ensures.was_ordered)

pub returns-clause-positive : goal.returns-clause-positive
returns-clause-positive c =
    let before = c.unwrap_or-before.ensures ∙ ap (λ o. unwrap_or o 0) (c.copied.ensures ∙ c.get.ensures.value) in
    rw (c.in_ok-insert.ensures.entries, before) (stays_positive c.args.value c.args.weight c.args.sums.now.entries c.in_ok-insert.ensures.was_ordered c.requires.some)
