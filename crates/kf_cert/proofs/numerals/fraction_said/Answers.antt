use Rattle.std.proofs.Common.{sym, ◌∙◌, ◌≤◌, subst}
use Rattle.kf_cert.proofs.Digits.{positive}
use Rattle.kf_cert.proofs.numerals.fraction_said.Goals as goal

pub lowest-requires-clause-some : goal.lowest-requires-clause-some
lowest-requires-clause-some c = subst (λ n. 1 ≤ n) (sym c.in_ok-den.ensures.value) (positive c.args.text.now (sym c.is_fraction_text.ensures ∙ c.if-not-is_fraction_text.false))
