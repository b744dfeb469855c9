use Rattle.kf_cert.proofs.Digits.{too_many}
use Rattle.kf_cert.proofs.numerals.size_said.Goals as goal

pub returns-in_default-2-clause-some : goal.returns-in_default-2-clause-some
returns-in_default-2-clause-some c = too_many c.args.digits.now c.in_default.field-0 c.requires c.in_default.ensures.value.0
