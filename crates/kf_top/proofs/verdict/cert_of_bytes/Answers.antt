use Rattle.std.proofs.Common.{ap, sym}
use Rattle.kf_top.proofs.verdict.cert_of_bytes.Goals as goal
use Rattle.kf_top.specs.Steps.{cert_read}

pub returns-in-Ok-clause-answer : goal.returns-in-Ok-clause-answer
returns-in-Ok-clause-answer c = ap (cert_read c.args.name.now) (sym c.in-Ok.ensures.is)
