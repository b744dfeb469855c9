use Rattle.std.proofs.Common.{rules}
use Rattle.kf_json.proofs.Viewing.{json_read, json_refused}
use Rattle.kf_json.proofs.parser.parse.Goals as goal

pub returns-in-Ok-clause-ok : goal.returns-in-Ok-clause-ok
returns-in-Ok-clause-ok c = json_read _ _ c.in-Ok.ensures.ok.0 c.in-Ok.ensures.ok.1

pub returns-in_default : goal.returns-in_default
returns-in_default c = record { ok = tt; err = λ other. json_refused _ (c.in-Err.ensures.err (λ memory. c.in_default.not-Memory (search rules))) }
