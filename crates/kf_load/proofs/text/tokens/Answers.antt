use Rattle.std.proofs.Common.{ap, codes}
use Rattle.kf_load.specs.Texts.{token_fault}
use Rattle.kf_load.specs.Refusals.{fault}
use Rattle.kf_load.proofs.Faults.{bad_tokens}
use Rattle.kf_load.proofs.text.tokens.Goals as goal

pub returns-in-Err-Utf8-clause-answer : goal.returns-in-Err-Utf8-clause-answer
returns-in-Err-Utf8-clause-answer c =
    rw c.bad_text.ensures (bad_tokens c.args.name.now c.args.bytes.now c.in-Err-Utf8.field-0 (fault (codes "Utf8") c.in-Err-Utf8.at) (ap token_fault c.in-Err-Utf8.field-0-is) c.in-Err-Utf8.ensures.fault)

pub returns-in-Err-Char-clause-answer : goal.returns-in-Err-Char-clause-answer
returns-in-Err-Char-clause-answer c =
    rw c.bad_text-in-Err-Char.ensures (bad_tokens c.args.name.now c.args.bytes.now c.in-Err-Char.field-0 (fault (codes "Char") c.in-Err-Char.at) (ap token_fault c.in-Err-Char.field-0-is) c.in-Err-Char.ensures.fault)

pub returns-in-Err-Number-clause-answer : goal.returns-in-Err-Number-clause-answer
returns-in-Err-Number-clause-answer c =
    rw c.bad_text-in-Err-Number.ensures (bad_tokens c.args.name.now c.args.bytes.now c.in-Err-Number.field-0 (fault (codes "Number") c.in-Err-Number.at) (ap token_fault c.in-Err-Number.field-0-is) c.in-Err-Number.ensures.fault)
