use Rattle.std.proofs.Common.{ap, codes}
use Rattle.kf_load.specs.Texts.{syntax_fault}
use Rattle.kf_load.specs.Refusals.{fault}
use Rattle.kf_load.proofs.Faults.{bad_source}
use Rattle.kf_load.proofs.text.tree.Goals as goal

pub returns-in-Err-Deep-clause-answer : goal.returns-in-Err-Deep-clause-answer
returns-in-Err-Deep-clause-answer c =
    rw c.bad_text.ensures (bad_source c.args.name.now c.args.bytes.now c.args.tokens.now c.in-Err-Deep.field-0 (fault (codes "Deep") c.in-Err-Deep.at) (ap syntax_fault c.in-Err-Deep.field-0-is) c.in-Err-Deep.ensures.refused)

pub returns-in-Err-Syntax-clause-answer : goal.returns-in-Err-Syntax-clause-answer
returns-in-Err-Syntax-clause-answer c =
    rw c.bad_text-in-Err-Syntax.ensures (bad_source c.args.name.now c.args.bytes.now c.args.tokens.now c.in-Err-Syntax.field-0 (fault (codes "Syntax") c.in-Err-Syntax.at) (ap syntax_fault c.in-Err-Syntax.field-0-is) c.in-Err-Syntax.ensures.refused)

pub returns-in-Err-Long-clause-answer : goal.returns-in-Err-Long-clause-answer
returns-in-Err-Long-clause-answer c =
    rw c.bad_text-in-Err-Long.ensures (bad_source c.args.name.now c.args.bytes.now c.args.tokens.now c.in-Err-Long.field-0 (fault (codes "Long") c.in-Err-Long.at) (ap syntax_fault c.in-Err-Long.field-0-is) c.in-Err-Long.ensures.refused)
