use Rattle.std.proofs.Common.{Err, ap}
use Rattle.kf_load.specs.Views.{text_of}
use Rattle.kf_top.proofs.FullTexts.{has_few, has_many}
use Rattle.kf_top.proofs.full.full_of.Goals as goal

pub returns-in-Ok-clause-answer : goal.returns-in-Ok-clause-answer
returns-in-Ok-clause-answer c = has_few (text_of c.args.name.now c.args.text.now) c.in-Ok.ensures.few

pub returns-in-Err-Stores-clause-answer : goal.returns-in-Err-Stores-clause-answer
returns-in-Err-Stores-clause-answer c =
    let count = c.in-Err-Stores.count in
    let is = c.in-Err-Stores.ensures.stores count (ap Err c.in-Err-Stores.field-0-is) in
    has_many (text_of c.args.name.now c.args.text.now) count is.0 is.1
