use Rattle.std.proofs.lemmas.Result.{err_from_is_err_and}
use Rattle.kf_load.specs.Steps.{Gives}
use Rattle.kf_load.specs.Texts.{cleared}
use Rattle.kf_load.specs.Refusals.{long_enough}
use Rattle.kf_load.specs.Views.{program_in, text_of}
use Rattle.kf_load.proofs.Stepwise.{first_stops, next_answers}
use Rattle.kf_load.proofs.clear.long_cleared.Goals as goal

pub returns-in_err-cleared-clause-answer : goal.returns-in_err-cleared-clause-answer
returns-in_err-cleared-clause-answer c =
    let p = err_from_is_err_and c.from_residual.result c.from_residual.ensures.1 in
    let t = text_of c.args.name.now c.args.text in
    rw (p.1, p.2) (first_stops (Gives (cleared c.args.turns t)) (λ q. Gives (long_enough c.args.name.now c.args.least q)) c.in_err-cleared.field-0.0 c.in_err-cleared.ensures.answer)

pub returns-clause-answer : goal.returns-clause-answer
returns-clause-answer c =
    let t = text_of c.args.name.now c.args.text in
    next_answers program_in (Gives (cleared c.args.turns t)) (λ q. Gives (long_enough c.args.name.now c.args.least q)) c.long_enough.result (program_in c.in_ok-cleared.cleared)
    c.in_ok-cleared.ensures.answer c.long_enough.ensures.answer
