use Rattle.std.proofs.Common.{[], ℕ, subst}
use Rattle.std.proofs.lemmas.Result.{err_from_is_err_and}
use Rattle.kf_load.specs.Views.{programs_in, texts_in}
use Rattle.kf_top.specs.Answer.{CommandOutcome}
use Rattle.kf_top.specs.Outcome.{ReadyOf}
use Rattle.kf_top.specs.Stops.{Answers}
use Rattle.kf_top.specs.Views.{shown}
use Rattle.kf_words.specs.Task.{Covers}
use Rattle.kf_top.proofs.Steps.{first_stops, next_answers}
use Rattle.kf_top.proofs.covers.texts_covers.Goals as goal

pub returns-in_err-pair-clause-answer : goal.returns-in_err-pair-clause-answer
returns-in_err-pair-clause-answer c =
    let e = err_from_is_err_and c.from_residual.result c.from_residual.ensures.1 in
    let ts = texts_in c.args.first.now c.args.second.now c.args.texts in
    rw (e.1, e.2) (first_stops (ReadyOf Covers c.args.turns ts) (CommandOutcome Covers c.args.turns []) c.in_err-pair.field-0.0 c.in_err-pair.ensures.answer)

pub returns-clause-answer : goal.returns-clause-answer
returns-clause-answer c =
    let ts = texts_in c.args.first.now c.args.second.now c.args.texts in
    let ps = programs_in c.in_ok-pair.pair in
    next_answers shown (ReadyOf Covers c.args.turns ts) (CommandOutcome Covers c.args.turns []) c.full_covers-done.result ps c.in_ok-pair.ensures.answer
    (subst (λ (n : ℕ). Answers shown c.full_covers-done.result (CommandOutcome Covers n [] ps)) c.in_ok-pair.ensures.first_turns c.full_covers-done.ensures.answer)
