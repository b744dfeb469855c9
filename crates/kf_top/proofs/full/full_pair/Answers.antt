use Rattle.std.proofs.lemmas.Result.{err_from_is_err_and}
use Rattle.kf_load.specs.Steps.{Each, Gives}
use Rattle.kf_load.specs.Texts.{cleared}
use Rattle.kf_load.specs.Views.{programs_in, texts_in}
use Rattle.kf_top.proofs.Steps.{first_stops, next_answers}
use Rattle.kf_top.proofs.full.full_pair.Goals as goal
use Rattle.kf_top.specs.Steps.{FullTexts}

pub returns-in_err-full-clause-answer : goal.returns-in_err-full-clause-answer
returns-in_err-full-clause-answer c =
    let e = err_from_is_err_and c.from_residual.result c.from_residual.ensures.1 in
    let ts = texts_in c.args.first.now c.args.second.now c.args.texts in
    rw (e.1, e.2) (first_stops (FullTexts ts) (Each (λ t. Gives (cleared c.args.turns t))) c.in_err-full.field-0.0 c.in_err-full.ensures.answer)

pub returns-clause-answer : goal.returns-clause-answer
returns-clause-answer c =
    let ts = texts_in c.args.first.now c.args.second.now c.args.texts in
    let full = texts_in c.args.first.now c.args.second.now c.in_ok-full.full in
    next_answers programs_in (FullTexts ts) (Each (λ t. Gives (cleared c.args.turns t))) c.two_cleared.result full c.in_ok-full.ensures.answer c.two_cleared.ensures.answer

pub two_cleared-requires-clause-first : goal.two_cleared-requires-clause-first
two_cleared-requires-clause-first c = c.in_ok-full.ensures.first_proper

pub two_cleared-requires-clause-second : goal.two_cleared-requires-clause-second
two_cleared-requires-clause-second c = c.in_ok-full.ensures.second_proper

pub two_cleared-requires-clause-first_full : goal.two_cleared-requires-clause-first_full
two_cleared-requires-clause-first_full c = c.in_ok-full.ensures.first_full

pub two_cleared-requires-clause-second_full : goal.two_cleared-requires-clause-second_full
two_cleared-requires-clause-second_full c = c.in_ok-full.ensures.second_full

pub returns-clause-first_full : goal.returns-clause-first_full
returns-clause-first_full c = c.two_cleared.ensures.first_full

pub returns-clause-second_full : goal.returns-clause-second_full
returns-clause-second_full c = c.two_cleared.ensures.second_full

pub returns-clause-first_turns : goal.returns-clause-first_turns
returns-clause-first_turns c = c.two_cleared.ensures.first_turns

pub returns-clause-second_turns : goal.returns-clause-second_turns
returns-clause-second_turns c = c.two_cleared.ensures.second_turns
