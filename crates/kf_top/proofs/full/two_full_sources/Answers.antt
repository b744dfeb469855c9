use Rattle.std.proofs.lemmas.Result.{err_from_is_err_and}
use Rattle.kf_load.specs.Steps.{Gives}
use Rattle.kf_load.specs.Views.{text_of}
use Rattle.kf_top.specs.Outcome.{few_stores}
use Rattle.kf_top.proofs.Steps.{both_of_two, first_of_two, second_of_two}
use Rattle.kf_top.proofs.full.two_full_sources.Goals as goal

pub returns-in_err-first_source-clause-answer : goal.returns-in_err-first_source-clause-answer
returns-in_err-first_source-clause-answer c =
    let e = err_from_is_err_and c.from_residual.result c.from_residual.ensures.1 in
    let t = text_of c.args.first.now c.args.texts.now.first in
    let u = text_of c.args.second.now c.args.texts.now.second in
    rw (e.1, e.2) (first_of_two (λ v. Gives (few_stores v)) t u c.in_err-first_source.field-0.0 c.in_err-first_source.ensures.answer)

pub returns-in_err-second_source-clause-answer : goal.returns-in_err-second_source-clause-answer
returns-in_err-second_source-clause-answer c =
    let e = err_from_is_err_and c.from_residual-in_err-second_source.result c.from_residual-in_err-second_source.ensures.1 in
    let t = text_of c.args.first.now c.args.texts.now.first in
    let u = text_of c.args.second.now c.args.texts.now.second in
    rw (e.1, e.2) (second_of_two (λ v. Gives (few_stores v)) t u c.in_err-second_source.field-0.0 t c.in_ok-first_source.ensures.answer c.in_err-second_source.ensures.answer)

pub returns-clause-answer : goal.returns-clause-answer
returns-clause-answer c =
    let t = text_of c.args.first.now c.args.texts.now.first in
    let u = text_of c.args.second.now c.args.texts.now.second in
    both_of_two (λ v. Gives (few_stores v)) t u t u c.in_ok-first_source.ensures.answer c.in_ok-second_source.ensures.answer

pub returns-clause-first_full : goal.returns-clause-first_full
returns-clause-first_full c = c.in_ok-first_source.ensures.full

pub returns-clause-second_full : goal.returns-clause-second_full
returns-clause-second_full c = c.in_ok-second_source.ensures.full

pub returns-clause-first_built : goal.returns-clause-first_built
returns-clause-first_built c = c.in_ok-first_source.ensures.built

pub returns-clause-second_built : goal.returns-clause-second_built
returns-clause-second_built c = c.in_ok-second_source.ensures.built
