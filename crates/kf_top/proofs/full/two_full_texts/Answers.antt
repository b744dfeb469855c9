use Rattle.std.proofs.Common.{Ok, Err, subst}
use Rattle.std.proofs.lemmas.Result.{err_from_is_err_and}
use Rattle.kf_load.specs.Steps.{Each, Gives}
use Rattle.kf_load.specs.Views.{texts_in}
use Rattle.kf_load.specs.declared.clear.Texts.{Texts}
use Rattle.kf_top.specs.Outcome.{few_stores}
use Rattle.kf_top.specs.Steps.{FullOf}
use Rattle.kf_top.specs.Stops.{Answers}
use Rattle.kf_top.proofs.Steps.{first_stops, found_as, next_answers}
use Rattle.kf_top.proofs.full.two_full_texts.Goals as goal

pub returns-in_err-sources-clause-answer : goal.returns-in_err-sources-clause-answer
returns-in_err-sources-clause-answer c =
    let e = err_from_is_err_and c.from_residual.result c.from_residual.ensures.1 in
    let ts = texts_in c.args.first.now c.args.second.now c.args.texts in
    rw (e.1, e.2) (first_stops (Each (λ t. Gives (few_stores t)) ts) (Each FullOf) c.in_err-sources.field-0.0
    (found_as _ _ c.two_full_sources.result (Err c.in_err-sources.field-0.0) c.in_err-sources.ensures.err c.two_full_sources.ensures.answer))

pub returns-clause-answer : goal.returns-clause-answer
returns-clause-answer c =
    let texts = texts_in c.args.first.now c.args.second.now in
    let ts = texts c.args.texts in
    let full = subst (λ (t : Texts). Answers texts c.two_with_sources.result (Each FullOf (texts t))) c.in_ok-sources.ensures.ok.1 c.two_with_sources.ensures.answer in
    next_answers texts (Each (λ t. Gives (few_stores t)) ts) (Each FullOf) c.two_with_sources.result ts
    (found_as _ _ c.two_full_sources.result (Ok c.in_ok-sources.sources) c.in_ok-sources.ensures.ok.0 c.two_full_sources.ensures.answer) full
