use Rattle.std.proofs.Common.{Ok, Err, ap, subst, sym}
use Rattle.std.proofs.lemmas.Result.{err_from_is_err_and}
use Rattle.kf_ast.specs.declared.decl.Source.{Source}
use Rattle.kf_load.specs.Views.{text_of}
use Rattle.kf_load.specs.declared.text.Text.{Text}
use Rattle.kf_top.specs.Steps.{FullOf}
use Rattle.kf_top.specs.Stops.{Stopped}
use Rattle.kf_top.proofs.Steps.{both_of_two, first_of_two, found_as, second_of_two}
use Rattle.kf_top.proofs.full.two_with_sources.Goals as goal

pub returns-in_err-first_text-clause-answer : goal.returns-in_err-first_text-clause-answer
returns-in_err-first_text-clause-answer c =
    let e = err_from_is_err_and c.from_residual.result c.from_residual.ensures.1 in
    let t = text_of c.args.first.now c.args.texts.first in
    let u = text_of c.args.second.now c.args.texts.second in
    rw (e.1, e.2) (first_of_two FullOf t u c.in_err-first_text.field-0.0
    (found_as _ _ c.full_text.result (Err c.in_err-first_text.field-0.0) c.in_err-first_text.ensures.err c.full_text.ensures.answer))

pub returns-in_err-second_text-clause-answer : goal.returns-in_err-second_text-clause-answer
returns-in_err-second_text-clause-answer c =
    let e = err_from_is_err_and c.from_residual-in_err-second_text.result c.from_residual-in_err-second_text.ensures.1 in
    let t = text_of c.args.first.now c.args.texts.first in
    let u = text_of c.args.second.now c.args.texts.second in
    let one = found_as _ _ c.full_text.result (Ok c.in_ok-first_text.first_text) c.in_ok-first_text.ensures.ok.0 c.full_text.ensures.answer in
    let stops = found_as _ _ c.full_text-2.result (Err c.in_err-second_text.field-0.0) c.in_err-second_text.ensures.err c.full_text-2.ensures.answer in
    let same = ap (λ (held : Text × Source). held.0) c.in_ok-first_text.ensures.ok.1 in
    rw (e.1, e.2) (second_of_two FullOf t u c.in_err-second_text.field-0.0 (text_of c.args.first.now c.in_ok-first_text.first_text) one
    (subst (λ (v : Text). Stopped c.in_err-second_text.field-0.0 (FullOf (text_of c.args.second.now v))) same stops))

pub returns-clause-answer : goal.returns-clause-answer
returns-clause-answer c =
    let t = text_of c.args.first.now c.args.texts.first in
    let u = text_of c.args.second.now c.args.texts.second in
    let first = c.args.first.now in
    let one = found_as _ _ c.full_text.result (Ok c.in_ok-first_text.first_text) c.in_ok-first_text.ensures.ok.0 c.full_text.ensures.answer in
    let two = found_as _ _ c.full_text-2.result (Ok c.in_ok-second_text.second_text) c.in_ok-second_text.ensures.ok.0 c.full_text-2.ensures.answer in
    let same = ap (λ (held : Text × Source). held.0) c.in_ok-first_text.ensures.ok.1 in
    both_of_two FullOf t u (text_of first c.in_ok-second_text.first_text) (text_of c.args.second.now c.in_ok-second_text.second_text)
    (subst (λ (v : Text). FullOf t (Ok (text_of first v))) (sym c.in_ok-second_text.ensures.ok.1) one)
    (subst (λ (v : Text). FullOf (text_of c.args.second.now v) (Ok (text_of c.args.second.now c.in_ok-second_text.second_text))) same two)
