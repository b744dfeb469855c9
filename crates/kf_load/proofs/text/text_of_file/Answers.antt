use Rattle.std.proofs.Common.{[], ◌∷◌}
use Rattle.std.proofs.lemmas.Result.{err_from_is_err_and}
use Rattle.kf_load.proofs.Stepwise.{file_next, file_stops, counts_next}
use Rattle.kf_load.specs.Steps.{Gives}
use Rattle.kf_load.specs.Texts.{TypedOf, source_of}
use Rattle.kf_load.specs.Views.{text_of}
use Rattle.kf_load.proofs.text.text_of_file.Goals as goal

pub returns-in_err-bytes-clause-answer : goal.returns-in_err-bytes-clause-answer
returns-in_err-bytes-clause-answer g c =
    let p = err_from_is_err_and c.from_residual.result c.from_residual.ensures.1 in
    rw (p.1, p.2) (file_stops _ _ _ c.args.name.now (λ file. Gives (source_of file)) (λ file bytes. TypedOf file.name bytes) c.in_err-bytes.field-0.0 c.in_err-bytes.ensures.answer)

pub returns-clause-answer : goal.returns-clause-answer
returns-clause-answer g c =
    file_next _ _ _ c.args.name.now (λ file. Gives (source_of file)) (λ file bytes. TypedOf file.name bytes) (text_of c.args.name.now) c.in_ok-bytes.bytes.items c.text_of_bytes.result
    c.in_ok-bytes.ensures.answer (λ bytes. c.text_of_bytes.ensures.answer)

pub returns-in_err-bytes-clause-counts : goal.returns-in_err-bytes-clause-counts
returns-in_err-bytes-clause-counts g c =
    let p = err_from_is_err_and c.from_residual.result c.from_residual.ensures.1 in
    rw (p.1, p.2) c.in_err-bytes.ensures.counts

pub returns-clause-counts : goal.returns-clause-counts
returns-clause-counts g c = counts_next (c.args.name.now ∷ []) _ _ c.text_of_bytes.result c.in_ok-bytes.ensures.counts c.text_of_bytes.ensures.read
