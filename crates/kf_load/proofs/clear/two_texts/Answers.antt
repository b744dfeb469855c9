use Rattle.std.proofs.Common.{[], ◌∷◌, ◌∙◌}
use Rattle.std.proofs.lemmas.List.Elements.{Contains-append_left, Contains-append_right}
use Rattle.std.proofs.lemmas.Result.{err_from_is_err_and}
use Rattle.kf_load.specs.Texts.{TextOf}
use Rattle.kf_load.specs.Views.{text_of}
use Rattle.kf_load.proofs.Stepwise.{both_read, counts_moved, first_unread, more_names, second_unread}
use Rattle.kf_load.proofs.clear.two_texts.Goals as goal

pub returns-in_err-first_text-clause-answer : goal.returns-in_err-first_text-clause-answer
returns-in_err-first_text-clause-answer g c =
    let p = err_from_is_err_and c.from_residual.result c.from_residual.ensures.1 in
    rw (p.1, p.2) (first_unread _ _ _ c.args.first.now c.args.second.now TextOf c.in_err-first_text.field-0.0 c.in_err-first_text.ensures.answer)

pub returns-in_err-first-clause-answer : goal.returns-in_err-first-clause-answer
returns-in_err-first-clause-answer g c =
    let p = err_from_is_err_and c.from_residual-in_err-first.result c.from_residual-in_err-first.ensures.1 in
    let text = c.in_ok-first_text.ensures in
    rw (p.1, p.2) (second_unread _ _ _ _ _ c.args.first.now c.args.second.now TextOf text.unchanged text.counts (text_of c.args.first.now c.in_ok-first_text.first_text)
    c.in_err-first.field-0.0 text.answer (rw c.in_err-first.ensures.err at c.text_of_file-2.ensures.answer))

pub returns-clause-answer : goal.returns-clause-answer
returns-clause-answer g c =
    let first = c.in_ok-first_text.ensures in
    rw c.in_ok-first.ensures.both.0
    (both_read _ _ c.args.first.now c.args.second.now TextOf first.unchanged (text_of c.args.first.now c.in_ok-first_text.first_text) (text_of c.args.second.now c.in_ok-first.second)
    first.answer (rw c.in_ok-first.ensures.both.1 at c.text_of_file-2.ensures.answer))

pub returns-in_err-first_text-clause-counts : goal.returns-in_err-first_text-clause-counts
returns-in_err-first_text-clause-counts g c =
    let p = err_from_is_err_and c.from_residual.result c.from_residual.ensures.1 in
    rw (p.1, p.2) (more_names (c.args.first.now ∷ []) (c.args.first.now ∷ c.args.second.now ∷ []) (λ name in'. Contains-append_left (c.args.first.now ∷ []) (c.args.second.now ∷ []) name in') _ _
    c.in_err-first_text.field-0.0 c.in_err-first_text.ensures.counts)

pub returns-in_err-first-clause-counts : goal.returns-in_err-first-clause-counts
returns-in_err-first-clause-counts g c =
    let p = err_from_is_err_and c.from_residual-in_err-first.result c.from_residual-in_err-first.ensures.1 in
    rw (p.1, p.2) (counts_moved (c.args.first.now ∷ c.args.second.now ∷ []) _ _ _ c.in_err-first.field-0.0 c.in_ok-first_text.ensures.counts
    (more_names (c.args.second.now ∷ []) (c.args.first.now ∷ c.args.second.now ∷ []) (λ name in'. Contains-append_right (c.args.first.now ∷ []) (c.args.second.now ∷ []) name in') _ _
    c.in_err-first.field-0.0 (rw c.in_err-first.ensures.err at c.text_of_file-2.ensures.counts)))

pub returns-clause-counts : goal.returns-clause-counts
returns-clause-counts g c = (rw c.in_ok-first.ensures.both.1 at c.text_of_file-2.ensures.counts) ∙ c.in_ok-first_text.ensures.counts

pub returns-clause-first_proper : goal.returns-clause-first_proper
returns-clause-first_proper g c = rw c.in_ok-first.ensures.both.0 c.in_ok-first_text.ensures.proper

pub returns-clause-second_proper : goal.returns-clause-second_proper
returns-clause-second_proper g c = rw c.in_ok-first.ensures.both.1 at c.text_of_file-2.ensures.proper
