use Rattle.std.proofs.Common.{ℕ, List, [], ◌∷◌, Err, ap, Result}
use Rattle.std.proofs.lemmas.List.Elements.{Contains-append_left, Contains-append_right}
use Rattle.kf_load.specs.Views.{program_in}
use Rattle.kf_support.specs.Cleared.{turns_of}
use Rattle.kf_top.proofs.Commands.{one_answers, one_stops}
use Rattle.kf_top.proofs.Readings.{counts_from, files_from, lift_counts, more_names, stop_counts_as}
use Rattle.kf_top.specs.Stops.{lifted}
use Rattle.kf_top.specs.Views.{command_of}
use Rattle.kf_top.specs.declared.refusal.Done.{Done}
use Rattle.kf_top.specs.declared.refusal.Stop.{Stop}
use Rattle.kf_words.specs.Task.{tables_of}
use Rattle.kf_top.proofs.about.about_one.Goals as goal

pub returns-in-Ok-clause-answer : goal.returns-in-Ok-clause-answer
returns-in-Ok-clause-answer g c =
    let cleared = c.in-Ok.cleared in
    one_answers _ _ _ c.args.question c.args.turns c.args.name.now c.as_str.result.now c.as_str.ensures c.least_of-least.result c.least_of-least.ensures
    (turns_of cleared) c.in-Ok.ensures.turns (program_in cleared) c.answer_one-answer.result c.in-Ok.ensures.answer
    (files_from _ _ _ _ _ c.in-Ok.ensures.unchanged c.in-Ok.ensures.counts _ _ c.answer_one-answer.result _ c.answer_one-answer.ensures.answer)

pub returns-in-Ok-clause-counts : goal.returns-in-Ok-clause-counts
returns-in-Ok-clause-counts g c =
    let command = command_of c.args.question in
    counts_from (c.args.name.now ∷ tables_of command) _ _ _ c.answer_one-answer.result c.in-Ok.ensures.counts
    (more_names (tables_of command) (c.args.name.now ∷ tables_of command) (Contains-append_right (c.args.name.now ∷ []) (tables_of command)) _ _ c.answer_one-answer.result c.answer_one-answer.ensures.counts)

pub returns-in-Err-clause-answer : goal.returns-in-Err-clause-answer
returns-in-Err-clause-answer g c =
    rw c.lift.ensures (one_stops _ _ _ c.args.question c.args.turns c.args.name.now c.as_str.result.now c.as_str.ensures c.least_of-least.result c.least_of-least.ensures
    c.in-Err.stop c.in-Err.ensures.answer)

pub returns-in-Err-clause-counts : goal.returns-in-Err-clause-counts
returns-in-Err-clause-counts g c =
    let name = c.args.name.now in
    let command = command_of c.args.question in
    let failed : Result Done Stop = Err (lifted c.in-Err.stop) in
    rw c.lift.ensures (more_names (name ∷ []) (name ∷ tables_of command) (Contains-append_left (name ∷ []) (tables_of command)) _ _ failed
    (stop_counts_as _ _ (name ∷ []) (c.as_str.result.now ∷ []) (ap (λ (n : List ℕ). n ∷ []) c.as_str.ensures) (lifted c.in-Err.stop) (lift_counts (c.as_str.result.now ∷ []) _ _ c.in-Err.stop c.in-Err.ensures.counts)))
