use Rattle.std.proofs.Common.{[], ◌∷◌, ◌++◌, Ok, Err, Result, Some}
use Rattle.std.proofs.lemmas.List.Elements.{Contains-append_left, Contains-append_right}
use Rattle.kf_load.specs.Steps.{After, Each, Gives}
use Rattle.kf_load.specs.Stops.{file_as}
use Rattle.kf_load.specs.Texts.{TextOf, cleared}
use Rattle.kf_load.specs.Views.{programs_in}
use Rattle.kf_support.specs.Cleared.{turns_of}
use Rattle.kf_top.specs.Views.{command_on_two}
use Rattle.kf_top.proofs.Commands.{cleared_two, on_two_programs, stops_two, turned, two_answer, two_stop}
use Rattle.kf_top.proofs.Readings.{counts_from, files_from, lift_counts, more_names, stop_counts_as}
use Rattle.kf_top.specs.Stops.{lifted}
use Rattle.kf_top.specs.declared.refusal.Done.{Done}
use Rattle.kf_top.specs.declared.refusal.Stop.{Stop}
use Rattle.kf_words.specs.Task.{tables_of}
use Rattle.kf_top.proofs.about.about_two.Goals as goal

pub returns-in-Ok-clause-answer : goal.returns-in-Ok-clause-answer
returns-in-Ok-clause-answer g c =
    let pair = c.in-Ok.pair in
    let h = c.in-Ok.ensures.answer in
    let command = command_on_two c.args.question in
    two_answer _ _ _ command c.args.turns (on_two_programs c.args.question c.args.turns) c.args.first.now c.args.second.now c.as_str.result.now c.as_str-2.result.now c.as_str.ensures c.as_str-2.ensures
    (programs_in pair) c.answer_two-answer.result h.0 h.1 h.2 h.3 (cleared_two c.args.question c.args.turns
    (file_as c.as_str.result.now (Some h.0) ∷ file_as c.as_str-2.result.now (Some h.1) ∷ []) (Ok (programs_in pair)) h.4)
    (turned _ _ _ command (turns_of pair.first) c.args.turns c.in-Ok.ensures.first_turns (programs_in pair) c.answer_two-answer.result
    (files_from _ _ _ _ _ c.in-Ok.ensures.unchanged c.in-Ok.ensures.counts _ _ c.answer_two-answer.result _ c.answer_two-answer.ensures.answer))

pub returns-in-Ok-clause-counts : goal.returns-in-Ok-clause-counts
returns-in-Ok-clause-counts g c =
    let command = command_on_two c.args.question in
    let names = c.args.first.now ∷ c.args.second.now ∷ [] in
    counts_from (names ++ tables_of command) _ _ _ c.answer_two-answer.result c.in-Ok.ensures.counts
    (more_names (tables_of command) (names ++ tables_of command) (Contains-append_right names (tables_of command)) _ _ c.answer_two-answer.result c.answer_two-answer.ensures.counts)

pub returns-in-Err-clause-answer : goal.returns-in-Err-clause-answer
returns-in-Err-clause-answer g c =
    rw c.lift.ensures (two_stop _ _ _ (command_on_two c.args.question) c.args.turns (on_two_programs c.args.question c.args.turns) c.args.first.now c.args.second.now c.as_str.result.now c.as_str-2.result.now
    c.as_str.ensures c.as_str-2.ensures c.in-Err.stop (λ files. After (Each TextOf files) (Each (λ t. Gives (cleared c.args.turns t))))
    (stops_two c.args.question c.args.turns c.in-Err.stop) c.in-Err.ensures.answer)

pub returns-in-Err-clause-counts : goal.returns-in-Err-clause-counts
returns-in-Err-clause-counts g c =
    let command = command_on_two c.args.question in
    let names = c.args.first.now ∷ c.args.second.now ∷ [] in
    let same = c.as_str.ensures in
    let same_too = c.as_str-2.ensures in
    let failed : Result Done Stop = Err (lifted c.in-Err.stop) in
    rw c.lift.ensures (more_names names (names ++ tables_of command) (Contains-append_left names (tables_of command)) _ _ failed
    (stop_counts_as _ _ names (c.as_str.result.now ∷ c.as_str-2.result.now ∷ []) (λ i. same i ∷ same_too i ∷ []) (lifted c.in-Err.stop) (lift_counts (c.as_str.result.now ∷ c.as_str-2.result.now ∷ []) _ _ c.in-Err.stop c.in-Err.ensures.counts)))
