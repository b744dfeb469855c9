use Rattle.std.proofs.Common.{ℕ, List, [], ◌∷◌, Err, Result, ap}
use Rattle.std.proofs.lemmas.List.Elements.{Contains-append_left, Contains-append_right}
use Rattle.kf_load.specs.Views.{text_of}
use Rattle.kf_top.proofs.LineAnswers.{text_answers, text_stops}
use Rattle.kf_top.proofs.Readings.{counts_as, counts_from, files_from, lines_tables, lift_counts, more_names, stop_counts_as}
use Rattle.kf_top.specs.Stops.{lifted}
use Rattle.kf_top.specs.TaskAnswers.{names_in}
use Rattle.kf_top.specs.declared.refusal.Done.{Done}
use Rattle.kf_top.specs.declared.refusal.Stop.{Stop}
use Rattle.kf_words.specs.Jobs.{gain_of}
use Rattle.kf_words.specs.Task.{Lines, tables_of}
use Rattle.kf_top.proofs.lines.lines.Goals as goal

pub returns-in-Ok-clause-answer : goal.returns-in-Ok-clause-answer
returns-in-Ok-clause-answer g c =
    let read = c.as_str-name.result.now in
    text_answers _ _ _ (gain_of c.args.word.now) c.args.turns c.args.file.now read c.as_str-name.ensures (text_of read c.in-Ok.text) c.text_lines.result c.in-Ok.ensures.answer
    (files_from _ _ _ _ _ c.in-Ok.ensures.unchanged c.in-Ok.ensures.counts _ _ c.text_lines.result _ c.text_lines.ensures.answer)

pub returns-in-Ok-clause-counts : goal.returns-in-Ok-clause-counts
returns-in-Ok-clause-counts g c =
    let name = c.args.file.now in
    let gain = gain_of c.args.word.now in
    let tables = tables_of (Lines gain) in
    counts_from (name ∷ tables) _ _ _ c.text_lines.result c.in-Ok.ensures.counts
    (more_names tables (name ∷ tables) (Contains-append_right (name ∷ []) tables) _ _ c.text_lines.result
    (counts_as _ _ tables (names_in gain) (lines_tables gain) c.text_lines.result c.text_lines.ensures.counts))

pub returns-in-Err-clause-answer : goal.returns-in-Err-clause-answer
returns-in-Err-clause-answer g c =
    rw c.lift.ensures (text_stops _ _ _ (gain_of c.args.word.now) c.args.turns c.args.file.now c.as_str-name.result.now c.as_str-name.ensures c.in-Err.stop c.in-Err.ensures.answer)

pub returns-in-Err-clause-counts : goal.returns-in-Err-clause-counts
returns-in-Err-clause-counts g c =
    let name = c.args.file.now in
    let tables = tables_of (Lines (gain_of c.args.word.now)) in
    let failed : Result Done Stop = Err (lifted c.in-Err.stop) in
    rw c.lift.ensures (more_names (name ∷ []) (name ∷ tables) (Contains-append_left (name ∷ []) tables) _ _ failed
    (stop_counts_as _ _ (name ∷ []) (c.as_str-name.result.now ∷ []) (ap (λ (n : List ℕ). n ∷ []) c.as_str-name.ensures) (lifted c.in-Err.stop)
    (lift_counts (c.as_str-name.result.now ∷ []) _ _ c.in-Err.stop c.in-Err.ensures.counts)))
