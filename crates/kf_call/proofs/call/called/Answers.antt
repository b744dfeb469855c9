use Rattle.std.proofs.Common.{ℕ, List, map, string_bytes, rules, sym, ◌∙◌, ap, subst}
use Rattle.kf_io.specs.declared.lists.FileEntry.{FileEntry}
use Rattle.kf_call.specs.Calls.{files_in, words_in}
use Rattle.kf_call.specs.Runs.{HasRun}
use Rattle.kf_call.proofs.Running.{answers}
use Rattle.kf_call.proofs.call.called.Goals as goal
use Rattle.kf_call.proofs.call.called.Goals.{else-answer-eq-READ_FAILED-via-then-answer-eq-READ_FAILED+else-not-is_of_missing, else-answer-eq-READ_FAILED-via-else-answer-eq-READ_FAILED}

pub returns-clause-answers : goal.returns-clause-answers
returns-clause-answers g c =
    let a = c.in_ok-answer.answer in
    let words = words_in c.args.bytes.now c.args.words.now in
    let files = files_in c.args.bytes.now c.args.files.now in
    let run : HasRun words files g.missing a.out.bytes a.err.bytes a.status =
    subst (λ (ws : List (List ℕ)). HasRun ws files g.missing a.out.bytes a.err.bytes a.status)
    (ap (λ ts. map string_bytes ts) c.deref.ensures.value ∙ c.in_ok-texts.ensures)
    (subst (λ (fs : List FileEntry). HasRun (map string_bytes c.deref.result.now) fs g.missing a.out.bytes a.err.bytes a.status)
    c.in_ok-files_of.ensures c.in_ok-answer.ensures.run) in
    answers words files g.missing a.out.bytes a.err.bytes a.status run c.in_ok-answer.ensures.memory (λ three.
    elim c.else-answer-eq-READ_FAILED.branch [
      | else-answer-eq-READ_FAILED-via-then-answer-eq-READ_FAILED+else-not-is_of_missing w ↦
          let told = w.is_of_missing.ensures (search rules) in (told.0, sym w.bytes.ensures ∙ told.1, told.2)
      | else-answer-eq-READ_FAILED-via-else-answer-eq-READ_FAILED w ↦ search rules
    ])
