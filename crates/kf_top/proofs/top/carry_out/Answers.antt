use Rattle.std.proofs.Common.{◌≡◌, Err, IfOk, Result, Some, ap, refl, subst, ◌∙◌}
use Rattle.kf_words.specs.Jobs.{task_of_job}
use Rattle.kf_words.specs.Task.{task_of}
use Rattle.kf_words.specs.declared.error.WordsError.{WordsError}
use Rattle.kf_words.specs.declared.job.Job.{Job}
use Rattle.kf_top.specs.Outcome.{TaskOutcome}
use Rattle.kf_top.proofs.Ends.{causes_of_result, causes_of_task, causes_of_words, untouched, usage_of_words}
use Rattle.kf_top.proofs.top.carry_out.Goals as goal

pub returns-in-Ok-clause-causes : goal.returns-in-Ok-clause-causes
returns-in-Ok-clause-causes g c words asks none err took =
    let task = task_of_job c.in-Ok.job in
    causes_of_task words _ _ _ _ _ _ task (subst (λ (r : Result Job WordsError). IfOk r (λ job. task_of words ≡ Some (task_of_job job))) c.in-Ok.is asks)
    (causes_of_result (TaskOutcome task) _ _ _ _ _ task c.work-answer.result c.settle.result.status c.work-answer.ensures.answer c.work-answer.ensures.counts
    (c.settle.ensures.written err took))

pub returns-in-Err-clause-causes : goal.returns-in-Err-clause-causes
returns-in-Err-clause-causes g c words asks none err took =
    causes_of_words _ _ _ _ _ _ _ c.in-Err.error (λ usage. usage_of_words words (none (c.in-Err.is ∙ ap Err usage))) (λ usage. c.unasked.ensures.usage usage err took)
    (λ memory. c.unasked.ensures.memory memory err took) refl (untouched (g.O.Sink.taken c.args.out.now))
