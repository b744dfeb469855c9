use Rattle.kf_meaning.proofs.AllTasks.{each_task_can_be_asked}
use Rattle.kf_meaning.proofs.AskedTasks.{words_ask_for_their_task, different_words}
use Rattle.kf_meaning.proofs.tasks.task_words.Goals as goal

pub returns : goal.returns
returns c = record { read = words_ask_for_their_task; apart = different_words; each = each_task_can_be_asked c.tasks_in_range.ensures }
