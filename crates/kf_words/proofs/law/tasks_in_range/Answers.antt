use Rattle.kf_words.proofs.TaskRanges.{tasks_in_range as in_range}
use Rattle.kf_words.proofs.law.tasks_in_range.Goals as goal

pub returns : goal.returns
returns c = in_range
