-- For bodies: the task that a job is, and the range of its numbers.
use Rattle.std.specs.Prelude.{ℕ, List, [], ◌∷◌, ◌≤◌, ◌<◌}
use Rattle.kf_gain.specs.Gains.{GainOf, Bayes, Tries, Guessing, Table}
use Rattle.kf_words.specs.Task as task
use Rattle.kf_words.specs.OfWords as of_words
use Rattle.kf_words.specs.declared.gain_words.GainWord.{GainWord}
use Rattle.kf_words.specs.declared.gain_words.GainWord.TheVariants as word
use Rattle.kf_words.specs.declared.job.Job.{Job}
use Rattle.kf_words.specs.declared.job.Job.TheVariants as job

abbrev pub gain_of : GainWord → GainOf (List ℕ)
gain_of word.Bayes = Bayes
gain_of (word.Tries k) = Tries k
gain_of word.Guessing = Guessing
gain_of (word.Table name) = Table name

abbrev pub task_of_job : Job → task.Task
task_of_job (job.Hyper file turns) = of_words.on_file task.Hyper file turns
task_of_job (job.Traces file turns) = of_words.on_file task.Traces file turns
task_of_job (job.Channel file turns) = of_words.on_file task.Channel file turns
task_of_job (job.Trail file turns) = of_words.on_file task.Trail file turns
task_of_job (job.Make n turns) = task.on_files (task.Make n) [] turns
task_of_job (job.Leak file gain turns) = of_words.on_file (task.Leak (gain_of gain)) file turns
task_of_job (job.Attack file gain turns) = of_words.on_file (task.Attack (gain_of gain)) file turns
task_of_job (job.Reach file num den turns) = of_words.on_file (task.Reach num den) file turns
task_of_job (job.Refine a b json turns) = task.on_files (task.Refine json) (a ∷ b ∷ []) turns
task_of_job (job.Check cert a b turns) = task.on_files (task.Check cert) (a ∷ b ∷ []) turns
task_of_job (job.Capacity file turns) = of_words.on_file task.Capacity file turns
task_of_job (job.Cascade a b turns) = task.on_files (task.Compose task.Cascade) (a ∷ b ∷ []) turns
task_of_job (job.Parallel a b turns) = task.on_files (task.Compose task.Parallel) (a ∷ b ∷ []) turns
task_of_job (job.Choice a b num den turns) = task.on_files (task.Compose (task.Choice num den)) (a ∷ b ∷ []) turns
task_of_job (job.Covers a b turns) = task.on_files task.Covers (a ∷ b ∷ []) turns
task_of_job (job.Quiet file from to turns) = of_words.on_file (task.Quiet from to) file turns
task_of_job (job.Blame file turns) = of_words.on_file task.Blame file turns
task_of_job (job.Lines file gain turns) = of_words.on_file (task.Lines (gain_of gain)) file turns

-- the bound on turns is from 1 to 65,535
abbrev pub HasTurns : task.Task → Type 0
HasTurns t = (1 ≤ t.turns) × (t.turns ≤ 65535)

-- no more observations than the scale of a made text can bear, a choice that leaves both, a probability above 0, and a block that isn't empty
abbrev pub IsInRange : task.Command → Type 0
IsInRange (task.Make n) = n ≤ 60
IsInRange (task.Compose (task.Choice num den)) = (1 ≤ num) × (num < den)
IsInRange (task.Reach num den) = (1 ≤ num) × (num ≤ den)
IsInRange (task.Quiet from to) = from < to
IsInRange command = Unit {0}
