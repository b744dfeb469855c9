-- For bodies: a law of the definitions.
use Rattle.std.specs.Prelude.{◌≡◌, ℕ, List, Some}
use Rattle.kf_words.specs.Jobs.{HasTurns, IsInRange}
use Rattle.kf_words.specs.Task.{Task, task_of}

-- whatever the words, the numbers of their task are in range
abbrev pub TasksInRange : Type 0
TasksInRange = (words : List (List ℕ)) (task : Task) → task_of words ≡ Some task → IsInRange task.command × HasTurns task
