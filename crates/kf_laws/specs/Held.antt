-- Believed by a caller from C: files that hold what contents tell of their names, and the answer over them.
use Rattle.std.specs.Prelude.{ℕ, List, [], map, None, Some}
use Rattle.std.specs.declared.option.Option.{Option}
use Rattle.kf_load.specs.Texts.{File}
use Rattle.kf_top.specs.Ends.{Answer, IsAnswerTo}
use Rattle.kf_top.specs.Outcome.{Outcome}
use Rattle.kf_words.specs.Task.{Task, tables_of, task_of}

-- the file of this name, with its bytes
abbrev pub held_file : (List ℕ → List ℕ) → List ℕ → File
held_file contents name = record { name = name; reading = Some (contents name) }

-- the files of these names, each with its bytes
abbrev pub held : (List ℕ → List ℕ) → List (List ℕ) → List File
held contents names = map (held_file contents) names

-- the names of a task's programs, and of the files that its command reads beside them
abbrev pub program_names : Option Task → List (List ℕ)
program_names None = []
program_names (Some task) = task.files

abbrev pub table_names : Option Task → List (List ℕ)
table_names None = []
table_names (Some task) = tables_of task.command

-- the defined answer to words over files that hold these contents
abbrev pub IsAnswerOver : List (List ℕ) → (List ℕ → List ℕ) → Answer → Type 0
IsAnswerOver words contents =
    IsAnswerTo (Outcome words) (held contents (program_names (task_of words))) (held contents (table_names (task_of words)))
