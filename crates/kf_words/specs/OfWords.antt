-- For bodies: the first and the last of some words, and what parts of the table of commands are called.
use Rattle.std.specs.Prelude.{ℕ, List, Option, None, slice_get, drop, [], ◌∷◌, Some, ◌++◌, ◌&&◌, true, nat_le, option_and_then, if◌then◌else◌}
use Rattle.std.specs.Map.{lookup}
use Rattle.std.specs.List.{last_or}
use Rattle.std.specs.Option.{option_map_or, option_map}
use Rattle.std.specs.Str.{bytes_eq}
use Rattle.kf_words.specs.Arguments.{Arguments}
use Rattle.kf_words.specs.Task.{Task, task_of_values, Command, CommandRow, Make, Refine, Check, commands, observations_of, on_files, plain_row, tables_of}
use Rattle.kf_words.specs.Numbers.{number_of}
use Rattle.kf_gain.specs.Gains.{GainOf, Tries, Table}

abbrev pub first_of : List (List ℕ) → Option (List ℕ)
first_of words = slice_get words 0

-- all words but the first
abbrev pub others_of : List (List ℕ) → List (List ℕ)
others_of words = drop 1 words

-- the last word
abbrev pub last_of : List (List ℕ) → Option (List ℕ)
last_of words = last_or None words

-- a number from 1 to 65,535
abbrev pub in_range : ℕ → Option ℕ
in_range n = if nat_le 1 n && nat_le n 65535 then Some n else None

-- how often a loop may turn, as `--turns` says it where it stands, and else 1,024 times
abbrev pub turns_of : Option (List ℕ) → Option ℕ
turns_of word = option_map_or number_of word (Some 1024)

-- how often a loop may turn where no word says it
abbrev pub default_turns : ℕ
default_turns = 1024

-- the task of parsed arguments
abbrev pub task_of_arguments : Arguments → Option Task
task_of_arguments arguments = task_of_values arguments.values arguments

-- all files that a task names
abbrev pub named : Task → List (List ℕ)
named task = task.files ++ tables_of task.command

abbrev pub files_of_some : Option Task → List (List ℕ)
files_of_some task = option_map_or named task []

-- a command on one file
abbrev pub on_file : Command → List ℕ → ℕ → Task
on_file command file turns = on_files command (file ∷ []) turns

-- a number of tries, 1 to 65,535
abbrev pub tries_of : List ℕ → Option (GainOf (List ℕ))
tries_of number = option_map Tries (number_of number)

-- the table in a file, whose name isn't empty
abbrev pub table_of : List ℕ → Option (GainOf (List ℕ))
table_of word = elim word [ [] ↦ None | b ∷ name ↦ Some (Table (b ∷ name)) ]

-- ---- the table of commands

-- the row of `make`, which has one value, a number, and reads no file
abbrev pub make_row : CommandRow
make_row = plain_row 1 (λ words a. option_map (λ n. on_files (Make n) []) (option_and_then observations_of (slice_get words 0)))

-- the row of `refine`, which takes `--json`
abbrev pub refine_row : CommandRow
refine_row = record (plain_row 2 (λ names a. Some (on_files (Refine a.json) names))) { takes_json = true }

-- the row of `check`, whose first file is the certificate
abbrev pub check_row : CommandRow
check_row = plain_row 3 (λ names a. option_map (λ cert. on_files (Check cert) (drop 1 names)) (slice_get names 0))

-- the row of a command's word
abbrev pub row_of : List ℕ → Option CommandRow
row_of word = lookup (bytes_eq word) commands
