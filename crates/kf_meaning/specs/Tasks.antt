-- For bodies: words that ask for a task, and that they are read as it.
use Rattle.std.specs.Prelude.{◌≡◌, ◌≢◌, ℕ, ◌<◌, ◌≤◌, ◌^◌, true, List, [], ◌∷◌, ◌++◌, Some, codes, length}
use Rattle.std.specs.Fmt.{decimal}
use Rattle.kf_gain.specs.Gains.{GainOf, Bayes, Tries, Guessing, Table}
use Rattle.kf_words.specs.Task.{Command, Cascade, Parallel, Choice, Hyper, Traces, Channel, Trail, Capacity, Compose, Leak, Attack, Reach, Make, Refine, Check, Covers, Quiet, Blame, Lines, Task, task_of}

-- ---- words

abbrev pub gain_word : GainOf (List ℕ) → List ℕ
gain_word Bayes = codes "bayes"
gain_word Guessing = codes "guessing"
gain_word (Tries k) = codes "tries:" ++ decimal k
gain_word (Table name) = codes "table:" ++ name

-- two numbers with a mark between
abbrev pub pair_word : ℕ → List ℕ → ℕ → List ℕ
pair_word m mark n = decimal m ++ (mark ++ decimal n)

-- a command's word, and what stands after it where it is on these files
abbrev pub values_of : Command → List (List ℕ) → List (List ℕ)
values_of Hyper files = codes "hyper" ∷ files
values_of Traces files = codes "traces" ∷ files
values_of Channel files = codes "channel" ∷ files
values_of Trail files = codes "trail" ∷ files
values_of Capacity files = codes "capacity" ∷ files
values_of (Compose Cascade) files = codes "cascade" ∷ files
values_of (Compose Parallel) files = codes "parallel" ∷ files
values_of (Compose (Choice num den)) files = codes "choice" ∷ (files ++ pair_word num (codes "/") den ∷ [])
values_of (Leak g) files = codes "leak" ∷ files
values_of (Attack g) files = codes "attack" ∷ files
values_of (Reach num den) files = codes "reach" ∷ (files ++ pair_word num (codes "/") den ∷ [])
values_of (Make n) files = codes "make" ∷ decimal n ∷ []
values_of (Refine json) files = codes "refine" ∷ files
values_of (Check cert) files = codes "check" ∷ cert ∷ files
values_of Covers files = codes "covers" ∷ files
values_of (Quiet from to) files = codes "quiet" ∷ (files ++ pair_word from (codes "..") to ∷ [])
values_of Blame files = codes "blame" ∷ files
values_of (Lines g) files = codes "lines" ∷ files

-- its options beside the bound on turns
abbrev pub options_of : Command → List (List ℕ)
options_of (Leak g) = (codes "--gain=" ++ gain_word g) ∷ []
options_of (Attack g) = (codes "--gain=" ++ gain_word g) ∷ []
options_of (Lines g) = (codes "--gain=" ++ gain_word g) ∷ []
options_of (Refine true) = codes "--json" ∷ []
options_of command = []

-- the program's name, the options, and after `--` the values, so that a file's name may begin with a hyphen
abbrev pub words_of : Task → List (List ℕ)
words_of task =
    codes "kuifje" ∷ (codes "--turns=" ++ decimal task.turns)
    ∷ (options_of task.command ++ (codes "--" ∷ values_of task.command task.files))

-- ---- the tasks that words can ask for

abbrev pub IsGain : GainOf (List ℕ) → Type 0
IsGain (Tries k) = (1 ≤ k) × (k ≤ 65535)
IsGain (Table name) = name ≢ []
IsGain g = Unit {0}

-- the command has so many programs, and its numbers are in range
abbrev pub IsFor : Command → ℕ → Type 0
IsFor (Compose (Choice num den)) files = (files ≡ 2) × (1 ≤ num) × (num < den) × (den < 10 ^ 9)
IsFor (Compose way) files = files ≡ 2
IsFor (Leak g) files = (files ≡ 1) × IsGain g
IsFor (Attack g) files = (files ≡ 1) × IsGain g
IsFor (Lines g) files = (files ≡ 1) × IsGain g
IsFor (Reach num den) files = (files ≡ 1) × (1 ≤ num) × (num ≤ den) × (den < 10 ^ 9)
IsFor (Make n) files = (files ≡ 0) × (1 ≤ n) × (n ≤ 60)
IsFor (Refine json) files = files ≡ 2
IsFor (Check cert) files = files ≡ 2
IsFor Covers files = files ≡ 2
IsFor (Quiet from to) files = (files ≡ 1) × (from < to) × (to < 10 ^ 5)
IsFor command files = files ≡ 1

pub record CanBeAsked (task : Task) : Type 0 where
  pub is_for : IsFor task.command (length task.files)
  pub some_turns : 1 ≤ task.turns
  pub few_turns : task.turns ≤ 65535

-- ---- laws

-- a task's words are read as that task
abbrev pub WordsAskForTheirTask : Type 0
WordsAskForTheirTask = (task : Task) → CanBeAsked task → task_of (words_of task) ≡ Some task

-- so different tasks have different words
abbrev pub DifferentWords : Type 0
DifferentWords = (task other : Task) → CanBeAsked task → CanBeAsked other → words_of task ≡ words_of other → task ≡ other

-- and these are all tasks: whatever words ask for can be asked so
abbrev pub EachTaskCanBeAsked : Type 0
EachTaskCanBeAsked = (words : List (List ℕ)) (task : Task) → task_of words ≡ Some task → CanBeAsked task
