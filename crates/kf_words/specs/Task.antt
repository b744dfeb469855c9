-- Believed: what a list of words asks for, by the table of commands.
use Rattle.std.specs.Prelude.{ℕ, ◌-◌, List, [], ◌∷◌, Bool, true, false, not, ◌&&◌, ◌||◌, ◌==◌, Option, None, Some, is_some, codes, length, slice_get, take, drop}
use Rattle.std.specs.Prelude.{if◌then◌else◌, option_map, option_and_then, nat_le}
use Rattle.std.specs.Map.{lookup}
use Rattle.std.specs.Str.{bytes_eq}
use Rattle.std.specs.List.{last_or}
use Rattle.std.specs.Option.{option_map_or}
use Rattle.kf_gain.specs.Gains.{GainOf, Bayes, Table}
use Rattle.kf_words.specs.Arguments.{Arguments, arguments_of}
use Rattle.kf_words.specs.GainWords.{gain_named}
use Rattle.kf_words.specs.Numbers.{number_of, probability_of, threshold_of, block_of}

-- ---- tasks

-- how two channels are put together
pub data Composition : Type 0 where
  -- one after the other
  Cascade : Composition
  -- side by side
  Parallel : Composition
  -- the first with probability num / den, else the second
  Choice : ℕ → ℕ → Composition

pub data Command : Type 0 where
  Hyper : Command
  Traces : Command
  Channel : Command
  Trail : Command
  -- the Bayes capacity of a channel
  Capacity : Command
  -- those of two channels, and of what is put together of them
  Compose : Composition → Command
  -- under a gain, whose table stands in the file of this name
  Leak : GainOf (List ℕ) → Command
  -- what is best done under one
  Attack : GainOf (List ℕ) → Command
  -- with how many tries the posterior is at least num / den
  Reach : ℕ → ℕ → Command
  -- the text of this number of noisy observations
  Make : ℕ → Command
  -- whether the second program leaks no more than the first, maybe as a certificate
  Refine : Bool → Command
  -- whether the certificate in the file of this name proves its verdict on them
  Check : List ℕ → Command
  -- whether the second program leaks no more than the first, whatever the prior
  Covers : Command
  -- the hyper where the outermost statements from one on, up to but not with another, show nothing
  Quiet : ℕ → ℕ → Command
  -- how much is left of what is seen where each outermost statement in turn shows nothing
  Blame : Command
  -- the same under a gain for each statement, wherever it stands, with its place in the text
  Lines : GainOf (List ℕ) → Command

-- a command, the files of its programs, and how often a loop may turn
pub record Task : Type 0 where
  pub command : Command
  pub files : List (List ℕ)
  pub turns : ℕ

-- a command on files, whose loops turn at most `turns` times
abbrev pub on_files : Command → List (List ℕ) → ℕ → Task
on_files command files turns = record { command = command; files = files; turns = turns }

-- the files that a command reads beside its programs
abbrev pub tables_of : Command → List (List ℕ)
tables_of (Leak (Table name)) = name ∷ []
tables_of (Attack (Table name)) = name ∷ []
tables_of (Lines (Table name)) = name ∷ []
tables_of (Check name) = name ∷ []
tables_of command = []

-- ---- the table of commands

-- whether an option stands after a command's word: it may not, it may, or it must
pub data Presence : Type 0 where
  Absent : Presence
  Optional : Presence
  Required : Presence

-- what stands after a command's word: how many values, whether `--gain`, and whether `--json` may; and which task it is, by these values
-- and the options, once its turns are known
pub record CommandRow : Type 0 where
  pub values : ℕ
  pub gain : Presence
  pub takes_json : Bool
  pub task : List (List ℕ) → Arguments → Option (ℕ → Task)

-- the row of a command with so many values, without options, and with this task
abbrev pub plain_row : ℕ → (List (List ℕ) → Arguments → Option (ℕ → Task)) → CommandRow
plain_row values task = record { values = values; gain = Absent; takes_json = false; task = task }

-- the row of a command on `files` files and nothing else
abbrev pub files_only : Command → ℕ → CommandRow
files_only command files = plain_row files (λ names arguments. Some (on_files command names))

-- the gain that `--gain` names; where it doesn't stand, one guess at the value
abbrev pub gain_or_bayes : Option (List ℕ) → Option (GainOf (List ℕ))
gain_or_bayes word = option_map_or gain_named word (Some Bayes)

-- the row of a command on n files, under that gain
abbrev pub with_gain : Presence → (GainOf (List ℕ) → Command) → ℕ → CommandRow
with_gain gain command n =
    record (plain_row n (λ names a. option_map (λ g. on_files (command g) names) (gain_or_bayes a.gain))) { gain = gain }

-- a number of observations, from 1 to 60
abbrev pub observations_of : List ℕ → Option ℕ
observations_of word = option_and_then (λ n. if nat_le n 60 then Some n else None) (number_of word)

-- the row of a command on `values` values, of which the last is a pair of numbers and the others are files
abbrev pub with_pair : (List ℕ → Option (ℕ × ℕ)) → (ℕ → ℕ → Command) → ℕ → CommandRow
with_pair pair command values = plain_row values (λ words arguments.
    option_map (λ p. on_files (command p.0 p.1) (take (values - 1) words)) (option_and_then pair (last_or None words)))

-- the table of commands, by their words: `make` has one value, a number, and reads no file; `refine` takes `--json`; the first file of
-- `check` is the certificate
abbrev pub commands : List (List ℕ × CommandRow)
commands =
    (codes "hyper", files_only Hyper 1) ∷ (codes "traces", files_only Traces 1) ∷ (codes "channel", files_only Channel 1)
    ∷ (codes "leak", with_gain Required Leak 1) ∷ (codes "trail", files_only Trail 1)
    ∷ (codes "make", plain_row 1 (λ words a. option_map (λ n. on_files (Make n) []) (option_and_then observations_of (slice_get words 0))))
    ∷ (codes "refine", record (plain_row 2 (λ names a. Some (on_files (Refine a.json) names))) { takes_json = true })
    ∷ (codes "check", plain_row 3 (λ names a. option_map (λ cert. on_files (Check cert) (drop 1 names)) (slice_get names 0)))
    ∷ (codes "capacity", files_only Capacity 1)
    ∷ (codes "cascade", files_only (Compose Cascade) 2) ∷ (codes "parallel", files_only (Compose Parallel) 2)
    ∷ (codes "choice", with_pair probability_of (λ num den. Compose (Choice num den)) 3) ∷ (codes "attack", with_gain Required Attack 1)
    ∷ (codes "reach", with_pair threshold_of Reach 2) ∷ (codes "covers", files_only Covers 2) ∷ (codes "quiet", with_pair block_of Quiet 2)
    ∷ (codes "blame", files_only Blame 1) ∷ (codes "lines", with_gain Optional Lines 1) ∷ []

-- whether an option may stand, or be missing
abbrev pub fits : Presence → Bool → Bool
fits Absent stands = not stands
fits Optional stands = true
fits Required stands = stands

-- `--gain` stands only where it may and wherever it must, and `--json` only where it is taken
abbrev pub options_fit : CommandRow → Arguments → Bool
options_fit row arguments = fits row.gain (is_some arguments.gain) && (row.takes_json || not arguments.json)

-- ---- the task of the words

-- the task of a row and the values after the command's word, where their number and the options are the row's; a loop may turn as often as
-- `--turns` says where it stands, and else 1,024 times
abbrev pub row_task : List (List ℕ) → Arguments → CommandRow → Option Task
row_task values arguments row =
    if length values == row.values && options_fit row arguments
    then option_and_then (λ turns. option_map (λ task. task turns) (row.task values arguments))
    (option_map_or number_of arguments.turns (Some 1024)) else None

-- the first value is the command's word, the others are its files or its numbers
abbrev pub task_of_values : List (List ℕ) → Arguments → Option Task
task_of_values [] arguments = None
task_of_values (word ∷ values) arguments = option_and_then (row_task values arguments) (lookup (bytes_eq word) commands)

-- the task of a list of words
abbrev pub task_of : List (List ℕ) → Option Task
task_of words = option_and_then (λ (arguments : Arguments). task_of_values arguments.values arguments) (arguments_of words)
