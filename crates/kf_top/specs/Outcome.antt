-- Believed: the defined answer to words over files.
use Rattle.std.specs.Prelude.{ℕ, List, [], ◌∷◌, ◌++◌, nat_le, codes, if◌then◌else◌, Ok, Err, None, Some}
use Rattle.std.specs.Fmt.{decimal}
use Rattle.std.specs.declared.result.Result.{Result}
use Rattle.kf_core.specs.Programs.{ProgramTree}
use Rattle.kf_gain.specs.Gains.{GainOf}
use Rattle.kf_load.specs.Steps.{Refused, Step, After, Each, Gives, refusal}
use Rattle.kf_load.specs.Texts.{File, LongCleared, Text, TextOf, TextWith, cleared}
use Rattle.kf_prior.specs.FullSources.{full_source, initial_stores}
use Rattle.kf_top.specs.Answer.{CommandOutcome, GainIn, LinesOn, OnHyper, Shown, usage}
use Rattle.kf_words.specs.Task.{Command, Covers, Lines, Quiet, Task, task_of}

-- a text whose declared variables have at most 4,096 stores
abbrev pub few_stores : Text → Result Text Refused
few_stores t =
    if nat_le (initial_stores t.program.types t.source) 4096 then Ok t
    else Err (refusal 8 t.name (codes ": " ++ (decimal (initial_stores t.program.types t.source) ++ codes " stores")))

-- what a command makes of its texts: each is cleared, for `covers` with its full source, once the stores of all are counted, and for
-- `quiet` the block must be there. In the full source each initial store is equally likely, and the answer is about what each variable is
-- before the statements and after them
abbrev pub ReadyOf : Command → ℕ → List Text → Step (List ProgramTree)
ReadyOf Covers turns texts =
    After (After (Each (λ t. Gives (few_stores t)) texts) (Each (λ t. TextWith t.name t.bytes (full_source t.program.types t.source))))
    (Each (λ t. Gives (cleared turns t)))
ReadyOf (Quiet from to) turns texts = Each (LongCleared turns to) texts
ReadyOf command turns texts = Each (λ t. Gives (cleared turns t)) texts

-- what a command on programs comes to, by their files, whose texts come first, and those that it reads beside them
abbrev pub ProgramsOutcome : Command → ℕ → List File → List File → Step Shown
ProgramsOutcome command turns programs tables =
    After (After (Each TextOf programs) (ReadyOf command turns)) (CommandOutcome command turns tables)

-- what `lines` comes to for a text: its program is cleared, and then the gain's table is read
abbrev pub LinesUnder : GainOf (List ℕ) → ℕ → List File → Text → Step Shown
LinesUnder gain turns tables t =
    After (Gives (cleared turns t)) (λ p. After (GainIn p.target gain tables) (λ g. OnHyper turns p (LinesOn turns t.bytes t.source p g)))

-- what a command comes to, by the same files. `lines` says where in its text a statement stands, and so it alone is about the text itself;
-- `task_of` gives it one
abbrev pub FilesOutcome : Command → ℕ → List File → List File → Step Shown
FilesOutcome (Lines gain) turns (file ∷ []) tables = After (TextOf file) (LinesUnder gain turns tables)
FilesOutcome (Lines gain) turns programs tables = Gives (Err usage)
FilesOutcome command turns programs tables = ProgramsOutcome command turns programs tables

-- what a task comes to
abbrev pub TaskOutcome : Task → List File → List File → Step Shown
TaskOutcome task = FilesOutcome task.command task.turns

-- what a run of these words over these files comes to
abbrev pub Outcome : List (List ℕ) → List File → List File → Step Shown
Outcome words programs tables = elim (task_of words) [ None ↦ Gives (Err usage) | Some task ↦ TaskOutcome task programs tables ]
