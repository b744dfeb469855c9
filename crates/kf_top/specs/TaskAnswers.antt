-- For bodies: a result against the defined outcome, over the files that the call read, and against the counts of failed reads.
use Rattle.std.specs.Prelude.{◌≡◌, ℕ, List, [], ◌∷◌, ◌++◌, All, Ok, Err, None, Some}
use Rattle.std.specs.declared.option.Option.{Option}
use Rattle.std.specs.declared.result.Result.{Result}
use Rattle.kf_gain.specs.Gains.{GainOf, Bayes, Tries, Guessing, Table}
use Rattle.kf_load.specs.Readings.{WasRead}
use Rattle.kf_load.specs.Steps.{Step}
use Rattle.kf_load.specs.Stops as load
use Rattle.kf_load.specs.Texts.{File}
use Rattle.kf_load.specs.declared.refusal.Refusal.TheVariants as load_refusal
use Rattle.kf_load.specs.Refusals.{ReadAs}
use Rattle.kf_top.specs.Ends.{Question, names_of}
use Rattle.kf_top.specs.Outcome.{TaskOutcome}
use Rattle.kf_top.specs.Stops.{Answers}
use Rattle.kf_top.specs.Views.{shown}
use Rattle.kf_top.specs.declared.refusal.Done.{Done}
use Rattle.kf_top.specs.declared.refusal.Refusal.{Refusal}
use Rattle.kf_top.specs.declared.refusal.Refusal.TheVariants as refusal
use Rattle.kf_top.specs.declared.refusal.Stop.{Stop}
use Rattle.kf_top.specs.declared.refusal.Stop.TheVariants as stop
use Rattle.kf_words.specs.Task.{Task, tables_of}

-- a read failed
abbrev pub IsUnread : Stop → Type 0
IsUnread (stop.Refused (refusal.Load (load_refusal.ReadFailed name))) = Unit {0}
IsUnread s = ⊥

-- a file that wasn't read stands only beside such a stop
abbrev pub MayFail : Option (List ℕ) → Option Stop → Type 0
MayFail (Some bytes) stop = Unit {0}
MayFail None None = ⊥
MayFail None (Some s) = IsUnread s

-- the stop that a result is
abbrev pub stop_in : {A : Type 0} → Result A Stop → Option Stop
stop_in (Ok x) = None
stop_in (Err s) = Some s

-- the result is that of a step on the file of this name, with a reading that the call may have had
pub record FileAnswer {A B : Type 0} (told : Option (List ℕ → List ℕ)) (before now : List ℕ → ℕ) (name : List ℕ) (seen : A → B)
    (r : Result A Stop) (step : File → Step B) : Type 0 where
  pub reading : Option (List ℕ)
  pub read : ReadAs told before now name reading
  pub fails : MayFail reading (stop_in r)
  pub answer : Answers seen r (step (load.file_as name reading))

-- the files that a gain names
abbrev pub names_in : GainOf (List ℕ) → List (List ℕ)
names_in Bayes = []
names_in (Tries k) = []
names_in Guessing = []
names_in (Table name) = name ∷ []

-- the result is that of a step on files of these names, with readings that the call may have had
pub record FilesAnswer {A B : Type 0} (told : Option (List ℕ → List ℕ)) (before now : List ℕ → ℕ) (names : List (List ℕ)) (seen : A → B)
    (r : Result A Stop) (step : List File → Step B) : Type 0 where
  pub files : List File
  pub named : names_of files ≡ names
  pub read : All (WasRead told before now) files
  pub fails : All (λ file. MayFail file.reading (stop_in r)) files
  pub answer : Answers seen r (step files)

-- the result is that of a question about the files of a task, with readings that the call may have had
pub record AnswerTo (told : Option (List ℕ → List ℕ)) (before now : List ℕ → ℕ) (task : Task)
    (question : Question) (r : Result Done Stop) : Type 0 where
  pub programs : List File
  pub tables : List File
  pub programs_named : names_of programs ≡ task.files
  pub tables_named : names_of tables ≡ tables_of task.command
  pub read : All (WasRead told before now) (programs ++ tables)
  pub fails : All (λ file. MayFail file.reading (stop_in r)) (programs ++ tables)
  pub answer : Answers shown r (question programs tables)

-- the result is that of a task
abbrev pub TaskAnswer : Option (List ℕ → List ℕ) → (List ℕ → ℕ) → (List ℕ → ℕ) → Task → Result Done Stop → Type 0
TaskAnswer told before now task = AnswerTo told before now task (TaskOutcome task)

-- a failed read of one of these files raised its count; with any other refusal the counts stay
abbrev pub RefusalCounts : List (List ℕ) → (List ℕ → ℕ) → (List ℕ → ℕ) → Refusal → Type 0
RefusalCounts names before now (refusal.Load r) = load.RefusalCounts names before now r
RefusalCounts names before now r = now ≡ before

abbrev pub StopCounts : List (List ℕ) → (List ℕ → ℕ) → (List ℕ → ℕ) → Stop → Type 0
StopCounts names before now (stop.Refused r) = RefusalCounts names before now r
StopCounts names before now stop.Mem = now ≡ before

abbrev pub Counts : {A : Type 0} → List (List ℕ) → (List ℕ → ℕ) → (List ℕ → ℕ) → Result A Stop → Type 0
Counts names before now (Ok x) = now ≡ before
Counts names before now (Err s) = StopCounts names before now s
