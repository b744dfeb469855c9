-- For bodies: why words are refused, and which refusals each task can have.
use Rattle.std.specs.Prelude.{◌≡◌, ◌≢◌, ◌⊎◌, ℕ, ◌≤◌, Bool, List, [], ◌∷◌, ◌++◌, Contains, codes, Some, Err}
use Rattle.std.specs.Fmt.{decimal}
use Rattle.std.specs.declared.option.Option.{Option}
use Rattle.kf_gain.specs.Gains.{GainOf, Table}
use Rattle.kf_load.specs.Steps.{Refused, refusal}
use Rattle.kf_load.specs.Texts.{File}
use Rattle.kf_top.specs.Ends.{AreNamed, Sunk, TookLine}
use Rattle.kf_top.specs.Outcome.{TaskOutcome}
use Rattle.kf_top.specs.Steps.{HasCauses}
use Rattle.kf_words.specs.Task.{Command, Composition, Cascade, Parallel, Choice, Task, Channel, Capacity, Compose, Leak, Attack, Lines, Refine, Check, Covers, Quiet, task_of}
use Rattle.kf_words.specs.OfWords.{named}

-- ---- reasons

pub data Reason : Type 0 where
  ReadFailed : List ℕ → Reason
  TooLong : List ℕ → Reason
  -- a file's name, the line and the column, and the fault's word
  BadText : List ℕ → ℕ → ℕ → List ℕ → Reason
  -- the same of a fault at which a run stops
  BadRun : List ℕ → ℕ → ℕ → List ℕ → Reason
  WideScale : List ℕ → Reason
  -- some item of the target isn't read before the statements
  NotInitial : Reason
  -- a gain table's file, and the word of the rule that it breaks
  BadTable : List ℕ → List ℕ → Reason
  -- the scale times the gain's width passes 2^127 - 1
  WideGain : Reason
  -- two programs have different targets
  OtherTarget : Reason
  -- the tableau of a refinement has so many cells
  ManyCells : ℕ → Reason
  -- after so many pivots a number of it passes 2^62
  WideTableau : ℕ → Reason
  -- its run needs more pivots than there are
  ManyPivots : Reason
  -- a certificate's file, and the word of the rule that it breaks
  BadCert : List ℕ → List ℕ → Reason
  -- a scale times the certificate's denominator, or its width, passes 2^127 - 1
  WideCert : Reason
  -- two channels have different secrets
  OtherRows : Reason
  -- what one channel shows is no secret of the next
  NoFit : Reason
  -- two channels side by side have so many cells
  ManyChannelCells : ℕ → Reason
  -- a channel's denominator or its capacity passes 2^127 - 1
  WideChannel : Reason
  -- the declared variables of a file's program have so many stores
  ManyStores : List ℕ → ℕ → Reason
  -- a file's program has only so many statements at its top level
  FewStatements : List ℕ → ℕ → Reason

-- a line, a column and a fault's word
abbrev pub at_place : ℕ → ℕ → List ℕ → List ℕ
at_place line column word = 58 ∷ decimal line ++ 58 ∷ decimal column ++ codes ": " ++ word

-- the refusal for a reason
abbrev pub refusal_for : Reason → Refused
refusal_for (ReadFailed name) = refusal 3 name (codes ": read failed")
refusal_for (TooLong name) = refusal 11 name (codes ": longer than 1048576 bytes")
refusal_for (BadText name line column word) = refusal 5 name (at_place line column word)
refusal_for (BadRun name line column word) = refusal 6 name (at_place line column word)
refusal_for (WideScale name) = refusal 7 name (codes ": scale passes 2^127 - 1")
refusal_for NotInitial = refusal 10 [] (codes "target is not initial")
refusal_for (BadTable name word) = refusal 9 name (codes ": " ++ word)
refusal_for WideGain = refusal 7 [] (codes "gain passes 2^127 - 1")
refusal_for OtherTarget = refusal 10 [] (codes "targets differ")
refusal_for (ManyCells cells) = refusal 8 [] (codes "tableau has " ++ (decimal cells ++ codes " cells"))
refusal_for (WideTableau pivots) = refusal 7 [] (codes "tableau passes 2^62 after " ++ (decimal pivots ++ codes " pivots"))
refusal_for ManyPivots = refusal 8 [] (codes "more than 20000 pivots")
refusal_for (BadCert name word) = refusal 9 name (codes ": " ++ word)
refusal_for WideCert = refusal 7 [] (codes "certificate passes 2^127 - 1")
refusal_for OtherRows = refusal 10 [] (codes "rows differ")
refusal_for NoFit = refusal 10 [] (codes "channels do not fit")
refusal_for (ManyChannelCells cells) = refusal 8 [] (codes "channel has " ++ (decimal cells ++ codes " cells"))
refusal_for WideChannel = refusal 7 [] (codes "channel passes 2^127 - 1")
refusal_for (ManyStores name count) = refusal 8 name (codes ": " ++ (decimal count ++ codes " stores"))
refusal_for (FewStatements name count) = refusal 13 name (codes ": " ++ (decimal count ++ codes " statements"))

-- ---- tasks

abbrev pub IsRefining : Command → Type 0
IsRefining command = (command ≡ Covers) ⊎ ((json : Bool) × (command ≡ Refine json))

abbrev pub IsChecking : Command → Type 0
IsChecking command = (name : List ℕ) × (command ≡ Check name)

abbrev pub IsComposing : Command → Type 0
IsComposing command = (way : Composition) × (command ≡ Compose way)

-- it puts two channels of the same secrets together
abbrev pub IsOnSameRows : Command → Type 0
IsOnSameRows command = (command ≡ Compose Parallel) ⊎ ((num den : ℕ) × (command ≡ Compose (Choice num den)))

-- it asks for a capacity
abbrev pub IsOnCapacities : Command → Type 0
IsOnCapacities command = (command ≡ Capacity) ⊎ IsComposing command

-- it asks for this gain
abbrev pub IsUnder : GainOf (List ℕ) → Command → Type 0
IsUnder g command = (command ≡ Leak g) ⊎ ((command ≡ Attack g) ⊎ (command ≡ Lines g))

-- the reason is one that the task can have: of a file that it names, or of its command
abbrev pub CanRefuse : Task → Reason → Type 0
CanRefuse task (ReadFailed name) = Contains (named task) name
CanRefuse task (TooLong name) = Contains (named task) name
CanRefuse task (BadText name line column word) = Contains task.files name
CanRefuse task (BadRun name line column word) = Contains task.files name
CanRefuse task (WideScale name) = Contains task.files name
CanRefuse task NotInitial = (task.command ≡ Channel) ⊎ IsOnCapacities task.command
CanRefuse task (BadTable name word) = IsUnder (Table name) task.command
CanRefuse task WideGain = (g : GainOf (List ℕ)) × IsUnder g task.command
CanRefuse task OtherTarget = IsRefining task.command ⊎ (IsChecking task.command ⊎ IsOnSameRows task.command)
CanRefuse task (ManyCells cells) = IsRefining task.command
CanRefuse task (WideTableau pivots) = IsRefining task.command
CanRefuse task ManyPivots = IsRefining task.command
CanRefuse task (BadCert name word) = task.command ≡ Check name
CanRefuse task WideCert = IsChecking task.command
CanRefuse task OtherRows = IsOnSameRows task.command
CanRefuse task NoFit = task.command ≡ Compose Cascade
CanRefuse task (ManyChannelCells cells) = task.command ≡ Compose Parallel
CanRefuse task WideChannel = IsOnCapacities task.command
CanRefuse task (ManyStores name count) = (task.command ≡ Covers) × Contains task.files name
CanRefuse task (FewStatements name count) = (from to : ℕ) × (task.command ≡ Quiet from to) × Contains task.files name

-- the refusal is for such a reason
pub record IsReasoned (task : Task) (r : Refused) : Type 0 where
  pub reason : Reason
  pub can : CanRefuse task reason
  pub is : r ≡ refusal_for reason

-- the task that words ask for is refused for a reason that it can have, whatever its files hold
abbrev pub RefusalsAreReasoned : Type 0
RefusalsAreReasoned = (words : List (List ℕ)) (task : Task) (programs tables : List File) (r : Refused) → task_of words ≡ Some task
    → AreNamed (Some task) programs tables → TaskOutcome task programs tables (Err r) → IsReasoned task r

-- ---- runs

-- the status and the line are those of a refusal that these words can have
pub record RefusedAs (words : List (List ℕ)) (err : Sunk) (status : ℕ) : Type 0 where
  pub task : Task
  pub asked : task_of words ≡ Some task
  pub reason : Reason
  pub can : CanRefuse task reason
  pub status_is : status ≡ (refusal_for reason).status
  pub line : TookLine err (refusal_for reason).line

-- each status from 5 on but want of memory is that of such a refusal, whatever files tell
abbrev pub RunsAreRefusedAs : Type 0
RunsAreRefusedAs = (words : List (List ℕ)) (told : Option (List ℕ → List ℕ)) (before now : List ℕ → ℕ) (out err : Sunk) (status : ℕ)
    → HasCauses words told before now out err status → 5 ≤ status → status ≢ 12 → RefusedAs words err status
