-- For bodies: a result against the defined step, and against the counts of failed reads.
use Rattle.std.specs.Prelude.{◌≡◌, ◌≤◌, ℕ, List, ◌∷◌, [], ◌++◌, Ok, Err, None, Some, Contains, codes, vec_len}
use Rattle.std.specs.Fmt.{decimal}
use Rattle.std.specs.declared.option.Option.{Option}
use Rattle.std.specs.declared.result.Result.{Result}
use Rattle.std.specs.Option.{ForSome}
use Rattle.kf_ast.specs.Views.{source_tree}
use Rattle.kf_check.specs.Laws.{IsWellBuilt}
use Rattle.kf_check.specs.Translation.{Typed}
use Rattle.kf_core.specs.Checked.{IsChecked}
use Rattle.kf_core.specs.Views.{program_tree}
use Rattle.kf_io.specs.Faults.{Rose}
use Rattle.kf_load.specs.Steps as steps
use Rattle.kf_load.specs.Steps.{Step}
use Rattle.kf_load.specs.Texts.{File}
use Rattle.kf_load.specs.declared.refusal.Refusal.{Refusal}
use Rattle.kf_load.specs.declared.refusal.Refusal.TheVariants as refusal
use Rattle.kf_load.specs.declared.refusal.Stop.{Stop}
use Rattle.kf_load.specs.declared.refusal.Stop.TheVariants as stop
use Rattle.kf_load.specs.declared.text.Text.{Text}
use Rattle.kf_load.specs.Refusals.{ReadAs}

abbrev pub placed : ℕ → ℕ → List ℕ → List ℕ
placed line column word = 58 ∷ decimal line ++ 58 ∷ decimal column ++ codes ": " ++ word

abbrev pub refused : Refusal → steps.Refused
refused (refusal.ReadFailed name) = steps.refusal 3 name.now (codes ": read failed")
refused (refusal.TooLong name) = steps.refusal 11 name.now (codes ": longer than 1048576 bytes")
refused (refusal.BadText name line column word) = steps.refusal 5 name.now (placed line column word.now)
refused (refusal.BadRun name line column word) = steps.refusal 6 name.now (placed line column word.now)
refused (refusal.WideScale name) = steps.refusal 7 name.now (codes ": scale passes 2^127 - 1")
refused (refusal.FewStatements name count) = steps.refusal 13 name.now (codes ": " ++ (decimal count ++ codes " statements"))

-- the step may stop so; want of memory isn't in it
abbrev pub Stopped : {B : Type 0} → Stop → Step B → Type 0
Stopped (stop.Refused r) step = step (Err (refused r))
Stopped stop.Mem step = Unit {0}

-- the result, seen as the definition's, is one that the step may have
abbrev pub Answers : {A B : Type 0} → (A → B) → Result A Stop → Step B → Type 0
Answers seen (Ok x) step = step (Ok (seen x))
Answers seen (Err s) step = Stopped s step

-- the same value on both sides
abbrev pub same : {A : Type 0} → A → A
same x = x

-- ---- files

abbrev pub file_as : List ℕ → Option (List ℕ) → File
file_as name reading = record { name = name; reading = reading }

-- the bytes are those that files tell of this name
abbrev pub Told : Option (List ℕ → List ℕ) → List ℕ → List ℕ → Type 0
Told told name bytes = ForSome told (λ contents. bytes ≡ contents name)

-- only a failed read stops a step on a file that wasn't read
abbrev pub MayFail : Option (List ℕ) → Stop → Type 0
MayFail (Some bytes) s = Unit {0}
MayFail None (stop.Refused (refusal.ReadFailed name)) = Unit {0}
MayFail None s = ⊥

-- a reading of the file of this name that a call may have had which stops so
pub record ReadingFor (told : Option (List ℕ → List ℕ)) (before now : List ℕ → ℕ) (s : Stop) (name : List ℕ) (reading : Option (List ℕ)) : Type 0 where
  pub read : ReadAs told before now name reading
  pub fails : MayFail reading s

-- the result is that of a step on a file of this name, for a reading that the call may have had
abbrev pub FileAnswers : {A B : Type 0} → Option (List ℕ → List ℕ) → (List ℕ → ℕ) → (List ℕ → ℕ) → List ℕ → (A → B) → Result A Stop
    → (File → Step B) → Type 0
FileAnswers told before now name seen (Ok x) step =
    (bytes : List ℕ) × Told told name bytes × step (file_as name (Some bytes)) (Ok (seen x))
FileAnswers told before now name seen (Err s) step =
    (reading : Option (List ℕ)) × ReadingFor told before now s name reading × Stopped s (step (file_as name reading))

-- the same of a step on two files
abbrev pub PairAnswers : {A B : Type 0} → Option (List ℕ → List ℕ) → (List ℕ → ℕ) → (List ℕ → ℕ) → List ℕ → List ℕ → (A → B)
    → Result A Stop → (List File → Step B) → Type 0
PairAnswers told before now first second seen (Ok x) step =
    (u v : List ℕ) × Told told first u × Told told second v
    × step (file_as first (Some u) ∷ file_as second (Some v) ∷ []) (Ok (seen x))
PairAnswers told before now first second seen (Err s) step =
    (u v : Option (List ℕ)) × ReadingFor told before now s first u × ReadingFor told before now s second v
    × Stopped s (step (file_as first u ∷ file_as second v ∷ []))

-- ---- counts

-- a failed read of one of these files raised its count; with any other refusal the counts stay
abbrev pub RefusalCounts : List (List ℕ) → (List ℕ → ℕ) → (List ℕ → ℕ) → Refusal → Type 0
RefusalCounts names before now (refusal.ReadFailed name) = Contains names name.now × Rose (before name.now) (now name.now)
RefusalCounts names before now r = now ≡ before

abbrev pub StopCounts : List (List ℕ) → (List ℕ → ℕ) → (List ℕ → ℕ) → Stop → Type 0
StopCounts names before now (stop.Refused r) = RefusalCounts names before now r
StopCounts names before now stop.Mem = now ≡ before

abbrev pub Counts : {A : Type 0} → List (List ℕ) → (List ℕ → ℕ) → (List ℕ → ℕ) → Result A Stop → Type 0
Counts names before now (Ok x) = now ≡ before
Counts names before now (Err s) = StopCounts names before now s

-- a stop of what reads no file
abbrev pub IsNoRead : Stop → Type 0
IsNoRead (stop.Refused (refusal.ReadFailed name)) = ⊥
IsNoRead s = Unit {0}

-- ---- texts

-- a text of at most 1,048,576 bytes, whose source could have been read, and its checked program
pub record IsProper (t : Text) : Type 0 where
  pub short : vec_len t.bytes ≤ 1048576
  pub built : IsWellBuilt (source_tree t.source)
  pub typed : Typed (source_tree t.source) (program_tree t.program)
  pub checked : IsChecked (program_tree t.program)
