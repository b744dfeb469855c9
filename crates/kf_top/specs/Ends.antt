-- Believed: how a run ends: its status, and what it did to the sinks and to the counts of faults.
use Rattle.std.specs.Prelude.{◌≡◌, ◌≢◌, ℕ, ◌≤◌, ◌<◌, List, [], ◌++◌, All, length, map, Contains, codes, None, Some, Ok, Err, if◌then◌else◌}
use Rattle.std.specs.declared.option.Option.{Option}
use Rattle.std.specs.declared.result.Result.{Result}
use Rattle.std.specs.Io.KnownBytes.{Appends, Keeps}
use Rattle.std.specs.Option.{option_map_or}
use Rattle.kf_io.specs.Faults.{Rose}
use Rattle.kf_io.specs.Writes.{AppendsSome}
use Rattle.kf_load.specs.Readings.{IsRead, WasRead}
use Rattle.kf_load.specs.Steps.{Refused, Step, message}
use Rattle.kf_load.specs.Texts.{File}
use Rattle.kf_top.specs.Answer.{Shown, usage}
use Rattle.kf_words.specs.Task.{Task, tables_of}

-- ---- answers

-- a status, the bytes for out and the bytes for err
pub record Answer : Type 0 where
  pub status : ℕ
  pub out : List ℕ
  pub err : List ℕ

-- the answer that an outcome comes to: status 0 for yes, 1 for no, or that of a refusal
abbrev pub settled : Result Shown Refused → Answer
settled (Ok shown) = record { status = if shown.yes then 0 else 1; out = shown.bytes; err = [] }
settled (Err refused) = record { status = refused.status; out = []; err = refused.line }

-- what is asked of files: what it comes to, by those of the programs and those that the command reads beside them
abbrev pub Question : Type 1
Question = List File → List File → Step Shown

-- the defined answer to a question over files
pub record IsAnswerTo (question : Question) (programs tables : List File) (answer : Answer) : Type 0 where
  pub result : Result Shown Refused
  pub outcome : question programs tables result
  pub settles : answer ≡ settled result

-- ---- files

abbrev pub names_of : List File → List (List ℕ)
names_of files = map (λ file. file.name) files

-- these are the files that a task names
abbrev pub AreNamed : Option Task → List File → List File → Type 0
AreNamed None programs tables = (programs ≡ []) × (tables ≡ [])
AreNamed (Some task) programs tables = (names_of programs ≡ task.files) × (names_of tables ≡ tables_of task.command)

-- ---- sinks

-- a sink before and after a call: its bytes, where told, its count of faults, and the room that it was certain to have
pub record Sunk : Type 0 where
  pub bytes_before : Option (List ℕ)
  pub bytes : Option (List ℕ)
  pub faults_before : ℕ
  pub faults : ℕ
  pub room_before : ℕ

abbrev pub sunk : {S : Type 0} → (S → Option (List ℕ)) → (S → ℕ) → (S → ℕ) → S → S → Sunk
sunk taken faults room old new = record {
  bytes_before = taken old;
  bytes = taken new;
  faults_before = faults old;
  faults = faults new;
  room_before = room old;
}

abbrev pub TookNothing : Sunk → Type 0
TookNothing s = Keeps s.bytes_before s.bytes

abbrev pub Took : Sunk → List ℕ → Type 0
Took s bytes = Appends s.bytes_before s.bytes bytes

abbrev pub TookFront : Sunk → List ℕ → Type 0
TookFront s bytes = AppendsSome s.bytes_before s.bytes bytes

abbrev pub HasFailed : Sunk → Type 0
HasFailed s = Rose s.faults_before s.faults

-- the line, or a front of it where the sink's count rose; the whole line where it was certain to have room
pub record TookLine (s : Sunk) (line : List ℕ) : Type 0 where
  pub front : TookFront s line
  pub whole : ¬ HasFailed s → Took s line
  pub certain : length line ≤ s.room_before → Took s line

-- ---- ends

-- a read of a file that the task names has failed, and the line says so
pub record Unread (task : Option Task) (before now : List ℕ → ℕ) (err : Sunk) : Type 0 where
  pub name : List ℕ
  pub named : Contains (option_map_or (λ (t : Task). t.files ++ tables_of t.command) task []) name
  pub rose : Rose (before name) (now name)
  pub line : TookLine err (message name (codes ": read failed"))

-- by the task that is asked for, where there is one, the question about its files, what files tell, and the counts of their faults
module _ (task : Option Task) (question : Question) (told : Option (List ℕ → List ℕ)) (before now : List ℕ → ℕ) where
  -- a defined answer, over some readings of the files that the task names: the bytes that files tell, where they tell them, and nothing
  -- where a read failed
  pub record Defined (answer : Answer) : Type 0 where
    pub programs : List File
    pub tables : List File
    pub named : AreNamed task programs tables
    pub read : All (WasRead told before now) (programs ++ tables)
    -- a read of them failed only where the answer says so
    pub whole : answer.status ≢ 3 → All IsRead (programs ++ tables)
    pub is_answer : IsAnswerTo question programs tables answer

  -- the run ended with a defined answer
  pub record Answered (out err : Sunk) (status : ℕ) : Type 0 where
    pub answer : Answer
    pub defined : Defined answer
    pub status_is : status ≡ answer.status
    pub out_took : Took out answer.out
    pub err_took : TookLine err answer.err

  -- out took only a front of a defined answer, for which it wasn't certain to have room
  pub record AnsweredInPart (out : Sunk) : Type 0 where
    pub answer : Answer
    pub defined : Defined answer
    pub shown : answer.status ≤ 1
    pub front : TookFront out answer.out
    pub no_room : out.room_before < length answer.out

  -- each status has its cause
  pub record CausesOf (out err : Sunk) (status : ℕ) : Type 0 where
    -- every status but write failed and want of memory is that of a defined answer
    pub answered : status ≢ 4 → status ≢ 12 → Answered out err status
    pub usage : status ≡ 2 → (task ≡ None) × TookLine err usage.line
    pub usage_shown : task ≡ None → status ≢ 12 → status ≡ 2
    pub read : status ≡ 3 → Unread task before now err
    -- where no read failed, each file's count stays
    pub counted : status ≢ 3 → now ≡ before
    pub write : status ≡ 4 → HasFailed out × TookLine err (message [] (codes "write failed"))
    pub write_shown : out.faults_before < out.faults → status ≡ 4
    -- what out took before its fault is a front of a defined answer
    pub part : status ≡ 4 → AnsweredInPart out
    pub memory : status ≡ 12 → TookLine err (message [] (codes "want of memory"))

-- nothing is written before the answer is whole, and err gets a line only with a status above 1
pub record IsQuiet (out err : Sunk) (status : ℕ) : Type 0 where
  pub out_quiet : status ≢ 0 → status ≢ 1 → status ≢ 4 → TookNothing out
  pub err_quiet : status ≤ 1 → TookNothing err
