-- For bodies: what a run over files that tell their contents ended with.
use Rattle.std.specs.Prelude.{◌≡◌, ◌≢◌, ℕ, ◌≤◌, ◌<◌, List, length, Contains, Some}
use Rattle.std.specs.declared.option.Option.{Option}
use Rattle.kf_io.specs.Faults.{Rose}
use Rattle.kf_laws.specs.Held.{held, program_names, table_names}
use Rattle.kf_top.specs.Ends.{Answer, HasFailed, IsAnswerTo, Question, Sunk, TookFront, Took, TookLine}
use Rattle.kf_top.specs.Outcome.{Outcome}
use Rattle.kf_top.specs.Steps.{HasCauses}
use Rattle.kf_words.specs.Task.{Task, task_of}
use Rattle.kf_words.specs.OfWords.{files_of_some}

-- the defined answer to a question about a task's files, where these hold such contents
abbrev pub IsHeldAnswer : Option Task → Question → (List ℕ → List ℕ) → Answer → Type 0
IsHeldAnswer task question contents answer =
    IsAnswerTo question (held contents (program_names task)) (held contents (table_names task)) answer

pub record Shows (answer : Answer) (out err : Sunk) (status : ℕ) : Type 0 where
  pub status_is : status ≡ answer.status
  pub out_took : Took out answer.out
  pub err_took : TookLine err answer.err

-- the run ended with the defined answer to a question about files that hold these contents
pub record HeldAnswered (task : Option Task) (question : Question) (contents : List ℕ → List ℕ) (out err : Sunk) (status : ℕ) : Type 0 where
  pub answer : Answer
  pub is_answer : IsHeldAnswer task question contents answer
  pub shows : Shows answer out err status

-- the same of words
abbrev pub AnsweredOver : List (List ℕ) → (List ℕ → List ℕ) → Sunk → Sunk → ℕ → Type 0
AnsweredOver words = HeldAnswered (task_of words) (Outcome words)

-- out took only a front of that answer, for which it wasn't certain to have room
pub record HeldInPart (task : Option Task) (question : Question) (contents : List ℕ → List ℕ) (out : Sunk) : Type 0 where
  pub answer : Answer
  pub is_answer : IsHeldAnswer task question contents answer
  pub shown : answer.status ≤ 1
  pub front : TookFront out answer.out
  pub no_room : out.room_before < length answer.out

-- what a run over files that tell these contents ended with
pub record EndsOver (task : Option Task) (question : Question) (contents : List ℕ → List ℕ) (before now : List ℕ → ℕ) (out err : Sunk) (status : ℕ)
    : Type 0 where
  -- every status but read failed, write failed and want of memory is that of the defined answer
  pub decided : status ≢ 3 → status ≢ 4 → status ≢ 12 → HeldAnswered task question contents out err status
  -- what out took before its fault is a front of the defined answer
  pub part : status ≡ 4 → HeldInPart task question contents out
  -- where a read failed, the status says so
  pub read_shown : (name : List ℕ) → before name < now name → status ≡ 3
  -- where nothing failed, the run ends with the defined answer, or memory was wanting
  pub whole : ((name : List ℕ) → Contains (files_of_some task) name → ¬ Rose (before name) (now name)) → ¬ HasFailed out → status ≢ 12
      → HeldAnswered task question contents out err status

-- the causes of a run's status tell all that
abbrev pub CausesEndOver : Type 0
CausesEndOver = (words : List (List ℕ)) (contents : List ℕ → List ℕ) (before now : List ℕ → ℕ) (out err : Sunk) (status : ℕ)
    → HasCauses words (Some contents) before now out err status → EndsOver (task_of words) (Outcome words) contents before now out err status
