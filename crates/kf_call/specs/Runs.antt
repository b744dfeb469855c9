-- Believed by a caller from C: what a call did.
use Rattle.std.specs.Prelude.{◌≡◌, ◌≢◌, ℕ, List, [], ◌++◌, Some, length, take, drop, codes, Contains}
use Rattle.kf_io.specs.declared.lists.FileEntry.{FileEntry}
use Rattle.kf_laws.specs.Held.{IsAnswerOver}
use Rattle.kf_load.specs.Steps.{message}
use Rattle.kf_top.specs.Ends.{Sunk, CausesOf, IsQuiet}
use Rattle.kf_top.specs.Outcome.{Outcome}
use Rattle.kf_call.specs.Contents.{IsMissing, contents_of}
use Rattle.kf_words.specs.OfWords.{files_of_some}
use Rattle.kf_words.specs.Task.{task_of}

-- a sink that was empty, took these bytes and has refused none
abbrev pub took_all : List ℕ → Sunk
took_all bytes = record { bytes_before = Some []; bytes = Some bytes; faults_before = 0; faults = 0; room_before = 0 }

-- What `run` promises over these files and two such sinks, with these whole answers.
pub record HasRun (words : List (List ℕ)) (files : List FileEntry) (missing out err : List ℕ) (status : ℕ) : Type 0 where
  -- how often a read of each name has failed
  pub unread : List ℕ → ℕ
  pub causes : CausesOf (task_of words) (Outcome words) (Some (contents_of files missing)) (λ name. 0) unread (took_all out) (took_all err) status
  pub quiet : IsQuiet (took_all out) (took_all err) status

-- a file that the words name isn't there, and the line says which
pub record IsUnread (words : List (List ℕ)) (files : List FileEntry) (out err : List ℕ) : Type 0 where
  pub name : List ℕ
  pub named : Contains (files_of_some (task_of words)) name
  pub missing : IsMissing files name
  pub out_is : out ≡ []
  pub err_is : err ≡ message name (codes ": read failed")

-- The call's answer: the defined one, whatever a missing file might hold, or else that a file is missing.
pub record Answers (words : List (List ℕ)) (files : List FileEntry) (missing out err : List ℕ) (status : ℕ) : Type 0 where
  pub run : HasRun words files missing out err status
  pub decided : status ≢ 3
      → IsAnswerOver words (contents_of files missing) (record { status = status; out = out; err = err })
  pub unread : status ≡ 3 → IsUnread words files out err

-- a buffer got the front of these bytes, of which there are so many, and kept the rest of what it held
pub record HasFront (before now : List ℕ) (count : ℕ) (bytes : List ℕ) : Type 0 where
  pub front : now ≡ take (length before) bytes ++ drop (length bytes) before
  pub count_is : count ≡ length bytes

-- a call that answered
pub record Answered (words : List (List ℕ)) (files : List FileEntry) (missing out_before out err_before err : List ℕ) (out_count err_count status : ℕ)
    : Type 0 where
  pub whole_out : List ℕ
  pub whole_err : List ℕ
  pub answers : Answers words files missing whole_out whole_err status
  pub out_has : HasFront out_before out out_count whole_out
  pub err_has : HasFront err_before err err_count whole_err
