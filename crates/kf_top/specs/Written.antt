-- For bodies: what is written of a result, and with which status.
use Rattle.std.specs.Prelude.{◌≡◌, ◌≢◌, ◌<◌, ℕ, List, [], length, codes, if◌then◌else◌, Ok, Err, None, Some}
use Rattle.std.specs.declared.option.Option.{Option}
use Rattle.std.specs.declared.result.Result.{Result}
use Rattle.kf_load.specs.Steps.{Refused, message, refusal}
use Rattle.kf_top.specs.Answer.{Shown, usage}
use Rattle.kf_top.specs.Ends.{HasFailed, Sunk, Took, TookFront, TookLine, TookNothing}
use Rattle.kf_top.specs.Stops.{refused}
use Rattle.kf_top.specs.Views.{shown}
use Rattle.kf_top.specs.declared.end.End.{End}
use Rattle.kf_top.specs.declared.end.Notice.{Notice}
use Rattle.kf_top.specs.declared.end.Notice.TheVariants as notice
use Rattle.kf_top.specs.declared.refusal.Done.{Done}
use Rattle.kf_top.specs.declared.refusal.Stop.{Stop}
use Rattle.kf_top.specs.declared.refusal.Stop.TheVariants as stop

-- the refusal for want of memory
abbrev pub want_of_memory : Refused
want_of_memory = refusal 12 [] (codes "want of memory")

-- the line of a notice
abbrev pub notice_line : Notice → List ℕ
notice_line notice.Usage = usage.line
notice_line (notice.Refused r) = (refused r).line
notice_line notice.WriteFailed = message [] (codes "write failed")
notice_line notice.Mem = want_of_memory.line

-- err took the line of the notice, if there is one, and else nothing
abbrev pub TookNotice : Option Notice → Sunk → Type 0
TookNotice None err = TookNothing err
TookNotice (Some n) err = TookLine err (notice_line n)

-- where err took what the end says, this holds of it and of the status
abbrev pub EndsAs : (Sunk → ℕ → Type 0) → End → Type 0
EndsAs P end = (err : Sunk) → TookNotice end.notice err → P err end.status

-- the status and the line are those of a refusal
pub record IsRefused (r : Refused) (err : Sunk) (status : ℕ) : Type 0 where
  pub status_is : status ≡ r.status
  pub line : TookLine err r.line

-- the same, and nothing stands on the output
pub record HasRefused (r : Refused) (out err : Sunk) (status : ℕ) : Type 0 where
  pub refused : IsRefused r err status
  pub unfailed : out.faults ≡ out.faults_before
  pub quiet : TookNothing out

-- the whole answer was taken
pub record HasShown (s : Shown) (out err : Sunk) (status : ℕ) : Type 0 where
  pub status_is : status ≡ (if s.yes then 0 else 1)
  pub unfailed : out.faults ≡ out.faults_before
  pub took : Took out s.bytes
  pub quiet : TookNothing err

-- a write failed, and a front of the answer was taken
pub record HasShownPart (s : Shown) (out err : Sunk) : Type 0 where
  pub failed : HasFailed out
  pub front : TookFront out s.bytes
  pub no_room : out.room_before < length s.bytes
  pub line : TookLine err (message [] (codes "write failed"))

pub record WasShown (s : Shown) (out err : Sunk) (status : ℕ) : Type 0 where
  pub whole : status ≢ 4 → HasShown s out err status
  pub part : status ≡ 4 → HasShownPart s out err

abbrev pub WrittenOf : Result Done Stop → Sunk → Sunk → ℕ → Type 0
WrittenOf (Ok done) out err status = WasShown (shown done) out err status
WrittenOf (Err (stop.Refused r)) out err status = HasRefused (refused r) out err status
WrittenOf (Err stop.Mem) out err status = HasRefused want_of_memory out err status
