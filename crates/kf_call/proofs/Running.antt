-- From what `run` ensures of two sinks that grow to what a call says.
use Rattle.std.proofs.Common.{◌≡◌, ◌≢◌, ℕ, zero, suc, ◌<◌, Bool, false, IsTrue, ◌++◌, List, [], ◌∷◌, Some, Option, codes, refl, sym, ◌∙◌, subst, arith}
use Rattle.std.proofs.lemmas.List.{append_cancel_left, append_cancel_right}
use Rattle.kf_io.specs.declared.lists.FileEntry.{FileEntry}
use Rattle.kf_load.specs.Steps.{message}
use Rattle.kf_top.specs.Ends.{Sunk, sunk, Answer, HasFailed, CausesOf, IsQuiet}
use Rattle.kf_top.specs.Outcome.{Outcome}
use Rattle.kf_laws.specs.EndsOver.{HeldAnswered}
use Rattle.kf_laws.proofs.HeldFiles.{held_ends}
use Rattle.kf_laws.specs.Held.{IsAnswerOver}
use Rattle.kf_call.specs.Contents.{IsMissing, contents_of}
use Rattle.kf_call.specs.Runs.{took_all, Answers, HasRun, IsUnread}
use Rattle.kf_call.specs.Sinks.{SinkState, empty_sink}
use Rattle.kf_words.specs.Task.{task_of}

-- ---- sinks

abbrev pub grown : SinkState → SinkState → Sunk
grown before now = sunk (λ (s : SinkState). Some s.bytes) (λ (s : SinkState). s.faults) (λ (s : SinkState). 0) before now

-- a sink that was empty, and in which no write has failed
pub was_empty : (before now : SinkState) → before ≡ empty_sink → now.faults ≡ 0 → grown before now ≡ took_all now.bytes
was_empty before now empty none = rw (empty, none) refl

pub none_failed : (failed : Bool) (faults : ℕ) → (0 < faults → IsTrue failed) → failed ≡ false → faults ≡ 0
none_failed failed zero rises none = refl
none_failed failed (suc n) rises none = let no = subst IsTrue none (rises (omega arith)) in absurd (cc)

never_failed : (bytes : List ℕ) → HasFailed (took_all bytes) → ⊥
never_failed bytes failed = omega arith

-- ---- the run

pub has_run : (words : List (List ℕ)) (files : List FileEntry) (missing : List ℕ) (told : Option (List ℕ → List ℕ)) (before now : List ℕ → ℕ)
    (out err : Sunk) (out_bytes err_bytes : List ℕ) (status : ℕ)
    → told ≡ Some (contents_of files missing) → ((name : List ℕ) → before name ≡ 0)
    → out ≡ took_all out_bytes → err ≡ took_all err_bytes
    → CausesOf (task_of words) (Outcome words) told before now out err status → IsQuiet out err status
    → HasRun words files missing out_bytes err_bytes status
has_run words files missing told before now out err out_bytes err_bytes status is uncounted out_is err_is causes quiet =
    let none : before ≡ (λ name. 0) = λ i name. uncounted name i in
    record {
      unread = now;
      causes = subst (λ t. CausesOf (task_of words) (Outcome words) t (λ name. 0) now (took_all out_bytes) (took_all err_bytes) status) is
          (subst (λ b. CausesOf (task_of words) (Outcome words) told b now (took_all out_bytes) (took_all err_bytes) status) none
          (subst (λ s. CausesOf (task_of words) (Outcome words) told before now (took_all out_bytes) s status) err_is
          (subst (λ s. CausesOf (task_of words) (Outcome words) told before now s err status) out_is causes)));
      quiet = subst (λ s. IsQuiet (took_all out_bytes) s status) err_is (subst (λ s. IsQuiet s err status) out_is quiet);
    }

-- ---- what follows

same_answer : (a : Answer) (status : ℕ) (out err : List ℕ) → status ≡ a.status → out ≡ a.out → err ≡ a.err
    → a ≡ record { status = status; out = out; err = err }
same_answer a status out err s o e = rw (s, o, e) refl

-- nothing is written that could fail
pub never_unwritten : (words : List (List ℕ)) (files : List FileEntry) (missing out err : List ℕ) (status : ℕ)
    → HasRun words files missing out err status → status ≢ 4
never_unwritten words files missing out err status run is = never_failed out (run.causes.write is).0

-- every status but read failed and want of memory is that of the defined answer
pub decided : (words : List (List ℕ)) (files : List FileEntry) (missing out err : List ℕ) (status : ℕ)
    → HasRun words files missing out err status → status ≢ 12 → status ≢ 3
    → IsAnswerOver words (contents_of files missing) (record { status = status; out = out; err = err })
decided words files missing out err status run memory read =
    let written = never_unwritten words files missing out err status run in
    let shown : HeldAnswered (task_of words) (Outcome words) (contents_of files missing) (took_all out) (took_all err) status =
    (held_ends (task_of words) (Outcome words) (contents_of files missing) (λ name. 0) run.unread (took_all out) (took_all err) status run.causes).decided read written memory in
    subst (IsAnswerOver words (contents_of files missing))
    (same_answer shown.answer status out err shown.shows.status_is shown.shows.out_took (shown.shows.err_took.whole (never_failed err)))
    shown.is_answer

-- a line names one file
names_one : (a b what : List ℕ) → message a what ≡ message b what → a ≡ b
names_one a b what same =
    append_cancel_right a b (what ++ 10 ∷ []) (append_cancel_left (codes "kuifje: ") (a ++ (what ++ 10 ∷ [])) (b ++ (what ++ 10 ∷ [])) same)

-- where a read failed, and the line names a file that isn't there
pub unread : (words : List (List ℕ)) (files : List FileEntry) (missing out err : List ℕ) (status : ℕ)
    → HasRun words files missing out err status
    → ((name : List ℕ) × (err ≡ message name (codes ": read failed")) × IsMissing files name)
    → status ≡ 3 → IsUnread words files out err
unread words files missing out err status run line three =
    let u = run.causes.read three in
    let told : err ≡ message u.name (codes ": read failed") = u.line.whole (never_failed err) in
    record {
      name = u.name;
      named = u.named;
      missing = subst (IsMissing files) (names_one line.0 u.name (codes ": read failed") (sym line.1 ∙ told)) line.2;
      out_is = run.quiet.out_quiet (λ is. omega arith) (λ is. omega arith) (λ is. omega arith);
      err_is = told;
    }

pub answers : (words : List (List ℕ)) (files : List FileEntry) (missing out err : List ℕ) (status : ℕ)
    → HasRun words files missing out err status → status ≢ 12
    → (status ≡ 3 → (name : List ℕ) × (err ≡ message name (codes ": read failed")) × IsMissing files name)
    → Answers words files missing out err status
answers words files missing out err status run memory line = record {
  run = run;
  decided = decided words files missing out err status run memory;
  unread = λ three. unread words files missing out err status run (line three) three;
}
