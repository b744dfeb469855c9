-- The status of a run from 5 on, but want of memory, is that of a refusal that its words can have.
use Rattle.std.proofs.Common.{◌≡◌, ℕ, ◌≤◌, Bool, true, false, List, Option, None, Some, Result, Ok, Err, if◌then◌else◌, refl, ◌∙◌, ap, subst, arith}
use Rattle.kf_load.specs.Steps.{Refused}
use Rattle.kf_load.specs.Texts.{File}
use Rattle.kf_top.specs.Answer.{Shown, usage}
use Rattle.kf_top.specs.Ends.{Answer, AreNamed, Sunk, TookLine, settled}
use Rattle.kf_top.specs.Outcome.{Outcome}
use Rattle.kf_top.specs.Steps.{refusing, SomeOutcome}
use Rattle.kf_words.specs.Task.{Task, task_of}
use Rattle.kf_laws.specs.Refusals.{IsReasoned, RefusalsAreReasoned, RefusedAs, RunsAreRefusedAs}

-- what is shown has a status of at most 1
shown_status : (yes' : Bool) → (if yes' then 0 else 1) ≤ 1
shown_status true = omega arith
shown_status false = omega arith

-- a result whose status is above 1 is a refusal
pub refused_result : (x : Result Shown Refused) (answer : Answer) → answer ≡ settled x → 2 ≤ answer.status → (r : Refused) × (x ≡ Err r) × (answer ≡ refusing r)
refused_result (Ok shown) answer is above =
    let status : answer.status ≡ (if shown.yes then 0 else 1) = ap (λ (a : Answer). a.status) is in
    let few = shown_status shown.yes in
    absurd (omega (arith, status, few, above))
refused_result (Err r) answer is above = (r, refl, is)

module _ (reasoned : RefusalsAreReasoned) where
  by_task : (words : List (List ℕ)) (programs tables : List File) (r : Refused) (err : Sunk) (status : ℕ) → 5 ≤ status → status ≡ r.status → TookLine err r.line
      → (asked : Option Task) → task_of words ≡ asked → AreNamed asked programs tables → SomeOutcome asked programs tables (Err r) → RefusedAs words err status
  by_task words programs tables r err status above is line None asks are refused =
      let same : r ≡ usage = cc in
      let two : r.status ≡ 2 = ap (λ (s : Refused). s.status) same in
      absurd (omega (arith, above, is, two))
  by_task words programs tables r err status above is line (Some task) asks are refused =
      let why : IsReasoned task r = reasoned words task programs tables r asks are refused in
      record {
        task = task;
        asked = asks;
        reason = why.reason;
        can = why.can;
        status_is = is ∙ ap (λ (s : Refused). s.status) why.is;
        line = subst (λ (s : Refused). TookLine err s.line) why.is line;
      }

  pub runs_refused : RunsAreRefusedAs
  runs_refused words told before now out err status causes above memory =
      let a = causes.answered (λ four. omega (arith, above, four)) memory in
      let status_is = a.status_is in
      let refused = refused_result a.defined.is_answer.result a.answer a.defined.is_answer.settles (omega (arith, above, status_is)) in
      by_task words a.defined.programs a.defined.tables refused.0 err status above (status_is ∙ ap (λ (x : Answer). x.status) refused.2)
      (subst (λ (x : Answer). TookLine err x.err) refused.2 a.err_took) (task_of words) refl a.defined.named
      (subst (λ (x : Result Shown Refused). Outcome words a.defined.programs a.defined.tables x) refused.1 a.defined.is_answer.outcome)
