-- An answer with a status of at most 1 shows what its task comes to.
use Rattle.std.proofs.Common.{◌≡◌, ℕ, ◌≤◌, Bool, true, List, [], ◌∷◌, Some, Result, Ok, Err, if◌then◌else◌, refl, ◌∙◌, ap, arith}
use Rattle.kf_core.specs.Programs.{ProgramTree}
use Rattle.kf_refine.specs.Refinements.{HyperTree}
use Rattle.kf_refine.specs.Verdicts.{VerdictTree, Proves}
use Rattle.kf_refine.specs.declared.verdict.RefineError.{RefineError}
use Rattle.kf_cert.specs.CertTexts.{cert_text}
use Rattle.kf_text.specs.VerdictTexts.{verdict_text}
use Rattle.kf_load.specs.Steps.{Refused}
use Rattle.kf_load.specs.Texts.{File}
use Rattle.kf_top.specs.Answer.{CommandOutcome, Shown, VerdictShown, prints, verdict_refusal}
use Rattle.kf_top.specs.Ends.{Answer, names_of, settled}
use Rattle.kf_top.specs.Outcome.{ProgramsOutcome, TaskOutcome}
use Rattle.kf_top.specs.Steps.{showing, ClearedOf, is_yes}
use Rattle.kf_words.specs.Task.{Command, Task, tables_of, task_of}
use Rattle.kf_laws.specs.Held.{IsAnswerOver, held}
use Rattle.kf_laws.specs.Refusals.{IsReasoned, Reason, ReadFailed, TooLong, BadText, BadRun, WideScale, NotInitial, BadTable, WideGain, OtherTarget, ManyCells, WideTableau, ManyPivots, BadCert, WideCert, OtherRows, NoFit, ManyChannelCells, WideChannel, ManyStores, FewStatements, RefusalsAreReasoned, refusal_for}
use Rattle.kf_laws.proofs.HeldFiles.{outcome_of_task}
use Rattle.kf_laws.proofs.OneAnswer.{HasOne, next_of}

-- ---- refusals

refused_above : (reason : Reason) → 2 ≤ (refusal_for reason).status
refused_above (ReadFailed name) = omega arith
refused_above (TooLong name) = omega arith
refused_above (BadText name line column word) = omega arith
refused_above (BadRun name line column word) = omega arith
refused_above (WideScale name) = omega arith
refused_above NotInitial = omega arith
refused_above (BadTable name word) = omega arith
refused_above WideGain = omega arith
refused_above OtherTarget = omega arith
refused_above (ManyCells cells) = omega arith
refused_above (WideTableau pivots) = omega arith
refused_above ManyPivots = omega arith
refused_above (BadCert name word) = omega arith
refused_above WideCert = omega arith
refused_above OtherRows = omega arith
refused_above NoFit = omega arith
refused_above (ManyChannelCells cells) = omega arith
refused_above WideChannel = omega arith
refused_above (ManyStores name count) = omega arith
refused_above (FewStatements name count) = omega arith

-- ---- answers

-- held files have the names that they were given
held_names : (contents : List ℕ → List ℕ) (names : List (List ℕ)) → names_of (held contents names) ≡ names
held_names contents [] = refl
held_names contents (name ∷ names) = ap (λ (rest : List (List ℕ)). name ∷ rest) (held_names contents names)

module _ (reasoned : RefusalsAreReasoned) (contents : List ℕ → List ℕ) where
  shown_by : (words : List (List ℕ)) (task : Task) (answer : Answer) → task_of words ≡ Some task → answer.status ≤ 1 → (x : Result Shown Refused) → answer ≡ settled x
      → TaskOutcome task (held contents task.files) (held contents (tables_of task.command)) x
      → (shown : Shown) × (answer ≡ showing shown) × TaskOutcome task (held contents task.files) (held contents (tables_of task.command)) (Ok shown)
  shown_by words task answer asks few (Ok shown) settles outcome = (shown, settles, outcome)
  shown_by words task answer asks few (Err r) settles outcome =
      let why : IsReasoned task r =
      reasoned words task (held contents task.files) (held contents (tables_of task.command)) r asks
      (held_names contents task.files, held_names contents (tables_of task.command)) outcome in
      let above = refused_above why.reason in
      let status : answer.status ≡ (refusal_for why.reason).status = ap (λ (a : Answer). a.status) settles ∙ ap (λ (s : Refused). s.status) why.is in
      absurd (omega (arith, few, status, above))

  pub task_shown : (words : List (List ℕ)) (task : Task) (answer : Answer) → task_of words ≡ Some task → IsAnswerOver words contents answer → answer.status ≤ 1
      → (shown : Shown) × (answer ≡ showing shown) × TaskOutcome task (held contents task.files) (held contents (tables_of task.command)) (Ok shown)
  task_shown words task answer asks is few = shown_by words task answer asks few is.result is.settles (outcome_of_task contents words task answer asks is)

  -- the same of a task on programs that are known
  pub command_shown : ((command : Command) (turns : ℕ) (programs : List File) → HasOne (ClearedOf command turns programs)) → (words : List (List ℕ)) (task : Task) (answer : Answer)
      (ps : List ProgramTree) → ((r : Result Shown Refused) → TaskOutcome task (held contents task.files) (held contents (tables_of task.command)) r
      → ProgramsOutcome task.command task.turns (held contents task.files) (held contents (tables_of task.command)) r)
      → task_of words ≡ Some task → IsAnswerOver words contents answer → answer.status ≤ 1 → ClearedOf task.command task.turns (held contents task.files) (Ok ps)
      → (shown : Shown) × (answer ≡ showing shown) × CommandOutcome task.command task.turns (held contents (tables_of task.command)) ps (Ok shown)
  command_shown one_cleared words task answer ps on_programs asks is few are =
      let w = task_shown words task answer asks is few in (
        w.0,
        w.1,
        next_of (ClearedOf task.command task.turns (held contents task.files)) (CommandOutcome task.command task.turns (held contents (tables_of task.command)))
            (one_cleared task.command task.turns (held contents task.files)) ps are (Ok w.0) (on_programs (Ok w.0) w.2),
      )

-- what is printed is what the answer has for out
pub printed : (answer : Answer) (shown : Shown) (bytes : List ℕ) → answer ≡ showing shown → Ok shown ≡ prints bytes → answer.out ≡ bytes
printed answer shown bytes shows is =
    let same : shown ≡ record { yes = true; bytes = bytes } = cc in
    ap (λ (x : Answer). x.out) shows ∙ ap (λ (s : Shown). s.bytes) same

-- ---- verdicts

-- what is shown of a verdict is one, which proves itself
pub verdict_of : (json : Bool) (a b : HyperTree) (r : Result VerdictTree RefineError) (shown : Shown) → VerdictShown json a b r (Ok shown)
    → (v : VerdictTree) × (r ≡ Ok v) × Proves a b v × (shown ≡ record { yes = is_yes v; bytes = if json then cert_text a.target v else verdict_text a.target v })
verdict_of json a b (Ok v) shown is =
    let given : Ok shown ≡ Ok (record { yes = is_yes v; bytes = if json then cert_text a.target v else verdict_text a.target v }) = is.1 in
    (v, refl, is.0, (cc))
verdict_of json a b (Err e) shown is = let never : Ok shown ≡ Err (verdict_refusal e) = is in absurd (cc)
