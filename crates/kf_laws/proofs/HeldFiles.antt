-- Over files that tell what they hold, a run's answer is that over the held files.
use Rattle.std.proofs.Common.{◌≡◌, ◌≢◌, ℕ, List, [], ◌∷◌, ◌++◌, Option, None, Some, IsTrue, is_some, refl, ap, subst, ◌∙◌, arith, ⊎_elim}
use Rattle.std.specs.List.{AllByRecursion as Every}
use Rattle.std.proofs.lemmas.Bool.{cases_eq}
use Rattle.std.proofs.lemmas.List.Elements.{recursion_from_All}
use Rattle.kf_load.specs.Readings.{IsRead, WasRead}
use Rattle.kf_load.specs.Texts.{File}
use Rattle.kf_load.specs.Refusals.{ReadAs}
use Rattle.kf_top.specs.Ends.{Answer, AreNamed, CausesOf, Defined, IsAnswerTo, Question, Sunk, names_of}
use Rattle.kf_top.specs.Outcome.{Outcome, TaskOutcome}
use Rattle.kf_top.specs.Steps.{SomeOutcome}
use Rattle.kf_words.specs.Task.{Task, tables_of, task_of}
use Rattle.kf_laws.specs.EndsOver.{CausesEndOver, EndsOver, HeldAnswered, IsHeldAnswer}
use Rattle.kf_laws.specs.Held.{IsAnswerOver, held, held_file, program_names, table_names}

-- ---- lists

every_left : {A : Type 0} (P : A → Type 0) (xs ys : List A) → Every P (xs ++ ys) → Every P xs
every_left P [] ys all = tt
every_left P (x ∷ xs) ys all = (all.0, every_left P xs ys all.1)

every_right : {A : Type 0} (P : A → Type 0) (xs ys : List A) → Every P (xs ++ ys) → Every P ys
every_right P [] ys all = all
every_right P (x ∷ xs) ys all = every_right P xs ys all.1

-- ---- readings

module _ (contents : List ℕ → List ℕ) (before now : List ℕ → ℕ) where
  -- bytes that were read are those that the file holds
  has_read : (name : List ℕ) (reading : Option (List ℕ)) → ReadAs (Some contents) before now name reading → IsTrue (is_some reading) → reading ≡ Some (contents name)
  has_read name (Some bytes) is whole = ap Some (is contents refl)
  has_read name None is whole = absurd (cc)

  is_held : (f : File) → WasRead (Some contents) before now f → IsRead f → f ≡ held_file contents f.name
  is_held f told whole = λ i. record { name = f.name; reading = has_read f.name f.reading told whole i }

  are_held : (files : List File) → Every (WasRead (Some contents) before now) files → Every IsRead files → files ≡ held contents (names_of files)
  are_held [] told whole = refl
  are_held (f ∷ files) told whole = λ i. is_held f told.0 whole.0 i ∷ are_held files told.1 whole.1 i

  names_are : (task : Option Task) (programs tables : List File) → AreNamed task programs tables → (names_of programs ≡ program_names task) × (names_of tables ≡ table_names task)
  names_are None programs tables named = (ap names_of named.0, ap names_of named.1)
  names_are (Some task) programs tables named = named

  -- an answer that doesn't say that a read failed is that over the held files
  told_answer : (task : Option Task) (question : Question) (answer : Answer) → Defined task question (Some contents) before now answer → answer.status ≢ 3
      → IsHeldAnswer task question contents answer
  told_answer task question answer is unlike =
      let told = recursion_from_All (WasRead (Some contents) before now) (is.programs ++ is.tables) is.read in
      let whole = recursion_from_All IsRead (is.programs ++ is.tables) (is.whole unlike) in
      let names = names_are task is.programs is.tables is.named in
      let programs : is.programs ≡ held contents (program_names task) =
      are_held is.programs (every_left (WasRead (Some contents) before now) is.programs is.tables told) (every_left IsRead is.programs is.tables whole) ∙ ap (held contents) names.0 in
      let tables : is.tables ≡ held contents (table_names task) =
      are_held is.tables (every_right (WasRead (Some contents) before now) is.programs is.tables told) (every_right IsRead is.programs is.tables whole) ∙ ap (held contents) names.1 in
      subst (λ (files : List File). IsAnswerTo question (held contents (program_names task)) files answer) tables
      (subst (λ (files : List File). IsAnswerTo question files is.tables answer) programs is.is_answer)

-- ---- ends

-- the causes of a status over files that tell what they hold, whatever is asked of them
pub held_ends : (task : Option Task) (question : Question) (contents : List ℕ → List ℕ) (before now : List ℕ → ℕ) (out err : Sunk) (status : ℕ)
    → CausesOf task question (Some contents) before now out err status → EndsOver task question contents before now out err status
held_ends task question contents before now out err status causes =
    let decided : status ≢ 3 → status ≢ 4 → status ≢ 12 → HeldAnswered task question contents out err status =
    λ read written memory.
    let a = causes.answered written memory in
    record { answer = a.answer; is_answer = told_answer contents before now task question a.answer a.defined (λ three. read (a.status_is ∙ three)); shows = record { status_is = a.status_is; out_took = a.out_took; err_took = a.err_took } } in
    record {
      decided = decided;
      part = λ four.
          let a = causes.part four in
          record {
            answer = a.answer;
            is_answer = told_answer contents before now task question a.answer a.defined (λ three. let few = a.shown in omega (arith, three, few));
            shown = a.shown;
            front = a.front;
            no_room = a.no_room;
          };
      read_shown = λ name rose.
          ⊎_elim (λ (three : status ≡ 3). three)
          (λ (other : status ≢ 3). let same : now name ≡ before name = ap (λ (count : List ℕ → ℕ). count name) (causes.counted other) in absurd (omega (arith, same, rose)))
          (cases_eq status 3);
      whole = λ unread unfailed memory.
          decided (λ three. let u = causes.read three in unread u.name u.named u.rose) (λ four. unfailed (causes.write four).0) memory;
    }

pub ends_over : CausesEndOver
ends_over words contents before now out err status causes = held_ends (task_of words) (Outcome words) contents before now out err status causes

-- ---- tasks

-- the outcome of words that ask for a task is the task's, over the files that it names
pub outcome_of_task : (contents : List ℕ → List ℕ) (words : List (List ℕ)) (task : Task) (answer : Answer) → task_of words ≡ Some task
    → (is : IsAnswerOver words contents answer) → TaskOutcome task (held contents task.files) (held contents (tables_of task.command)) is.result
outcome_of_task contents words task answer asks is =
    subst (λ (t : Option Task). SomeOutcome t (held contents (program_names t)) (held contents (table_names t)) is.result) asks is.outcome
