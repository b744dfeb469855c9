-- How each end of a run meets what is promised of its status.
use Rattle.std.proofs.Common.{◌≡◌, ◌≢◌, ◌⊎◌, ℕ, ◌<◌, ◌≤◌, List, [], ◌++◌, get_or, length, Bool, true, false, codes, None, Some, Option, Result, Ok, Err, IsTrue, is_some, refl, sym, ◌∙◌, ap, subst, arith, if◌then◌else◌, append-nil, ⊎_elim, inl, inr, Contains}
use Rattle.std.proofs.lemmas.Bool.{cases_eq, cases_lt}
use Rattle.std.specs.Io.KnownBytes.{Appends, Keeps}
use Rattle.kf_io.specs.Faults.{Rose}
use Rattle.kf_load.specs.Steps.{Refused, message, refusal as refused_with}
use Rattle.kf_load.specs.declared.refusal.Refusal.TheVariants as load_refusal
use Rattle.kf_words.specs.Task.{Task, task_of}
use Rattle.kf_words.specs.declared.error.WordsError.{WordsError}
use Rattle.kf_words.specs.declared.error.WordsError.TheVariants as words_error
use Rattle.kf_words.specs.OfWords.{named}
use Rattle.kf_top.specs.Answer.{Shown, usage}
use Rattle.kf_top.specs.Ends.{Answered, CausesOf, Defined, Question, Sunk, TookNothing, Took, TookFront, HasFailed, TookLine}
use Rattle.kf_top.specs.Outcome.{Outcome, TaskOutcome}
use Rattle.kf_top.specs.Stops.{refused}
use Rattle.kf_top.specs.TaskAnswers.{AnswerTo, Counts, IsUnread, MayFail, RefusalCounts}
use Rattle.kf_top.specs.Views.{shown}
use Rattle.kf_top.specs.Written.{IsRefused, WasShown, WrittenOf, want_of_memory}
use Rattle.kf_top.specs.declared.refusal.Done.{Done}
use Rattle.kf_top.specs.declared.refusal.Refusal.{Refusal}
use Rattle.kf_top.specs.declared.refusal.Refusal.TheVariants as refusal
use Rattle.kf_top.specs.declared.refusal.Stop.{Stop}
use Rattle.kf_top.specs.declared.refusal.Stop.TheVariants as stop
use Rattle.kf_top.specs.Steps.{showing, refusing, HasCauses, SomeOutcome}

-- ---- sinks

took_none : (a b : Option (List ℕ)) → Keeps a b → Appends a b []
took_none None b k = tt
took_none (Some x) None k = absurd k
took_none (Some x) (Some y) k = k ∙ sym (append-nil x)

line_none : (s : Sunk) → TookNothing s → TookLine s []
line_none s k =
    let took = took_none s.bytes_before s.bytes k in
    record { front = (0, omega arith, took); whole = λ _. took; certain = λ _. took }

-- a sink that wasn't called took nothing
pub untouched : (bytes : Option (List ℕ)) → Keeps bytes bytes
untouched None = tt
untouched (Some bytes) = refl

-- what failed wasn't certain to fit
pub not_certain : (size room : ℕ) → (size ≤ room → ⊥) → room < size
not_certain size room h = ⊎_elim (λ (lt : room < size). lt) (λ (le : size ≤ room). absurd (h le)) (cases_lt room size)

-- ---- refusals

-- a failed read of a file that the words name, or a status of what its bytes are refused for
pub data Kind (names : List (List ℕ)) (before now : List ℕ → ℕ) (r : Refused) : Type 0 where
  Unreadable : (name : List ℕ) → Contains names name → Rose (before name) (now name) → r ≡ refused_with 3 name (codes ": read failed") → Kind names before now r
  Unfit : 5 ≤ r.status → r.status ≢ 12 → now ≡ before → Kind names before now r

pub kind_of : (names : List (List ℕ)) (before now : List ℕ → ℕ) (r : Refusal) → RefusalCounts names before now r → Kind names before now (refused r)
kind_of names before now (refusal.Load (load_refusal.ReadFailed name)) h = Unreadable name.now h.0 h.1 refl
kind_of names before now (refusal.Load (load_refusal.TooLong name)) h = Unfit (omega arith) (λ e. omega arith) h
kind_of names before now (refusal.Load (load_refusal.BadText name line column word)) h = Unfit (omega arith) (λ e. omega arith) h
kind_of names before now (refusal.Load (load_refusal.BadRun name line column word)) h = Unfit (omega arith) (λ e. omega arith) h
kind_of names before now (refusal.Load (load_refusal.WideScale name)) h = Unfit (omega arith) (λ e. omega arith) h
kind_of names before now (refusal.Load (load_refusal.FewStatements name count)) h = Unfit (omega arith) (λ e. omega arith) h
kind_of names before now refusal.NotInitial h = Unfit (omega arith) (λ e. omega arith) h
kind_of names before now (refusal.BadTable name error) h = Unfit (omega arith) (λ e. omega arith) h
kind_of names before now refusal.WideGain h = Unfit (omega arith) (λ e. omega arith) h
kind_of names before now refusal.OtherTarget h = Unfit (omega arith) (λ e. omega arith) h
kind_of names before now (refusal.ManyCells cells) h = Unfit (omega arith) (λ e. omega arith) h
kind_of names before now (refusal.WideTableau pivots) h = Unfit (omega arith) (λ e. omega arith) h
kind_of names before now refusal.ManyPivots h = Unfit (omega arith) (λ e. omega arith) h
kind_of names before now (refusal.BadCert name error) h = Unfit (omega arith) (λ e. omega arith) h
kind_of names before now refusal.WideCert h = Unfit (omega arith) (λ e. omega arith) h
kind_of names before now refusal.OtherRows h = Unfit (omega arith) (λ e. omega arith) h
kind_of names before now refusal.NoFit h = Unfit (omega arith) (λ e. omega arith) h
kind_of names before now (refusal.ManyChannelCells cells) h = Unfit (omega arith) (λ e. omega arith) h
kind_of names before now refusal.WideChannel h = Unfit (omega arith) (λ e. omega arith) h
kind_of names before now (refusal.ManyStores name count) h = Unfit (omega arith) (λ e. omega arith) h

-- a file stands unread only beside the status of a failed read
unread_status : (r : Refusal) → IsUnread (stop.Refused r) → (refused r).status ≡ 3
unread_status (refusal.Load (load_refusal.ReadFailed name)) h = refl
unread_status (refusal.Load (load_refusal.TooLong name)) h = absurd h
unread_status (refusal.Load (load_refusal.BadText name line column word)) h = absurd h
unread_status (refusal.Load (load_refusal.BadRun name line column word)) h = absurd h
unread_status (refusal.Load (load_refusal.WideScale name)) h = absurd h
unread_status (refusal.Load (load_refusal.FewStatements name count)) h = absurd h
unread_status refusal.NotInitial h = absurd h
unread_status (refusal.BadTable name error) h = absurd h
unread_status refusal.WideGain h = absurd h
unread_status refusal.OtherTarget h = absurd h
unread_status (refusal.ManyCells cells) h = absurd h
unread_status (refusal.WideTableau pivots) h = absurd h
unread_status refusal.ManyPivots h = absurd h
unread_status (refusal.BadCert name error) h = absurd h
unread_status refusal.WideCert h = absurd h
unread_status refusal.OtherRows h = absurd h
unread_status refusal.NoFit h = absurd h
unread_status (refusal.ManyChannelCells cells) h = absurd h
unread_status refusal.WideChannel h = absurd h
unread_status (refusal.ManyStores name count) h = absurd h

read_done : (reading : Option (List ℕ)) → MayFail reading None → IsTrue (is_some reading)
read_done (Some bytes) h = refl
read_done None h = absurd h

read_refused : (reading : Option (List ℕ)) (r : Refusal) → (refused r).status ≢ 3 → MayFail reading (Some (stop.Refused r)) → IsTrue (is_some reading)
read_refused (Some bytes) r other h = refl
read_refused None r other h = absurd (other (unread_status r h))

yes_or_no : (b : Bool) → (if b then 0 else 1) ≤ 1
yes_or_no true = omega arith
yes_or_no false = omega arith

-- ---- answers

module _ (question : Question) (told : Option (List ℕ → List ℕ)) (before now : List ℕ → ℕ) where
  module _ (task : Task) where
    pub defined_shown : (done : Done) → AnswerTo told before now task question (Ok done) → Defined (Some task) question told before now (showing (shown done))
    defined_shown done h = record {
      programs = h.programs;
      tables = h.tables;
      named = (h.programs_named, h.tables_named);
      read = h.read;
      whole = λ other at d lt. read_done (get_or (h.programs ++ h.tables) at d).reading (h.fails at d lt);
      is_answer = record { result = Ok (shown done); outcome = h.answer; settles = refl };
    }

    pub defined_refused : (r : Refusal) → AnswerTo told before now task question (Err (stop.Refused r)) → Defined (Some task) question told before now (refusing (refused r))
    defined_refused r h = record {
      programs = h.programs;
      tables = h.tables;
      named = (h.programs_named, h.tables_named);
      read = h.read;
      whole = λ other at d lt. read_refused (get_or (h.programs ++ h.tables) at d).reading r other (h.fails at d lt);
      is_answer = record { result = Err (refused r); outcome = h.answer; settles = refl };
    }

  defined_usage : question [] [] (Err usage) → Defined None question told before now (refusing usage)
  defined_usage answer = record {
    programs = [];
    tables = [];
    named = (refl, refl);
    read = λ at d lt. absurd (omega arith);
    whole = λ other at d lt. absurd (omega arith);
    is_answer = record { result = Err usage; outcome = answer; settles = refl };
  }

  -- ---- ends

  module _ (out err : Sunk) where
    answered_refused : (task : Option Task) (r : Refused) (status : ℕ) → Defined task question told before now (refusing r) → status ≡ r.status → TookNothing out → TookLine err r.line
        → Answered task question told before now out err status
    answered_refused task r status defined is quiet line = record {
      answer = refusing r;
      defined = defined;
      status_is = is;
      out_took = took_none out.bytes_before out.bytes quiet;
      err_took = line;
    }

    pub ends_usage : now ≡ before → out.faults ≡ out.faults_before → question [] [] (Err usage) → TookNothing out → TookLine err usage.line
        → CausesOf None question told before now out err 2
    ends_usage same unfailed answer quiet line = record {
      answered = λ no4 no12. answered_refused None usage 2 (defined_usage answer) refl quiet line;
      usage = λ _. (refl, line);
      usage_shown = λ _ _. refl;
      read = λ is3. absurd (omega arith);
      counted = λ no3. same;
      write = λ is4. absurd (omega arith);
      write_shown = λ rose. absurd (omega arith);
      part = λ is4. absurd (omega arith);
      memory = λ is12. absurd (omega arith);
    }

    pub ends_memory : (task : Option Task) → now ≡ before → out.faults ≡ out.faults_before → TookLine err (message [] (codes "want of memory"))
        → CausesOf task question told before now out err 12
    ends_memory task same unfailed line = record {
      answered = λ no4 no12. absurd (no12 refl);
      usage = λ is2. absurd (omega arith);
      usage_shown = λ none memory. absurd (memory refl);
      read = λ is3. absurd (omega arith);
      counted = λ no3. same;
      write = λ is4. absurd (omega arith);
      write_shown = λ rose. absurd (omega arith);
      part = λ is4. absurd (omega arith);
      memory = λ is12. line;
    }

    module _ (task : Task) where
      some_task : None ≡ Some task → ⊥
      some_task none = absurd (cc)

      ends_unfit : (r : Refused) (status : ℕ) → Defined (Some task) question told before now (refusing r) → 5 ≤ r.status → r.status ≢ 12 → now ≡ before → out.faults ≡ out.faults_before
          → status ≡ r.status → TookNothing out → TookLine err r.line → CausesOf (Some task) question told before now out err status
      ends_unfit r status defined high other same unfailed is quiet line = record {
        answered = λ no4 no12. answered_refused (Some task) r status defined is quiet line;
        usage = λ is2. absurd (omega arith);
        usage_shown = λ none memory. absurd (some_task (sym none));
        read = λ is3. absurd (omega arith);
        counted = λ no3. same;
        write = λ is4. absurd (omega arith);
        write_shown = λ rose. absurd (omega arith);
        part = λ is4. absurd (omega arith);
        memory = λ is12. absurd (other (sym is ∙ is12));
      }

      ends_unread : (r : Refused) (status : ℕ) (name : List ℕ) → Defined (Some task) question told before now (refusing r) → Contains (named task) name → Rose (before name) (now name)
          → r ≡ refused_with 3 name (codes ": read failed") → out.faults ≡ out.faults_before → status ≡ r.status → TookNothing out → TookLine err r.line
          → CausesOf (Some task) question told before now out err status
      ends_unread r status name defined in' rose its unfailed is quiet line =
          let is3 : status ≡ 3 = is ∙ ap (λ (s : Refused). s.status) its in
          record {
            answered = λ no4 no12. answered_refused (Some task) r status defined is quiet line;
            usage = λ is2. absurd (omega arith);
            usage_shown = λ none memory. absurd (some_task (sym none));
            read = λ _. record {
              name = name;
              named = in';
              rose = rose;
              line = subst (λ (s : Refused). TookLine err s.line) its line;
            };
            counted = λ no3. absurd (no3 is3);
            write = λ is4. absurd (omega arith);
            write_shown = λ rose. absurd (omega arith);
            part = λ is4. absurd (omega arith);
            memory = λ is12. absurd (omega arith);
          }

      pub ends_refused : (r : Refused) (status : ℕ) → Defined (Some task) question told before now (refusing r) → Kind (named task) before now r → out.faults ≡ out.faults_before
          → status ≡ r.status → TookNothing out → TookLine err r.line → CausesOf (Some task) question told before now out err status
      ends_refused r status defined (Unreadable name in' rose its) unfailed is quiet line = ends_unread r status name defined in' rose its unfailed is quiet line
      ends_refused r status defined (Unfit high other same) unfailed is quiet line = ends_unfit r status defined high other same unfailed is quiet line

      pub ends_shown : (shown : Shown) (status : ℕ) → Defined (Some task) question told before now (showing shown) → status ≡ (if shown.yes then 0 else 1) → now ≡ before
          → out.faults ≡ out.faults_before → Took out shown.bytes → TookNothing err → CausesOf (Some task) question told before now out err status
      ends_shown shown status defined is same unfailed took quiet =
          let low : status ≤ 1 = rw is (yes_or_no shown.yes) in
          record {
            answered = λ no4 no12. record { answer = showing shown; defined = defined; status_is = is; out_took = took; err_took = line_none err quiet };
            usage = λ is2. absurd (omega arith);
            usage_shown = λ none memory. absurd (some_task (sym none));
            read = λ is3. absurd (omega arith);
            counted = λ no3. same;
            write = λ is4. absurd (omega arith);
            write_shown = λ rose. absurd (omega arith);
            part = λ is4. absurd (omega arith);
            memory = λ is12. absurd (omega arith);
          }

      pub ends_unwritten : (shown : Shown) → Defined (Some task) question told before now (showing shown) → now ≡ before → HasFailed out → TookFront out shown.bytes
          → out.room_before < length shown.bytes → TookLine err (message [] (codes "write failed")) → CausesOf (Some task) question told before now out err 4
      ends_unwritten shown defined same failed front no_room line = record {
        answered = λ no4 no12. absurd (no4 refl);
        usage = λ is2. absurd (omega arith);
        usage_shown = λ none memory. absurd (some_task (sym none));
        read = λ is3. absurd (omega arith);
        counted = λ no3. same;
        write = λ is4. (failed, line);
        write_shown = λ rose. refl;
        part = λ is4. record { answer = showing shown; defined = defined; shown = yes_or_no shown.yes; front = front; no_room = no_room };
        memory = λ is12. absurd (omega arith);
      }

-- how a result ends that is the answer to a question about the files of a task
module _ (question : Question) (told : Option (List ℕ → List ℕ)) (before now : List ℕ → ℕ) (out err : Sunk) (task : Task) where
  of_shown : (done : Done) (status : ℕ) → AnswerTo told before now task question (Ok done) → now ≡ before → WasShown (shown done) out err status
      → (status ≡ 4) ⊎ (status ≢ 4) → CausesOf (Some task) question told before now out err status
  of_shown done status answer same written (inl four) =
      let p = written.part four in
      subst (λ (n : ℕ). CausesOf (Some task) question told before now out err n) (sym four)
      (ends_unwritten question told before now out err task (shown done) (defined_shown question told before now task done answer) same p.failed p.front p.no_room p.line)
  of_shown done status answer same written (inr other) =
      let w = written.whole other in
      ends_shown question told before now out err task (shown done) status (defined_shown question told before now task done answer) w.status_is same w.unfailed w.took w.quiet

  pub causes_of_result : (r : Result Done Stop) (status : ℕ) → AnswerTo told before now task question r → Counts (named task) before now r → WrittenOf r out err status
      → CausesOf (Some task) question told before now out err status
  causes_of_result (Ok done) status answer counts written = of_shown done status answer counts written (cases_eq status 4)
  causes_of_result (Err (stop.Refused r)) status answer counts written =
      ends_refused question told before now out err task (refused r) status (defined_refused question told before now task r answer) (kind_of (named task) before now r counts)
      written.unfailed written.refused.status_is written.quiet written.refused.line
  causes_of_result (Err stop.Mem) status answer counts written =
      subst (λ (n : ℕ). CausesOf (Some task) question told before now out err n) (sym written.refused.status_is)
      (ends_memory question told before now out err (Some task) counts written.unfailed written.refused.line)

-- what a run of words ends with is what a run of the task ends with that they ask for
pub causes_of_task : (words : List (List ℕ)) (told : Option (List ℕ → List ℕ)) (before now : List ℕ → ℕ) (out err : Sunk) (status : ℕ) (task : Task)
    → task_of words ≡ Some task → CausesOf (Some task) (TaskOutcome task) told before now out err status → HasCauses words told before now out err status
causes_of_task words told before now out err status task asked causes =
    subst (λ (t : Option Task). CausesOf t (SomeOutcome t) told before now out err status) (sym asked) causes

-- how words end for which there is no answer to work out
module _ (question : Question) (told : Option (List ℕ → List ℕ)) (before : List ℕ → ℕ) (out err : Sunk) (status : ℕ) where
  pub causes_of_words : (task : Option Task) (error : WordsError) → (error ≡ words_error.Usage → (task ≡ None) × question [] [] (Err usage))
      → (error ≡ words_error.Usage → IsRefused usage err status) → (error ≡ words_error.Mem → IsRefused want_of_memory err status)
      → out.faults ≡ out.faults_before → TookNothing out → CausesOf task question told before before out err status
  causes_of_words task words_error.Usage none usage_is memory_is unfailed quiet =
      subst (λ (t : Option Task). CausesOf t question told before before out err status) (sym (none refl).0)
      (subst (λ (n : ℕ). CausesOf None question told before before out err n) (sym (usage_is refl).status_is)
      (ends_usage question told before before out err refl unfailed (none refl).1 quiet (usage_is refl).line))
  causes_of_words task words_error.Mem none usage_is memory_is unfailed quiet =
      subst (λ (n : ℕ). CausesOf task question told before before out err n) (sym (memory_is refl).status_is)
      (ends_memory question told before before out err task refl unfailed (memory_is refl).line)

-- words of `run` that ask for nothing are refused
pub usage_of_words : (words : List (List ℕ)) → task_of words ≡ None → (task_of words ≡ None) × Outcome words [] [] (Err usage)
usage_of_words words none = (none, subst (λ (t : Option Task). SomeOutcome t [] [] (Err usage)) (sym none) refl)
