-- What comes of a task: its programs are cleared, and its command answers.
use Rattle.std.proofs.Common.{◌≡◌, ℕ, List, [], ◌∷◌, All, Option, Some, Result, Ok, Err, refl, sym, ap, subst, ◌∙◌, arith, inl, inr}
use Rattle.std.proofs.lemmas.List.Elements.{All-append, All-cons, All-nil}
use Rattle.kf_core.specs.Programs.{ProgramTree}
use Rattle.kf_load.specs.Readings.{WasRead}
use Rattle.kf_load.specs.Steps.{Refused, Step, After, Each, Gives}
use Rattle.kf_load.specs.Stops as load
use Rattle.kf_load.specs.Stops.{Told, file_as}
use Rattle.kf_load.specs.Texts.{File, LongCleared, Text, TextOf, cleared}
use Rattle.kf_load.specs.declared.refusal.Stop as load_code
use Rattle.kf_load.proofs.Faults.{is_long}
use Rattle.kf_load.specs.declared.refusal.Stop.TheVariants as load_stop
use Rattle.kf_top.specs.Answer.{CommandOutcome, Shown}
use Rattle.kf_top.specs.Ends.{names_of}
use Rattle.kf_top.specs.Outcome.{FilesOutcome, ProgramsOutcome, ReadyOf}
use Rattle.kf_top.specs.Stops.{Answers, Stopped, lifted}
use Rattle.kf_top.specs.TaskAnswers.{FilesAnswer, MayFail, TaskAnswer, stop_in}
use Rattle.kf_top.specs.Views.{command_of, command_on_two, least_of, shown}
use Rattle.kf_top.specs.declared.about.AboutOne.{AboutOne}
use Rattle.kf_top.specs.declared.about.AboutOne.TheVariants as one
use Rattle.kf_top.specs.declared.about.AboutTwo.{AboutTwo}
use Rattle.kf_top.specs.declared.about.AboutTwo.TheVariants as two
use Rattle.kf_top.specs.declared.refusal.Done.{Done}
use Rattle.kf_top.specs.declared.refusal.Stop.{Stop}
use Rattle.kf_top.specs.declared.refusal.Stop.TheVariants as stop
use Rattle.kf_words.specs.Task.{Command, Covers, Make, on_files, tables_of}
use Rattle.kf_words.specs.OfWords.{on_file}
use Rattle.kf_top.proofs.Readings.{lift_fails, some_files}
use Rattle.kf_top.proofs.Steps.{alone, answers_by, each_alone, first_stops, next_answers}
use Rattle.kf_top.specs.Steps.{ClearedOf, MadeOutcome}

-- ---- what a command makes of its texts

-- no program has too few statements where none are asked for
any_length : (turns : ℕ) (t : Text) (r : Result ProgramTree Refused) → LongCleared turns 0 t r → Gives (cleared turns t) r
any_length turns t (Ok q) h = h.2 ∙ sym (is_long t.name 0 h.0 (omega arith)) ∙ h.1
any_length turns t (Err r) (inl h) = h
any_length turns t (Err r) (inr h) = let clash : Err r ≡ Ok h.0 = h.2 ∙ sym (is_long t.name 0 h.0 (omega arith)) in absurd (cc)

pub ready_one : (q : AboutOne) (turns : ℕ) (t : Text) (r : Result ProgramTree Refused) → LongCleared turns (least_of q) t r → ReadyOf (command_of q) turns (t ∷ []) (alone r)
ready_one one.Hyper turns t r h = each_alone (λ u. Gives (cleared turns u)) t r (any_length turns t r h)
ready_one one.Traces turns t r h = each_alone (λ u. Gives (cleared turns u)) t r (any_length turns t r h)
ready_one one.Channel turns t r h = each_alone (λ u. Gives (cleared turns u)) t r (any_length turns t r h)
ready_one one.Trail turns t r h = each_alone (λ u. Gives (cleared turns u)) t r (any_length turns t r h)
ready_one (one.Leak gain) turns t r h = each_alone (λ u. Gives (cleared turns u)) t r (any_length turns t r h)
ready_one (one.Attack gain) turns t r h = each_alone (λ u. Gives (cleared turns u)) t r (any_length turns t r h)
ready_one (one.Reach num den) turns t r h = each_alone (λ u. Gives (cleared turns u)) t r (any_length turns t r h)
ready_one one.Capacity turns t r h = each_alone (λ u. Gives (cleared turns u)) t r (any_length turns t r h)
ready_one (one.Quiet from to) turns t r h = each_alone (LongCleared turns to) t r h
ready_one one.Blame turns t r h = each_alone (λ u. Gives (cleared turns u)) t r (any_length turns t r h)

pub ready_two : (q : AboutTwo) (turns : ℕ) (texts : List Text) (r : Result (List ProgramTree) Refused) → Each (λ t. Gives (cleared turns t)) texts r
    → ReadyOf (command_on_two q) turns texts r
ready_two (two.Refine json) turns texts r h = h
ready_two (two.Check cert) turns texts r h = h
ready_two (two.Compose way) turns texts r h = h

-- the cleared program of the one file, and what stops it
pub cleared_one : (q : AboutOne) (turns : ℕ) (file : File) (r : Result ProgramTree Refused) → After (TextOf file) (LongCleared turns (least_of q)) r
    → ClearedOf (command_of q) turns (file ∷ []) (alone r)
cleared_one q turns file (Ok p) h = (h.0 ∷ [], each_alone TextOf file (Ok h.0) h.1, ready_one q turns h.0 (Ok p) h.2)
cleared_one q turns file (Err r) (inl h) = inl (each_alone TextOf file (Err r) h)
cleared_one q turns file (Err r) (inr h) = inr (h.0 ∷ [], each_alone TextOf file (Ok h.0) h.1, ready_one q turns h.0 (Err r) h.2)

pub cleared_two : (q : AboutTwo) (turns : ℕ) (files : List File) (r : Result (List ProgramTree) Refused)
    → After (Each TextOf files) (Each (λ t. Gives (cleared turns t))) r → ClearedOf (command_on_two q) turns files r
cleared_two q turns files (Ok ps) h = (h.0, h.1, ready_two q turns h.0 (Ok ps) h.2)
cleared_two q turns files (Err r) (inl h) = inl h
cleared_two q turns files (Err r) (inr h) = inr (h.0, h.1, ready_two q turns h.0 (Err r) h.2)

-- ---- what is about programs, and not about texts

-- what the command comes to for programs is what it comes to
abbrev IsOnPrograms : Command → ℕ → List File → Type 0
IsOnPrograms command turns programs =
    (tables : List File) (r : Result Shown Refused) → ProgramsOutcome command turns programs tables r → FilesOutcome command turns programs tables r

on_one_program : (q : AboutOne) (turns : ℕ) (programs : List File) → IsOnPrograms (command_of q) turns programs
on_one_program one.Hyper turns programs tables r h = h
on_one_program one.Traces turns programs tables r h = h
on_one_program one.Channel turns programs tables r h = h
on_one_program one.Trail turns programs tables r h = h
on_one_program (one.Leak gain) turns programs tables r h = h
on_one_program (one.Attack gain) turns programs tables r h = h
on_one_program (one.Reach num den) turns programs tables r h = h
on_one_program one.Capacity turns programs tables r h = h
on_one_program (one.Quiet from to) turns programs tables r h = h
on_one_program one.Blame turns programs tables r h = h

pub on_two_programs : (q : AboutTwo) (turns : ℕ) (programs : List File) → IsOnPrograms (command_on_two q) turns programs
on_two_programs (two.Refine json) turns programs tables r h = h
on_two_programs (two.Check cert) turns programs tables r h = h
on_two_programs (two.Compose way) turns programs tables r h = h

-- ---- tasks

module _ (told : Option (List ℕ → List ℕ)) (before now : List ℕ → ℕ) (command : Command) (turns : ℕ) (names : List (List ℕ)) (programs : List File)
    (named : names_of programs ≡ names) (read : All (WasRead told before now) programs) (on_programs : IsOnPrograms command turns programs) where
  -- what its command answers about its programs
  pub task_answers : (r : Result Done Stop) → All (λ file. MayFail file.reading (stop_in r)) programs → (ps : List ProgramTree) → ClearedOf command turns programs (Ok ps)
      → FilesAnswer told before now (tables_of command) shown r (λ tables. CommandOutcome command turns tables ps)
      → TaskAnswer told before now (on_files command names turns) r
  task_answers r fails ps cleared h = record {
    programs = programs;
    tables = h.files;
    programs_named = named;
    tables_named = h.named;
    read = All-append (WasRead told before now) programs h.files read h.read;
    fails = All-append (λ file. MayFail file.reading (stop_in r)) programs h.files fails h.fails;
    answer = answers_by shown (ProgramsOutcome command turns programs h.files) (FilesOutcome command turns programs h.files) (on_programs h.files) r
        (next_answers shown (ClearedOf command turns programs) (CommandOutcome command turns h.files) r ps cleared h.answer);
  }

  -- what stops its programs
  pub task_stops : (s : Stop) → All (λ file. MayFail file.reading (Some s)) programs → Stopped s (ClearedOf command turns programs)
      → TaskAnswer told before now (on_files command names turns) (Err s)
  task_stops s fails h =
      let others = some_files told before now (Some s) (tables_of command) in
      record {
        programs = programs;
        tables = others.files;
        programs_named = named;
        tables_named = others.named;
        read = All-append (WasRead told before now) programs others.files read others.read;
        fails = All-append (λ file. MayFail file.reading (Some s)) programs others.files fails others.fails;
        answer = answers_by shown (ProgramsOutcome command turns programs others.files) (FilesOutcome command turns programs others.files) (on_programs others.files) (Err s)
            (first_stops (ClearedOf command turns programs) (CommandOutcome command turns others.files) s h);
      }

-- ---- one program

module _ (told : Option (List ℕ → List ℕ)) (before now : List ℕ → ℕ) (q : AboutOne) (turns : ℕ) (name read : List ℕ) (same : read ≡ name) (least : ℕ) (is : least ≡ least_of q) where
  single : (P : File → Type 0) (file : File) → P file → All P (file ∷ [])
  single P file h = All-cons P file [] h (All-nil P)

  its_cleared : (file : File) (r : Result ProgramTree Refused) → After (TextOf file) (LongCleared turns least) r → ClearedOf (command_of q) turns (file ∷ []) (alone r)
  its_cleared file r h = cleared_one q turns file r (subst (λ (n : ℕ). After (TextOf file) (LongCleared turns n) r) is h)

  -- what is answered about it
  pub one_answers : (often : ℕ) → often ≡ turns → (p : ProgramTree) (r : Result Done Stop)
      → ((bytes : List ℕ) × Told told read bytes × After (TextOf (file_as read (Some bytes))) (LongCleared turns least) (Ok p))
      → FilesAnswer told before now (tables_of (command_of q)) shown r (λ tables. CommandOutcome (command_of q) often tables (p ∷ []))
      → TaskAnswer told before now (on_file (command_of q) name turns) r
  one_answers often turned p r h answer =
      let file = file_as read (Some h.0) in
      task_answers told before now (command_of q) turns (name ∷ []) (file ∷ []) (ap (λ (n : List ℕ). n ∷ []) same) (single (WasRead told before now) file h.1)
      (on_one_program q turns (file ∷ [])) r
      (single (λ f. MayFail f.reading (stop_in r)) file tt)
      (p ∷ []) (its_cleared file (Ok p) h.2)
      (subst (λ (n : ℕ). FilesAnswer told before now (tables_of (command_of q)) shown r (λ tables. CommandOutcome (command_of q) n tables (p ∷ []))) turned answer)

  stops_alone : (file : File) (s : load_code.Stop) → load.Stopped s (After (TextOf file) (LongCleared turns least)) → Stopped (lifted s) (ClearedOf (command_of q) turns (file ∷ []))
  stops_alone file (load_stop.Refused r) h = its_cleared file (Err _) h
  stops_alone file load_stop.Mem h = tt

  -- what stops it
  pub one_stops : (s : load_code.Stop)
      → ((reading : Option (List ℕ)) × load.ReadingFor told before now s read reading × load.Stopped s (After (TextOf (file_as read reading)) (LongCleared turns least)))
      → TaskAnswer told before now (on_file (command_of q) name turns) (Err (lifted s))
  one_stops s h =
      let file = file_as read h.0 in
      task_stops told before now (command_of q) turns (name ∷ []) (file ∷ []) (ap (λ (n : List ℕ). n ∷ []) same) (single (WasRead told before now) file h.1.read)
      (on_one_program q turns (file ∷ [])) (lifted s)
      (single (λ f. MayFail f.reading (Some (lifted s))) file (lift_fails h.0 s h.1.fails)) (stops_alone file s h.2)

-- ---- two programs

module _ (told : Option (List ℕ → List ℕ)) (before now : List ℕ → ℕ) (command : Command) (turns : ℕ) (on_programs : (programs : List File) → IsOnPrograms command turns programs)
    (first second one two : List ℕ) (same : one ≡ first) (same_too : two ≡ second) where
  both : (P : File → Type 0) (f g : File) → P f → P g → All P (f ∷ g ∷ [])
  both P f g h k = All-cons P f (g ∷ []) h (All-cons P g [] k (All-nil P))

  pair_named : one ∷ two ∷ [] ≡ first ∷ second ∷ []
  pair_named = λ i. same i ∷ same_too i ∷ []

  -- what is answered about them
  pub two_answer : (ps : List ProgramTree) (r : Result Done Stop) (u v : List ℕ) → Told told one u → Told told two v
      → ClearedOf command turns (file_as one (Some u) ∷ file_as two (Some v) ∷ []) (Ok ps)
      → FilesAnswer told before now (tables_of command) shown r (λ tables. CommandOutcome command turns tables ps)
      → TaskAnswer told before now (on_files command (first ∷ second ∷ []) turns) r
  two_answer ps r u v h k cleared answer =
      let f = file_as one (Some u) in
      let g = file_as two (Some v) in
      task_answers told before now command turns (first ∷ second ∷ []) (f ∷ g ∷ []) pair_named (both (WasRead told before now) f g h k)
      (on_programs (f ∷ g ∷ [])) r
      (both (λ e. MayFail e.reading (stop_in r)) f g tt tt) ps cleared answer

  -- what stops them
  pub two_stop : {A : Type 0} (s : load_code.Stop) (step : List File → Step A)
      → ((files : List File) → load.Stopped s (step files) → Stopped (lifted s) (ClearedOf command turns files))
      → ((u v : Option (List ℕ)) × load.ReadingFor told before now s one u × load.ReadingFor told before now s two v × load.Stopped s (step (file_as one u ∷ file_as two v ∷ [])))
      → TaskAnswer told before now (on_files command (first ∷ second ∷ []) turns) (Err (lifted s))
  two_stop s step turn h =
      let f = file_as one h.0 in
      let g = file_as two h.1 in
      task_stops told before now command turns (first ∷ second ∷ []) (f ∷ g ∷ []) pair_named (both (WasRead told before now) f g h.2.read h.3.read)
      (on_programs (f ∷ g ∷ [])) (lifted s)
      (both (λ e. MayFail e.reading (Some (lifted s))) f g (lift_fails h.0 s h.2.fails) (lift_fails h.1 s h.3.fails)) (turn (f ∷ g ∷ []) h.4)

pub stops_two : (q : AboutTwo) (turns : ℕ) (s : load_code.Stop) (files : List File) → load.Stopped s (After (Each TextOf files) (Each (λ t. Gives (cleared turns t))))
    → Stopped (lifted s) (ClearedOf (command_on_two q) turns files)
stops_two q turns (load_stop.Refused r) files h = cleared_two q turns files (Err _) h
stops_two q turns load_stop.Mem files h = tt

-- ---- two texts

pub stops_texts : (command : Command) (turns : ℕ) (s : load_code.Stop) (files : List File) → load.Stopped s (Each TextOf files) → Stopped (lifted s) (ClearedOf command turns files)
stops_texts command turns (load_stop.Refused r) files h = inl h
stops_texts command turns load_stop.Mem files h = tt

-- a step in three
pub regroup : {A B C X : Type 0} (seen : X → C) (first : Step A) (next : A → Step B) (last : B → Step C) (r : Result X Stop) (x : A) → first (Ok x)
    → Answers seen r (After (next x) last) → Answers seen r (After (After first next) last)
regroup seen first next last (Ok z) x done h = (h.0, (x, done, h.1), h.2)
regroup seen first next last (Err (stop.Refused r)) x done (inl h) = inl (inr (x, done, h))
regroup seen first next last (Err (stop.Refused r)) x done (inr h) = inr (h.0, (x, done, h.1), h.2)
regroup seen first next last (Err stop.Mem) x done h = tt

-- an answer for loops that turn as often
pub turned : (told : Option (List ℕ → List ℕ)) (before now : List ℕ → ℕ) (command : Command) (often turns : ℕ) → often ≡ turns → (ps : List ProgramTree) (r : Result Done Stop)
    → FilesAnswer told before now (tables_of command) shown r (λ tables. CommandOutcome command often tables ps)
    → FilesAnswer told before now (tables_of command) shown r (λ tables. CommandOutcome command turns tables ps)
turned told before now command often turns is ps r h = subst (λ (n : ℕ). FilesAnswer told before now (tables_of command) shown r (λ tables. CommandOutcome command n tables ps)) is h

-- ---- two texts whose full sources are cleared

module _ (told : Option (List ℕ → List ℕ)) (before now : List ℕ → ℕ) (turns : ℕ) (first second one two : List ℕ) (same : one ≡ first) (same_too : two ≡ second) where
  pub texts_answer : (ts : List Text) (r : Result Done Stop)
      → ((u v : List ℕ) × Told told one u × Told told two v × Each TextOf (file_as one (Some u) ∷ file_as two (Some v) ∷ []) (Ok ts))
      → Answers shown r (After (ReadyOf Covers turns ts) (CommandOutcome Covers turns []))
      → TaskAnswer told before now (on_files Covers (first ∷ second ∷ []) turns) r
  texts_answer ts r h answer =
      let f = file_as one (Some h.0) in
      let g = file_as two (Some h.1) in
      let files = f ∷ g ∷ [] in
      record {
        programs = files;
        tables = [];
        programs_named = λ i. same i ∷ same_too i ∷ [];
        tables_named = refl;
        read = All-cons (WasRead told before now) f (g ∷ []) h.2 (All-cons (WasRead told before now) g [] h.3 (All-nil (WasRead told before now)));
        fails = All-cons (λ file. MayFail file.reading (stop_in r)) f (g ∷ []) tt (All-cons (λ file. MayFail file.reading (stop_in r)) g [] tt (All-nil (λ file. MayFail file.reading (stop_in r))));
        answer = regroup shown (Each TextOf files) (ReadyOf Covers turns) (CommandOutcome Covers turns []) r ts h.4 answer;
      }

  pub texts_stop : (s : load_code.Stop)
      → ((u v : Option (List ℕ)) × load.ReadingFor told before now s one u × load.ReadingFor told before now s two v × load.Stopped s (Each TextOf (file_as one u ∷ file_as two v ∷ [])))
      → TaskAnswer told before now (on_files Covers (first ∷ second ∷ []) turns) (Err (lifted s))
  texts_stop s h = two_stop told before now Covers turns (λ programs tables r answer. answer) first second one two same same_too s (Each TextOf) (stops_texts Covers turns s) h

-- what the made text comes to is what its task comes to, which names no file
pub made_answer : (told : Option (List ℕ → List ℕ)) (before now : List ℕ → ℕ) (count turns : ℕ) (r : Result Done Stop) → Answers shown r (MadeOutcome count turns)
    → TaskAnswer told before now (on_files (Make count) [] turns) r
made_answer told before now count turns r answer = record {
  programs = [];
  tables = [];
  programs_named = refl;
  tables_named = refl;
  read = All-nil (WasRead told before now);
  fails = All-nil (λ file. MayFail file.reading (stop_in r));
  answer = next_answers shown (ClearedOf (Make count) turns []) (CommandOutcome (Make count) turns []) r [] ([], refl, refl) answer;
}
