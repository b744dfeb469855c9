-- What is answered about a text whose lines are asked for, and about its file.
use Rattle.std.proofs.Common.{◌≡◌, ℕ, ◌*◌, ◌≤◌, ◌<◌, le-leb, if◌then◌else◌, Bool, List, [], ◌∷◌, All, Option, Some, Result, Ok, Err, refl, sym, ap, subst, ◌∙◌, inl}
use Rattle.std.proofs.lemmas.Bool.{lt-leb}
use Rattle.std.proofs.lemmas.List.Elements.{All-append, All-cons, All-nil}
use Rattle.kf_ast.specs.Sources.{SourceTree}
use Rattle.kf_column.specs.Hypers.{Inner}
use Rattle.kf_core.specs.Programs.{ProgramTree}
use Rattle.kf_core.specs.Scale.{scale_of}
use Rattle.kf_frac.specs.Fractions.{limit}
use Rattle.kf_gain.specs.Gains.{GainOf, TableTree}
use Rattle.kf_gain.specs.Views.{gain_tree}
use Rattle.kf_gain.specs.declared.gain.Gain.{Gain}
use Rattle.kf_lines.specs.Views.{IsNarrowIn, IsTextOfLines, IsWideIn}
use Rattle.kf_load.specs.Readings.{WasRead}
use Rattle.kf_load.specs.Steps.{After, Gives, Refused, Step}
use Rattle.kf_load.specs.Stops as load
use Rattle.kf_load.specs.Stops.{Told, file_as}
use Rattle.kf_load.specs.Texts.{File, Text, TextOf, cleared}
use Rattle.kf_load.specs.Views.{program_in}
use Rattle.kf_load.specs.declared.refusal.Stop as load_code
use Rattle.kf_refine.specs.Refinements.{HyperTree}
use Rattle.kf_support.specs.Cleared.{turns_of}
use Rattle.kf_support.specs.declared.cleared.Cleared.{Cleared}
use Rattle.kf_top.specs.Answer.{GainIn, LinesOn, OnHyper, Shown, prints}
use Rattle.kf_top.specs.Outcome.{LinesUnder}
use Rattle.kf_top.specs.Steps.{LinesAfter}
use Rattle.kf_top.specs.Stops.{Answers, Stopped, lifted, refused}
use Rattle.kf_top.specs.TaskAnswers.{FilesAnswer, MayFail, TaskAnswer, names_in, stop_in}
use Rattle.kf_top.specs.Views.{shown}
use Rattle.kf_top.specs.declared.refusal.Done.{Done}
use Rattle.kf_top.specs.declared.refusal.Refusal.TheVariants as refusal
use Rattle.kf_top.specs.declared.refusal.Stop.{Stop}
use Rattle.kf_top.proofs.Readings.{files_next, files_stop, lift_fails, lines_tables, some_files}
use Rattle.kf_top.proofs.Steps.{first_stops, lift_stops, next_answers}
use Rattle.kf_words.specs.Task.{Lines, tables_of}
use Rattle.kf_words.specs.OfWords.{on_file}

-- ---- the lines of a program

-- the hyper of a program
abbrev hyper_in : Cleared → List Inner → HyperTree
hyper_in cleared inners =
    record { target = (program_in cleared).target; scale = scale_of (turns_of cleared) (program_in cleared); inners = inners }

-- by the width of a gain on it
abbrev bounded : ℕ → Bool → Result ℕ Refused
bounded m fits = if fits then Ok m else Err (refused refusal.WideGain)

module _ (cleared : Cleared) (bytes : List ℕ) (tree : SourceTree) (g : GainOf TableTree) where
  abbrev outcome : Step Shown
  outcome = OnHyper (turns_of cleared) (program_in cleared) (LinesOn (turns_of cleared) bytes tree (program_in cleared) g)

  -- where the gain fits, the text is printed
  pub lines_print : IsNarrowIn cleared g → (text : List ℕ) → IsTextOfLines cleared bytes tree g text → outcome (prints text)
  lines_print w text h =
      let fits = subst (λ (n : ℕ). n * w.0 ≤ limit) cleared.scale_is w.2 in (
        hyper_in cleared w.1.inners,
        record { target = refl; scale = refl; is_hyper = w.1.is_hyper },
        (w.0, (w.0, w.1.is_width, ap (bounded w.0) (sym (le-leb (scale_of (turns_of cleared) (program_in cleared) * w.0) limit fits))), (h.0, h.1, ap prints h.2)),
      )

  -- where it is too wide, nothing is
  pub lines_wide : IsWideIn cleared g → outcome (Err (refused refusal.WideGain))
  lines_wide w =
      let wide = subst (λ (n : ℕ). limit < n * w.0) cleared.scale_is w.2 in (
        hyper_in cleared w.1.inners,
        record { target = refl; scale = refl; is_hyper = w.1.is_hyper },
        inl (w.0, w.1.is_width, ap (bounded w.0) (sym (lt-leb (scale_of (turns_of cleared) (program_in cleared) * w.0) limit wide))),
      )

-- ---- a step that reads no file, and then one on what it gave

module _ {A B : Type 0} (told : Option (List ℕ → List ℕ)) (before now : List ℕ → ℕ) (names : List (List ℕ)) (first : Step A) (next : A → List File → Step B) where
  -- what stops the first stops both
  pub own_stops : {X : Type 0} (seen : X → B) (s : Stop) → Stopped s first → FilesAnswer told before now names seen (Err s) (λ files. After first (λ x. next x files))
  own_stops seen s h =
      let others = some_files told before now (Some s) names in
      record { files = others.files; named = others.named; read = others.read; fails = others.fails; answer = first_stops first (λ x. next x others.files) s h }

  -- what comes of the next
  pub own_next : {X : Type 0} (seen : X → B) (x : A) (r : Result X Stop) → first (Ok x) → FilesAnswer told before now names seen r (next x)
      → FilesAnswer told before now names seen r (λ files. After first (λ y. next y files))
  own_next seen x r done h =
      record { files = h.files; named = h.named; read = h.read; fails = h.fails; answer = next_answers seen first (λ y. next y h.files) r x done h.answer }

-- ---- a text

module _ (told : Option (List ℕ → List ℕ)) (before now : List ℕ → ℕ) (word : GainOf (List ℕ)) (turns : ℕ) (bytes : List ℕ) (tree : SourceTree) (p : ProgramTree) where
  abbrev lines_on : GainOf TableTree → Step Shown
  lines_on g = OnHyper turns p (LinesOn turns bytes tree p g)

  -- what stops the gain
  pub no_gain : (s : Stop) → FilesAnswer told before now (names_in word) gain_tree (Err s) (GainIn p.target word)
      → FilesAnswer told before now (names_in word) shown (Err s) (LinesAfter word turns bytes tree p)
  no_gain s h = files_stop told before now (names_in word) (GainIn p.target word) lines_on gain_tree shown s h

  -- what is answered once it is there
  pub all_there : (gain : Gain) (r : Result Done Stop)
      → FilesAnswer told before now (names_in word) gain_tree (Ok gain) (GainIn p.target word) → Answers shown r (lines_on (gain_tree gain))
      → FilesAnswer told before now (names_in word) shown r (LinesAfter word turns bytes tree p)
  all_there gain r h answer = files_next told before now (names_in word) (GainIn p.target word) lines_on gain_tree shown gain r h answer

module _ (told : Option (List ℕ → List ℕ)) (before now : List ℕ → ℕ) (word : GainOf (List ℕ)) (turns : ℕ) (t : Text) where
  abbrev lines_after : ProgramTree → List File → Step Shown
  lines_after p tables = LinesAfter word turns t.bytes t.source p tables

  -- what stops its program
  pub not_cleared : (s : load_code.Stop) → load.Stopped s (Gives (cleared turns t))
      → FilesAnswer told before now (names_in word) shown (Err (lifted s)) (λ tables. LinesUnder word turns tables t)
  not_cleared s h = own_stops told before now (names_in word) (Gives (cleared turns t)) lines_after shown (lifted s) (lift_stops (Gives (cleared turns t)) s h)

  -- what is answered about its program
  pub once_cleared : (p : ProgramTree) → Ok p ≡ cleared turns t → (r : Result Done Stop) (n : ℕ) → n ≡ turns → (bytes : List ℕ) → bytes ≡ t.bytes
      → FilesAnswer told before now (names_in word) shown r (LinesAfter word n bytes t.source p)
      → FilesAnswer told before now (names_in word) shown r (λ tables. LinesUnder word turns tables t)
  once_cleared p is r n same bytes own h =
      let answer : ℕ → List ℕ → Type 0 = λ m bs. FilesAnswer told before now (names_in word) shown r (LinesAfter word m bs t.source p) in
      own_next told before now (names_in word) (Gives (cleared turns t)) lines_after shown p r is
      (subst (λ (m : ℕ). answer m t.bytes) same (subst (answer n) own h))

-- ---- the file that a task names

single : (P : File → Type 0) (file : File) → P file → All P (file ∷ [])
single P file h = All-cons P file [] h (All-nil P)

module _ (told : Option (List ℕ → List ℕ)) (before now : List ℕ → ℕ) (gain : GainOf (List ℕ)) (turns : ℕ) (name read : List ℕ) (same : read ≡ name) where
  -- what is answered about its text
  pub text_answers : (t : Text) (r : Result Done Stop) → ((bytes : List ℕ) × Told told read bytes × TextOf (file_as read (Some bytes)) (Ok t))
      → FilesAnswer told before now (names_in gain) shown r (λ tables. LinesUnder gain turns tables t)
      → TaskAnswer told before now (on_file (Lines gain) name turns) r
  text_answers t r h answer =
      let file = file_as read (Some h.0) in
      record {
        programs = file ∷ [];
        tables = answer.files;
        programs_named = ap (λ (n : List ℕ). n ∷ []) same;
        tables_named = answer.named ∙ lines_tables gain;
        read = All-append (WasRead told before now) (file ∷ []) answer.files (single (WasRead told before now) file h.1) answer.read;
        fails = All-append (λ f. MayFail f.reading (stop_in r)) (file ∷ []) answer.files (single (λ f. MayFail f.reading (stop_in r)) file tt) answer.fails;
        answer = next_answers shown (TextOf file) (LinesUnder gain turns answer.files) r t h.2 answer.answer;
      }

  -- what stops its text
  pub text_stops : (s : load_code.Stop)
      → ((reading : Option (List ℕ)) × load.ReadingFor told before now s read reading × load.Stopped s (TextOf (file_as read reading)))
      → TaskAnswer told before now (on_file (Lines gain) name turns) (Err (lifted s))
  text_stops s h =
      let file = file_as read h.0 in
      let others = some_files told before now (Some (lifted s)) (tables_of (Lines gain)) in
      record {
        programs = file ∷ [];
        tables = others.files;
        programs_named = ap (λ (n : List ℕ). n ∷ []) same;
        tables_named = others.named;
        read = All-append (WasRead told before now) (file ∷ []) others.files (single (WasRead told before now) file h.1.read) others.read;
        fails = All-append (λ f. MayFail f.reading (Some (lifted s))) (file ∷ []) others.files
            (single (λ f. MayFail f.reading (Some (lifted s))) file (lift_fails h.0 s h.1.fails)) others.fails;
        answer = first_stops (TextOf file) (LinesUnder gain turns others.files) (lifted s) (lift_stops (TextOf file) s h.2);
      }
