-- A task is refused for a reason that it can have.
use Rattle.std.proofs.Common.{◌≡◌, ◌≢◌, ◌⊎◌, ℕ, ◌≤◌, ◌*◌, ◌&&◌, nat_le, if◌then◌else◌, Bool, true, false, List, [], ◌∷◌, length, Contains, None, Some, Option, Result, Ok, Err, refl, sym, ◌∙◌, ap, subst, arith, inl, inr, ⊎_elim}
use Rattle.std.specs.List.{AllByRecursion as Every}
use Rattle.std.proofs.lemmas.List.{length-map}
use Rattle.std.proofs.lemmas.List.Elements.{Contains-append_left, Contains-append_right}
use Rattle.kf_value.proofs.ListLemmas.{each_weaker}
use Rattle.kf_value.specs.Targets.{Item}
use Rattle.kf_lex.specs.Readings.{IsFault}
use Rattle.kf_parse.specs.Answers.{IsRefused}
use Rattle.kf_ast.specs.Sources.{SourceTree}
use Rattle.kf_frac.specs.Fractions.{limit}
use Rattle.kf_core.specs.Joint.{joint_of}
use Rattle.kf_core.specs.Programs.{ProgramTree}
use Rattle.kf_core.specs.Runs.{Halted}
use Rattle.kf_core.specs.Scale.{scale_of as run_scale}
use Rattle.kf_core.specs.Support.{StoreSet, program_pass}
use Rattle.kf_channel.specs.Channels.{all_initial}
use Rattle.kf_capacity.specs.Grids.{ChannelTree, GridTree, channel_grid}
use Rattle.kf_capacity.specs.Compositions.{ComposeFault}
use Rattle.kf_capacity.specs.Cases.{CascadeCase, ParallelCase, ChoiceCase}
use Rattle.kf_capacity.proofs.Cases.{cascade_case, parallel_case, choice_case}
use Rattle.kf_capacity.specs.Compositions as compose
use Rattle.kf_make.specs.Laws.{MadeIsClear, MadeIsParsed, MadeIsTyped, MadeScale}
use Rattle.kf_make.specs.Made.{made_program, made_tree}
use Rattle.kf_make.specs.Making.{make_source}
use Rattle.kf_make.proofs.Refusing.{made_clears}
use Rattle.kf_gain.specs.Gains.{GainOf, Bayes, Tries, Guessing, Table, TableTree, over_of}
use Rattle.kf_lines.specs.LineTexts.{lines_text}
use Rattle.kf_lines.specs.Summaries.{AreLines}
use Rattle.kf_refine.specs.Refinements.{HyperTree}
use Rattle.kf_refine.specs.Verdicts.{VerdictTree, IsVerdict}
use Rattle.kf_refine.specs.declared.verdict.RefineError.{RefineError}
use Rattle.kf_refine.specs.declared.verdict.RefineError.TheVariants as refine
use Rattle.kf_refine.specs.Refinements.{Fraction}
use Rattle.kf_cert.specs.Certificates.{CertTree, Yes, Named, No, cert_of, matrix_of}
use Rattle.kf_cert.specs.Marks.{IsMarked, MarkedByRules}
use Rattle.kf_cert.specs.declared.cert.CertError.{CertError}
use Rattle.kf_cert.specs.declared.mark.Mark.{Mark}
use Rattle.kf_cert.specs.declared.mark.Mark.TheVariants.{Accepted, Rejected}
use Rattle.kf_cert.specs.declared.mark.Rule.{Rule}
use Rattle.kf_cert.specs.declared.mark.Rule.TheVariants as rule
use Rattle.kf_cert.specs.declared.mark.CheckError.{CheckError}
use Rattle.kf_cert.specs.declared.mark.CheckError.TheVariants as check
use Rattle.kf_load.specs.Place.{line_at, column_at}
use Rattle.kf_load.specs.Steps.{Refused, Step, After, Each, Gives}
use Rattle.kf_load.specs.Texts.{File, Text, token_fault, syntax_fault, type_fault, IsBad, TextWith, TypedOf, TextOf, cause_word, cleared, LongCleared, source_of}
use Rattle.kf_load.specs.Refusals.{bad_run, narrow, bytes_read, Fault, TokensOf, SourceOf, ProgramOf, long_enough}
use Rattle.kf_prior.specs.FullSources.{full_source, initial_stores}
use Rattle.kf_top.specs.Answer.{Shown, shows, other_target, wide_channel, initial, is_narrow, Composed, composed_grid, ComposedIn, table_word, TableOf, GainIn, NarrowGain, OnHyper, PrintsSome, ReportOn, AttackOn, LinesOn, VerdictShown, RefineOutcome, cert_word, CertIn, mark_shown, MarkOn, CommandOutcome}
use Rattle.kf_top.specs.Outcome.{few_stores, LinesUnder, ProgramsOutcome, ReadyOf, TaskOutcome}
use Rattle.kf_top.specs.Ends.{AreNamed, names_of}
use Rattle.kf_top.specs.Steps.{MadeOf, TableIn, cert_read, most_pivots, FullTexts, ClearedOf, MadeOutcome, ChannelOf, CapacityIn, algebra_shown, FullOf}
use Rattle.kf_words.specs.Jobs.{IsInRange}
use Rattle.kf_words.specs.Laws.{TasksInRange}
use Rattle.kf_words.specs.Task.{Command, Composition, Cascade, Parallel, Choice, Hyper, Traces, Channel, Trail, Capacity, Compose, Leak, Attack, Reach, Make, Refine, Check, Covers, Quiet, Blame, Lines, Task, tables_of}
use Rattle.kf_words.specs.OfWords.{named}
use Rattle.kf_laws.specs.Refusals.{ReadFailed, TooLong, BadText, BadRun, WideScale, NotInitial, BadTable, WideGain, OtherTarget, ManyCells, WideTableau, ManyPivots, BadCert, WideCert, OtherRows, NoFit, ManyChannelCells, WideChannel, ManyStores, FewStatements, refusal_for, IsRefining, IsOnSameRows, IsOnCapacities, IsUnder, IsReasoned, RefusalsAreReasoned}
use Rattle.kf_laws.proofs.ClearedPrograms.{every_done}
use Rattle.kf_laws.proofs.EachCommand.{each_command}
use Rattle.kf_laws.proofs.OneAnswer.{HasOne, next_of}
use Rattle.kf_laws.proofs.TaskFiles.{IsFitting, programs_asked, tasks_fit}
use Rattle.kf_check.specs.Variables.{IsBroken}
use Rattle.kf_report.specs.Reports.{IsLeakage}
use Rattle.kf_attack.specs.Views.{AreAttacks}
use Rattle.kf_text.specs.ReportTexts.{report_text}
use Rattle.kf_text.specs.AttackTexts.{attack_text}

-- ---- steps

-- each refusal of a step has P
abbrev Refuses : {A : Type 0} → (Refused → Type 0) → Step A → Type 0
Refuses P step = (r : Refused) → step (Err r) → P r

refused_after : {A B : Type 0} (P : Refused → Type 0) (first : Step A) (next : A → Step B) → Refuses P first → ((x : A) → first (Ok x) → Refuses P (next x)) → Refuses P (After first next)
refused_after P first next here later r h = ⊎_elim (λ (stopped : first (Err r)). here r stopped) (λ k. later k.0 k.1 r k.2) h

never_given : {A : Type 0} (P : Refused → Type 0) (x : A) → Refuses P (Gives (Ok x))
never_given P x r h = absurd (cc)

module _ {A B : Type 0} (P : Refused → Type 0) (In : A → Type 0) (step : A → Step B) (each : (x : A) → In x → Refuses P (step x)) where
  refused_each : (xs : List A) → Every In xs → Refuses P (Each step xs)
  refused_each [] all = never_given P []
  refused_each (x ∷ xs) all =
      refused_after P (step x) (λ y. After (Each step xs) (λ ys. Gives (Ok (y ∷ ys)))) (each x all.0)
      (λ y _. refused_after P (Each step xs) (λ ys. Gives (Ok (y ∷ ys))) (refused_each xs all.1) (λ ys _. never_given P (y ∷ ys)))

-- what is refused where a test fails
refused_if : {A : Type 0} (b : Bool) (x : A) (q r : Refused) → Err r ≡ (if b then Ok x else Err q) → r ≡ q
refused_if true x q r is = absurd (cc)
refused_if false x q r is = cc

-- nothing is printed by a refusal
never_shown : (r : Refused) (yes' : Bool) (bytes : List ℕ) → Err r ≡ shows yes' bytes → ⊥
never_shown r yes' bytes is = absurd (cc)

-- as many results as there are to be had
each_length : {A B : Type 0} (step : A → Step B) (xs : List A) (ys : List B) → Each step xs (Ok ys) → length ys ≡ length xs
each_length step [] ys is = let none : ys ≡ [] = cc in ap length none
each_length step (x ∷ xs) ys is =
    let given : Ok ys ≡ Ok (is.0 ∷ is.2.0) = is.2.2 in
    let same : ys ≡ is.0 ∷ is.2.0 = cc in
    let rest = each_length step xs is.2.0 is.2.1 in
    let long : length ys ≡ length (is.0 ∷ is.2.0) = ap length same in
    omega (arith, long, rest)

-- ---- marks

-- want of memory is no mark
one_of : {H N : Type 0} (broken : Result Mark CheckError) → broken ≢ Err check.Mem → (N → ⊥) → ((H → ⊥) × (Err check.Mem ≡ broken)) ⊎ (H × N) → ⊥
one_of {H} {N} broken unlike none h = ⊎_elim (λ (broke : (H → ⊥) × (Err check.Mem ≡ broken)). unlike (sym broke.1)) (λ (held : H × N). none held.1) h

is_rejected : (rule : Rule) → ◌≢◌ {A = Result Mark CheckError} (Ok (Rejected rule)) (Err check.Mem)
is_rejected rule e = absurd (cc)

is_wide : ◌≢◌ {A = Result Mark CheckError} (Err check.Wide) (Err check.Mem)
is_wide e = absurd (cc)

is_accepted : ◌≢◌ {A = Result Mark CheckError} (Err check.Mem) (Ok Accepted)
is_accepted e = absurd (cc)

no_memory_by : (a b : HyperTree) (rows : List (List Fraction)) → MarkedByRules a b rows (Err check.Mem) → ⊥
no_memory_by a b rows h =
    one_of (Ok (Rejected rule.Range)) (is_rejected rule.Range)
    (λ h. one_of (Err check.Wide) is_wide (λ h. one_of (Ok (Rejected rule.Sum)) (is_rejected rule.Sum) (λ h. one_of (Ok (Rejected rule.Cell)) (is_rejected rule.Cell) is_accepted h) h) h) h

no_memory : (a b : HyperTree) (c : CertTree) → IsMarked a b c (Err check.Mem) → ⊥
no_memory a b (Yes rows) h = one_of (Ok (Rejected rule.Shape)) (is_rejected rule.Shape) (no_memory_by a b rows) h
no_memory a b (Named t) h = one_of (Ok (Rejected rule.Shape)) (is_rejected rule.Shape) (no_memory_by a b (matrix_of t)) h
no_memory a b (No t) h =
    one_of (Ok (Rejected rule.Value)) (is_rejected rule.Value)
    (λ h. one_of (Err check.Wide) is_wide (λ h. one_of (Ok (Rejected rule.Order)) (is_rejected rule.Order) is_accepted h) h) h

-- ---- names

names_in : (files : List File) → Every (λ f. Contains (names_of files) f.name) files
names_in [] = tt
names_in (f ∷ files) = (
  (0, omega arith, refl),
  each_weaker (λ g. Contains (names_of files) g.name) (λ g. Contains (f.name ∷ names_of files) g.name)
      (λ g h. Contains-append_right (f.name ∷ []) (names_of files) g.name h) files (names_in files),
)

-- ---- a task

module _ (task : Task) where
  abbrev Reasoned : Refused → Type 0
  Reasoned r = IsReasoned task r

  -- a program's file, and a text that was read of one
  abbrev IsProgram : File → Type 0
  IsProgram file = Contains task.files file.name

  abbrev IsNamed : Text → Type 0
  IsNamed t = Contains task.files t.name

  module _ (name : List ℕ) (in' : Contains (named task) name) where
    read_refused : (reading : Option (List ℕ)) → Refuses Reasoned (Gives (bytes_read name reading))
    read_refused None r is =
        let same : r ≡ refusal_for (ReadFailed name) = cc in
        record { reason = ReadFailed name; can = in'; is = same }
    read_refused (Some bytes) r is =
        record { reason = TooLong name; can = in'; is = refused_if (nat_le (length bytes) 1048576) bytes (refusal_for (TooLong name)) r is }

  module _ (name : List ℕ) (in' : Contains task.files name) where
    bad_refused : {E : Type 0} (IsError : E → Type 0) (fault_of : E → Option Fault) (bytes : List ℕ) (r : Refused) → IsBad IsError fault_of name bytes r → Reasoned r
    bad_refused IsError fault_of bytes r bad =
        record { reason = BadText name (line_at bytes bad.fault.1) (column_at bytes bad.fault.1) bad.fault.0; can = in'; is = bad.is }

    with_refused : (bytes : List ℕ) (tree : SourceTree) → Refuses Reasoned (TextWith name bytes tree)
    with_refused bytes tree =
        refused_after Reasoned (ProgramOf name bytes tree) (λ p. Gives (Ok (record { name = name; bytes = bytes; source = tree; program = p })))
        (λ r bad. bad_refused (IsBroken tree) type_fault bytes r bad) (λ p _. never_given Reasoned (record { name = name; bytes = bytes; source = tree; program = p }))

    typed_refused : (bytes : List ℕ) → Refuses Reasoned (TypedOf name bytes)
    unfolding TypedOf
    typed_refused bytes =
        refused_after Reasoned (TokensOf name bytes) (λ tokens. After (SourceOf name bytes tokens) (TextWith name bytes))
        (λ r bad. bad_refused (IsFault bytes) token_fault bytes r bad)
        (λ tokens _. refused_after Reasoned (SourceOf name bytes tokens) (TextWith name bytes)
        (λ r bad. bad_refused (IsRefused bytes tokens) syntax_fault bytes r bad) (λ tree _. with_refused bytes tree))

  names_program : (name : List ℕ) → Contains task.files name → Contains (named task) name
  names_program name in' = Contains-append_left task.files (tables_of task.command) name in'

  text_refused : (file : File) → IsProgram file → Refuses Reasoned (TextOf file)
  text_refused file in' =
      refused_after Reasoned (Gives (source_of file)) (TypedOf file.name) (read_refused file.name (names_program file.name in') file.reading)
      (λ bytes _. typed_refused file.name in' bytes)

  -- a text has the name of its file
  with_named : (name bytes : List ℕ) (tree : SourceTree) (t : Text) → Contains task.files name → TextWith name bytes tree (Ok t) → IsNamed t
  with_named name bytes tree t in' is =
      let made : Text = record { name = name; bytes = bytes; source = tree; program = is.0 } in
      let given : Ok t ≡ Ok made = is.2 in
      let same : t ≡ made = cc in
      subst IsNamed (sym same) in'

  typed_named : (name bytes : List ℕ) (t : Text) → Contains task.files name → TypedOf name bytes (Ok t) → IsNamed t
  unfolding TypedOf
  typed_named name bytes t in' is = with_named name bytes is.2.0 t in' is.2.2

  text_named : (file : File) (t : Text) → IsProgram file → TextOf file (Ok t) → IsNamed t
  text_named file t in' is = typed_named file.name is.0 t in' is.2

  -- ---- programs

  cleared_by : (turns : ℕ) (t : Text) → IsNamed t → (x : Result StoreSet Halted) (r : Refused)
      → ◌≡◌ {A = Result ProgramTree Refused} (Err r) (elim x [ Ok ns ↦ narrow t.name (run_scale turns t.program) t.program | Err f ↦ Err (bad_run t.name t.bytes f) ])
      → Reasoned r
  cleared_by turns t in' (Ok ns) r is =
      record { reason = WideScale t.name; can = in'; is = refused_if (nat_le (run_scale turns t.program) limit) t.program (refusal_for (WideScale t.name)) r is }
  cleared_by turns t in' (Err f) r is =
      let same : r ≡ bad_run t.name t.bytes f = cc in
      record { reason = BadRun t.name (line_at t.bytes f.at) (column_at t.bytes f.at) (cause_word f.cause); can = in'; is = same }

  cleared_refused : (turns : ℕ) (t : Text) → IsNamed t → Refuses Reasoned (Gives (cleared turns t))
  unfolding cleared
  cleared_refused turns t in' r is = cleared_by turns t in' (program_pass turns t.program) r is

  all_cleared_refused : (turns : ℕ) (ts : List Text) → Every IsNamed ts → Refuses Reasoned (Each (λ t. Gives (cleared turns t)) ts)
  all_cleared_refused turns ts all = refused_each Reasoned IsNamed (λ t. Gives (cleared turns t)) (cleared_refused turns) ts all

  few_named : (t u : Text) → IsNamed t → Gives (few_stores t) (Ok u) → IsNamed u
  few_named t u in' is = few_by (nat_le (initial_stores t.program.types t.source) 4096) (refusal_for (ManyStores t.name (initial_stores t.program.types t.source))) is
    where
      few_by : (b : Bool) (q : Refused) → Ok u ≡ (if b then Ok t else Err q) → IsNamed u
      few_by true q given = let same : u ≡ t = cc in subst IsNamed (sym same) in'
      few_by false q given = absurd (cc)

  full_named : (t u : Text) → IsNamed t → FullOf t (Ok u) → IsNamed u
  full_named t u in' is = with_named t.name t.bytes (full_source t.program.types t.source) u in' is

  -- what the command makes of its texts
  module _ (command : Command) (asked : task.command ≡ command) where
    few_refused : command ≡ Covers → (t : Text) → IsNamed t → Refuses Reasoned (Gives (few_stores t))
    few_refused covers t in' r is =
        let count = initial_stores t.program.types t.source in
        record { reason = ManyStores t.name count; can = (asked ∙ covers, in'); is = refused_if (nat_le count 4096) t (refusal_for (ManyStores t.name count)) r is }

    full_refused : command ≡ Covers → (ts : List Text) → Every IsNamed ts → Refuses Reasoned (FullTexts ts)
    full_refused covers ts all =
        refused_after Reasoned (Each (λ t. Gives (few_stores t)) ts) (Each FullOf)
        (refused_each Reasoned IsNamed (λ t. Gives (few_stores t)) (few_refused covers) ts all)
        (λ us is. refused_each Reasoned IsNamed FullOf (λ t in'. with_refused t.name in' t.bytes (full_source t.program.types t.source)) us
        (every_done (λ t. Gives (few_stores t)) IsNamed IsNamed few_named ts us all is))

    all_full_named : (ts us : List Text) → Every IsNamed ts → FullTexts ts (Ok us) → Every IsNamed us
    all_full_named ts us all is = every_done FullOf IsNamed IsNamed full_named is.0 us (every_done (λ t. Gives (few_stores t)) IsNamed IsNamed few_named ts is.0 all is.1) is.2

    long_refused : (from to turns : ℕ) → command ≡ Quiet from to → (t : Text) → IsNamed t → Refuses Reasoned (LongCleared turns to t)
    long_refused from to turns quiet t in' =
        refused_after Reasoned (Gives (cleared turns t)) (λ p. Gives (long_enough t.name to p)) (cleared_refused turns t in')
        (λ p _ r is. record {
          reason = FewStatements t.name (length p.body);
          can = (from, to, asked ∙ quiet, in');
          is = refused_if (nat_le to (length p.body)) p (refusal_for (FewStatements t.name (length p.body))) r is;
        })

  ready_refused : (command : Command) → task.command ≡ command → (turns : ℕ) (ts : List Text) → Every IsNamed ts → Refuses Reasoned (ReadyOf command turns ts)
  ready_refused Covers asked turns ts all =
      refused_after Reasoned (FullTexts ts) (Each (λ t. Gives (cleared turns t))) (full_refused Covers asked refl ts all)
      (λ us is. all_cleared_refused turns us (all_full_named Covers asked ts us all is))
  ready_refused (Quiet from to) asked turns ts all = refused_each Reasoned IsNamed (LongCleared turns to) (long_refused (Quiet from to) asked from to turns refl) ts all
  ready_refused command asked turns ts all = all_cleared_refused turns ts all

  clearing_refused : (programs : List File) → Every IsProgram programs → Refuses Reasoned (ClearedOf task.command task.turns programs)
  clearing_refused programs all =
      refused_after Reasoned (Each TextOf programs) (ReadyOf task.command task.turns) (refused_each Reasoned IsProgram TextOf text_refused programs all)
      (λ ts is. ready_refused task.command refl task.turns ts (every_done TextOf IsProgram IsNamed text_named programs ts all is))

  -- ---- gains

  -- the tables of a gain
  abbrev gain_files : GainOf (List ℕ) → List (List ℕ)
  gain_files (Table name) = name ∷ []
  gain_files g = []

  module _ (tables : List File) (listed : Every (λ f. Contains (tables_of task.command) f.name) tables) where
    table_refused : (target : List Item) (file : File) → Contains (tables_of task.command) file.name → IsUnder (Table file.name) task.command → Refuses Reasoned (TableIn target file)
    table_refused target file in' under =
        refused_after Reasoned (Gives (source_of file)) (TableOf target file.name)
        (read_refused file.name (Contains-append_right task.files (tables_of task.command) file.name in') file.reading)
        (λ bytes _ r is. record { reason = BadTable file.name (table_word is.0); can = under; is = is.2 })

    gain_refused : (target : List Item) (g : GainOf (List ℕ)) → IsUnder g task.command → names_of tables ≡ gain_files g → Refuses Reasoned (GainIn target g tables)
    gain_refused target g under are = gain_by g tables under listed are
      where
        gain_by : (g : GainOf (List ℕ)) (files : List File) → IsUnder g task.command → Every (λ f. Contains (tables_of task.command) f.name) files → names_of files ≡ gain_files g
            → Refuses Reasoned (GainIn target g files)
        gain_by Bayes files under' in' are' = never_given Reasoned Bayes
        gain_by (Tries k) files under' in' are' = never_given Reasoned (Tries k)
        gain_by Guessing files under' in' are' = never_given Reasoned Guessing
        gain_by (Table name) (file ∷ []) under' in' are' =
            let same : name ≡ file.name = cc in
            refused_after Reasoned (TableIn target file) (λ t. Gives (Ok (Table t)))
            (table_refused target file in'.0 (subst (λ n. IsUnder (Table n) task.command) same under')) (λ t _. never_given Reasoned (Table t))
        gain_by (Table name) [] under' in' are' = absurd (cc)
        gain_by (Table name) (f ∷ g' ∷ files) under' in' are' = absurd (cc)

  module _ (word : GainOf (List ℕ)) (under : IsUnder word task.command) where
    narrow_refused : (g : GainOf TableTree) (h : HyperTree) → Refuses Reasoned (NarrowGain g h)
    narrow_refused g h r is =
        record { reason = WideGain; can = (word, under); is = refused_if (nat_le (h.scale * is.0) limit) is.0 (refusal_for WideGain) r is.2 }

    report_refused : (turns : ℕ) (p : ProgramTree) (g : GainOf TableTree) → Refuses Reasoned (OnHyper turns p (ReportOn g))
    report_refused turns p g r is =
        refused_after Reasoned (NarrowGain g is.0) (λ m. PrintsSome (IsLeakage g is.0.scale is.0.inners) (report_text g)) (narrow_refused g is.0)
        (λ m _ s h. absurd (never_shown s true _ h.2)) r is.2

    attack_refused : (turns : ℕ) (p : ProgramTree) (g : GainOf TableTree) → Refuses Reasoned (OnHyper turns p (AttackOn g))
    attack_refused turns p g r is =
        refused_after Reasoned (NarrowGain g is.0) (λ m. PrintsSome (AreAttacks g is.0.inners) (attack_text g is.0.target is.0.scale is.0.inners)) (narrow_refused g is.0)
        (λ m _ s h. absurd (never_shown s true _ h.2)) r is.2

    lines_refused : (turns : ℕ) (bytes : List ℕ) (tree : SourceTree) (p : ProgramTree) (g : GainOf TableTree) → Refuses Reasoned (OnHyper turns p (LinesOn turns bytes tree p g))
    lines_refused turns bytes tree p g r is =
        refused_after Reasoned (NarrowGain g is.0) (λ m. PrintsSome (AreLines g turns tree p) (lines_text bytes (is.0.scale * over_of g))) (narrow_refused g is.0)
        (λ m _ s h. absurd (never_shown s true _ h.2)) r is.2

  -- ---- channels

  initial_refused : (task.command ≡ Channel) ⊎ IsOnCapacities task.command → (p : ProgramTree) → Refuses Reasoned (Gives (initial p))
  initial_refused can p r is = record { reason = NotInitial; can = can; is = refused_if (all_initial p.target) p (refusal_for NotInitial) r is }

  capacity_refused : task.command ≡ Capacity → (turns : ℕ) (p : ProgramTree) → Refuses Reasoned (CapacityIn turns p)
  capacity_refused asked turns p r is =
      record { reason = WideChannel; can = inl asked; is = refused_if (is_narrow (channel_grid is.0)) _ (refusal_for WideChannel) r is.2 }

  wide : (way : Composition) → task.command ≡ Compose way → (r : Refused) → r ≡ wide_channel → Reasoned r
  wide way asked r is = record { reason = WideChannel; can = inr (way, asked); is = is }

  cascade_refused : task.command ≡ Compose Cascade → (c d : ChannelTree) (x : Result GridTree ComposeFault) (r : Refused) → CascadeCase c d x → Err r ≡ composed_grid x → Reasoned r
  cascade_refused asked c d (Ok g) r is given = absurd (cc)
  cascade_refused asked c d (Err compose.Fit) r is given = let same : r ≡ refusal_for NoFit = cc in record { reason = NoFit; can = asked; is = same }
  cascade_refused asked c d (Err compose.Wide) r is given = wide Cascade asked r (cc)
  cascade_refused asked c d (Err e) r is given = absurd is

  module _ (asked : IsOnSameRows task.command) where
    other_targets : (r : Refused) → r ≡ other_target → Reasoned r
    other_targets r is = record { reason = OtherTarget; can = inr (inr asked); is = is }

    other_rows : (r : Refused) → r ≡ refusal_for OtherRows → Reasoned r
    other_rows r is = record { reason = OtherRows; can = asked; is = is }

  parallel_refused : task.command ≡ Compose Parallel → (c d : ChannelTree) (x : Result GridTree ComposeFault) (r : Refused) → ParallelCase c d x → Err r ≡ composed_grid x → Reasoned r
  parallel_refused asked c d (Ok g) r is given = absurd (cc)
  parallel_refused asked c d (Err compose.Targets) r is given = other_targets (inl asked) r (cc)
  parallel_refused asked c d (Err compose.Rows) r is given = other_rows (inl asked) r (cc)
  parallel_refused asked c d (Err (compose.Cells count)) r is given =
      let same : r ≡ refusal_for (ManyChannelCells count) = cc in
      record { reason = ManyChannelCells count; can = asked; is = same }
  parallel_refused asked c d (Err compose.Wide) r is given = wide Parallel asked r (cc)
  parallel_refused asked c d (Err e) r is given = absurd is

  choice_refused : (num den : ℕ) → task.command ≡ Compose (Choice num den) → (c d : ChannelTree) (x : Result GridTree ComposeFault) (r : Refused) → ChoiceCase num den c d x → Err r ≡ composed_grid x → Reasoned r
  choice_refused num den asked c d (Ok g) r is given = absurd (cc)
  choice_refused num den asked c d (Err compose.Targets) r is given = other_targets (inr (num, den, asked)) r (cc)
  choice_refused num den asked c d (Err compose.Rows) r is given = other_rows (inr (num, den, asked)) r (cc)
  choice_refused num den asked c d (Err compose.Wide) r is given = wide (Choice num den) asked r (cc)
  choice_refused num den asked c d (Err e) r is given = absurd is

  composed_refused : (way : Composition) → task.command ≡ Compose way → (c d : ChannelTree) → Refuses Reasoned (Composed way c d)
  composed_refused Cascade asked c d r is = cascade_refused asked c d is.0 r (cascade_case c d is.0 is.1) is.2
  composed_refused Parallel asked c d r is = parallel_refused asked c d is.0 r (parallel_case c d is.0 is.1) is.2
  composed_refused (Choice num den) asked c d r is = choice_refused num den asked c d is.0 r (choice_case c d num den is.0 is.1) is.2

  module _ (way : Composition) (asked : task.command ≡ Compose way) where
    algebra_refused : (c d : ChannelTree) → Refuses Reasoned (After (Composed way c d) (λ g. Gives (algebra_shown (channel_grid c) (channel_grid d) g)))
    algebra_refused c d =
        refused_after Reasoned (Composed way c d) (λ g. Gives (algebra_shown (channel_grid c) (channel_grid d) g)) (composed_refused way asked c d)
        (λ g _ r is. wide way asked r (refused_if (is_narrow (channel_grid c) && (is_narrow (channel_grid d) && is_narrow g)) _ wide_channel r is))

    composition_refused : (turns : ℕ) (p q : ProgramTree) → Refuses Reasoned (ComposedIn way turns p q)
    composition_refused turns p q r is = algebra_refused is.0 is.1 r is.4

  -- ---- verdicts and certificates

  module _ (refining : IsRefining task.command) (json : Bool) where
    verdict_refused : (a b : HyperTree) (v : Result VerdictTree RefineError) (r : Refused) → IsVerdict a b most_pivots v → VerdictShown json a b v (Err r) → Reasoned r
    verdict_refused a b (Ok v) r is given = absurd (never_shown r _ _ given.1)
    verdict_refused a b (Err refine.Targets) r is given = let same : r ≡ refusal_for OtherTarget = cc in record { reason = OtherTarget; can = inl refining; is = same }
    verdict_refused a b (Err (refine.Cells cells)) r is given = let same : r ≡ refusal_for (ManyCells cells) = cc in record { reason = ManyCells cells; can = refining; is = same }
    verdict_refused a b (Err (refine.Wide pivots)) r is given = let same : r ≡ refusal_for (WideTableau pivots) = cc in record { reason = WideTableau pivots; can = refining; is = same }
    verdict_refused a b (Err refine.Budget) r is given = let same : r ≡ refusal_for ManyPivots = cc in record { reason = ManyPivots; can = refining; is = same }
    verdict_refused a b (Err refine.Mem) r is given = absurd is

    refine_refused : (turns : ℕ) (p q : ProgramTree) → Refuses Reasoned (RefineOutcome json turns p q)
    refine_refused turns p q r is = verdict_refused is.0 is.2.0 is.2.2.0 r is.2.2.1 is.2.2.2

  module _ (name : List ℕ) (asked : task.command ≡ Check name) where
    cert_refused : (file : File) → name ≡ file.name → Contains (tables_of task.command) file.name → Refuses Reasoned (CertIn file)
    cert_refused file same in' =
        refused_after Reasoned (Gives (source_of file)) (λ bytes. Gives (cert_read file.name (cert_of bytes)))
        (read_refused file.name (Contains-append_right task.files (tables_of task.command) file.name in') file.reading)
        (λ bytes _ r is. cert_by (cert_of bytes) r is)
      where
        cert_by : (x : Result CertTree CertError) (r : Refused) → Err r ≡ cert_read file.name x → Reasoned r
        cert_by (Ok c) r is = absurd (cc)
        cert_by (Err e) r is =
            let why : r ≡ refusal_for (BadCert file.name (cert_word e)) = cc in
            record { reason = BadCert file.name (cert_word e); can = asked ∙ ap (λ n. Check n) same; is = why }

    mark_by : (a b : HyperTree) (c : CertTree) (x : Result Mark CheckError) (r : Refused) → IsMarked a b c x → Err r ≡ mark_shown x → Reasoned r
    mark_by a b c (Ok mark) r is given = absurd (never_shown r _ _ given)
    mark_by a b c (Err check.Wide) r is given = let same : r ≡ refusal_for WideCert = cc in record { reason = WideCert; can = (name, asked); is = same }
    mark_by a b c (Err check.Mem) r is given = absurd (no_memory a b c is)

    mark_refused : (turns : ℕ) (p q : ProgramTree) (c : CertTree) → Refuses Reasoned (MarkOn turns p q c)
    mark_refused turns p q c r is =
        let a = is.0 in
        let b = is.2.0 in
        ⊎_elim (λ (other : (a.target ≢ b.target) × (Err r ≡ Err other_target)). other_by other.1)
        (λ (same : (a.target ≡ b.target) × ((x : Result Mark CheckError) × IsMarked a b c x × (Err r ≡ mark_shown x))). mark_by a b c same.1.0 r same.1.1 same.1.2) is.2.2
      where
        other_by : ◌≡◌ {A = Result Shown Refused} (Err r) (Err other_target) → Reasoned r
        other_by given = let same : r ≡ refusal_for OtherTarget = cc in record { reason = OtherTarget; can = inr (inl (name, asked)); is = same }

  -- ---- commands

  check_refused : (name : List ℕ) → task.command ≡ Check name → (turns : ℕ) (tables : List File) → Every (λ f. Contains (tables_of task.command) f.name) tables → names_of tables ≡ name ∷ []
      → (p q : ProgramTree) → Refuses Reasoned (CommandOutcome (Check name) turns tables (p ∷ q ∷ []))
  check_refused name asked turns [] listed are p q r is = absurd (cc)
  check_refused name asked turns (file ∷ []) listed are p q r is =
      let same : name ≡ file.name = cc in
      refused_after Reasoned (CertIn file) (MarkOn turns p q) (cert_refused name asked file same listed.0) (λ c _. mark_refused name asked turns p q c) r is
  check_refused name asked turns (f ∷ g ∷ files) listed are p q r is = absurd (cc)

  module _ (made_answers : (count turns : ℕ) → task.command ≡ Make count → Refuses Reasoned (MadeOutcome count turns)) (turns : ℕ) (tables : List File)
      (listed : Every (λ f. Contains (tables_of task.command) f.name) tables) where
    under_refused : (target : List Item) (word : GainOf (List ℕ)) (next : GainOf TableTree → Step Shown) → IsUnder word task.command → names_of tables ≡ gain_files word
        → ((g : GainOf TableTree) → Refuses Reasoned (next g)) → Refuses Reasoned (After (GainIn target word tables) next)
    under_refused target word next under are later =
        refused_after Reasoned (GainIn target word tables) next (gain_refused tables listed target word under are) (λ g _. later g)

    command_refused : ((word : GainOf (List ℕ)) → task.command ≡ Lines word → ⊥) → (command : Command) → task.command ≡ command → names_of tables ≡ tables_of command → (ps : List ProgramTree) → length ps ≡ programs_asked command
        → Refuses Reasoned (CommandOutcome command turns tables ps)
    command_refused unlike Hyper asked are (p ∷ []) fit r is = absurd (never_shown r true _ is.2)
    command_refused unlike Traces asked are (p ∷ []) fit r is = absurd (never_shown r true _ is.2)
    command_refused unlike Channel asked are (p ∷ []) fit r is =
        refused_after Reasoned (Gives (initial p)) (λ p. ChannelOf p.target (joint_of turns p)) (initial_refused (inl asked) p) (λ q _ s h. absurd (never_shown s true _ h.2.2)) r is
    command_refused unlike Trail asked are (p ∷ []) fit r is = absurd (never_shown r true _ is.2)
    command_refused unlike Capacity asked are (p ∷ []) fit r is =
        refused_after Reasoned (Gives (initial p)) (CapacityIn turns) (initial_refused (inr (inl asked)) p) (λ q _. capacity_refused asked turns q) r is
    command_refused unlike (Compose way) asked are (p ∷ q ∷ []) fit r is =
        refused_after Reasoned (Gives (initial p)) (λ p. After (Gives (initial q)) (λ q. ComposedIn way turns p q)) (initial_refused (inr (inr (way, asked))) p)
        (λ first _. refused_after Reasoned (Gives (initial q)) (λ q. ComposedIn way turns first q) (initial_refused (inr (inr (way, asked))) q)
        (λ second _. composition_refused way asked turns first second)) r is
    command_refused unlike (Make count) asked are [] fit r is = made_answers count turns asked r is
    command_refused unlike (Leak word) asked are (p ∷ []) fit r is =
        under_refused p.target word (λ t. OnHyper turns p (ReportOn t)) (inl asked) (are ∙ leak_files word) (report_refused word (inl asked) turns p) r is
      where
        leak_files : (g : GainOf (List ℕ)) → tables_of (Leak g) ≡ gain_files g
        leak_files Bayes = refl
        leak_files (Tries k) = refl
        leak_files Guessing = refl
        leak_files (Table name) = refl
    command_refused unlike (Attack word) asked are (p ∷ []) fit r is =
        under_refused p.target word (λ t. OnHyper turns p (AttackOn t)) (inr (inl asked)) (are ∙ attack_files word) (attack_refused word (inr (inl asked)) turns p) r is
      where
        attack_files : (g : GainOf (List ℕ)) → tables_of (Attack g) ≡ gain_files g
        attack_files Bayes = refl
        attack_files (Tries k) = refl
        attack_files Guessing = refl
        attack_files (Table name) = refl
    command_refused unlike (Reach num den) asked are (p ∷ []) fit r is = absurd (never_shown r true _ is.2.2)
    command_refused unlike (Refine json) asked are (p ∷ q ∷ []) fit r is = refine_refused (inr (json, asked)) json turns p q r is
    command_refused unlike (Check name) asked are (p ∷ q ∷ []) fit r is = check_refused name asked turns tables listed are p q r is
    command_refused unlike Covers asked are (p ∷ q ∷ []) fit r is = refine_refused (inl asked) false turns p q r is
    command_refused unlike (Quiet from to) asked are (p ∷ []) fit r is = absurd (never_shown r true _ is.2)
    command_refused unlike Blame asked are (p ∷ []) fit r is = absurd (never_shown r true _ is.2)
    command_refused unlike (Lines word) asked are ps fit r is = absurd (unlike word asked)
    command_refused unlike command asked are ps fit r is = absurd (omega (arith, fit))

    -- `lines`, whose file is the only one
    text_lines_refused : (word : GainOf (List ℕ)) → task.command ≡ Lines word → names_of tables ≡ tables_of (Lines word) → (file : File) → IsProgram file
        → Refuses Reasoned (After (TextOf file) (LinesUnder word turns tables))
    text_lines_refused word asked are file in' =
        refused_after Reasoned (TextOf file) (LinesUnder word turns tables) (text_refused file in')
        (λ t is. refused_after Reasoned (Gives (cleared turns t)) (λ p. After (GainIn p.target word tables) (λ g. OnHyper turns p (LinesOn turns t.bytes t.source p g)))
        (cleared_refused turns t (text_named file t in' is))
        (λ p _. under_refused p.target word (λ g. OnHyper turns p (LinesOn turns t.bytes t.source p g)) (inr (inr asked)) (are ∙ lines_files word)
        (lines_refused word (inr (inr asked)) turns t.bytes t.source p)))
      where
        lines_files : (g : GainOf (List ℕ)) → tables_of (Lines g) ≡ gain_files g
        lines_files Bayes = refl
        lines_files (Tries k) = refl
        lines_files Guessing = refl
        lines_files (Table name) = refl

  -- ---- as many programs as files

  ready_length : (command : Command) (turns : ℕ) (ts : List Text) (ps : List ProgramTree) → ReadyOf command turns ts (Ok ps) → length ps ≡ length ts
  ready_length Covers turns ts ps is =
      each_length (λ t. Gives (cleared turns t)) is.0 ps is.2 ∙ each_length FullOf is.1.0 is.0 is.1.2 ∙ each_length (λ t. Gives (few_stores t)) ts is.1.0 is.1.1
  ready_length (Quiet from to) turns ts ps is = each_length (LongCleared turns to) ts ps is
  ready_length command turns ts ps is = each_length (λ t. Gives (cleared turns t)) ts ps is

  module _ (made_answers : (count turns : ℕ) → task.command ≡ Make count → Refuses Reasoned (MadeOutcome count turns)) (programs tables : List File)
      (are : AreNamed (Some task) programs tables) (fitting : IsFitting task) where
    programs_long : (ps : List ProgramTree) → ClearedOf task.command task.turns programs (Ok ps) → length ps ≡ programs_asked task.command
    programs_long ps is =
        ready_length task.command task.turns is.0 ps is.2 ∙ each_length TextOf programs is.0 is.1 ∙ sym (length-map programs (λ (f : File). f.name)) ∙ ap length are.0 ∙ fitting

    are_programs : Every IsProgram programs
    are_programs = subst (λ (names : List (List ℕ)). Every (λ (f : File). Contains names f.name) programs) are.0 (names_in programs)

    are_tables : Every (λ f. Contains (tables_of task.command) f.name) tables
    are_tables = subst (λ (names : List (List ℕ)). Every (λ (f : File). Contains names f.name) tables) are.1 (names_in tables)

    programs_reasoned : ((word : GainOf (List ℕ)) → task.command ≡ Lines word → ⊥) → Refuses Reasoned (ProgramsOutcome task.command task.turns programs tables)
    programs_reasoned unlike =
        refused_after Reasoned (ClearedOf task.command task.turns programs) (CommandOutcome task.command task.turns tables) (clearing_refused programs are_programs)
        (λ ps is. command_refused made_answers task.turns tables are_tables unlike task.command refl are.1 ps (programs_long ps is))

    lines_reasoned : (word : GainOf (List ℕ)) (file : File) → task.command ≡ Lines word → programs ≡ file ∷ []
        → Refuses Reasoned (After (TextOf file) (LinesUnder word task.turns tables))
    lines_reasoned word file asked one =
        text_lines_refused made_answers task.turns tables are_tables word asked (are.1 ∙ ap tables_of asked) file
        (subst (λ (files : List File). Every IsProgram files) one are_programs).0

    pub task_reasoned : Refuses Reasoned (TaskOutcome task programs tables)
    task_reasoned =
        each_command (Refuses Reasoned) task.turns tables task.command programs programs_reasoned lines_reasoned
        (λ word asked many. absurd (many (sym (length-map programs (λ (f : File). f.name)) ∙ ap length are.0 ∙ fitting ∙ ap programs_asked asked)))

-- ---- the made text is never refused

module _ (one_typed : (name bytes : List ℕ) → HasOne (TypedOf name bytes)) (parsed : MadeIsParsed) (typed : MadeIsTyped) (clear : MadeIsClear) (scale : MadeScale) where
  abbrev made_text : ℕ → Text
  made_text count = record { name = []; bytes = make_source count; source = made_tree count; program = made_program count }

  is_made : (count : ℕ) → TypedOf [] (make_source count) (Ok (made_text count))
  unfolding TypedOf
  is_made count = let read = parsed count in (read.0, read.1, (made_tree count, read.2, (made_program count, typed count, refl)))

  made_passes : (turns count : ℕ) → count ≤ 60 → (r : Refused) → Gives (cleared turns (made_text count)) (Err r) → ⊥
  made_passes turns count few r is = made_clears clear scale turns count (made_text count) r few refl is

  pub made_never : (turns count : ℕ) → count ≤ 60 → (r : Refused) → MadeOutcome count turns (Err r) → ⊥
  made_never turns count few r is =
      let next : Text → Step Shown = λ t. After (Gives (cleared turns t)) (λ q. MadeOf count (run_scale turns q) (joint_of turns q)) in
      let after = next_of (TypedOf [] (make_source count)) next (one_typed [] (make_source count)) (made_text count) (is_made count) (Err r) is in
      ⊎_elim (λ (stopped : Gives (cleared turns (made_text count)) (Err r)). made_passes turns count few r stopped)
      (λ (shown : (q : ProgramTree) × Gives (cleared turns (made_text count)) (Ok q) × MadeOf count (run_scale turns q) (joint_of turns q) (Err r)). never_shown r true _ shown.2.2) after

  -- the task that words ask for is refused for a reason that it can have
  pub are_reasoned : TasksInRange → RefusalsAreReasoned
  are_reasoned tasks_in_range words task programs tables r asks are refused =
      let range = (tasks_in_range words task asks).0 in
      task_reasoned task
      (λ count turns made s h. absurd (made_never turns count (subst IsInRange made range) s h)) programs tables are (tasks_fit words task asks) r refused
