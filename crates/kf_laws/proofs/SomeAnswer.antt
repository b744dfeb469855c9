-- Words and files have some defined answer.
use Rattle.std.proofs.Common.{◌≡◌, ◌⊎◌, ℕ, ◌≤◌, ◌*◌, nat_le, if◌then◌else◌, List, [], ◌∷◌, length, Bool, false, sym, ap, subst, None, Some, Option, Result, Ok, Err, codes, refl, ⊎_elim, inl, inr}
use Rattle.std.specs.List.{AllByRecursion as Every, AllZip}
use Rattle.std.specs.Str.{bytes_eq}
use Rattle.kf_lex.specs.declared.token.Token.{Token}
use Rattle.kf_lex.specs.declared.token.LexError.{LexError}
use Rattle.kf_lex.specs.declared.token.LexError.TheVariants as lexing
use Rattle.kf_lex.specs.Readings.{IsTokens, IsFault}
use Rattle.kf_ast.specs.Sources.{SourceTree}
use Rattle.kf_parse.specs.declared.errors.ParseError.{ParseError}
use Rattle.kf_parse.specs.declared.errors.ParseError.TheVariants as parsing
use Rattle.kf_parse.specs.Answers.{IsRefused}
use Rattle.kf_parse.specs.Laws.{OnlyBuilt, ParsedOrRefused}
use Rattle.kf_check.specs.declared.errors.TypeError.{TypeError}
use Rattle.kf_check.specs.declared.errors.TypeError.TheVariants as typing
use Rattle.kf_check.specs.Laws.{IsWellBuilt, TypedOrBroken}
use Rattle.kf_check.specs.Variables.{IsBroken}
use Rattle.kf_core.specs.JointLaws.{RowsExist, HypersExist}
use Rattle.kf_channel.specs.Laws.{SomeSecrets}
use Rattle.kf_core.specs.Programs.{ProgramTree}
use Rattle.kf_core.specs.Joint.{Cell, joint_of}
use Rattle.kf_core.specs.Rows.{IsHyperOf}
use Rattle.kf_column.specs.Hypers.{Inner}
use Rattle.kf_core.specs.Scale.{scale_of as run_scale}
use Rattle.kf_capacity.specs.Grids.{ChannelTree, channel_grid}
use Rattle.kf_frac.specs.Fractions.{limit}
use Rattle.kf_value.specs.Targets.{Item}
use Rattle.kf_value.specs.Numbers.{target_size}
use Rattle.kf_gain.specs.declared.error.TableError.{TableError}
use Rattle.kf_gain.specs.Gains.{GainOf, Bayes, Tries, Guessing, Table, TableTree, over_of}
use Rattle.kf_gain.specs.Laws.{HasActions, SomeAverage, SomeReport}
use Rattle.kf_gain.specs.TableLaws.{SomeTable, TablesHaveActions}
use Rattle.kf_gain.specs.Tables.{IsTable}
use Rattle.kf_gain.specs.Vulnerabilities.{width}
use Rattle.kf_report.specs.Reports.{Leakage, IsLeakage}
use Rattle.kf_attack.specs.Laws.{SomeAttacks, SomeReach}
use Rattle.kf_attack.specs.Views.{AreAttacks}
use Rattle.kf_attack.specs.Attacks.{IsReach}
use Rattle.kf_make.specs.Making.{make_source}
use Rattle.kf_prior.specs.FullSources.{full_source}
use Rattle.kf_prior.specs.Laws.{FullIsBuilt}
use Rattle.kf_quiet.specs.Laws.{SomeBlames}
use Rattle.kf_quiet.specs.Summaries.{SummaryTree, IsSummary}
use Rattle.kf_silent.specs.Laws.{SomeSilent}
use Rattle.kf_silent.specs.Quiet.{quiet_joint}
use Rattle.kf_silent.specs.Silent.{silent_joint}
use Rattle.kf_lines.specs.LineTexts.{lines_text}
use Rattle.kf_lines.specs.Sites.{Site, program_sites}
use Rattle.kf_lines.specs.Summaries.{AreLines, IsLine, LineTree, LinesTree}
use Rattle.kf_run.specs.Laws.{SomeTrail}
use Rattle.kf_refine.specs.Refinements.{HyperTree}
use Rattle.kf_refine.specs.Verdicts.{VerdictTree, IsVerdict}
use Rattle.kf_refine.specs.Laws.{SomeVerdict, VerdictsProve}
use Rattle.kf_refine.specs.Views.{IsProper}
use Rattle.kf_refine.specs.declared.verdict.RefineError.{RefineError}
use Rattle.kf_refine.proofs.SomeTargets.{same_targets}
use Rattle.kf_cert.specs.Certificates.{CertTree, cert_of}
use Rattle.kf_cert.specs.CertTexts.{cert_text}
use Rattle.kf_cert.specs.Laws.{ReadSound, SomeMark}
use Rattle.kf_cert.specs.Views.{IsSound}
use Rattle.kf_cert.specs.declared.cert.CertError.{CertError}
use Rattle.kf_load.specs.Steps.{Refused, Step, After, Each, Gives, refusal}
use Rattle.kf_load.specs.Texts.{File, Text, token_fault, syntax_fault, type_fault, IsBad, TextWith, TypedOf, TextOf, cleared, LongCleared, source_of}
use Rattle.kf_load.specs.Refusals.{bad_text, Fault, fault, TokensOf, SourceOf, ProgramOf, long_enough}
use Rattle.kf_top.specs.Answer.{Shown, usage, prints, shows, other_target, wide_channel, HyperOf, initial, IsChannelTree, is_narrow, Composed, ComposedIn, table_word, bad_file, TableOf, GainIn, NarrowGain, OnHyper, PrintsSome, ReportOn, AttackOn, LinesOn, IsHyperTree, verdict_refusal, VerdictShown, RefineOutcome, CertIn, mark_shown, MarkIn, MarkOn, CommandOutcome}
use Rattle.kf_top.specs.Outcome.{few_stores, LinesUnder, ProgramsOutcome, ReadyOf, TaskOutcome}
use Rattle.kf_top.specs.Ends.{Answer, settled}
use Rattle.kf_top.specs.Steps.{TracesOf, TrailOf, MadeOf, BlameOf, TableIn, cert_read, most_pivots, IsAnswer, FullTexts, ClearedOf, SomeOutcome, MadeOutcome, ChannelOf, CapacityIn, algebra_shown, is_yes, FullOf, VerdictOn}
use Rattle.kf_words.specs.Jobs.{IsInRange}
use Rattle.kf_words.specs.Laws.{TasksInRange}
use Rattle.kf_words.specs.Task.{Command, Composition, Hyper, Traces, Channel, Trail, Capacity, Compose, Leak, Attack, Reach, Make, Refine, Check, Covers, Quiet, Blame, Task, task_of}
use Rattle.kf_laws.proofs.ClearedPrograms.{AreClear, IsTyped, every_done, every_one, few_typed, texts_typed}
use Rattle.kf_laws.proofs.EachCommand.{each_command}
use Rattle.kf_laws.proofs.OneComposed.{some_composed}
use Rattle.kf_laws.proofs.ProperHypers.{AreProper, IsClear}
use Rattle.kf_text.specs.Texts.{hyper_text, trace_text, channel_text, trail_text, make_text}
use Rattle.kf_text.specs.CapacityTexts.{capacity_text}
use Rattle.kf_text.specs.ReportTexts.{report_text}
use Rattle.kf_text.specs.AttackTexts.{attack_text, reach_text}
use Rattle.kf_text.specs.BlameTexts.{blame_text}
use Rattle.kf_text.specs.VerdictTexts.{verdict_text}

-- ---- steps

abbrev HasSome : {A : Type 0} → Step A → Type 0
HasSome {A} step = (r : Result A Refused) × step r

some_given : {A : Type 0} (given : Result A Refused) → HasSome (Gives given)
some_given given = (given, refl)

module _ {A B : Type 0} (first : Step A) (next : A → Step B) where
  from_next : (x : A) (r : Result B Refused) → first (Ok x) → next x r → HasSome (After first next)
  from_next x (Ok y) h k = (Ok y, (x, h, k))
  from_next x (Err r) h k = (Err r, inr (x, h, k))

  module _ (some_next : (x : A) → first (Ok x) → HasSome (next x)) where
    from_first : (r : Result A Refused) → first r → HasSome (After first next)
    from_first (Ok x) h = let s = some_next x h in from_next x s.0 h s.1
    from_first (Err r) h = (Err r, inl h)

    some_after : HasSome first → HasSome (After first next)
    some_after s = from_first s.0 s.1

module _ {A B : Type 0} (step : A → Step B) (P : A → Type 0) (some_step : (x : A) → P x → HasSome (step x)) where
  some_each : (xs : List A) → Every P xs → HasSome (Each step xs)
  some_each [] all = some_given (Ok [])
  some_each (x ∷ xs) all = some_after (step x) (λ y. After (Each step xs) (λ ys. Gives (Ok (y ∷ ys))))
      (λ y _. some_after (Each step xs) (λ ys. Gives (Ok (y ∷ ys))) (λ ys _. some_given (Ok (y ∷ ys))) (some_each xs all.1))
      (some_step x all.0)

-- the results of a function
all_given : {A B : Type 0} (f : A → Result B Refused) (xs : List A) → HasSome (Each (λ x. Gives (f x)) xs)
all_given f xs = some_each (λ x. Gives (f x)) (λ x. Unit {0}) (λ x any. some_given (f x)) xs (every_one xs)

-- ---- refusals of a text

bad : {E : Type 0} (IsError : E → Type 0) (fault_of : E → Option Fault) (name bytes : List ℕ) (e : E) (f : Fault) → IsError e → fault_of e ≡ Some f
    → (r : Refused) × IsBad IsError fault_of name bytes r
bad IsError fault_of name bytes e f is has = (bad_text name bytes f, record { error = e; is_error = is; fault = f; has = has; is = refl })

module _ (name bytes : List ℕ) where
  bad_tokens : (e : LexError) → IsFault bytes e → HasSome (TokensOf name bytes)
  bad_tokens (lexing.Utf8 at) is = let b = bad (IsFault bytes) token_fault name bytes (lexing.Utf8 at) (fault (codes "Utf8") at) is refl in (Err b.0, b.1)
  bad_tokens (lexing.Char at) is = let b = bad (IsFault bytes) token_fault name bytes (lexing.Char at) (fault (codes "Char") at) is refl in (Err b.0, b.1)
  bad_tokens (lexing.Number at) is = let b = bad (IsFault bytes) token_fault name bytes (lexing.Number at) (fault (codes "Number") at) is refl in (Err b.0, b.1)
  bad_tokens lexing.Mem is = absurd is.is

  bad_source : (tokens : List Token) (e : ParseError) → (e ≡ parsing.Mem → ⊥) → IsRefused bytes tokens e → HasSome (SourceOf name bytes tokens)
  bad_source tokens (parsing.Deep at) other is = let b = bad (IsRefused bytes tokens) syntax_fault name bytes (parsing.Deep at) (fault (codes "Deep") at) is refl in (Err b.0, b.1)
  bad_source tokens (parsing.Syntax at) other is = let b = bad (IsRefused bytes tokens) syntax_fault name bytes (parsing.Syntax at) (fault (codes "Syntax") at) is refl in (Err b.0, b.1)
  bad_source tokens (parsing.Long at) other is = let b = bad (IsRefused bytes tokens) syntax_fault name bytes (parsing.Long at) (fault (codes "Long") at) is refl in (Err b.0, b.1)
  bad_source tokens parsing.Mem other is = absurd (other refl)

  module _ (tree : SourceTree) where
    abbrev told : (e : TypeError) (f : Fault) → IsBroken tree e → type_fault e ≡ Some f → HasSome (ProgramOf name bytes tree)
    told e f is has = let b = bad (IsBroken tree) type_fault name bytes e f is has in (Err b.0, b.1)

    bad_program : (e : TypeError) → (e ≡ typing.Mem → ⊥) → IsBroken tree e → HasSome (ProgramOf name bytes tree)
    bad_program (typing.NoVariable at) other is = told (typing.NoVariable at) (fault (codes "NoVariable") at) is refl
    bad_program (typing.Twice at) other is = told (typing.Twice at) (fault (codes "Twice") at) is refl
    bad_program (typing.Unknown at) other is = told (typing.Unknown at) (fault (codes "Unknown") at) is refl
    bad_program (typing.Clash at) other is = told (typing.Clash at) (fault (codes "Clash") at) is refl
    bad_program (typing.BadRange at) other is = told (typing.BadRange at) (fault (codes "BadRange") at) is refl
    bad_program (typing.TypeTooLarge at) other is = told (typing.TypeTooLarge at) (fault (codes "TypeTooLarge") at) is refl
    bad_program (typing.TooManyVariables at) other is = told (typing.TooManyVariables at) (fault (codes "TooManyVariables") at) is refl
    bad_program (typing.StoreTooWide at) other is = told (typing.StoreTooWide at) (fault (codes "StoreTooWide") at) is refl
    bad_program (typing.BadFlip at) other is = told (typing.BadFlip at) (fault (codes "BadFlip") at) is refl
    bad_program typing.Mem other is = absurd (other refl)

abbrev text : List ℕ → List ℕ → SourceTree → ProgramTree → Text
text name bytes tree p = record { name = name; bytes = bytes; source = tree; program = p }

-- ---- what is shown

-- the laws of hypers
module _ (hypers_exist : HypersExist) where
  some_hyper : (target : List Item) (scale : ℕ) (joint : List Cell) → HasSome (HyperOf target scale joint)
  some_hyper target scale joint = let h = hypers_exist joint in (prints (hyper_text target scale h.0), (h.0, h.1, refl))

  some_made_hyper : (count scale : ℕ) (joint : List Cell) → HasSome (MadeOf count scale joint)
  some_made_hyper count scale joint = let h = hypers_exist joint in (prints (make_text count scale h.0), (h.0, h.1, refl))

  -- a program has a hyper
  some_tree : (turns : ℕ) (p : ProgramTree) → (h : HyperTree) × IsHyperTree turns p h
  some_tree turns p =
      let h = hypers_exist (joint_of turns p) in
      let tree : HyperTree = record { target = p.target; scale = run_scale turns p; inners = h.0 } in
      (tree, record { target = refl; scale = refl; is_hyper = h.1 })

  -- and so something is made of it
  some_on_hyper : (turns : ℕ) (p : ProgramTree) (next : HyperTree → Step Shown) → ((h : HyperTree) → IsHyperTree turns p h → HasSome (next h)) → HasSome (OnHyper turns p next)
  some_on_hyper turns p next some_next =
      let h = some_tree turns p in
      let s = some_next h.0 h.1 in
      (s.0, (h.0, h.1, s.1))

some_reach : SomeReach → (num den : ℕ) (h : HyperTree) → 1 ≤ num → num ≤ den → IsProper h → HasSome (PrintsSome (IsReach h.scale h.inners num den) (reach_text h.scale))
some_reach reaches_exist num den h some few proper =
    let r = reaches_exist (target_size h.target) h.scale num den h.inners proper some few in
    (prints (reach_text h.scale r.0), (r.0, r.1, refl))

some_traces : RowsExist → (target : List Item) (scale : ℕ) (joint : List Cell) → HasSome (TracesOf target scale joint)
some_traces rows_exist target scale joint = let rows = rows_exist joint in (prints (trace_text target scale rows.0), (rows.0, rows.1, refl))

some_channel_shown : RowsExist → SomeSecrets → (target : List Item) (joint : List Cell) → HasSome (ChannelOf target joint)
some_channel_shown rows_exist secrets_exist target joint =
    let rows = rows_exist joint in
    let secrets = secrets_exist rows.0 in
    (prints (channel_text target rows.0 secrets.0), (rows.0, rows.1, (secrets.0, secrets.1, refl)))

some_trail : SomeTrail → (turns : ℕ) (p : ProgramTree) → HasSome (TrailOf turns p)
some_trail trails_exist turns p = let counts = trails_exist turns p in (prints (trail_text counts.0), (counts.0, counts.1, refl))

some_blame : SomeBlames → (turns : ℕ) (p : ProgramTree) → HasSome (BlameOf turns p)
some_blame blames_exist turns p = let blames = blames_exist turns p in (prints (blame_text (run_scale turns p) blames.0), (blames.0, blames.1, refl))

-- ---- gains

-- a gain that was given has an action
same_gain : (given g : GainOf TableTree) → HasActions given → Gives {A = GainOf TableTree} (Ok given) (Ok g) → HasActions g
same_gain given g has is = let same : g ≡ given = cc in subst HasActions (sym same) has

-- so has one that was read
read_gain : TablesHaveActions → (target : List Item) (word : GainOf (List ℕ)) (tables : List File) (g : GainOf TableTree) → GainIn target word tables (Ok g) → HasActions g
read_gain have target Bayes tables g is = same_gain Bayes g tt is
read_gain have target (Tries k) tables g is = same_gain (Tries k) g tt is
read_gain have target Guessing tables g is = same_gain Guessing g tt is
read_gain have target (Table name) (file ∷ []) g is = same_gain (Table is.0) g (have target is.1.0 is.0 is.1.2) is.2
read_gain have target (Table name) tables g is = absurd (cc)

-- the law of gain tables
module _ (tables_exist : SomeTable) where
  told_table : (target : List Item) (name bytes : List ℕ) (r : Result TableTree TableError) → IsTable target bytes r → HasSome (TableOf target name bytes)
  told_table target name bytes (Ok t) is = (Ok t, is)
  told_table target name bytes (Err e) is = (Err (bad_file name (table_word e)), (e, is, refl))

  some_table : (target : List Item) (file : File) → HasSome (TableIn target file)
  some_table target file =
      some_after (Gives (source_of file)) (TableOf target file.name)
      (λ bytes _. let t = tables_exist target bytes in told_table target file.name bytes t.0 t.1) (some_given (source_of file))

  some_gain : (target : List Item) (g : GainOf (List ℕ)) (tables : List File) → HasSome (GainIn target g tables)
  some_gain target Bayes tables = some_given (Ok Bayes)
  some_gain target (Tries k) tables = some_given (Ok (Tries k))
  some_gain target Guessing tables = some_given (Ok Guessing)
  some_gain target (Table name) (file ∷ []) =
      some_after (TableIn target file) (λ t. Gives (Ok (Table t))) (λ t _. some_given (Ok (Table t))) (some_table target file)
  some_gain target (Table name) tables = some_given (Err usage)

-- the law of sums: the width of a gain, where it fits
module _ (averages_exist : SomeAverage) (g : GainOf TableTree) (h : HyperTree) (has : HasActions g) where
  some_narrow : HasSome (NarrowGain g h)
  some_narrow =
      let a = averages_exist h.inners in
      let m = width g (length a.0) in (
        (if nat_le (h.scale * m) limit then Ok m else Err (refusal 7 [] (codes "gain passes 2^127 - 1"))),
        (m, record { average = a.0; is_average = a.1; is = refl }, refl),
      )

  some_report : SomeReport → HasSome (ReportOn g h)
  some_report reports_exist =
      let r = reports_exist g h.inners has in
      let l : Leakage = record { prior = r.0.0; posterior = r.1.0; whole = h.scale * over_of g } in
      some_after (NarrowGain g h) (λ m. PrintsSome (IsLeakage g h.scale h.inners) (report_text g))
      (λ m _. (prints (report_text g l), (l, record { prior = r.0.1; posterior = r.1.1; whole = refl }, refl))) some_narrow

  some_attack : SomeAttacks → IsProper h → HasSome (AttackOn g h)
  some_attack attacks_exist proper =
      let attacks = attacks_exist (target_size h.target) h.scale g h.inners proper has in
      some_after (NarrowGain g h) (λ m. PrintsSome (AreAttacks g h.inners) (attack_text g h.target h.scale h.inners))
      (λ m _. (prints (attack_text g h.target h.scale h.inners attacks.0), (attacks.0, attacks.1, refl))) some_narrow

-- ---- lines

-- the laws of silent statements and of vulnerabilities, for a gain that has an action
module _ (silent_exist : SomeSilent) (reports_exist : SomeReport) (g : GainOf TableTree) (has : HasActions g) (turns : ℕ) (p : ProgramTree) where
  some_summary : (joint : List Cell) (inners : List Inner) → IsHyperOf joint inners → (s : SummaryTree) × IsSummary g joint s
  some_summary joint inners is =
      let z = (reports_exist g inners has).1 in
      (record { inners = length inners; posterior = z.0 }, record { inners = inners; is_hyper = is; counted = refl; posterior = z.1 })

  some_line : (site : Site) → (l : LineTree) × IsLine g turns p site l
  some_line site =
      let h = silent_exist (bytes_eq site.path) turns p in
      let s = some_summary (silent_joint (bytes_eq site.path) turns p) h.0 h.1 in
      (record { at = site.at; left = s.0 }, record { at = refl; left = s.1 })

  each_line : (sites : List Site) → (ls : List LineTree) × AllZip (IsLine g turns p) sites ls
  each_line [] = ([], tt)
  each_line (site ∷ sites) =
      let l = some_line site in
      let ls = each_line sites in
      (l.0 ∷ ls.0, (l.1, ls.1))

  some_lines : SomeAverage → (bytes : List ℕ) (tree : SourceTree) (h : HyperTree) → IsHyperTree turns p h → HasSome (LinesOn turns bytes tree p g h)
  some_lines averages_exist bytes tree h of_p =
      let all = some_summary (joint_of turns p) h.inners of_p.is_hyper in
      let ls = each_line (program_sites tree p) in
      let l : LinesTree = record { all = all.0; lines = ls.0 } in
      some_after (NarrowGain g h) (λ m. PrintsSome (AreLines g turns tree p) (lines_text bytes (h.scale * over_of g)))
      (λ m _. (prints (lines_text bytes (h.scale * over_of g) l), (l, record { whole = all.1; each = ls.1 }, refl))) (some_narrow averages_exist g h has)

module _ (tables_exist : SomeTable) (tables_have_actions : TablesHaveActions) (hypers_exist : HypersExist) (averages_exist : SomeAverage) (silent_exist : SomeSilent)
    (reports_exist : SomeReport) where
  some_lines_under : (word : GainOf (List ℕ)) (turns : ℕ) (tables : List File) (t : Text) → HasSome (LinesUnder word turns tables t)
  some_lines_under word turns tables t =
      some_after (Gives (cleared turns t)) (λ p. After (GainIn p.target word tables) (λ g. OnHyper turns p (LinesOn turns t.bytes t.source p g)))
      (λ p _. some_after (GainIn p.target word tables) (λ g. OnHyper turns p (LinesOn turns t.bytes t.source p g))
      (λ g is. some_on_hyper hypers_exist turns p (LinesOn turns t.bytes t.source p g)
      (λ h of_p. some_lines silent_exist reports_exist g (read_gain tables_have_actions p.target word tables g is) turns p averages_exist t.bytes t.source h of_p))
      (some_gain tables_exist p.target word tables))
      (some_given (cleared turns t))

-- ---- verdicts and certificates

some_verdict_shown : VerdictsProve → (json : Bool) (a b : HyperTree) → IsProper a → IsProper b → (r : Result VerdictTree RefineError) → IsVerdict a b most_pivots r → HasSome (VerdictShown json a b r)
some_verdict_shown verdicts_prove json a b proper proper' (Ok v) is =
    (shows (is_yes v) (if json then cert_text a.target v else verdict_text a.target v), (verdicts_prove a b most_pivots v proper proper' is, refl))
some_verdict_shown verdicts_prove json a b proper proper' (Err e) is = (Err (verdict_refusal e), refl)

some_refine : HypersExist → SomeVerdict → VerdictsProve → AreProper → (json : Bool) (turns : ℕ) (p q : ProgramTree) → IsClear turns p → IsClear turns q → HasSome (RefineOutcome json turns p q)
some_refine hypers_exist verdicts_exist verdicts_prove are_proper json turns p q clear clear' =
    some_on_hyper hypers_exist turns p (λ a. OnHyper turns q (VerdictOn json a)) (λ a of_a.
    some_on_hyper hypers_exist turns q (VerdictOn json a) (λ b of_b.
    let proper = are_proper turns p a clear of_a in
    let proper' = are_proper turns q b clear' of_b in
    let v = verdicts_exist a b most_pivots proper proper' in
    let s = some_verdict_shown verdicts_prove json a b proper proper' v.0 v.1 in
    (s.0, (v.0, v.1, s.1))))

some_cert : (file : File) → HasSome (CertIn file)
some_cert file =
    some_after (Gives (source_of file)) (λ bytes. Gives (cert_read file.name (cert_of bytes)))
    (λ bytes _. some_given (cert_read file.name (cert_of bytes))) (some_given (source_of file))

-- what is read is a certificate
pub reads : (name : List ℕ) (r : Result CertTree CertError) (c : CertTree) → Ok c ≡ cert_read name r → r ≡ Ok c
reads name (Ok d) c is = let same : c ≡ d = cc in ap Ok (sym same)
reads name (Err e) c is = absurd (cc)

module _ (marks_exist : SomeMark) (a b : HyperTree) (c : CertTree) where
  some_mark : IsProper a → IsProper b → IsSound c → HasSome (MarkIn a b c)
  some_mark proper proper' sound =
      ⊎_elim
      (λ (same : a.target ≡ b.target). let m = marks_exist a b c proper proper' same sound in (mark_shown m.0, inr (same, (m.0, m.1, refl))))
      (λ other. (Err other_target, inl (other, refl)))
      (same_targets a.target b.target)

-- the laws of hypers, of what is read and of marks
module _ (hypers_exist : HypersExist) (read_sound : ReadSound) (marks_exist : SomeMark) (are_proper : AreProper) where
  some_mark_on : (turns : ℕ) (p q : ProgramTree) → IsClear turns p → IsClear turns q → (c : CertTree) → IsSound c → HasSome (MarkOn turns p q c)
  some_mark_on turns p q clear clear' c sound =
      some_on_hyper hypers_exist turns p (λ a. OnHyper turns q (λ b. MarkIn a b c)) (λ a of_a.
      some_on_hyper hypers_exist turns q (λ b. MarkIn a b c)
      (λ b of_b. some_mark marks_exist a b c (are_proper turns p a clear of_a) (are_proper turns q b clear' of_b) sound))

  some_check : (file : File) (turns : ℕ) (p q : ProgramTree) → IsClear turns p → IsClear turns q → HasSome (After (CertIn file) (MarkOn turns p q))
  some_check file turns p q clear clear' =
      some_after (CertIn file) (MarkOn turns p q)
      (λ c is. some_mark_on turns p q clear clear' c (read_sound is.0 c (reads file.name (cert_of is.0) c is.2))) (some_cert file)

-- ---- capacities

-- the laws of rows and of secrets
module _ (rows_exist : RowsExist) (secrets_exist : SomeSecrets) where
  -- a program has a channel
  some_channel : (turns : ℕ) (p : ProgramTree) → (c : ChannelTree) × IsChannelTree turns p c
  some_channel turns p =
      let rows = rows_exist (joint_of turns p) in
      let secrets = secrets_exist rows.0 in
      let channel : ChannelTree = record { target = p.target; rows = rows.0; secrets = secrets.0 } in
      (channel, record { target = refl; rows = rows.1; secrets = secrets.1 })

  some_capacity : (turns : ℕ) (p : ProgramTree) → HasSome (CapacityIn turns p)
  some_capacity turns p =
      let c = some_channel turns p in
      ((if is_narrow (channel_grid c.0) then prints (capacity_text (channel_grid c.0)) else Err wide_channel), (c.0, c.1, refl))

  some_composition : (way : Composition) (turns : ℕ) (p q : ProgramTree) → HasSome (ComposedIn way turns p q)
  some_composition way turns p q =
      let c = some_channel turns p in
      let d = some_channel turns q in
      let algebra =
      some_after (Composed way c.0 d.0) (λ g. Gives (algebra_shown (channel_grid c.0) (channel_grid d.0) g))
      (λ g _. some_given (algebra_shown (channel_grid c.0) (channel_grid d.0) g)) (some_composed way c.0 d.0) in
      (algebra.0, (c.0, d.0, c.1, d.1, algebra.1))

-- ---- commands

module _ (made_exist : (count turns : ℕ) → HasSome (MadeOutcome count turns)) (tables_exist : SomeTable) (tables_have_actions : TablesHaveActions) (rows_exist : RowsExist) (secrets_exist : SomeSecrets)
    (hypers_exist : HypersExist) (averages_exist : SomeAverage) (verdicts_exist : SomeVerdict) (verdicts_prove : VerdictsProve) (read_sound : ReadSound) (marks_exist : SomeMark)
    (are_proper : AreProper) (reports_exist : SomeReport) (trails_exist : SomeTrail) (attacks_exist : SomeAttacks) (reaches_exist : SomeReach) (blames_exist : SomeBlames) (turns : ℕ) where
  some_command : (command : Command) → IsInRange command → (tables : List File) (ps : List ProgramTree) → Every (IsClear turns) ps → HasSome (CommandOutcome command turns tables ps)
  some_command Hyper has tables (p ∷ []) clear = some_hyper hypers_exist p.target (run_scale turns p) (joint_of turns p)
  some_command Traces has tables (p ∷ []) clear = some_traces rows_exist p.target (run_scale turns p) (joint_of turns p)
  some_command Channel has tables (p ∷ []) clear =
      some_after (Gives (initial p)) (λ p. ChannelOf p.target (joint_of turns p)) (λ q _. some_channel_shown rows_exist secrets_exist q.target (joint_of turns q)) (some_given (initial p))
  some_command Trail has tables (p ∷ []) clear = some_trail trails_exist turns p
  some_command Capacity has tables (p ∷ []) clear =
      some_after (Gives (initial p)) (CapacityIn turns) (λ q _. some_capacity rows_exist secrets_exist turns q) (some_given (initial p))
  some_command (Compose way) has tables (p ∷ q ∷ []) clear =
      some_after (Gives (initial p)) (λ p. After (Gives (initial q)) (λ q. ComposedIn way turns p q))
      (λ first _. some_after (Gives (initial q)) (λ q. ComposedIn way turns first q)
      (λ second _. some_composition rows_exist secrets_exist way turns first second) (some_given (initial q)))
      (some_given (initial p))
  some_command (Make count) has tables [] clear = made_exist count turns
  some_command (Leak g) has tables (p ∷ []) clear =
      some_after (GainIn p.target g tables) (λ t. OnHyper turns p (ReportOn t))
      (λ t is. some_on_hyper hypers_exist turns p (ReportOn t) (λ h _. some_report averages_exist t h (read_gain tables_have_actions p.target g tables t is) reports_exist))
      (some_gain tables_exist p.target g tables)
  some_command (Attack g) has tables (p ∷ []) clear =
      some_after (GainIn p.target g tables) (λ t. OnHyper turns p (AttackOn t))
      (λ t is. some_on_hyper hypers_exist turns p (AttackOn t)
      (λ h of_p. some_attack averages_exist t h (read_gain tables_have_actions p.target g tables t is) attacks_exist (are_proper turns p h clear.0 of_p)))
      (some_gain tables_exist p.target g tables)
  some_command (Reach num den) has tables (p ∷ []) clear =
      some_on_hyper hypers_exist turns p (λ h. PrintsSome (IsReach h.scale h.inners num den) (reach_text h.scale))
      (λ h is. some_reach reaches_exist num den h has.0 has.1 (are_proper turns p h clear.0 is))
  some_command (Refine json) has tables (p ∷ q ∷ []) clear = some_refine hypers_exist verdicts_exist verdicts_prove are_proper json turns p q clear.0 clear.1.0
  some_command (Check name) has (file ∷ []) (p ∷ q ∷ []) clear = some_check hypers_exist read_sound marks_exist are_proper file turns p q clear.0 clear.1.0
  some_command Covers has tables (p ∷ q ∷ []) clear = some_refine hypers_exist verdicts_exist verdicts_prove are_proper false turns p q clear.0 clear.1.0
  some_command (Quiet from to) has tables (p ∷ []) clear = some_hyper hypers_exist p.target (run_scale turns p) (quiet_joint turns p from to)
  some_command Blame has tables (p ∷ []) clear = some_blame blames_exist turns p
  some_command command has tables ps clear = some_given (Err usage)

-- ---- outcomes

module _ (read : (src : List ℕ) → ((ts : List Token) × IsTokens src ts) ⊎ ((e : LexError) × IsFault src e)) (parsed : ParsedOrRefused) (built : OnlyBuilt)
    (typed : TypedOrBroken) (told_rule : (tree : SourceTree) (e : TypeError) → IsBroken tree e → e ≡ typing.Mem → ⊥) (full_built : FullIsBuilt) where
  some_tokens : (name bytes : List ℕ) → HasSome (TokensOf name bytes)
  some_tokens name bytes = ⊎_elim (λ h. (Ok h.0, h.1)) (λ h. bad_tokens name bytes h.0 h.1) (read bytes)

  some_source : (name bytes : List ℕ) (tokens : List Token) → HasSome (SourceOf name bytes tokens)
  some_source name bytes tokens = ⊎_elim (λ h. (Ok h.0, h.1)) (λ h. bad_source name bytes tokens h.0 h.1 h.2) (parsed bytes tokens)

  some_program : (name bytes : List ℕ) (tree : SourceTree) → IsWellBuilt tree → HasSome (ProgramOf name bytes tree)
  some_program name bytes tree well = ⊎_elim (λ h. (Ok h.0, h.1)) (λ h. bad_program name bytes tree h.0 (told_rule tree h.0 h.1) h.1) (typed tree well)

  some_with : (name bytes : List ℕ) (tree : SourceTree) → IsWellBuilt tree → HasSome (TextWith name bytes tree)
  some_with name bytes tree well =
      some_after (ProgramOf name bytes tree) (λ p. Gives (Ok (text name bytes tree p))) (λ p _. some_given (Ok (text name bytes tree p))) (some_program name bytes tree well)

  some_typed : (name bytes : List ℕ) → HasSome (TypedOf name bytes)
  unfolding TypedOf
  some_typed name bytes =
      some_after (TokensOf name bytes) (λ tokens. After (SourceOf name bytes tokens) (TextWith name bytes))
      (λ tokens _. some_after (SourceOf name bytes tokens) (TextWith name bytes)
      (λ tree is. some_with name bytes tree (built bytes tokens tree is.program)) (some_source name bytes tokens))
      (some_tokens name bytes)

  some_made : HypersExist → (count turns : ℕ) → HasSome (MadeOutcome count turns)
  some_made hypers_exist count turns =
      some_after (TypedOf [] (make_source count)) (λ t. After (Gives (cleared turns t)) (λ q. MadeOf count (run_scale turns q) (joint_of turns q)))
      (λ t _. some_after (Gives (cleared turns t)) (λ q. MadeOf count (run_scale turns q) (joint_of turns q))
      (λ q _. some_made_hyper hypers_exist count (run_scale turns q) (joint_of turns q)) (some_given (cleared turns t)))
      (some_typed [] (make_source count))

  some_read : (file : File) → HasSome (TextOf file)
  some_read file = some_after (Gives (source_of file)) (TypedOf file.name) (λ bytes _. some_typed file.name bytes) (some_given (source_of file))

  some_full : (t : Text) → IsTyped t → HasSome (FullOf t)
  some_full t has = some_with t.name t.bytes (full_source t.program.types t.source) (full_built t.source t.program has.built has.typed)

  some_full_texts : (ts : List Text) → Every IsTyped ts → HasSome (FullTexts ts)
  some_full_texts ts all =
      some_after (Each (λ t. Gives (few_stores t)) ts) (Each FullOf)
      (λ us is. some_each FullOf IsTyped some_full us (every_done (λ t. Gives (few_stores t)) IsTyped IsTyped few_typed ts us all is)) (all_given few_stores ts)

  some_long : (turns most : ℕ) (t : Text) → HasSome (LongCleared turns most t)
  some_long turns most t =
      some_after (Gives (cleared turns t)) (λ p. Gives (long_enough t.name most p)) (λ p _. some_given (long_enough t.name most p)) (some_given (cleared turns t))

  some_ready : (command : Command) (turns : ℕ) (ts : List Text) → Every IsTyped ts → HasSome (ReadyOf command turns ts)
  some_ready Covers turns ts all = some_after (FullTexts ts) (Each (λ t. Gives (cleared turns t))) (λ us _. all_given (cleared turns) us) (some_full_texts ts all)
  some_ready (Quiet from to) turns ts all = some_each (LongCleared turns to) (λ t. Unit {0}) (λ t any. some_long turns to t) ts (every_one ts)
  some_ready command turns ts all = all_given (cleared turns) ts

  some_cleared : (command : Command) (turns : ℕ) (programs : List File) → HasSome (ClearedOf command turns programs)
  some_cleared command turns programs =
      some_after (Each TextOf programs) (ReadyOf command turns) (λ ts is. some_ready command turns ts (texts_typed built programs ts is))
      (some_each TextOf (λ file. Unit {0}) (λ file any. some_read file) programs (every_one programs))

  module _ (tables_exist : SomeTable) (tables_have_actions : TablesHaveActions) (rows_exist : RowsExist) (secrets_exist : SomeSecrets) (hypers_exist : HypersExist) (averages_exist : SomeAverage)
      (verdicts_exist : SomeVerdict) (verdicts_prove : VerdictsProve) (read_sound : ReadSound) (marks_exist : SomeMark) (are_clear : AreClear) (are_proper : AreProper)
      (reports_exist : SomeReport) (trails_exist : SomeTrail) (attacks_exist : SomeAttacks) (reaches_exist : SomeReach) (blames_exist : SomeBlames) (silent_exist : SomeSilent) (programs tables : List File) where
    some_on_programs : (task : Task) → IsInRange task.command → HasSome (ProgramsOutcome task.command task.turns programs tables)
    some_on_programs task has =
        some_after (ClearedOf task.command task.turns programs) (CommandOutcome task.command task.turns tables)
        (λ ps is. some_command (some_made hypers_exist) tables_exist tables_have_actions rows_exist secrets_exist hypers_exist averages_exist verdicts_exist verdicts_prove read_sound marks_exist
        are_proper reports_exist trails_exist attacks_exist reaches_exist blames_exist task.turns task.command has tables ps (are_clear task.command task.turns programs ps is))
        (some_cleared task.command task.turns programs)

    some_task : (task : Task) → IsInRange task.command → HasSome (TaskOutcome task programs tables)
    some_task task has =
        each_command HasSome task.turns tables task.command programs (λ _. some_on_programs task has)
        (λ word file _ _. some_after (TextOf file) (LinesUnder word task.turns tables)
        (λ t _. some_lines_under tables_exist tables_have_actions hypers_exist averages_exist silent_exist reports_exist word task.turns tables t) (some_read file))
        (λ word _ _. some_given (Err usage))

    some_outcome : (task : Option Task) → ((t : Task) → task ≡ Some t → IsInRange t.command) → HasSome (SomeOutcome task programs tables)
    some_outcome None has = some_given (Err usage)
    some_outcome (Some task) has = some_task task (has task refl)

    pub some_answer : TasksInRange → (words : List (List ℕ)) → (answer : Answer) × IsAnswer words programs tables answer
    some_answer tasks_in_range words =
        let r = some_outcome (task_of words) (λ t asked. (tasks_in_range words t asked).0) in
        (settled r.0, record { result = r.0; outcome = r.1; settles = refl })
