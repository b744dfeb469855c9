-- Words and files have at most one defined answer.
use Rattle.std.proofs.Common.{◌≡◌, ◌≢◌, ℕ, ◌<◌, ◌*◌, Bool, false, refl, arith, nat_le, if◌then◌else◌, List, [], ◌∷◌, length, codes, None, Some, Option, Result, Ok, Err, sym, ◌∙◌, ap, subst, ⊎_elim}
use Rattle.std.specs.declared.cmp.Ordering.TheVariants.{Less}
use Rattle.std.specs.List.{AllByRecursion as Every, AllZip}
use Rattle.std.specs.Str.{bytes_eq}
use Rattle.std.specs.Ordering.{nat_cmp, ordering_reverse}
use Rattle.std.proofs.lemmas.Cmp.{nat_cmp_total}
use Rattle.std.proofs.lemmas.Map.Keys.{sorted_from_strictly_increasing}
use Rattle.kf_lex.specs.declared.token.Token.{Token}
use Rattle.kf_lex.specs.Readings.{IsFault}
use Rattle.kf_lex.specs.Laws.{IsOneReading}
use Rattle.kf_parse.specs.declared.errors.ParseError.{ParseError}
use Rattle.kf_parse.specs.declared.errors.ParseError.TheVariants as parsing
use Rattle.kf_parse.specs.Answers.{IsRefused}
use Rattle.kf_parse.specs.Laws.{OneProgram, NotBoth, OneRefusal}
use Rattle.kf_ast.specs.Sources.{SourceTree}
use Rattle.kf_check.specs.declared.errors.TypeError.{TypeError}
use Rattle.kf_check.specs.Sources.{JudgesSource}
use Rattle.kf_check.specs.Laws.{OneJudgement, OneTyped}
use Rattle.kf_check.specs.Variables.{IsBroken}
use Rattle.kf_core.specs.JointLaws.{RowsAreOne, HypersAreOne}
use Rattle.kf_core.specs.Programs.{ProgramTree}
use Rattle.kf_core.proofs.OneTable.{one_list}
use Rattle.kf_column.specs.Traces.{Row}
use Rattle.kf_channel.specs.Channels.{AreSecrets}
use Rattle.kf_capacity.specs.Grids.{ChannelTree, channel_grid}
use Rattle.kf_text.specs.Texts.{hyper_text, trace_text, channel_text, trail_text, make_text}
use Rattle.kf_text.specs.ReportTexts.{report_text}
use Rattle.kf_text.specs.AttackTexts.{attack_text, reach_text}
use Rattle.kf_text.specs.BlameTexts.{blame_text}
use Rattle.kf_text.specs.CapacityTexts.{capacity_text}
use Rattle.kf_frac.specs.Fractions.{limit}
use Rattle.kf_value.specs.Targets.{Item}
use Rattle.kf_value.specs.Numbers.{target_size}
use Rattle.kf_column.specs.declared.entry.Entry.{Entry}
use Rattle.kf_column.specs.Hypers.{Inner}
use Rattle.kf_core.specs.Joint.{Cell, joint_of}
use Rattle.kf_core.specs.Rows.{IsHyperOf}
use Rattle.kf_core.specs.Scale.{scale_of as run_scale}
use Rattle.kf_gain.specs.declared.error.TableError.{TableError}
use Rattle.kf_gain.specs.Gains.{GainOf, Bayes, Tries, Guessing, Table, TableTree, over_of}
use Rattle.kf_gain.specs.Laws.{OneAverage, OneReport}
use Rattle.kf_gain.specs.TableLaws.{OneTable}
use Rattle.kf_gain.specs.Vulnerabilities.{IsPosterior, IsWidth, width}
use Rattle.kf_report.specs.Reports.{Leakage, IsLeakage}
use Rattle.kf_attack.specs.Attacks.{ReachTree, IsReach, AttackTree}
use Rattle.kf_attack.specs.Laws.{OneAttacks, OneReach}
use Rattle.kf_attack.specs.Views.{AreAttacks}
use Rattle.kf_make.specs.Making.{make_source}
use Rattle.kf_refine.specs.Refinements.{HyperTree}
use Rattle.kf_refine.specs.Verdicts.{VerdictTree}
use Rattle.kf_refine.specs.declared.verdict.RefineError.{RefineError}
use Rattle.kf_refine.specs.Laws.{OneVerdict}
use Rattle.kf_refine.specs.Views.{IsProper}
use Rattle.kf_cert.specs.Certificates.{CertTree, cert_of}
use Rattle.kf_cert.specs.Laws.{OneMark}
use Rattle.kf_load.specs.Steps.{Refused, Step, After, Each, Gives, refusal}
use Rattle.kf_load.specs.Texts.{File, Text, token_fault, syntax_fault, type_fault, IsBad, TextWith, TypedOf, TextOf, cleared, LongCleared, source_of}
use Rattle.kf_load.specs.Refusals.{bad_text, Fault, TokensOf, SourceOf, ProgramOf, long_enough}
use Rattle.kf_prior.specs.FullSources.{full_source}
use Rattle.kf_quiet.specs.Laws.{OnlyOneBlames}
use Rattle.kf_quiet.specs.Summaries.{SummaryTree, IsSummary}
use Rattle.kf_silent.specs.Laws.{OneSilent}
use Rattle.kf_silent.specs.Quiet.{quiet_joint}
use Rattle.kf_silent.specs.Silent.{silent_joint}
use Rattle.kf_lines.specs.LineTexts.{lines_text}
use Rattle.kf_lines.specs.Sites.{Site, program_sites}
use Rattle.kf_lines.specs.Summaries.{AreLines, IsLine, LineTree, LinesTree}
use Rattle.kf_run.specs.Laws.{OnlyOneTrail}
use Rattle.kf_words.specs.Jobs.{IsInRange}
use Rattle.kf_words.specs.Laws.{TasksInRange}
use Rattle.kf_words.specs.Task.{Command, Composition, Hyper, Traces, Channel, Trail, Capacity, Compose, Leak, Attack, Reach, Make, Refine, Check, Covers, Quiet, Blame, Task, task_of}
use Rattle.kf_top.specs.Answer.{Shown, usage, prints, other_target, wide_channel, HyperOf, initial, IsChannelTree, is_narrow, Composed, ComposedIn, table_word, bad_file, TableOf, GainIn, IsHyperTree, NarrowGain, OnHyper, PrintsSome, ReportOn, AttackOn, LinesOn, VerdictShown, RefineOutcome, CertIn, mark_shown, MarkIn, MarkOn, CommandOutcome}
use Rattle.kf_top.specs.Outcome.{few_stores, LinesUnder, ProgramsOutcome, ReadyOf, TaskOutcome}
use Rattle.kf_top.specs.Ends.{Answer, settled}
use Rattle.kf_top.specs.Steps.{TracesOf, TrailOf, MadeOf, BlameOf, TableIn, cert_read, most_pivots, IsAnswer, FullTexts, ClearedOf, SomeOutcome, MadeOutcome, ChannelOf, CapacityIn, algebra_shown, VerdictOn, FullOf}
use Rattle.kf_laws.proofs.ClearedPrograms.{AreClear}
use Rattle.kf_laws.proofs.EachCommand.{each_command}
use Rattle.kf_laws.proofs.OneComposed.{one_composed}
use Rattle.kf_laws.proofs.ProperHypers.{AreProper, IsClear}

-- ---- secrets

not_both_numbers : (x y : ℕ) → nat_cmp x y ≡ Less → nat_cmp y x ≡ Less → ⊥
not_both_numbers x y p q = let flip : Less ≡ ordering_reverse Less = sym p ∙ nat_cmp_total.antisymm x y ∙ ap ordering_reverse q in absurd (cc)

one_secrets : (rows : List Row) (xs ys : List ℕ) → AreSecrets rows xs → AreSecrets rows ys → xs ≡ ys
one_secrets rows xs ys p q =
    one_list nat_cmp not_both_numbers xs ys (sorted_from_strictly_increasing xs p.ascending) (sorted_from_strictly_increasing ys q.ascending)
    (λ x. (λ h. (q.listed x).1 ((p.listed x).0 h), λ h. (p.listed x).1 ((q.listed x).0 h)))

-- ---- steps

abbrev pub HasOne : {A : Type 0} → Step A → Type 0
HasOne {A} step = (r s : Result A Refused) → step r → step s → r ≡ s

module _ {A B : Type 0} (first : Step A) (next : A → Step B) (one_first : HasOne first) (one_next : (x : A) → first (Ok x) → HasOne (next x)) where
  apart : (x : A) (r : Refused) → first (Ok x) → first (Err r) → ⊥
  apart x r p q = let same : Ok x ≡ Err r = one_first (Ok x) (Err r) p q in absurd (cc)

  from_next : (x y : A) (r s : Result B Refused) → first (Ok x) → first (Ok y) → next x r → next y s → r ≡ s
  from_next x y r s p q h k =
      let both : Ok x ≡ Ok y = one_first (Ok x) (Ok y) p q in
      let same : x ≡ y = cc in
      one_next y q r s (subst (λ (z : A). next z r) same h) k

  one_after : HasOne (After first next)
  one_after (Ok y) (Ok z) p q = from_next p.0 q.0 (Ok y) (Ok z) p.1 q.1 p.2 q.2
  one_after (Ok y) (Err s) p q = ⊎_elim (λ (h : first (Err s)). absurd (apart p.0 s p.1 h)) (λ h. from_next p.0 h.0 (Ok y) (Err s) p.1 h.1 p.2 h.2) q
  one_after (Err r) (Ok z) p q = ⊎_elim (λ (h : first (Err r)). absurd (apart q.0 r q.1 h)) (λ h. from_next h.0 q.0 (Err r) (Ok z) h.1 q.1 h.2 q.2) p
  one_after (Err r) (Err s) p q =
      ⊎_elim
      (λ (h : first (Err r)). ⊎_elim (λ (k : first (Err s)). let same : Err r ≡ Err s = one_first (Err r) (Err s) h k in let e : r ≡ s = cc in ap Err e) (λ k. absurd (apart k.0 r k.1 h)) q)
      (λ h. ⊎_elim (λ (k : first (Err s)). absurd (apart h.0 s h.1 k)) (λ k. from_next h.0 k.0 (Err r) (Err s) h.1 k.1 h.2 k.2) q) p

-- what comes of both where the first is done
module _ {A B : Type 0} (first : Step A) (next : A → Step B) (one_first : HasOne first) (x : A) (done : first (Ok x)) where
  not_stopped : (r : Refused) → first (Err r) → ⊥
  not_stopped r h = let same : Ok x ≡ Err r = one_first (Ok x) (Err r) done h in absurd (cc)

  goes_on : (y : A) (r : Result B Refused) → first (Ok y) → next y r → next x r
  goes_on y r h k =
      let both : Ok y ≡ Ok x = one_first (Ok y) (Ok x) h done in
      let same : y ≡ x = cc in
      subst (λ (z : A). next z r) same k

  pub next_of : (r : Result B Refused) → After first next r → next x r
  next_of (Ok y) h = goes_on h.0 (Ok y) h.1 h.2
  next_of (Err r) h = ⊎_elim (λ (stopped : first (Err r)). absurd (not_stopped r stopped)) (λ later. goes_on later.0 (Err r) later.1 later.2) h

one_given : {A : Type 0} (given : Result A Refused) → HasOne (Gives given)
one_given given r s p q = p ∙ sym q

module _ {A B : Type 0} (step : A → Step B) (one_step : (x : A) → HasOne (step x)) where
  one_each : (xs : List A) → HasOne (Each step xs)
  one_each [] = one_given (Ok [])
  one_each (x ∷ xs) = one_after (step x) (λ y. After (Each step xs) (λ ys. Gives (Ok (y ∷ ys)))) (one_step x)
      (λ y _. one_after (Each step xs) (λ ys. Gives (Ok (y ∷ ys))) (one_each xs) (λ ys _. one_given (Ok (y ∷ ys))))

abbrev text : List ℕ → List ℕ → SourceTree → ProgramTree → Text
text name bytes tree p = record { name = name; bytes = bytes; source = tree; program = p }

-- faults of a text that have one error have one refusal
one_bad : {E : Type 0} (IsError : E → Type 0) (fault_of : E → Option Fault) (name bytes : List ℕ) → ((e f : E) (x y : Fault) → fault_of e ≡ Some x → fault_of f ≡ Some y → IsError e → IsError f → e ≡ f)
    → (r s : Refused) → IsBad IsError fault_of name bytes r → IsBad IsError fault_of name bytes s → r ≡ s
one_bad IsError fault_of name bytes one r s p q =
    let e : p.error ≡ q.error = one p.error q.error p.fault q.fault p.has q.has p.is_error q.is_error in
    let some : Some p.fault ≡ Some q.fault = sym p.has ∙ ap fault_of e ∙ q.has in
    let f : p.fault ≡ q.fault = cc in
    p.is ∙ ap (bad_text name bytes) f ∙ sym q.is

-- ---- what is shown

-- inners have one leakage
one_leakage : OneReport → (g : GainOf TableTree) (scale : ℕ) (inners : List Inner) (l m : Leakage) → IsLeakage g scale inners l → IsLeakage g scale inners m → l ≡ m
one_leakage one g scale inners l m p q =
    let prior : l.prior ≡ m.prior = (one g inners l.prior m.prior).0 p.prior q.prior in
    let posterior : l.posterior ≡ m.posterior = (one g inners l.posterior m.posterior).1 p.posterior q.posterior in
    let whole : l.whole ≡ m.whole = p.whole ∙ sym q.whole in
    λ i. record { prior = prior i; posterior = posterior i; whole = whole i }

-- the laws of hypers
module _ (hypers_are_one : HypersAreOne) where
  one_hyper : (target : List Item) (scale : ℕ) (joint : List Cell) → HasOne (HyperOf target scale joint)
  one_hyper target scale joint r s p q =
      p.2 ∙ ap (λ (is : List Inner). prints (hyper_text target scale is)) (hypers_are_one joint p.0 q.0 p.1 q.1) ∙ sym q.2

  one_made_hyper : (count scale : ℕ) (joint : List Cell) → HasOne (MadeOf count scale joint)
  one_made_hyper count scale joint r s p q =
      p.2 ∙ ap (λ (is : List Inner). prints (make_text count scale is)) (hypers_are_one joint p.0 q.0 p.1 q.1) ∙ sym q.2

-- tries are one
one_reach : OneReach → (num den : ℕ) (h : HyperTree) → 0 < den → HasOne (PrintsSome (IsReach h.scale h.inners num den) (reach_text h.scale))
one_reach reaches_are_one num den h some r s p q =
    p.2 ∙ ap (λ (t : ReachTree). prints (reach_text h.scale t)) (reaches_are_one h.scale num den h.inners p.0 q.0 some p.1 q.1) ∙ sym q.2

-- the laws of rows
module _ (rows_are_one : RowsAreOne) where
  one_traces : (target : List Item) (scale : ℕ) (joint : List Cell) → HasOne (TracesOf target scale joint)
  one_traces target scale joint r s p q =
      p.2 ∙ ap (λ (rows : List Row). prints (trace_text target scale rows)) (rows_are_one joint p.0 q.0 p.1 q.1) ∙ sym q.2

  pub one_channel_shown : (target : List Item) (joint : List Cell) → HasOne (ChannelOf target joint)
  one_channel_shown target joint r s p q =
      let rows : p.0 ≡ q.0 = rows_are_one joint p.0 q.0 p.1 q.1 in
      let secrets : p.2.0 ≡ q.2.0 = one_secrets q.0 p.2.0 q.2.0 (subst (λ (rs : List Row). AreSecrets rs p.2.0) rows p.2.1) q.2.1 in
      p.2.2 ∙ (λ i. prints (channel_text target (rows i) (secrets i))) ∙ sym q.2.2

one_trail : OnlyOneTrail → (turns : ℕ) (p : ProgramTree) → HasOne (TrailOf turns p)
one_trail trails_are_one turns p r s a b = a.2 ∙ ap (λ (counts : List ℕ). prints (trail_text counts)) (trails_are_one turns p a.0 b.0 a.1 b.1) ∙ sym b.2

one_blame : OnlyOneBlames → (turns : ℕ) (p : ProgramTree) → HasOne (BlameOf turns p)
one_blame blames_are_one turns p r s a b =
    a.2 ∙ ap (λ (blames : List SummaryTree). prints (blame_text (run_scale turns p) blames)) (blames_are_one turns p a.0 b.0 a.1 b.1) ∙ sym b.2

-- ---- gains

-- the law of gain tables
module _ (tables_are_one : OneTable) where
  one_table : (target : List Item) (name bytes : List ℕ) → HasOne (TableOf target name bytes)
  one_table target name bytes (Ok t) (Ok u) p q = let same : Ok t ≡ Ok u = tables_are_one target bytes (Ok t) (Ok u) p q in let e : t ≡ u = cc in ap Ok e
  one_table target name bytes (Ok t) (Err s) p q = let same : Ok t ≡ Err q.0 = tables_are_one target bytes (Ok t) (Err q.0) p q.1 in absurd (cc)
  one_table target name bytes (Err r) (Ok u) p q = let same : Err p.0 ≡ Ok u = tables_are_one target bytes (Err p.0) (Ok u) p.1 q in absurd (cc)
  one_table target name bytes (Err r) (Err s) p q =
      let same : Err p.0 ≡ Err q.0 = tables_are_one target bytes (Err p.0) (Err q.0) p.1 q.1 in
      let e : p.0 ≡ q.0 = cc in
      ap Err (p.2 ∙ ap (λ (f : TableError). bad_file name (table_word f)) e ∙ sym q.2)

  one_table_in : (target : List Item) (file : File) → HasOne (TableIn target file)
  one_table_in target file =
      one_after (Gives (source_of file)) (TableOf target file.name) (one_given (source_of file)) (λ bytes _. one_table target file.name bytes)

  one_gain : (target : List Item) (g : GainOf (List ℕ)) (tables : List File) → HasOne (GainIn target g tables)
  one_gain target Bayes tables = one_given (Ok Bayes)
  one_gain target (Tries k) tables = one_given (Ok (Tries k))
  one_gain target Guessing tables = one_given (Ok Guessing)
  one_gain target (Table name) (file ∷ []) =
      one_after (TableIn target file) (λ t. Gives (Ok (Table t))) (one_table_in target file) (λ t _. one_given (Ok (Table t)))
  one_gain target (Table name) tables = one_given (Err usage)

-- the law of sums
module _ (averages_are_one : OneAverage) (g : GainOf TableTree) (h : HyperTree) where
  one_width : (m n : ℕ) → IsWidth g h.inners m → IsWidth g h.inners n → m ≡ n
  one_width m n p q =
      p.is ∙ ap (λ (column : List Entry). width g (length column)) (averages_are_one h.inners p.average q.average p.is_average q.is_average) ∙ sym q.is

  -- the width of a gain, where it fits
  one_narrow : HasOne (NarrowGain g h)
  one_narrow r s p q =
      p.2 ∙ ap (λ (n : ℕ). if nat_le (h.scale * n) limit then Ok n else Err (refusal 7 [] (codes "gain passes 2^127 - 1"))) (one_width p.0 q.0 p.1 q.1) ∙ sym q.2

  one_report : OneReport → HasOne (ReportOn g h)
  one_report reports_are_one =
      one_after (NarrowGain g h) (λ m. PrintsSome (IsLeakage g h.scale h.inners) (report_text g)) one_narrow
      (λ m _ r s p q. p.2 ∙ ap (λ (l : Leakage). prints (report_text g l)) (one_leakage reports_are_one g h.scale h.inners p.0 q.0 p.1 q.1) ∙ sym q.2)

  one_attack : OneAttacks → IsProper h → HasOne (AttackOn g h)
  one_attack attacks_are_one proper =
      one_after (NarrowGain g h) (λ m. PrintsSome (AreAttacks g h.inners) (attack_text g h.target h.scale h.inners)) one_narrow
      (λ m _ r s p q.
      p.2 ∙ ap (λ (ts : List AttackTree). prints (attack_text g h.target h.scale h.inners ts))
      (attacks_are_one (target_size h.target) h.scale g h.inners p.0 q.0 proper p.1 q.1) ∙ sym q.2)

-- ---- verdicts and certificates

same_tree : (a b : HyperTree) → a.target ≡ b.target → a.scale ≡ b.scale → a.inners ≡ b.inners → a ≡ b
same_tree a b targets scales inners = λ i. record { target = targets i; scale = scales i; inners = inners i }

-- a program has one hyper
pub one_tree : HypersAreOne → (turns : ℕ) (p : ProgramTree) (a b : HyperTree) → IsHyperTree turns p a → IsHyperTree turns p b → a ≡ b
one_tree hypers_are_one turns p a b x y =
    same_tree a b (x.target ∙ sym y.target) (x.scale ∙ sym y.scale) (hypers_are_one (joint_of turns p) a.inners b.inners x.is_hyper y.is_hyper)

one_verdict_shown : (json : Bool) (a b : HyperTree) (v : Result VerdictTree RefineError) → HasOne (VerdictShown json a b v)
one_verdict_shown json a b (Ok v) r s h k = h.1 ∙ sym k.1
one_verdict_shown json a b (Err e) r s h k = h ∙ sym k

one_verdict_on : OneVerdict → (json : Bool) (a b : HyperTree) → IsProper a → IsProper b → HasOne (VerdictOn json a b)
one_verdict_on verdicts_are_one json a b proper proper' r s h k =
    let verdict : h.0 ≡ k.0 = verdicts_are_one a b most_pivots h.0 k.0 proper proper' h.1 k.1 in
    one_verdict_shown json a b k.0 r s (subst (λ (v : Result VerdictTree RefineError). VerdictShown json a b v r) verdict h.2) k.2

-- and so one thing is made of it
one_on_hyper : HypersAreOne → (turns : ℕ) (p : ProgramTree) (next : HyperTree → Step Shown) → ((h : HyperTree) → IsHyperTree turns p h → HasOne (next h)) → HasOne (OnHyper turns p next)
one_on_hyper hypers_are_one turns p next one_next r s x y =
    one_next y.0 y.1 r s (subst (λ (h : HyperTree). next h r) (one_tree hypers_are_one turns p x.0 y.0 x.1 y.1) x.2) y.2

-- ---- lines

-- what is seen of a joint that has one hyper
one_summary : OneReport → (g : GainOf TableTree) (joint : List Cell) → ((xs ys : List Inner) → IsHyperOf joint xs → IsHyperOf joint ys → xs ≡ ys)
    → (s u : SummaryTree) → IsSummary g joint s → IsSummary g joint u → s ≡ u
one_summary reports_are_one g joint one s u p q =
    let same : p.inners ≡ q.inners = one p.inners q.inners p.is_hyper q.is_hyper in
    let counted : s.inners ≡ u.inners = p.counted ∙ ap length same ∙ sym q.counted in
    let posterior : s.posterior ≡ u.posterior =
    (reports_are_one g q.inners s.posterior u.posterior).1 (subst (λ (is : List Inner). IsPosterior g is s.posterior) same p.posterior) q.posterior in
    λ i. record { inners = counted i; posterior = posterior i }

module _ (hypers_are_one : HypersAreOne) (silent_are_one : OneSilent) (reports_are_one : OneReport) (averages_are_one : OneAverage) (turns : ℕ) (p : ProgramTree)
    (g : GainOf TableTree) where
  one_line : (site : Site) (l m : LineTree) → IsLine g turns p site l → IsLine g turns p site m → l ≡ m
  one_line site l m x y =
      let at : l.at ≡ m.at = x.at ∙ sym y.at in
      let left : l.left ≡ m.left =
      one_summary reports_are_one g (silent_joint (bytes_eq site.path) turns p) (silent_are_one (bytes_eq site.path) turns p) l.left m.left x.left y.left in
      λ i. record { at = at i; left = left i }

  same_lines : (sites : List Site) (ls ms : List LineTree) → AllZip (IsLine g turns p) sites ls → AllZip (IsLine g turns p) sites ms → ls ≡ ms
  same_lines [] [] [] x y = refl
  same_lines [] [] (m ∷ ms) x y = absurd y
  same_lines [] (l ∷ ls) ms x y = absurd x
  same_lines (site ∷ sites) [] ms x y = absurd x
  same_lines (site ∷ sites) (l ∷ ls) [] x y = absurd y
  same_lines (site ∷ sites) (l ∷ ls) (m ∷ ms) x y =
      let first = one_line site l m x.0 y.0 in
      let others = same_lines sites ls ms x.1 y.1 in
      λ i. first i ∷ others i

  one_tree_of_lines : (tree : SourceTree) (l m : LinesTree) → AreLines g turns tree p l → AreLines g turns tree p m → l ≡ m
  one_tree_of_lines tree l m x y =
      let all : l.all ≡ m.all = one_summary reports_are_one g (joint_of turns p) (hypers_are_one (joint_of turns p)) l.all m.all x.whole y.whole in
      let lines : l.lines ≡ m.lines = same_lines (program_sites tree p) l.lines m.lines x.each y.each in
      λ i. record { all = all i; lines = lines i }

  one_lines : (bytes : List ℕ) (tree : SourceTree) (h : HyperTree) → HasOne (LinesOn turns bytes tree p g h)
  one_lines bytes tree h =
      one_after (NarrowGain g h) (λ m. PrintsSome (AreLines g turns tree p) (lines_text bytes (h.scale * over_of g))) (one_narrow averages_are_one g h)
      (λ m _ r s x y. x.2 ∙ ap (λ (l : LinesTree). prints (lines_text bytes (h.scale * over_of g) l)) (one_tree_of_lines tree x.0 y.0 x.1 y.1) ∙ sym y.2)

one_lines_under : OneTable → HypersAreOne → OneSilent → OneReport → OneAverage → (word : GainOf (List ℕ)) (turns : ℕ) (tables : List File) (t : Text)
    → HasOne (LinesUnder word turns tables t)
one_lines_under tables_are_one hypers_are_one silent_are_one reports_are_one averages_are_one word turns tables t =
    one_after (Gives (cleared turns t)) (λ p. After (GainIn p.target word tables) (λ g. OnHyper turns p (LinesOn turns t.bytes t.source p g))) (one_given (cleared turns t))
    (λ p _. one_after (GainIn p.target word tables) (λ g. OnHyper turns p (LinesOn turns t.bytes t.source p g)) (one_gain tables_are_one p.target word tables)
    (λ g _. one_on_hyper hypers_are_one turns p (LinesOn turns t.bytes t.source p g)
    (λ h _. one_lines hypers_are_one silent_are_one reports_are_one averages_are_one turns p g t.bytes t.source h)))

-- ---- refinements

one_refine : HypersAreOne → OneVerdict → AreProper → (json : Bool) (turns : ℕ) (p q : ProgramTree) → IsClear turns p → IsClear turns q → HasOne (RefineOutcome json turns p q)
one_refine hypers_are_one verdicts_are_one are_proper json turns p q clear clear' =
    one_on_hyper hypers_are_one turns p (λ a. OnHyper turns q (VerdictOn json a)) (λ a of_a.
    one_on_hyper hypers_are_one turns q (VerdictOn json a)
    (λ b of_b. one_verdict_on verdicts_are_one json a b (are_proper turns p a clear of_a) (are_proper turns q b clear' of_b)))

one_mark : OneMark → (a b : HyperTree) (c : CertTree) → HasOne (MarkIn a b c)
one_mark marks_are_one a b c r s h k =
    ⊎_elim
    (λ (x : (a.target ≢ b.target) × (r ≡ Err other_target)).
    ⊎_elim (λ (y : (a.target ≢ b.target) × (s ≡ Err other_target)). x.1 ∙ sym y.1) (λ y. absurd (x.0 y.0)) k)
    (λ x.
    ⊎_elim (λ (y : (a.target ≢ b.target) × (s ≡ Err other_target)). absurd (y.0 x.0))
    (λ y. x.1.2 ∙ ap mark_shown (marks_are_one a b c x.1.0 y.1.0 x.1.1 y.1.1) ∙ sym y.1.2) k)
    h

pub one_cert : (file : File) → HasOne (CertIn file)
one_cert file =
    one_after (Gives (source_of file)) (λ bytes. Gives (cert_read file.name (cert_of bytes))) (one_given (source_of file))
    (λ bytes _. one_given (cert_read file.name (cert_of bytes)))

one_mark_on : HypersAreOne → OneMark → (turns : ℕ) (p q : ProgramTree) (c : CertTree) → HasOne (MarkOn turns p q c)
one_mark_on hypers_are_one marks_are_one turns p q c =
    one_on_hyper hypers_are_one turns p (λ a. OnHyper turns q (λ b. MarkIn a b c)) (λ a _.
    one_on_hyper hypers_are_one turns q (λ b. MarkIn a b c) (λ b _. one_mark marks_are_one a b c))

-- ---- capacities

same_channel : (c d : ChannelTree) → c.target ≡ d.target → c.rows ≡ d.rows → c.secrets ≡ d.secrets → c ≡ d
same_channel c d targets rows secrets = λ i. record { target = targets i; rows = rows i; secrets = secrets i }

module _ (rows_are_one : RowsAreOne) where
  -- a program has one channel
  one_channel : (turns : ℕ) (p : ProgramTree) (c d : ChannelTree) → IsChannelTree turns p c → IsChannelTree turns p d → c ≡ d
  one_channel turns p c d x y =
      let rows : c.rows ≡ d.rows = rows_are_one (joint_of turns p) c.rows d.rows x.rows y.rows in
      let secrets : c.secrets ≡ d.secrets = one_secrets d.rows c.secrets d.secrets (subst (λ (rs : List Row). AreSecrets rs c.secrets) rows x.secrets) y.secrets in
      same_channel c d (x.target ∙ sym y.target) rows secrets

  one_capacity : (turns : ℕ) (p : ProgramTree) → HasOne (CapacityIn turns p)
  one_capacity turns p r s h k =
      let c : h.0 ≡ k.0 = one_channel turns p h.0 k.0 h.1 k.1 in
      h.2 ∙ ap (λ (t : ChannelTree). if is_narrow (channel_grid t) then prints (capacity_text (channel_grid t)) else Err wide_channel) c ∙ sym k.2

  one_algebra : (way : Composition) (c d : ChannelTree) → HasOne (After (Composed way c d) (λ g. Gives (algebra_shown (channel_grid c) (channel_grid d) g)))
  one_algebra way c d =
      one_after (Composed way c d) (λ g. Gives (algebra_shown (channel_grid c) (channel_grid d) g)) (one_composed way c d)
      (λ g _. one_given (algebra_shown (channel_grid c) (channel_grid d) g))

  one_composition : (way : Composition) (turns : ℕ) (p q : ProgramTree) → HasOne (ComposedIn way turns p q)
  one_composition way turns p q r s h k =
      let c : h.0 ≡ k.0 = one_channel turns p h.0 k.0 h.2 k.2 in
      let d : h.1 ≡ k.1 = one_channel turns q h.1 k.1 h.3 k.3 in
      let on_c = subst (λ (t : ChannelTree). After (Composed way t h.1) (λ g. Gives (algebra_shown (channel_grid t) (channel_grid h.1) g)) r) c h.4 in
      let on_both = subst (λ (t : ChannelTree). After (Composed way k.0 t) (λ g. Gives (algebra_shown (channel_grid k.0) (channel_grid t) g)) r) d on_c in
      one_algebra way k.0 k.1 r s on_both k.4

-- ---- commands

module _ (made_are_one : (count turns : ℕ) → HasOne (MadeOutcome count turns)) (tables_are_one : OneTable) (rows_are_one : RowsAreOne) (hypers_are_one : HypersAreOne)
    (averages_are_one : OneAverage) (verdicts_are_one : OneVerdict) (marks_are_one : OneMark) (are_proper : AreProper) (reports_are_one : OneReport)
    (trails_are_one : OnlyOneTrail) (attacks_are_one : OneAttacks) (reaches_are_one : OneReach) (blames_are_one : OnlyOneBlames) (turns : ℕ) where
  one_command : (command : Command) → IsInRange command → (tables : List File) (ps : List ProgramTree) → Every (IsClear turns) ps → HasOne (CommandOutcome command turns tables ps)
  one_command Hyper has tables (p ∷ []) clear = one_hyper hypers_are_one p.target (run_scale turns p) (joint_of turns p)
  one_command Traces has tables (p ∷ []) clear = one_traces rows_are_one p.target (run_scale turns p) (joint_of turns p)
  one_command Channel has tables (p ∷ []) clear =
      one_after (Gives (initial p)) (λ p. ChannelOf p.target (joint_of turns p)) (one_given (initial p)) (λ q _. one_channel_shown rows_are_one q.target (joint_of turns q))
  one_command Trail has tables (p ∷ []) clear = one_trail trails_are_one turns p
  one_command Capacity has tables (p ∷ []) clear =
      one_after (Gives (initial p)) (CapacityIn turns) (one_given (initial p)) (λ q _. one_capacity rows_are_one turns q)
  one_command (Compose way) has tables (p ∷ q ∷ []) clear =
      one_after (Gives (initial p)) (λ p. After (Gives (initial q)) (λ q. ComposedIn way turns p q)) (one_given (initial p))
      (λ first _. one_after (Gives (initial q)) (λ q. ComposedIn way turns first q) (one_given (initial q)) (λ second _. one_composition rows_are_one way turns first second))
  one_command (Make count) has tables [] clear = made_are_one count turns
  one_command (Leak g) has tables (p ∷ []) clear =
      one_after (GainIn p.target g tables) (λ t. OnHyper turns p (ReportOn t)) (one_gain tables_are_one p.target g tables)
      (λ t _. one_on_hyper hypers_are_one turns p (ReportOn t) (λ h _. one_report averages_are_one t h reports_are_one))
  one_command (Attack g) has tables (p ∷ []) clear =
      one_after (GainIn p.target g tables) (λ t. OnHyper turns p (AttackOn t)) (one_gain tables_are_one p.target g tables)
      (λ t _. one_on_hyper hypers_are_one turns p (AttackOn t) (λ h is. one_attack averages_are_one t h attacks_are_one (are_proper turns p h clear.0 is)))
  one_command (Reach num den) has tables (p ∷ []) clear =
      one_on_hyper hypers_are_one turns p (λ h. PrintsSome (IsReach h.scale h.inners num den) (reach_text h.scale))
      (λ h _. one_reach reaches_are_one num den h (omega (arith, has.0, has.1)))
  one_command (Refine json) has tables (p ∷ q ∷ []) clear = one_refine hypers_are_one verdicts_are_one are_proper json turns p q clear.0 clear.1.0
  one_command (Check name) has (file ∷ []) (p ∷ q ∷ []) clear =
      one_after (CertIn file) (MarkOn turns p q) (one_cert file) (λ c _. one_mark_on hypers_are_one marks_are_one turns p q c)
  one_command Covers has tables (p ∷ q ∷ []) clear = one_refine hypers_are_one verdicts_are_one are_proper false turns p q clear.0 clear.1.0
  one_command (Quiet from to) has tables (p ∷ []) clear = one_hyper hypers_are_one p.target (run_scale turns p) (quiet_joint turns p from to)
  one_command Blame has tables (p ∷ []) clear = one_blame blames_are_one turns p
  one_command command has tables ps clear = one_given (Err usage)

-- ---- texts

-- an error with a fault isn't want of memory
some_syntax : (e : ParseError) (f : Fault) → syntax_fault e ≡ Some f → e ≢ parsing.Mem
some_syntax e f has mem = let none : None ≡ Some f = ap syntax_fault (sym mem) ∙ has in absurd (cc)

-- the laws of tokens, of the grammar and of the type rules
module _ (reading : IsOneReading) (one : OneProgram) (both : NotBoth) (refusal : OneRefusal) (judgement : OneJudgement) (typed : OneTyped) where
  one_tokens : (name bytes : List ℕ) → HasOne (TokensOf name bytes)
  one_tokens name bytes (Ok ts) (Ok us) p q = ap Ok (reading.tokens bytes ts us p q)
  one_tokens name bytes (Ok ts) (Err s) p q = absurd (reading.not_both bytes ts q.error p q.is_error)
  one_tokens name bytes (Err r) (Ok us) p q = absurd (reading.not_both bytes us p.error q p.is_error)
  one_tokens name bytes (Err r) (Err s) p q = ap Err (one_bad (IsFault bytes) token_fault name bytes (λ e f x y _ _. reading.fault bytes e f) r s p q)

  one_source : (name bytes : List ℕ) (tokens : List Token) → HasOne (SourceOf name bytes tokens)
  one_source name bytes tokens (Ok x) (Ok y) p q = ap Ok (one bytes tokens x y p.program q.program)
  one_source name bytes tokens (Ok x) (Err s) p q = absurd (both bytes tokens x q.error (some_syntax q.error q.fault q.has) p q.is_error)
  one_source name bytes tokens (Err r) (Ok y) p q = absurd (both bytes tokens y p.error (some_syntax p.error p.fault p.has) q p.is_error)
  one_source name bytes tokens (Err r) (Err s) p q =
      ap Err (one_bad (IsRefused bytes tokens) syntax_fault name bytes (λ e f x y has has'. refusal bytes tokens e f (some_syntax e x has) (some_syntax f y has')) r s p q)

  same_rule : (tree : SourceTree) (e f : TypeError) → IsBroken tree e → IsBroken tree f → e ≡ f
  same_rule tree e f p q = let both : Some e ≡ Some f = judgement tree (Some e) (Some f) p q in cc

  not_broken : (tree : SourceTree) (e : TypeError) → JudgesSource tree None → IsBroken tree e → ⊥
  not_broken tree e p q = let both : None ≡ Some e = judgement tree None (Some e) p q in absurd (cc)

  one_checked : (name bytes : List ℕ) (tree : SourceTree) → HasOne (ProgramOf name bytes tree)
  one_checked name bytes tree (Ok p) (Ok q) h k = ap Ok (typed tree p q h k)
  one_checked name bytes tree (Ok p) (Err s) h k = absurd (not_broken tree k.error h.judged k.is_error)
  one_checked name bytes tree (Err r) (Ok q) h k = absurd (not_broken tree h.error k.judged h.is_error)
  one_checked name bytes tree (Err r) (Err s) h k = ap Err (one_bad (IsBroken tree) type_fault name bytes (λ e f x y _ _. same_rule tree e f) r s h k)

  one_with : (name bytes : List ℕ) (tree : SourceTree) → HasOne (TextWith name bytes tree)
  one_with name bytes tree =
      one_after (ProgramOf name bytes tree) (λ p. Gives (Ok (text name bytes tree p))) (one_checked name bytes tree) (λ p _. one_given (Ok (text name bytes tree p)))

  pub one_typed : (name bytes : List ℕ) → HasOne (TypedOf name bytes)
  unfolding TypedOf
  one_typed name bytes = one_after (TokensOf name bytes) (λ tokens. After (SourceOf name bytes tokens) (TextWith name bytes)) (one_tokens name bytes)
      (λ tokens _. one_after (SourceOf name bytes tokens) (TextWith name bytes) (one_source name bytes tokens) (λ tree _. one_with name bytes tree))

  one_made : HypersAreOne → (count turns : ℕ) → HasOne (MadeOutcome count turns)
  one_made hypers_are_one count turns =
      one_after (TypedOf [] (make_source count)) (λ t. After (Gives (cleared turns t)) (λ q. MadeOf count (run_scale turns q) (joint_of turns q)))
      (one_typed [] (make_source count))
      (λ t _. one_after (Gives (cleared turns t)) (λ q. MadeOf count (run_scale turns q) (joint_of turns q)) (one_given (cleared turns t))
      (λ q _. one_made_hyper hypers_are_one count (run_scale turns q) (joint_of turns q)))

  one_read : (file : File) → HasOne (TextOf file)
  one_read file = one_after (Gives (source_of file)) (TypedOf file.name) (one_given (source_of file)) (λ bytes _. one_typed file.name bytes)

  one_full : (ts : List Text) → HasOne (FullTexts ts)
  one_full ts =
      one_after (Each (λ t. Gives (few_stores t)) ts) (Each FullOf) (one_each (λ t. Gives (few_stores t)) (λ t. one_given (few_stores t)) ts)
      (λ us _. one_each FullOf (λ t. one_with t.name t.bytes (full_source t.program.types t.source)) us)

  one_long : (turns most : ℕ) (t : Text) → HasOne (LongCleared turns most t)
  one_long turns most t =
      one_after (Gives (cleared turns t)) (λ p. Gives (long_enough t.name most p)) (one_given (cleared turns t)) (λ p _. one_given (long_enough t.name most p))

  one_ready : (command : Command) (turns : ℕ) (ts : List Text) → HasOne (ReadyOf command turns ts)
  one_ready Covers turns ts =
      one_after (FullTexts ts) (Each (λ t. Gives (cleared turns t))) (one_full ts) (λ us _. one_each (λ t. Gives (cleared turns t)) (λ t. one_given (cleared turns t)) us)
  one_ready (Quiet from to) turns ts = one_each (LongCleared turns to) (one_long turns to) ts
  one_ready command turns ts = one_each (λ t. Gives (cleared turns t)) (λ t. one_given (cleared turns t)) ts

  pub one_cleared : (command : Command) (turns : ℕ) (programs : List File) → HasOne (ClearedOf command turns programs)
  one_cleared command turns programs =
      one_after (Each TextOf programs) (ReadyOf command turns) (one_each TextOf one_read programs) (λ ts _. one_ready command turns ts)

  module _ (tables_are_one : OneTable) (rows_are_one : RowsAreOne) (hypers_are_one : HypersAreOne) (averages_are_one : OneAverage) (verdicts_are_one : OneVerdict) (marks_are_one : OneMark)
      (are_clear : AreClear) (are_proper : AreProper) (reports_are_one : OneReport) (trails_are_one : OnlyOneTrail) (attacks_are_one : OneAttacks) (reaches_are_one : OneReach)
      (blames_are_one : OnlyOneBlames) (silent_are_one : OneSilent) (programs tables : List File) where
    one_on_programs : (task : Task) → IsInRange task.command → HasOne (ProgramsOutcome task.command task.turns programs tables)
    one_on_programs task has =
        one_after (ClearedOf task.command task.turns programs) (CommandOutcome task.command task.turns tables) (one_cleared task.command task.turns programs)
        (λ ps is. one_command (one_made hypers_are_one) tables_are_one rows_are_one hypers_are_one averages_are_one verdicts_are_one marks_are_one are_proper reports_are_one trails_are_one
        attacks_are_one reaches_are_one blames_are_one task.turns task.command has tables ps (are_clear task.command task.turns programs ps is))

    one_task : (task : Task) → IsInRange task.command → HasOne (TaskOutcome task programs tables)
    one_task task has =
        each_command HasOne task.turns tables task.command programs (λ _. one_on_programs task has)
        (λ word file _ _. one_after (TextOf file) (LinesUnder word task.turns tables) (one_read file)
        (λ t _. one_lines_under tables_are_one hypers_are_one silent_are_one reports_are_one averages_are_one word task.turns tables t))
        (λ word _ _. one_given (Err usage))

    one_outcome : (task : Option Task) → ((t : Task) → task ≡ Some t → IsInRange t.command) → HasOne (SomeOutcome task programs tables)
    one_outcome None has = one_given (Err usage)
    one_outcome (Some task) has = one_task task (has task refl)

    pub one_answer : TasksInRange → (words : List (List ℕ)) (a b : Answer) → IsAnswer words programs tables a → IsAnswer words programs tables b → a ≡ b
    one_answer tasks_in_range words a b p q =
        let results : p.result ≡ q.result = one_outcome (task_of words) (λ t asked. (tasks_in_range words t asked).0) p.result q.result p.outcome q.outcome in
        p.settles ∙ ap settled results ∙ sym q.settles
