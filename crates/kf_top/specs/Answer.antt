-- Believed: the defined answer to a command on programs: the first refusal, or what is printed.
use Rattle.std.specs.Prelude.{◌≡◌, ℕ, Bool, true, false, ◌&&◌, ◌*◌, List, [], ◌∷◌, ◌++◌, nat_le, codes, if◌then◌else◌, Ok, Err}
use Rattle.std.specs.Fmt.{decimal}
use Rattle.std.specs.declared.result.Result.{Result}
use Rattle.std.specs.List.{AllZip}
use Rattle.std.specs.Result.{result_map_both}
use Rattle.kf_frac.specs.Fractions.{limit}
use Rattle.kf_frac.specs.Rules.{Unless}
use Rattle.kf_value.specs.Targets.{Item}
use Rattle.kf_ast.specs.Sources.{SourceTree}
use Rattle.kf_core.specs.Joint.{Cell, joint_of}
use Rattle.kf_core.specs.Programs.{ProgramTree}
use Rattle.kf_core.specs.Pushing.{IsTrail}
use Rattle.kf_core.specs.Rows.{AreRowsOf, IsHyperOf}
use Rattle.kf_core.specs.Scale.{scale_of}
use Rattle.kf_column.specs.Traces.{Row}
use Rattle.kf_channel.specs.Channels.{AreSecrets, all_initial}
use Rattle.kf_capacity.specs.Grids.{ChannelTree, GridTree, channel_grid, capacity_of}
use Rattle.kf_capacity.specs.Compositions.{IsCascade, IsParallel, IsChoice, ComposeFault, Fit, Targets, Rows, Cells, Wide}
use Rattle.kf_gain.specs.declared.error.TableError.{TableError}
use Rattle.kf_gain.specs.declared.error.TableError.TheVariants as table
use Rattle.kf_gain.specs.Gains.{GainOf, Bayes, Tries, Guessing, Table, TableTree, over_of}
use Rattle.kf_gain.specs.Tables.{IsTable}
use Rattle.kf_gain.specs.Vulnerabilities.{IsWidth}
use Rattle.kf_report.specs.Reports.{IsLeakage}
use Rattle.kf_attack.specs.Attacks.{IsReach, IsAttack}
use Rattle.kf_lines.specs.LineTexts.{lines_text}
use Rattle.kf_lines.specs.Summaries.{AreLines}
use Rattle.kf_load.specs.Steps.{Refused, Step, After, Gives, refusal}
use Rattle.kf_load.specs.Texts.{File, TypedOf, cleared, source_of}
use Rattle.kf_make.specs.Making.{make_source}
use Rattle.kf_quiet.specs.Blames.{AreBlames}
use Rattle.kf_silent.specs.Quiet.{quiet_joint}
use Rattle.kf_refine.specs.Refinements.{HyperTree}
use Rattle.kf_refine.specs.Verdicts.{VerdictTree, Yes, No, IsVerdict, Proves}
use Rattle.kf_refine.specs.declared.verdict.RefineError.{RefineError}
use Rattle.kf_refine.specs.declared.verdict.RefineError.TheVariants as refine
use Rattle.kf_cert.specs.CertTexts.{cert_text}
use Rattle.kf_cert.specs.Certificates.{CertTree, cert_of}
use Rattle.kf_cert.specs.Marks.{IsMarked}
use Rattle.kf_cert.specs.declared.cert.CertError.{CertError}
use Rattle.kf_cert.specs.declared.cert.CertError.TheVariants as cert
use Rattle.kf_cert.specs.declared.mark.Mark.{Mark}
use Rattle.kf_cert.specs.declared.mark.Mark.TheVariants.{Accepted, Rejected}
use Rattle.kf_cert.specs.declared.mark.CheckError.{CheckError}
use Rattle.kf_cert.specs.declared.mark.CheckError.TheVariants as check
use Rattle.kf_text.specs.Texts.{line, hyper_text, trace_text, channel_text, trail_text, make_text}
use Rattle.kf_text.specs.AttackTexts.{attack_text, reach_text}
use Rattle.kf_text.specs.BlameTexts.{blame_text}
use Rattle.kf_text.specs.CapacityTexts.{capacity_text, algebra_text}
use Rattle.kf_text.specs.ReportTexts.{report_text}
use Rattle.kf_text.specs.VerdictTexts.{verdict_text, mark_text}
use Rattle.kf_words.specs.Task.{Command, Hyper, Traces, Channel, Trail, Capacity, Compose, Leak, Attack, Reach, Make, Refine, Check, Covers, Quiet, Blame}
use Rattle.kf_words.specs.Task.{Composition, Cascade, Parallel, Choice}

-- the bytes for standard output, and whether the answer is yes: only a verdict may be a no, and a certificate rejected
pub record Shown : Type 0 where
  pub yes : Bool
  pub bytes : List ℕ

abbrev pub shows : Bool → List ℕ → Result Shown Refused
shows verdict bytes = Ok (record { yes = verdict; bytes = bytes })

abbrev pub prints : List ℕ → Result Shown Refused
prints bytes = shows true bytes

-- something with this property is printed
abbrev pub PrintsSome : {A : Type 0} → (A → Type 0) → (A → List ℕ) → Step Shown
PrintsSome {A} P text result = (x : A) × P x × (result ≡ prints (text x))

-- the refusal of words that ask for nothing
abbrev pub usage : Refused
usage = refusal 2 [] (codes "usage: kuifje COMMAND [FILES] [--gain G] [--turns N] [--json]")

-- two programs have different targets
abbrev pub other_target : Refused
other_target = refusal 10 [] (codes "targets differ")

-- a channel's denominator or its capacity passes 2^127 - 1
abbrev pub wide_channel : Refused
wide_channel = refusal 7 [] (codes "channel passes 2^127 - 1")

-- ---- hypers and traces

-- the hyper of a joint over a scale, for a target
abbrev pub HyperOf : List Item → ℕ → List Cell → Step Shown
HyperOf target scale joint = PrintsSome (IsHyperOf joint) (hyper_text target scale)

-- ---- channels

-- a channel leads from values before the statements
abbrev pub initial : ProgramTree → Result ProgramTree Refused
initial p = if all_initial p.target then Ok p else Err (refusal 10 [] (codes "target is not initial"))

-- the channel of a program
pub record IsChannelTree (turns : ℕ) (p : ProgramTree) (c : ChannelTree) : Type 0 where
  pub target : c.target ≡ p.target
  pub rows : AreRowsOf (joint_of turns p) c.rows
  pub secrets : AreSecrets c.rows c.secrets

-- whether a grid's denominator and its capacity are at most 2^127 - 1
abbrev pub is_narrow : GridTree → Bool
is_narrow g = nat_le g.over limit && nat_le (capacity_of g) limit

-- what is put together of two channels, or why there is nothing
abbrev pub composed_grid : Result GridTree ComposeFault → Result GridTree Refused
composed_grid (Ok g) = Ok g
composed_grid (Err Fit) = Err (refusal 10 [] (codes "channels do not fit"))
composed_grid (Err Targets) = Err other_target
composed_grid (Err Rows) = Err (refusal 10 [] (codes "rows differ"))
composed_grid (Err (Cells count)) = Err (refusal 8 [] (codes "channel has " ++ (decimal count ++ codes " cells")))
composed_grid (Err Wide) = Err wide_channel

abbrev pub Composed : Composition → ChannelTree → ChannelTree → Step GridTree
Composed way c d result =
    (r : Result GridTree ComposeFault)
    × (elim way [ Cascade ↦ IsCascade c d r | Parallel ↦ IsParallel c d r | Choice num den ↦ IsChoice num den c d r ])
    × (result ≡ composed_grid r)

-- the capacities of the channels of two programs and of what is put together of them, where none is too wide
abbrev pub ComposedIn : Composition → ℕ → ProgramTree → ProgramTree → Step Shown
ComposedIn way turns p q result =
    (c d : ChannelTree) × IsChannelTree turns p c × IsChannelTree turns q d
    × After (Composed way c d) (λ g. Gives (
    if is_narrow (channel_grid c) && (is_narrow (channel_grid d) && is_narrow g)
    then prints (algebra_text (channel_grid c) (channel_grid d) g) else Err wide_channel)) result

-- ---- gains

-- the word of the first rule that a gain table breaks; want of memory is none
abbrev pub table_word : TableError → List ℕ
table_word table.Json = codes "Json"
table_word (table.Form rule) = codes "Form " ++ decimal rule
table_word table.Wide = codes "Wide"
table_word table.Unknown = codes "Unknown"
table_word table.Twice = codes "Twice"
table_word table.Empty = codes "Empty"
table_word table.Mem = []

-- a file that breaks a rule
abbrev pub bad_file : List ℕ → List ℕ → Refused
bad_file name word = refusal 9 name (codes ": " ++ word)

-- the gain table that bytes are, about a target's values, or the first rule that they break
abbrev pub TableOf : List Item → List ℕ → List ℕ → Step TableTree
TableOf target name bytes (Ok t) = IsTable target bytes (Ok t)
TableOf target name bytes (Err r) = (e : TableError) × IsTable target bytes (Err e) × (r ≡ bad_file name (table_word e))

-- a gain, and the table that its file holds
abbrev pub GainIn : List Item → GainOf (List ℕ) → List File → Step (GainOf TableTree)
GainIn target Bayes tables = Gives (Ok Bayes)
GainIn target (Tries k) tables = Gives (Ok (Tries k))
GainIn target Guessing tables = Gives (Ok Guessing)
GainIn target (Table name) (file ∷ []) =
    After (After (Gives (source_of file)) (TableOf target file.name)) (λ t. Gives (Ok (Table t)))
GainIn target (Table name) tables = Gives (Err usage)

-- the hyper of a program
pub record IsHyperTree (turns : ℕ) (p : ProgramTree) (h : HyperTree) : Type 0 where
  pub target : h.target ≡ p.target
  pub scale : h.scale ≡ scale_of turns p
  pub is_hyper : IsHyperOf (joint_of turns p) h.inners

-- what is made of the hyper of a program
abbrev pub OnHyper : ℕ → ProgramTree → (HyperTree → Step Shown) → Step Shown
OnHyper turns p next result = (h : HyperTree) × IsHyperTree turns p h × next h result

-- the scale times a gain's width is at most 2^127 - 1
abbrev pub NarrowGain : GainOf TableTree → HyperTree → Step ℕ
NarrowGain g h result =
    (m : ℕ) × IsWidth g h.inners m
    × (result ≡ (if nat_le (h.scale * m) limit then Ok m else Err (refusal 7 [] (codes "gain passes 2^127 - 1"))))

-- how much a gain's best action gains by what is shown; no number of it passes 2^127 - 1
abbrev pub ReportOn : GainOf TableTree → HyperTree → Step Shown
ReportOn g h = After (NarrowGain g h) (λ m. PrintsSome (IsLeakage g h.scale h.inners) (report_text g))

-- what is best done at each inner, under a gain; no number of it passes 2^127 - 1
abbrev pub AttackOn : GainOf TableTree → HyperTree → Step Shown
AttackOn g h =
    After (NarrowGain g h) (λ m. PrintsSome (AllZip (IsAttack g) h.inners) (attack_text g h.target h.scale h.inners))

-- how much is seen of a program under a gain, and how much where each statement alone is silent, by the bytes and the source of its text;
-- where statements are silent, the gain is as wide as on the whole program
abbrev pub LinesOn : ℕ → List ℕ → SourceTree → ProgramTree → GainOf TableTree → HyperTree → Step Shown
LinesOn turns bytes tree p g h =
    After (NarrowGain g h) (λ m. PrintsSome (AreLines g turns tree p) (lines_text bytes (h.scale * over_of g)))

-- ---- verdicts

-- why there is no verdict; want of memory is none of the causes
abbrev pub verdict_refusal : RefineError → Refused
verdict_refusal refine.Targets = other_target
verdict_refusal (refine.Cells cells) = refusal 8 [] (codes "tableau has " ++ (decimal cells ++ codes " cells"))
verdict_refusal (refine.Wide pivots) = refusal 7 [] (codes "tableau passes 2^62 after " ++ (decimal pivots ++ codes " pivots"))
verdict_refusal refine.Budget = refusal 8 [] (codes "more than 20000 pivots")
verdict_refusal refine.Mem = usage

-- a verdict on two hypers, which proves what it says, maybe as a certificate
abbrev pub VerdictShown : Bool → HyperTree → HyperTree → Result VerdictTree RefineError → Step Shown
VerdictShown json a b (Ok v) result =
    Proves a b v
    × (result ≡ shows (elim v [ Yes m ↦ true | No t ↦ false ]) (if json then cert_text a.target v else verdict_text a.target v))
VerdictShown json a b (Err e) result = result ≡ Err (verdict_refusal e)

-- the verdict on the hypers of two programs, by a run of at most 20,000 pivots: whether the second leaks no more than the first
abbrev pub RefineOutcome : Bool → ℕ → ProgramTree → ProgramTree → Step Shown
RefineOutcome json turns p q =
    OnHyper turns p (λ a. OnHyper turns q (λ b result.
    (r : Result VerdictTree RefineError) × IsVerdict a b 20000 r × VerdictShown json a b r result))

-- ---- certificates

-- the word of the first rule that a certificate breaks; want of memory is none
abbrev pub cert_word : CertError → List ℕ
cert_word cert.Json = codes "Json"
cert_word (cert.Form rule) = codes "Form " ++ decimal rule
cert_word cert.Wide = codes "Wide"
cert_word cert.Mem = []

-- the certificate in a file, or the first rule that its bytes break
abbrev pub CertIn : File → Step CertTree
CertIn file =
    After (Gives (source_of file)) (λ bytes. Gives (result_map_both (λ c. c) (λ e. bad_file file.name (cert_word e)) (cert_of bytes)))

-- what is printed of a certificate; want of memory is no cause why nothing is
abbrev pub mark_shown : Result Mark CheckError → Result Shown Refused
mark_shown (Ok mark) = shows (elim mark [ Accepted ↦ true | Rejected rule ↦ false ]) (line (mark_text mark))
mark_shown (Err check.Wide) = Err (refusal 7 [] (codes "certificate passes 2^127 - 1"))
mark_shown (Err check.Mem) = Err usage

-- the mark of a certificate on two hypers, which must be about one target
abbrev pub MarkIn : HyperTree → HyperTree → CertTree → Step Shown
MarkIn a b c =
    Unless (a.target ≡ b.target) (Err other_target) (λ result. (r : Result Mark CheckError) × IsMarked a b c r × (result ≡ mark_shown r))

-- the mark of a certificate on the hypers of two programs
abbrev pub MarkOn : ℕ → ProgramTree → ProgramTree → CertTree → Step Shown
MarkOn turns p q c = OnHyper turns p (λ a. OnHyper turns q (λ b. MarkIn a b c))

-- ---- commands

-- what a command comes to for its programs, and for the files that it reads beside them; `task_of` gives each command as many of both as it
-- has here. `lines` is about texts, and has no case
abbrev pub CommandOutcome : Command → ℕ → List File → List ProgramTree → Step Shown
CommandOutcome Hyper turns tables (p ∷ []) = HyperOf p.target (scale_of turns p) (joint_of turns p)
CommandOutcome Traces turns tables (p ∷ []) = PrintsSome (AreRowsOf (joint_of turns p)) (trace_text p.target (scale_of turns p))
-- the channel from the values of its target to its traces
CommandOutcome Channel turns tables (p ∷ []) = After (Gives (initial p)) (λ p result.
    (rows : List Row) × AreRowsOf (joint_of turns p) rows × PrintsSome (AreSecrets rows) (channel_text p.target rows) result)
CommandOutcome Trail turns tables (p ∷ []) = PrintsSome (IsTrail turns p) trail_text
-- the Bayes capacity of its channel
CommandOutcome Capacity turns tables (p ∷ []) = After (Gives (initial p)) (λ p result.
    (c : ChannelTree) × IsChannelTree turns p c
    × (result ≡ (if is_narrow (channel_grid c) then prints (capacity_text (channel_grid c)) else Err wide_channel)))
CommandOutcome (Compose way) turns tables (p ∷ q ∷ []) =
    After (Gives (initial p)) (λ p. After (Gives (initial q)) (λ q. ComposedIn way turns p q))
-- the made text is typed and cleared as any other, and stands in no file
CommandOutcome (Make count) turns tables [] =
    After (TypedOf [] (make_source count)) (λ t.
    After (Gives (cleared turns t)) (λ p. PrintsSome (IsHyperOf (joint_of turns p)) (make_text count (scale_of turns p))))
CommandOutcome (Leak g) turns tables (p ∷ []) = After (GainIn p.target g tables) (λ gain. OnHyper turns p (ReportOn gain))
CommandOutcome (Attack g) turns tables (p ∷ []) = After (GainIn p.target g tables) (λ gain. OnHyper turns p (AttackOn gain))
-- the least number of tries with which the posterior vulnerability is at least num / den
CommandOutcome (Reach num den) turns tables (p ∷ []) =
    OnHyper turns p (λ h. PrintsSome (IsReach h.scale h.inners num den) (reach_text h.scale))
CommandOutcome (Refine json) turns tables (p ∷ q ∷ []) = RefineOutcome json turns p q
CommandOutcome (Check name) turns (file ∷ []) (p ∷ q ∷ []) = After (CertIn file) (MarkOn turns p q)
CommandOutcome Covers turns tables (p ∷ q ∷ []) = RefineOutcome false turns p q
CommandOutcome (Quiet from to) turns tables (p ∷ []) = HyperOf p.target (scale_of turns p) (quiet_joint turns p from to)
CommandOutcome Blame turns tables (p ∷ []) = PrintsSome (AreBlames turns p) (blame_text (scale_of turns p))
CommandOutcome command turns tables ps = Gives (Err usage)
