-- For bodies: steps of answers by the names of the functions that take them.
use Rattle.std.specs.Prelude.{◌≡◌, ℕ, ◌&&◌, List, [], codes, if◌then◌else◌, Err, None, Some, Bool, true, false}
use Rattle.std.specs.declared.result.Result.{Result}
use Rattle.std.specs.Result.{result_map_both}
use Rattle.std.specs.declared.option.Option.{Option}
use Rattle.kf_value.specs.Targets.{Item}
use Rattle.kf_core.specs.Joint.{Cell, joint_of}
use Rattle.kf_core.specs.Rows.{AreRowsOf, IsHyperOf}
use Rattle.kf_core.specs.Programs.{ProgramTree}
use Rattle.kf_core.specs.Pushing.{IsTrail}
use Rattle.kf_core.specs.Scale.{scale_of}
use Rattle.kf_load.specs.Steps.{Step, After, Gives, Refused, refusal, Each}
use Rattle.kf_load.specs.Texts.{File, source_of, Text, TextOf, TextWith, TypedOf, cleared}
use Rattle.kf_make.specs.Making.{make_source}
use Rattle.kf_column.specs.Traces.{Row}
use Rattle.kf_channel.specs.Channels.{AreSecrets}
use Rattle.kf_capacity.specs.Grids.{ChannelTree, GridTree, channel_grid}
use Rattle.kf_prior.specs.FullSources.{full_source}
use Rattle.kf_refine.specs.Refinements.{HyperTree}
use Rattle.kf_refine.specs.Verdicts.{VerdictTree, Yes, No, IsVerdict}
use Rattle.kf_refine.specs.declared.verdict.RefineError.{RefineError}
use Rattle.kf_text.specs.CapacityTexts.{algebra_text, capacity_text}
use Rattle.kf_text.specs.Texts.{channel_text, trace_text, trail_text, make_text}
use Rattle.kf_text.specs.BlameTexts.{blame_text}
use Rattle.kf_top.specs.Answer.{Shown, GainIn, LinesOn, OnHyper, PrintsSome, TableOf, IsChannelTree, IsHyperTree, VerdictShown, bad_file, cert_word, is_narrow, prints, usage, wide_channel}
use Rattle.kf_top.specs.Ends.{Answer, IsAnswerTo, Sunk, CausesOf}
use Rattle.kf_top.specs.Outcome.{Outcome, few_stores, ReadyOf, TaskOutcome}
use Rattle.kf_quiet.specs.Blames.{AreBlames}
use Rattle.kf_ast.specs.Sources.{SourceTree}
use Rattle.kf_gain.specs.Gains.{GainOf, TableTree}
use Rattle.kf_cert.specs.Certificates.{CertTree}
use Rattle.kf_cert.specs.declared.cert.CertError.{CertError}
use Rattle.kf_cert.specs.declared.mark.Mark.{Mark}
use Rattle.kf_cert.specs.declared.mark.Mark.TheVariants.{Accepted, Rejected}
use Rattle.kf_words.specs.Task.{task_of, Command, Task}

-- its traces, each with its column
abbrev pub TracesOf : List Item → ℕ → List Cell → Step Shown
TracesOf target scale joint = PrintsSome (AreRowsOf joint) (trace_text target scale)

-- the hyper of the made text, which is typed and cleared as any other, and stands in no file
abbrev pub MadeOutcome : ℕ → ℕ → Step Shown
MadeOutcome count turns =
    After (TypedOf [] (make_source count)) (λ t.
    After (Gives (cleared turns t)) (λ p. PrintsSome (IsHyperOf (joint_of turns p)) (make_text count (scale_of turns p))))

-- the channel from the values of a target to the traces of a joint
abbrev pub ChannelOf : List Item → List Cell → Step Shown
ChannelOf target joint result =
    (rows : List Row) × AreRowsOf joint rows × PrintsSome (AreSecrets rows) (channel_text target rows) result

-- the Bayes capacity of a program's channel
abbrev pub CapacityIn : ℕ → ProgramTree → Step Shown
CapacityIn turns p result =
    (c : ChannelTree) × IsChannelTree turns p c
    × (result ≡ (if is_narrow (channel_grid c) then prints (capacity_text (channel_grid c)) else Err wide_channel))

-- the capacities of two channels and of what was put together of them, where none is too wide
abbrev pub algebra_shown : GridTree → GridTree → GridTree → Result Shown Refused
algebra_shown first second both =
    if is_narrow first && (is_narrow second && is_narrow both) then prints (algebra_text first second both) else Err wide_channel

-- how many posteriors there are after each statement of a program, whose loops turn at most so often
abbrev pub TrailOf : ℕ → ProgramTree → Step Shown
TrailOf turns p = PrintsSome (IsTrail turns p) trail_text

-- the hyper of a number of noisy observations, by its scale and joint
abbrev pub MadeOf : ℕ → ℕ → List Cell → Step Shown
MadeOf count scale joint = PrintsSome (IsHyperOf joint) (make_text count scale)

-- how much is seen of a program, whose loops turn at most so often, and how much where each statement in turn is quiet
abbrev pub BlameOf : ℕ → ProgramTree → Step Shown
BlameOf turns p = PrintsSome (AreBlames turns p) (blame_text (scale_of turns p))

-- the gain's table is read, and then the lines of a cleared program are printed
abbrev pub LinesAfter : GainOf (List ℕ) → ℕ → List ℕ → SourceTree → ProgramTree → List File → Step Shown
LinesAfter gain turns bytes tree p tables = After (GainIn p.target gain tables) (λ g. OnHyper turns p (LinesOn turns bytes tree p g))

-- the gain table in a file
abbrev pub TableIn : List Item → File → Step TableTree
TableIn target file = After (Gives (source_of file)) (TableOf target file.name)

-- the certificate that bytes are, or the first rule that they break
abbrev pub cert_read : List ℕ → Result CertTree CertError → Result CertTree Refused
cert_read name found = result_map_both (λ c. c) (λ e. bad_file name (cert_word e)) found

-- a scale times the certificate's denominator, or its width, passes 2^127 - 1
abbrev pub wide_cert : Refused
wide_cert = refusal 7 [] (codes "certificate passes 2^127 - 1")

-- whether a verdict is a yes
abbrev pub is_yes : VerdictTree → Bool
is_yes v = elim v [ Yes m ↦ true | No t ↦ false ]

-- the verdict on two hypers, by a run of at most 20,000 pivots: whether the second leaks no more than the first
abbrev pub VerdictOn : Bool → HyperTree → HyperTree → Step Shown
VerdictOn json a b result = (r : Result VerdictTree RefineError) × IsVerdict a b 20000 r × VerdictShown json a b r result

-- the hypers of two programs
pub record AreHypers (turns : ℕ) (p q : ProgramTree) (a b : HyperTree) : Type 0 where
  pub first : IsHyperTree turns p a
  pub second : IsHyperTree turns q b

-- how many pivots a run may have
abbrev pub most_pivots : ℕ
most_pivots = 20000

-- an answer that shows bytes: status 0 for yes, 1 for no
abbrev pub showing : Shown → Answer
showing shown = record { status = if shown.yes then 0 else 1; out = shown.bytes; err = [] }

abbrev pub refusing : Refused → Answer
refusing refused = record { status = refused.status; out = []; err = refused.line }

-- the defined answer to words
abbrev pub IsAnswer : List (List ℕ) → List File → List File → Answer → Type 0
IsAnswer words = IsAnswerTo (Outcome words)

-- the causes of a run of words
abbrev pub HasCauses : List (List ℕ) → Option (List ℕ → List ℕ) → (List ℕ → ℕ) → (List ℕ → ℕ) → Sunk → Sunk → ℕ → Type 0
HasCauses words = CausesOf (task_of words) (Outcome words)

-- the same text with its full source
abbrev pub FullOf : Text → Step Text
FullOf t = TextWith t.name t.bytes (full_source t.program.types t.source)

-- the same of all texts, whose stores are counted first
abbrev pub FullTexts : List Text → Step (List Text)
FullTexts texts = After (Each (λ t. Gives (few_stores t)) texts) (Each FullOf)

-- all texts first, and then their programs
abbrev pub ClearedOf : Command → ℕ → List File → Step (List ProgramTree)
ClearedOf command turns programs = After (Each TextOf programs) (ReadyOf command turns)

abbrev pub SomeOutcome : Option Task → List File → List File → Step Shown
SomeOutcome found programs tables = elim found [ None ↦ Gives (Err usage) | Some task ↦ TaskOutcome task programs tables ]

abbrev pub is_accepted : Mark → Bool
is_accepted mark = elim mark [ Accepted ↦ true | Rejected rule ↦ false ]
