-- For bodies: laws of the definitions.
use Rattle.std.specs.Prelude.{◌≡◌, ◌⊎◌, ℕ, ◌≤◌, ℤ, pos, ◌*ℤ◌, ◌≤ℤ◌, ◌<ℤ◌, true, List, [], ◌∷◌, ◌++◌, All, length, replicate, codes, Some, Ok}
use Rattle.kf_core.specs.Joint.{joint_of}
use Rattle.kf_core.specs.Programs.{ProgramTree}
use Rattle.kf_core.specs.Rows.{IsHyperOf}
use Rattle.kf_core.specs.Scale.{scale_of}
use Rattle.kf_column.specs.Hypers.{Inner}
use Rattle.kf_column.specs.Traces.{value_weight}
use Rattle.kf_capacity.specs.Grids.{ChannelTree, GridTree, channel_grid, capacity_of}
use Rattle.kf_gain.specs.Gains.{GainOf, Bayes, Table, TableTree}
use Rattle.kf_gain.specs.Vulnerabilities.{IsPosterior}
use Rattle.kf_gain.specs.Worth.{NoBetter}
use Rattle.kf_order.specs.Channels.{IsNotNegative}
use Rattle.kf_prior.specs.Priors.{IsPosteriorAt, initial_count}
use Rattle.kf_silent.specs.Quiet.{quiet_joint}
use Rattle.kf_refine.specs.Verdicts.{No}
use Rattle.kf_report.specs.Reports.{Leakage, IsLeakage}
use Rattle.kf_text.specs.CapacityTexts.{capacity_text}
use Rattle.kf_text.specs.ReportTexts.{report_text}
use Rattle.kf_text.specs.Texts.{hyper_text}
use Rattle.kf_text.specs.VerdictTexts.{verdict_text}
use Rattle.kf_load.specs.Texts.{File}
use Rattle.kf_top.specs.Answer.{GainIn, IsChannelTree}
use Rattle.kf_top.specs.Ends.{Answer}
use Rattle.kf_top.specs.Steps.{wide_cert, showing, refusing, IsAnswer, ClearedOf}
use Rattle.kf_laws.specs.Held.{IsAnswerOver, held}
use Rattle.kf_words.specs.Task.{Task, Hyper, Capacity, Leak, Refine, Check, Covers, Quiet, on_files, tables_of, task_of}
use Rattle.kf_words.specs.OfWords.{on_file}

-- words over files, whatever their names and their readings, have exactly one defined answer
abbrev pub ExactlyOneAnswer : Type 0
ExactlyOneAnswer = (words : List (List ℕ)) (programs tables : List File)
    → (answer : Answer) × IsAnswer words programs tables answer × ((other : Answer) → IsAnswer words programs tables other → other ≡ answer)

-- a task asks for the certificate of a verdict on the programs of two files, and another for the check of a certificate on them
abbrev pub asks_certificate : List ℕ → List ℕ → ℕ → Task
asks_certificate first second turns = on_files (Refine true) (first ∷ second ∷ []) turns

abbrev pub asks_check : List ℕ → List ℕ → List ℕ → ℕ → Task
asks_check cert first second turns = on_files (Check cert) (first ∷ second ∷ []) turns

-- a certificate that `refine --json` wrote is accepted by `check` for the same two texts and turns, wherever it stands in a file of at most
-- 1,048,576 bytes; or that check is too wide
abbrev pub CertificatesAccepted : Type 0
CertificatesAccepted = (words others : List (List ℕ)) (contents later : List ℕ → List ℕ) (cert first second : List ℕ) (turns : ℕ)
    (written checked : Answer)
    → task_of words ≡ Some (asks_certificate first second turns) → IsAnswerOver words contents written → written.status ≤ 1
    → task_of others ≡ Some (asks_check cert first second turns) → IsAnswerOver others later checked
    → later first ≡ contents first → later second ≡ contents second → later cert ≡ written.out → length written.out ≤ 1048576
    → (checked ≡ showing (record { yes = true; bytes = codes "accepted" ++ 10 ∷ [] })) ⊎ (checked ≡ refusing wide_cert)

-- a task asks whether the program of the second file leaks no more than that of the first, whatever the prior
abbrev pub asks_covers : List ℕ → List ℕ → ℕ → Task
asks_covers first second turns = on_files Covers (first ∷ second ∷ []) turns

-- an answer to it on these full programs
pub record IsCoversAnswer (contents : List ℕ → List ℕ) (first second : List ℕ) (turns : ℕ) (answer : Answer) (p q : ProgramTree) : Type 0 where
  pub words : List (List ℕ)
  pub asks : task_of words ≡ Some (asks_covers first second turns)
  pub is_answer : IsAnswerOver words contents answer
  pub are_cleared : ClearedOf Covers turns (held contents (first ∷ second ∷ [])) (Ok (p ∷ q ∷ []))

-- where the answer is a yes, the second leaks no more at any prior and under any gain table: its posterior over its scale is at most that
-- of the first over its own
abbrev pub CoversAllPriors : Type 0
CoversAllPriors = (contents : List ℕ → List ℕ) (first second : List ℕ) (turns : ℕ) (answer : Answer) (p q : ProgramTree)
    → IsCoversAnswer contents first second turns answer p q → answer.status ≡ 0
    → (prior : List ℕ) (t : TableTree) (y z : ℤ) → length prior ≡ initial_count p
    → IsPosteriorAt turns p prior (Table t) y → IsPosteriorAt turns q prior (Table t) z
    → (z *ℤ pos (scale_of turns p)) ≤ℤ (y *ℤ pos (scale_of turns q))

-- where it is a no, its bytes are a table under which the second leaks more at the uniform prior
abbrev pub NoIsSeparated : Type 0
NoIsSeparated = (contents : List ℕ → List ℕ) (first second : List ℕ) (turns : ℕ) (answer : Answer) (p q : ProgramTree)
    → IsCoversAnswer contents first second turns answer p q → answer.status ≡ 1
    → (t : TableTree) × (answer.out ≡ verdict_text p.target (No t))
    × ((y z : ℤ) → IsPosteriorAt turns p (replicate (initial_count p) 1) (Table t) y
    → IsPosteriorAt turns q (replicate (initial_count p) 1) (Table t) z
    → (y *ℤ pos (scale_of turns q)) <ℤ (z *ℤ pos (scale_of turns p)))

-- the hypers that `hyper` and `quiet` state of one text, by one program
pub record AreQuietAnswers (from to turns : ℕ) (hyper quiet : Answer) (p : ProgramTree) (all hushed : List Inner) : Type 0 where
  pub all_are : IsHyperOf (joint_of turns p) all
  pub hushed_are : IsHyperOf (quiet_joint turns p from to) hushed
  pub all_printed : hyper.out ≡ hyper_text p.target (scale_of turns p) all
  pub hushed_printed : quiet.out ≡ hyper_text p.target (scale_of turns p) hushed

-- what `quiet` states is never worth more to an adversary than what `hyper` states of the same text
abbrev pub QuietIsNoBetter : Type 0
QuietIsNoBetter = (words others : List (List ℕ)) (contents : List ℕ → List ℕ) (name : List ℕ) (from to turns : ℕ) (hyper quiet : Answer)
    → task_of words ≡ Some (on_file Hyper name turns) → IsAnswerOver words contents hyper → hyper.status ≡ 0
    → task_of others ≡ Some (on_file (Quiet from to) name turns) → IsAnswerOver others contents quiet → quiet.status ≡ 0 → from ≤ to
    → (p : ProgramTree) × (all hushed : List Inner) × AreQuietAnswers from to turns hyper quiet p all hushed
    × ((g : GainOf TableTree) (y z : ℤ) → IsPosterior g hushed y → IsPosterior g all z → NoBetter g y z)

-- what `capacity` and `leak` state of the text in one file: its program's channel, and prior and posterior under the gain that the words name
pub record AreLeakAnswers (contents : List ℕ → List ℕ) (name : List ℕ) (gain : GainOf (List ℕ)) (turns : ℕ) (capacity leak : Answer) : Type 0 where
  pub program : ProgramTree
  pub is_cleared : ClearedOf Capacity turns (held contents (name ∷ [])) (Ok (program ∷ []))
  pub channel : ChannelTree
  pub is_channel : IsChannelTree turns program channel
  -- the gain, with the table that its file holds
  pub g : GainOf TableTree
  pub is_gain : GainIn program.target gain (held contents (tables_of (Leak gain))) (Ok g)
  pub inners : List Inner
  pub is_hyper : IsHyperOf (joint_of turns program) inners
  pub report : Leakage
  pub is_report : IsLeakage g (scale_of turns program) inners report
  pub capacity_printed : capacity.out ≡ capacity_text (channel_grid channel)
  pub leak_printed : leak.out ≡ report_text g report

-- the posterior is at most the prior times a grid's capacity
abbrev pub IsWithin : Leakage → GridTree → Type 0
IsWithin l grid = (l.posterior *ℤ pos grid.over) ≤ℤ (l.prior *ℤ pos (capacity_of grid))

-- it is exactly that
abbrev pub Meets : Leakage → GridTree → Type 0
Meets l grid = l.posterior *ℤ pos grid.over ≡ l.prior *ℤ pos (capacity_of grid)

-- where no gain is below 0, the posterior that `leak` states is at most its prior times what `capacity` states of the same text; for one guess,
-- where all secrets weigh the same, it is exactly that
abbrev pub CapacityBoundsLeaks : Type 0
CapacityBoundsLeaks = (words others : List (List ℕ)) (contents : List ℕ → List ℕ) (name : List ℕ) (gain : GainOf (List ℕ)) (turns : ℕ)
    (capacity leak : Answer)
    → task_of words ≡ Some (on_file Capacity name turns) → IsAnswerOver words contents capacity → capacity.status ≡ 0
    → task_of others ≡ Some (on_file (Leak gain) name turns) → IsAnswerOver others contents leak → leak.status ≡ 0
    → (are : AreLeakAnswers contents name gain turns capacity leak)
    × (IsNotNegative are.g → IsWithin are.report (channel_grid are.channel))
    × (gain ≡ Bayes → (weight : ℕ) → All (λ x. value_weight are.channel.rows x ≡ weight) are.channel.secrets
    → Meets are.report (channel_grid are.channel))
