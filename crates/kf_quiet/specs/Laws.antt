-- For bodies: laws of quiet blocks.
use Rattle.std.specs.Prelude.{◌≡◌, ◌≤◌, ℕ, ℤ, ◌≤ℤ◌, List, slice_get, Some}
use Rattle.kf_core.specs.Joint.{joint_of}
use Rattle.kf_core.specs.Programs.{ProgramTree}
use Rattle.kf_core.specs.Rows.{IsHyperOf}
use Rattle.kf_column.specs.Hypers.{Inner}
use Rattle.kf_gain.specs.Gains.{GainOf, TableTree}
use Rattle.kf_gain.specs.Vulnerabilities.{IsPosterior}
use Rattle.kf_gain.specs.Worth.{NoBetter}
use Rattle.kf_silent.specs.Quiet.{quiet_joint}
use Rattle.kf_quiet.specs.Blames.{AreBlames}
use Rattle.kf_quiet.specs.Summaries.{SummaryTree}

-- every program has a hyper with any of its blocks quiet
abbrev pub SomeQuiet : Type 0
SomeQuiet = (turns : ℕ) (p : ProgramTree) (from to : ℕ) → (inners : List Inner) × IsHyperOf (quiet_joint turns p from to) inners

-- and blames, which are told one by one
abbrev pub SomeBlames : Type 0
SomeBlames = (turns : ℕ) (p : ProgramTree) → (blames : List SummaryTree) × AreBlames turns p blames

-- only one list of them
abbrev pub OnlyOneBlames : Type 0
OnlyOneBlames = (turns : ℕ) (p : ProgramTree) (blames others : List SummaryTree) → AreBlames turns p blames → AreBlames turns p others
    → blames ≡ others

-- Whatever the adversary wants, a block that shows nothing leaks no more than one that shows what it shows: the posterior vulnerability
-- is at most that of the whole program.
abbrev pub QuietLeaksNoMore : Type 0
QuietLeaksNoMore = (turns : ℕ) (p : ProgramTree) (from to : ℕ) (g : GainOf TableTree) (all quiet : List Inner) (y z : ℤ)
    → from ≤ to → IsHyperOf (joint_of turns p) all → IsHyperOf (quiet_joint turns p from to) quiet
    → IsPosterior g quiet y → IsPosterior g all z → NoBetter g y z

-- so no statement's blame passes that of the whole program, which is the first
abbrev pub NoBlamePasses : Type 0
NoBlamePasses = (turns : ℕ) (p : ProgramTree) (blames : List SummaryTree) (whole b : SummaryTree) (i : ℕ)
    → AreBlames turns p blames → slice_get blames 0 ≡ Some whole → slice_get blames i ≡ Some b → b.posterior ≤ℤ whole.posterior
