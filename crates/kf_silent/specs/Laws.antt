-- For bodies: laws of silent statements.
use Rattle.std.specs.Prelude.{◌≡◌, ℕ, suc, ◌≤◌, ◌<◌, ◌⊎◌, Bool, true, false, List, [], ◌∷◌, map}
use Rattle.kf_value.specs.Types.{TypeTree}
use Rattle.kf_value.specs.Values.{ValueTree}
use Rattle.kf_column.specs.Averages.{average_weight}
use Rattle.kf_column.specs.Hypers.{Inner}
use Rattle.kf_core.specs.Joint.{Cell, joint_of}
use Rattle.kf_core.specs.Programs.{ProgramTree}
use Rattle.kf_core.specs.Rows.{IsHyperOf}
use Rattle.kf_core.specs.Sts.{StTree, sts}
use Rattle.kf_push.specs.Merging.{SplitsOnce}
use Rattle.kf_silent.specs.Quiet.{quiet_joint}
use Rattle.kf_silent.specs.Silent.{Path, all_silent_runs, silent_joint, within}
use Rattle.kf_silent.specs.Paths.{IsPath, only}

-- the set has each outermost statement with a place in this range, and nothing that stands outside of the range
pub record IsRange (silent : Path → Bool) (from to : ℕ) : Type 0 where
  pub inside : (i : ℕ) → from ≤ i → i < to → silent (i ∷ []) ≡ true
  pub outside : (i : ℕ) (path : Path) → (i < from) ⊎ (to ≤ i) → silent (i ∷ path) ≡ false

-- where nothing is silent, the joint is the program's own
abbrev pub NothingIsSilent : Type 0
NothingIsSilent = (silent : Path → Bool) (turns : ℕ) (p : ProgramTree) → ((path : Path) → silent path ≡ false)
    → silent_joint silent turns p ≡ joint_of turns p

-- where a range of outermost statements is silent, it is that of the program with this block quiet
abbrev pub SilentIsQuiet : Type 0
SilentIsQuiet = (silent : Path → Bool) (turns : ℕ) (p : ProgramTree) (from to : ℕ) → from ≤ to → IsRange silent from to
    → silent_joint silent turns p ≡ quiet_joint turns p from to

-- so it is with one of them alone
abbrev pub OneIsQuiet : Type 0
OneIsQuiet = (turns : ℕ) (p : ProgramTree) (i : ℕ) → silent_joint (only (i ∷ [])) turns p ≡ quiet_joint turns p i (suc i)

-- what is left of a trace is no proper front of what is left of another
abbrev pub NoSilentTraceGoesOn : Type 0
NoSilentTraceGoesOn = (silent : Path → Bool) (ts : List TypeTree) (turns i : ℕ) (xs : List StTree)
    → SplitsOnce (all_silent_runs silent ts turns i (sts xs))

-- a statement of a program at the path, or one that it stands in, is silent; the path goes on from within a statement, or begins in a block
abbrev mutual
  pub IsSilentWithin : (Path → Bool) → Path → Type 0
  IsSilentWithin silent [] = silent [] ≡ true
  IsSilentWithin silent (side ∷ path) = (silent [] ≡ true) ⊎ IsSilentAmong (within silent side) path

  pub IsSilentAmong : (Path → Bool) → Path → Type 0
  IsSilentAmong silent [] = ⊥
  IsSilentAmong silent (i ∷ path) = IsSilentWithin (within silent i) path

-- each statement of the program that is of the one set is of the other, or stands in one that is
abbrev pub AreSilentToo : ProgramTree → (Path → Bool) → (Path → Bool) → Type 0
AreSilentToo p silent more = (path : Path) → IsPath p.body path → silent path ≡ true → IsSilentAmong more path

-- a cell with what this function leaves of its trace
abbrev pub retrace : (List ValueTree → List ValueTree) → Cell → Cell
retrace f c = record c { trace = f c.trace }

abbrev pub retraced : (List ValueTree → List ValueTree) → List Cell → List Cell
retraced f joint = map (retrace f) joint

-- where more is silent, what is left of a trace is a function of what was left of it before
abbrev pub LeftOfTraces : Type 0
LeftOfTraces = (silent more : Path → Bool) (turns : ℕ) (p : ProgramTree) → AreSilentToo p silent more
    → (f : List ValueTree → List ValueTree) × (silent_joint more turns p ≡ retraced f (silent_joint silent turns p))

-- every program has a hyper with any statements silent
abbrev pub SomeSilent : Type 0
SomeSilent = (silent : Path → Bool) (turns : ℕ) (p : ProgramTree) → (inners : List Inner) × IsHyperOf (silent_joint silent turns p) inners

-- and only one
abbrev pub OneSilent : Type 0
OneSilent = (silent : Path → Bool) (turns : ℕ) (p : ProgramTree) (inners others : List Inner)
    → IsHyperOf (silent_joint silent turns p) inners → IsHyperOf (silent_joint silent turns p) others → inners ≡ others

-- whatever is silent, all inners together give to each value what they give to it in the whole program
abbrev pub SilentSameAverage : Type 0
SilentSameAverage = (silent : Path → Bool) (turns : ℕ) (p : ProgramTree) (all left : List Inner)
    → IsHyperOf (joint_of turns p) all → IsHyperOf (silent_joint silent turns p) left
    → (x : ℕ) → average_weight left x ≡ average_weight all x
