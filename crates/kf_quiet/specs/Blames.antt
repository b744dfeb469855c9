-- Believed: how much is seen of a program, and how much is left where one of its outermost statements is quiet.
use Rattle.std.specs.Prelude.{◌≡◌, ℕ, suc, List, length, slice_get, Some}
use Rattle.kf_core.specs.Joint.{joint_of}
use Rattle.kf_core.specs.Programs.{ProgramTree}
use Rattle.kf_gain.specs.Gains.{Bayes}
use Rattle.kf_silent.specs.Quiet.{quiet_joint}
use Rattle.kf_quiet.specs.Summaries.{SummaryTree, IsSummary}

-- first those of the program, then those where each outermost statement in turn is quiet
pub record AreBlames (turns : ℕ) (p : ProgramTree) (blames : List SummaryTree) : Type 0 where
  pub long : length blames ≡ suc (length p.body)
  pub whole : (b : SummaryTree) → slice_get blames 0 ≡ Some b → IsSummary Bayes (joint_of turns p) b
  pub without : (i : ℕ) (b : SummaryTree) → slice_get blames (suc i) ≡ Some b → IsSummary Bayes (quiet_joint turns p i (suc i)) b
