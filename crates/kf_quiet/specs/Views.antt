-- For bodies: what contracts see of blames.
use Rattle.std.specs.Prelude.{◌≡◌, ℕ, List}
use Rattle.std.specs.List.{AllZip}
use Rattle.kf_frac.specs.Parts.{IsFraction}
use Rattle.kf_core.specs.Joint.{Cell}
use Rattle.kf_gain.specs.Gains.{Bayes}
use Rattle.kf_quiet.specs.declared.blame.Blame.{Blame}
use Rattle.kf_quiet.specs.Summaries.{SummaryTree, IsSummary}

-- it has these numbers, the vulnerability as a fraction of the scale
pub record ShowsBlame (scale : ℕ) (tree : SummaryTree) (b : Blame) : Type 0 where
  pub inners : b.inners ≡ tree.inners
  pub bayes : IsFraction b.bayes tree.posterior scale

abbrev pub ShowBlames : ℕ → List SummaryTree → List Blame → Type 0
ShowBlames scale trees blames = AllZip (ShowsBlame scale) trees blames

-- it shows the blame of this joint
pub record ShowsBlameOf (joint : List Cell) (scale : ℕ) (b : Blame) : Type 0 where
  pub tree : SummaryTree
  pub is : IsSummary Bayes joint tree
  pub shows : ShowsBlame scale tree b
