-- Believed: how much is seen of a joint: how many inners its hyper has, and the posterior vulnerability.
use Rattle.std.specs.Prelude.{ℕ, ℤ, ◌≡◌, List, length}
use Rattle.kf_core.specs.Joint.{Cell}
use Rattle.kf_core.specs.Rows.{IsHyperOf}
use Rattle.kf_gain.specs.Gains.{GainOf, TableTree}
use Rattle.kf_gain.specs.Vulnerabilities.{IsPosterior}
use Rattle.kf_column.specs.Hypers.{Inner}

-- how many inners a hyper has, and its posterior vulnerability under a gain, as a number over the scale times the gain's `over`
pub record SummaryTree : Type 0 where
  pub inners : ℕ
  pub posterior : ℤ

-- those of the hyper of a joint
pub record IsSummary (g : GainOf TableTree) (joint : List Cell) (s : SummaryTree) : Type 0 where
  pub inners : List Inner
  pub is_hyper : IsHyperOf joint inners
  pub counted : s.inners ≡ length inners
  pub posterior : IsPosterior g inners s.posterior
