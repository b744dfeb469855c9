-- Believed: leakage reports: what is to be gained before and after a trace is seen (Alvim et al. 2020).
use Rattle.std.specs.Prelude.{◌≡◌, ℕ, ◌*◌, ℤ, List}
use Rattle.kf_column.specs.Hypers.{Inner}
use Rattle.kf_gain.specs.Gains.{GainOf, TableTree, over_of}
use Rattle.kf_gain.specs.Vulnerabilities.{IsPrior, IsPosterior}

-- prior and posterior vulnerability, both as numbers over `whole`
pub record Leakage : Type 0 where
  pub prior : ℤ
  pub posterior : ℤ
  pub whole : ℕ

-- they are those of a hyper's inners under a gain, over the hyper's scale times the gain's `over`
pub record IsLeakage (g : GainOf TableTree) (scale : ℕ) (inners : List Inner) (l : Leakage) : Type 0 where
  pub prior : IsPrior g inners l.prior
  pub posterior : IsPosterior g inners l.posterior
  pub whole : l.whole ≡ scale * over_of g
