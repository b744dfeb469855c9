-- For bodies: what a gain table keeps.
use Rattle.std.specs.Prelude.{◌≢◌, ◌<◌, ◌≤◌, [], map, All, unsigned_abs}
use Rattle.std.specs.List.Sorted.{IsStrictlyIncreasing}
use Rattle.kf_frac.specs.Fractions.{limit}
use Rattle.kf_gain.specs.Gains.{TableTree}
use Rattle.kf_gain.specs.Vulnerabilities.{gains_of}

-- at least one action, each value once in each and in ascending order, and no number past 2^127 - 1
pub record IsTableShape (t : TableTree) : Type 0 where
  pub positive : 0 < t.over
  pub narrow : t.over ≤ limit
  pub some : t.actions ≢ []
  pub ascending : All (λ a. IsStrictlyIncreasing (map (λ e. e.value) a.gains)) t.actions
  pub within : All (λ z. unsigned_abs z ≤ limit) (gains_of t)
