-- The numbers of a report are within the limit.
use Rattle.std.proofs.Common.{ℕ, ◌*◌, ◌<◌, ◌≤◌, ℤ, List, arith}
use Rattle.kf_frac.specs.Fractions.{limit}
use Rattle.kf_frac.proofs.CommonMultiples.{product_positive}
use Rattle.kf_column.specs.Hypers.{Inner}
use Rattle.kf_column.specs.Shapes.{IsShape}
use Rattle.kf_gain.specs.declared.gain.Gain.{Gain}
use Rattle.kf_gain.specs.declared.gain.Gain.TheVariants as gain
use Rattle.kf_gain.specs.Gains.{over_of}
use Rattle.kf_gain.specs.Laws.{WidthBounds}
use Rattle.kf_gain.specs.Views.{gain_tree}
use Rattle.kf_gain.specs.Vulnerabilities.{IsPrior, IsPosterior, IsWidth}
use Rattle.kf_report.specs.Reports.{Leakage}
use Rattle.kf_report.specs.Views.{IsNarrow}

over_positive : (g : Gain) → 0 < over_of (gain_tree g)
over_positive gain.Bayes = omega arith
over_positive (gain.Tries k) = omega arith
over_positive gain.Guessing = omega arith
over_positive (gain.Table t) = t.shape.positive

-- the numbers of a hyper under a gain
abbrev pub leakage : Gain → ℕ → ℤ → ℤ → Leakage
leakage g scale y z = record { prior = y; posterior = z; whole = scale * over_of (gain_tree g) }

pub narrow_leakage : (law : WidthBounds) (g : Gain) (size scale m : ℕ) (inners : List Inner) (y z : ℤ) → IsShape size scale inners
    → IsWidth (gain_tree g) inners m → scale * m ≤ limit → IsPrior (gain_tree g) inners y → IsPosterior (gain_tree g) inners z → IsNarrow (leakage g scale y z)
narrow_leakage law g size scale m inners y z shape width fits first second =
    let bounds = law size scale m (gain_tree g) inners y z shape width first second in
    record {
      some = product_positive scale (over_of (gain_tree g)) shape.some (over_positive g);
      whole = let low = bounds.3 in omega arith;
      prior = let low = bounds.0 in omega arith;
      posterior = let low = bounds.1 in omega arith;
      difference = let low = bounds.2 in omega arith;
    }
