-- Believed: printed leakage reports.
use Rattle.std.specs.Prelude.{ℕ, ◌-ℤ◌, List, ◌++◌, codes, decimal, unsigned_abs, if◌then◌else◌}
use Rattle.std.specs.Int.{is_positive}
use Rattle.kf_frac.specs.Fractions.{fraction_text}
use Rattle.kf_gain.specs.Gains.{GainOf, Bayes, Tries, Guessing, Table}
use Rattle.kf_report.specs.Reports.{Leakage}
use Rattle.kf_text.specs.Texts.{line}

-- a gain's name; a table has none of its own
abbrev pub gain_text : {T : Type 0} → GainOf T → List ℕ
gain_text Bayes = codes "bayes"
gain_text (Tries k) = codes "tries " ++ decimal k
gain_text Guessing = codes "guessing"
gain_text (Table t) = codes "table"

-- the posterior over the prior, where that is above 0
abbrev pub quotient_text : Leakage → List ℕ
quotient_text l = if is_positive l.prior then fraction_text l.posterior (unsigned_abs l.prior) else codes "undefined"

-- the gain, prior and posterior, their quotient, and the posterior minus the prior
abbrev pub report_text : {T : Type 0} → GainOf T → Leakage → List ℕ
report_text g l =
    line (codes "gain " ++ gain_text g)
    ++ (line (codes "prior " ++ fraction_text l.prior l.whole)
    ++ (line (codes "posterior " ++ fraction_text l.posterior l.whole)
    ++ (line (codes "quotient " ++ quotient_text l) ++ line (codes "difference " ++ fraction_text (l.posterior -ℤ l.prior) l.whole))))
