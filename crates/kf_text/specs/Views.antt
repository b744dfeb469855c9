-- For bodies: what a report's own fractions print as.
use Rattle.std.specs.Prelude.{ℕ, List, codes, None, Some}
use Rattle.std.specs.declared.option.Option.{Option}
use Rattle.kf_frac.specs.Fractions.{fraction_text}
use Rattle.kf_frac.specs.Views.{num_of, den_of}
use Rattle.kf_frac.specs.declared.frac.Frac.{Frac}
use Rattle.kf_gain.specs.Gains.{GainOf}
use Rattle.kf_report.specs.declared.report.Report.{Report}
use Rattle.kf_text.specs.ReportTexts.{gain_text}
use Rattle.kf_text.specs.Parts.{report_lines}

abbrev pub own_text : Frac → List ℕ
own_text f = fraction_text (num_of f) (den_of f)

abbrev pub own_quotient_text : Option Frac → List ℕ
own_quotient_text None = codes "undefined"
own_quotient_text (Some f) = own_text f

-- the lines of the fractions that a report has, whatever they are
abbrev pub own_lines : {T : Type 0} → GainOf T → Report → List ℕ
own_lines g r = report_lines (gain_text g) (own_text r.prior) (own_text r.posterior) (own_quotient_text r.quotient) (own_text r.difference)
