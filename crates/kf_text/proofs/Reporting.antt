-- The lines of a report's own fractions are those of the numbers that it has.
use Rattle.std.proofs.Common.{◌≡◌, Bool, true, false, ℤ, pos, ◌-ℤ◌, ◌<ℤ◌, ◌≤ℤ◌, unsigned_abs, suc, zero, None, Some, refl, sym, ◌∙◌, ap, codes, arith, if◌then◌else◌}
use Rattle.std.proofs.Math.IntN.{negsuc}
use Rattle.std.proofs.lemmas.Bool.{lt-ltb}
use Rattle.std.proofs.lemmas.Int.{ints}
use Rattle.std.specs.Int.{is_positive}
use Rattle.std.specs.declared.option.Option.{Option}
use Rattle.kf_frac.specs.declared.frac.Frac.{Frac}
use Rattle.kf_frac.specs.Fractions.{fraction_text}
use Rattle.kf_gain.specs.Gains.{GainOf}
use Rattle.kf_report.specs.Reports.{Leakage}
use Rattle.kf_report.specs.Views.{IsQuotient, IsReport}
use Rattle.kf_report.specs.declared.report.Report.{Report}
use Rattle.kf_text.specs.ReportTexts.{gain_text, quotient_text, report_text}
use Rattle.kf_text.specs.Views.{own_quotient_text, own_lines}
use Rattle.kf_text.proofs.Printing.{same_text}
use Rattle.kf_text.specs.Parts.{report_lines}

up : (y : ℤ) → pos 0 <ℤ y → is_positive y ≡ true
up (pos zero) above = absurd (omega (arith, ints))
up (pos (suc n)) above = lt-ltb 0 (suc n) (omega arith)
up (negsuc n) above = absurd (omega (arith, ints))

not_up : (y : ℤ) → y ≤ℤ pos 0 → is_positive y ≡ false
not_up (pos zero) below = refl
not_up (pos (suc n)) below = absurd (omega (arith, ints))
not_up (negsuc n) below = refl

chosen : (l : Leakage) (b : Bool) → is_positive l.prior ≡ b → quotient_text l ≡ (if b then fraction_text l.posterior (unsigned_abs l.prior) else codes "undefined")
chosen l b is = ap (λ (test : Bool). if test then fraction_text l.posterior (unsigned_abs l.prior) else codes "undefined") is

same_quotient : (l : Leakage) (q : Option Frac) → IsQuotient l q → own_quotient_text q ≡ quotient_text l
same_quotient l None is = sym (chosen l false (not_up l.prior is))
same_quotient l (Some f) is = same_text f l.posterior (unsigned_abs l.prior) is.1 ∙ sym (chosen l true (up l.prior is.0))

pub same_report : {T : Type 0} (g : GainOf T) (r : Report) (l : Leakage) → IsReport l r → own_lines g r ≡ report_text g l
same_report g r l is =
    let prior = same_text r.prior l.prior l.whole is.pair.prior in
    let posterior = same_text r.posterior l.posterior l.whole is.pair.posterior in
    let quotient = same_quotient l r.quotient is.quotient in
    let difference = same_text r.difference (l.posterior -ℤ l.prior) l.whole is.difference in
    λ i. report_lines (gain_text g) (prior i) (posterior i) (quotient i) (difference i)
