-- For bodies: what a report has of its numbers.
use Rattle.std.specs.Prelude.{◌<◌, ◌≤◌, pos, ◌-ℤ◌, ◌≤ℤ◌, ◌<ℤ◌, unsigned_abs, None, Some}
use Rattle.std.specs.declared.option.Option.{Option}
use Rattle.kf_frac.specs.Fractions.{limit}
use Rattle.kf_frac.specs.declared.frac.Frac.{Frac}
use Rattle.kf_frac.specs.Parts.{IsFraction}
use Rattle.kf_report.specs.Reports.{Leakage}
use Rattle.kf_report.specs.declared.report.Report.{Report}

-- these are the two vulnerabilities as fractions
pub record IsPair (l : Leakage) (before after : Frac) : Type 0 where
  pub prior : IsFraction before l.prior l.whole
  pub posterior : IsFraction after l.posterior l.whole

-- the posterior over the prior, where that is above 0
abbrev pub IsQuotient : Leakage → Option Frac → Type 0
IsQuotient l None = l.prior ≤ℤ pos 0
IsQuotient l (Some f) = (pos 0 <ℤ l.prior) × IsFraction f l.posterior (unsigned_abs l.prior)

-- the report has these numbers
pub record IsReport (l : Leakage) (r : Report) : Type 0 where
  pub pair : IsPair l r.prior r.posterior
  pub quotient : IsQuotient l r.quotient
  pub difference : IsFraction r.difference (l.posterior -ℤ l.prior) l.whole

-- the numbers are over a positive one, and they and their difference are within the limit
pub record IsNarrow (l : Leakage) : Type 0 where
  pub some : 0 < l.whole
  pub whole : l.whole ≤ limit
  pub prior : unsigned_abs l.prior ≤ limit
  pub posterior : unsigned_abs l.posterior ≤ limit
  pub difference : unsigned_abs (l.posterior -ℤ l.prior) ≤ limit
