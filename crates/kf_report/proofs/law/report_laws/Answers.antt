use Rattle.kf_report.proofs.Uniqueness.{some_leakage, one_leakage}
use Rattle.kf_report.proofs.law.report_laws.Goals as goal

pub returns : goal.returns
returns c = record { some = some_leakage c.gain_laws.ensures.some; one = one_leakage c.gain_laws.ensures.one }
