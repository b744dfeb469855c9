use Rattle.kf_quiet.proofs.Widths.{same_width}
use Rattle.kf_quiet.proofs.Refining.{leaks_no_more, none_leaks_more}
use Rattle.kf_quiet.proofs.laws.silent_gain_laws.Goals as goal

pub returns : goal.returns
returns c = record { width = same_width; no_more = leaks_no_more; none_more = none_leaks_more }
