use Rattle.kf_quiet.proofs.Hushed.{no_more, none_passes}
use Rattle.kf_quiet.proofs.laws.quiet_laws.Goals as goal

pub returns : goal.returns
returns c = record { no_more = no_more c.run_laws.ensures.sequence; blames = none_passes c.run_laws.ensures.sequence }
