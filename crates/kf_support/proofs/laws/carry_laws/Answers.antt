use Rattle.kf_support.proofs.Nothing.{nothing_leads}
use Rattle.kf_support.proofs.Telling.{carry_tells}
use Rattle.kf_support.proofs.laws.carry_laws.Goals as goal

pub returns : goal.returns
returns c = record { tells = carry_tells c.choice_laws.ensures.shares c.run_laws.ensures.positive; nothing = nothing_leads }
