use Rattle.kf_prior.proofs.PriorLaws.{carries_for_all, separates_at_uniform}
use Rattle.kf_prior.proofs.laws.prior_laws.Goals as goal

pub returns-clause-carries : goal.returns-clause-carries
returns-clause-carries c = carries_for_all c.full_laws.ensures.built c.type_laws.ensures.checked c.full_laws.ensures.begins c.run_laws.ensures.positive c.run_laws.ensures.least

pub returns-clause-separates : goal.returns-clause-separates
returns-clause-separates c = separates_at_uniform c.full_laws.ensures.built c.type_laws.ensures.checked c.full_laws.ensures.begins c.run_laws.ensures.positive c.run_laws.ensures.least
