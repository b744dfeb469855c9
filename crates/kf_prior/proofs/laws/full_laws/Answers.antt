use Rattle.kf_prior.proofs.BeginPrograms.{full_begins}
use Rattle.kf_prior.proofs.FullTargets.{full_square}
use Rattle.kf_prior.proofs.FullTypes.{full_is_built}
use Rattle.kf_prior.proofs.laws.full_laws.Goals as goal

pub returns-clause-built : goal.returns-clause-built
returns-clause-built c = full_is_built c.type_laws.ensures.sizes

pub returns-clause-square : goal.returns-clause-square
returns-clause-square c = full_square (full_is_built c.type_laws.ensures.sizes) c.type_laws.ensures.checked

pub returns-clause-begins : goal.returns-clause-begins
returns-clause-begins c = full_begins c.type_laws.ensures.sizes c.type_laws.ensures.checked
