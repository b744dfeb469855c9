use Rattle.kf_refine.proofs.Composing.{transitive}
use Rattle.kf_refine.proofs.Matrices.{reflexive}
use Rattle.kf_refine.proofs.Separating.{nothing_separates}
use Rattle.kf_refine.proofs.laws.refine_laws.Goals as goal

pub returns-clause-nothing_separates : goal.returns-clause-nothing_separates
returns-clause-nothing_separates c = nothing_separates

pub returns-clause-reflexive : goal.returns-clause-reflexive
returns-clause-reflexive c = reflexive

pub returns-clause-transitive : goal.returns-clause-transitive
returns-clause-transitive c = transitive
