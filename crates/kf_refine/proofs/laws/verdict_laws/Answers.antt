use Rattle.kf_refine.proofs.Certifying.{verdicts_prove, decides}
use Rattle.kf_refine.proofs.Separating.{nothing_separates}
use Rattle.kf_refine.proofs.laws.verdict_laws.Goals as goal

pub returns-clause-prove : goal.returns-clause-prove
returns-clause-prove c = verdicts_prove

pub returns-clause-decide : goal.returns-clause-decide
returns-clause-decide c = decides nothing_separates
