use Rattle.kf_laws.proofs.HeldFiles.{ends_over}
use Rattle.kf_laws.proofs.definitions.told_answers.Goals as goal

pub returns : goal.returns
returns c = ends_over
