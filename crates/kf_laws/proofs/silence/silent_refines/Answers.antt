use Rattle.kf_laws.proofs.SilentRefines.{silent_refined}
use Rattle.kf_laws.proofs.silence.silent_refines.Goals as goal

pub returns : goal.returns
returns c = silent_refined c.silent_laws.ensures.left
