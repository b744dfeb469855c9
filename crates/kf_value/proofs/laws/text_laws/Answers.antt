use Rattle.kf_value.proofs.Apart.{items_apart}
use Rattle.kf_value.proofs.laws.text_laws.Goals as goal

pub returns : goal.returns
returns c = items_apart
