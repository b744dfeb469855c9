use Rattle.kf_column.proofs.Numbers.{projected_numbers}
use Rattle.kf_column.proofs.law.projection_laws.Goals as goal

pub returns : goal.returns
returns c = projected_numbers
