use Rattle.std.proofs.Common.{◌≡◌, refl}
use Rattle.kf_ops.specs.declared.table.TheConstants.{CODES}
use Rattle.kf_ops.specs.Rows.{operators}
use Rattle.kf_ops.specs.Table.{codes_of}
use Rattle.kf_ops.proofs.Applying.{code_listed}
use Rattle.kf_ops.proofs.facts.operator_at.Goals as goal

pub returns : goal.returns
returns c = let same : codes_of operators ≡ CODES = refl in code_listed CODES c.args.row _ same
