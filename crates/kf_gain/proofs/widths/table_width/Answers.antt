use Rattle.std.proofs.Common.{arith}
use Rattle.kf_frac.specs.Fractions.{limit}
use Rattle.kf_gain.specs.Views.{table_tree}
use Rattle.kf_gain.specs.Vulnerabilities.{gains_of}
use Rattle.kf_gain.proofs.Acting.{greatest_limit}
use Rattle.kf_gain.proofs.widths.table_width.Goals as goal

pub overflow_mul-greatest_gain : goal.overflow_mul-greatest_gain
overflow_mul-greatest_gain c = omega (arith, c.greatest_gain.ensures, greatest_limit limit (gains_of (table_tree c.args.table.now)) c.args.table.now.shape.within)
