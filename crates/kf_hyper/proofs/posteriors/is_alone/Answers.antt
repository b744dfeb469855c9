use Rattle.std.proofs.Common.{subst, arith}
use Rattle.kf_column.specs.Columns.{IsColumn}
use Rattle.kf_column.proofs.Beliefs.{merged_empty, merged_alone}
use Rattle.kf_hyper.proofs.posteriors.is_alone.Goals as goal

pub returns-in-empty : goal.returns-in-empty
returns-in-empty c = λ _. merged_empty c.args.columns.now (omega (arith, c.in-empty.len_below))

pub returns-in-len1 : goal.returns-in-len1
returns-in-len1 c =
    λ _.
    merged_alone c.args.columns.now c.column-item.result (omega (arith, c.in-len1.len_at_least)) (omega (arith, c.in-len1.len_below)) c.column-item.is
    (subst IsColumn c.entries.ensures.kept c.entries.ensures.column)
