use Rattle.kf_gain.proofs.TableOnce.{one_table}
use Rattle.kf_gain.proofs.TableSome.{some_table, tables_have_actions}
use Rattle.kf_gain.proofs.table_law.table_laws.Goals as goal

pub returns-clause-some : goal.returns-clause-some
returns-clause-some c = some_table

pub returns-clause-one : goal.returns-clause-one
returns-clause-one c = one_table

pub returns-clause-actions : goal.returns-clause-actions
returns-clause-actions c = tables_have_actions
