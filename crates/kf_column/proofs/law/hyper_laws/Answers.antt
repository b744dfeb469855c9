use Rattle.kf_column.proofs.Weighing.{joint_column_weighs, classes_weigh, averages_weigh}
use Rattle.kf_column.proofs.law.hyper_laws.Goals as goal

pub returns-clause-column : goal.returns-clause-column
returns-clause-column c = joint_column_weighs

pub returns-clause-classes : goal.returns-clause-classes
returns-clause-classes c = classes_weigh

pub returns-clause-average : goal.returns-clause-average
returns-clause-average c = averages_weigh
