use Rattle.kf_column.proofs.Beliefs.{some_merged, one_merged, merged_columns, merged_weights}
use Rattle.kf_column.proofs.Beliefs.{merged_distinct, merged_beliefs, merged_again, totals_tell, totals_told}
use Rattle.kf_column.proofs.law.merge_laws.Goals as goal

pub returns-clause-some : goal.returns-clause-some
returns-clause-some c = some_merged

pub returns-clause-at_most_one : goal.returns-clause-at_most_one
returns-clause-at_most_one c = one_merged

pub returns-clause-columns : goal.returns-clause-columns
returns-clause-columns c = merged_columns

pub returns-clause-sums : goal.returns-clause-sums
returns-clause-sums c = merged_weights

pub returns-clause-apart : goal.returns-clause-apart
returns-clause-apart c = merged_distinct

pub returns-clause-beliefs : goal.returns-clause-beliefs
returns-clause-beliefs c = merged_beliefs

pub returns-clause-again : goal.returns-clause-again
returns-clause-again c = merged_again

pub returns-clause-totals : goal.returns-clause-totals
returns-clause-totals c = λ columns others are were. (totals_told columns others are were, totals_tell columns others are were)
