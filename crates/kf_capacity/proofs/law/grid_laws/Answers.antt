use Rattle.kf_capacity.proofs.Denominators.{least_denominator}
use Rattle.kf_capacity.proofs.Choices.{choice_is_stochastic}
use Rattle.kf_capacity.proofs.Passing.{cascade_is_stochastic}
use Rattle.kf_capacity.proofs.Products.{parallel_is_stochastic}
use Rattle.kf_capacity.proofs.law.grid_laws.Goals as goal

pub returns-clause-denominator : goal.returns-clause-denominator
returns-clause-denominator c = least_denominator

pub returns-clause-cascade : goal.returns-clause-cascade
returns-clause-cascade c = cascade_is_stochastic

pub returns-clause-parallel : goal.returns-clause-parallel
returns-clause-parallel c = parallel_is_stochastic

pub returns-clause-choice : goal.returns-clause-choice
returns-clause-choice c = choice_is_stochastic
