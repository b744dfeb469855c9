use Rattle.kf_capacity.proofs.Choices.{choice_is_mean}
use Rattle.kf_capacity.proofs.Passing.{nothing_is_gained, cascade_is_bounded}
use Rattle.kf_capacity.proofs.Products.{parallel_is_bounded}
use Rattle.kf_capacity.proofs.law.composition_laws.Goals as goal

pub returns-clause-gained : goal.returns-clause-gained
returns-clause-gained c = nothing_is_gained

pub returns-clause-cascade : goal.returns-clause-cascade
returns-clause-cascade c = cascade_is_bounded

pub returns-clause-parallel : goal.returns-clause-parallel
returns-clause-parallel c = parallel_is_bounded

pub returns-clause-choice : goal.returns-clause-choice
returns-clause-choice c = choice_is_mean
