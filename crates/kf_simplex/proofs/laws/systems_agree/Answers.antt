use Rattle.kf_simplex.proofs.Agreeing.{agrees_both_ways, agrees_as_system, agrees_in_runs, agrees_in_ends, agrees_in_solutions, agrees_in_multipliers, agrees_in_outcomes, agrees_in_answers}
use Rattle.kf_simplex.proofs.laws.systems_agree.Goals as goal

pub returns-clause-both_ways : goal.returns-clause-both_ways
returns-clause-both_ways c = agrees_both_ways

pub returns-clause-system : goal.returns-clause-system
returns-clause-system c = agrees_as_system

pub returns-clause-runs : goal.returns-clause-runs
returns-clause-runs c = agrees_in_runs

pub returns-clause-ends : goal.returns-clause-ends
returns-clause-ends c = agrees_in_ends

pub returns-clause-solutions : goal.returns-clause-solutions
returns-clause-solutions c = agrees_in_solutions

pub returns-clause-multipliers : goal.returns-clause-multipliers
returns-clause-multipliers c = agrees_in_multipliers

pub returns-clause-outcomes : goal.returns-clause-outcomes
returns-clause-outcomes c = agrees_in_outcomes

pub returns-clause-answers : goal.returns-clause-answers
returns-clause-answers c = agrees_in_answers
