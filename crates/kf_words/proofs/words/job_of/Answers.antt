use Rattle.std.proofs.Common.{rules, refl, sym, ap, ◌∙◌, []}
use Rattle.std.specs.Prelude.{option_map}
use Rattle.kf_words.specs.Jobs.{task_of_job}
use Rattle.kf_words.specs.CommandViews.{row_meant, arguments_meant}
use Rattle.kf_words.proofs.TableRows.{asked, unasked}
use Rattle.kf_words.proofs.words.job_of.Goals as goal

pub returns-in-None-clause-usage : goal.returns-in-None-clause-usage
returns-in-None-clause-usage c = λ is.
    unasked (arguments_meant c.args.arguments) c.args.arguments.values.now (record { ref_ptr = (0, 0); now = [] }) (row_meant c.in-Some.row) refl (search rules) (search rules)
    (c.in_ok-job.ensures.none c.in-None.is)

pub returns-in-Some-2-clause-job : goal.returns-in-Some-2-clause-job
returns-in-Some-2-clause-job c =
    asked (arguments_meant c.args.arguments) c.args.arguments.values.now (record { ref_ptr = (0, 0); now = [] }) (row_meant c.in-Some.row) refl (search rules) (search rules)
    c.in-Some-turns_or_default.turns (task_of_job c.in-Some-2.job) c.if-values-row.false (sym c.options_fit.ensures ∙ c.if-not-options_fit.false)
    (sym c.in-Some-turns_or_default.ensures.value) (ap (option_map task_of_job) (sym c.in-Some-2.is) ∙ c.in_ok-job.ensures.job)

pub job_on-requires : goal.job_on-requires
job_on-requires c = c.if-values-row.false ∙ c.in-Some.ensures.values

pub returns-in-Some-2-clause-turns : goal.returns-in-Some-2-clause-turns
returns-in-Some-2-clause-turns c = rw (rw c.in-Some-2.is at c.in_ok-job.ensures.turns) c.in-Some-turns_or_default.ensures.range

pub returns-in-Some-2-clause-range : goal.returns-in-Some-2-clause-range
returns-in-Some-2-clause-range c = rw c.in-Some-2.is at c.in_ok-job.ensures.range
