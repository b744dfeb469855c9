use Rattle.std.proofs.Common.{ℕ, List, [], ◌∷◌, ap, refl}
use Rattle.kf_top.specs.Views.{command_on_two, shown}
use Rattle.kf_words.specs.Task.{tables_of}
use Rattle.kf_top.proofs.Readings.{counts_as, counts_next, none_read, one_read_as}
use Rattle.kf_top.proofs.about.answer_two.Goals as goal

pub returns-in-Refine-clause-answer : goal.returns-in-Refine-clause-answer
returns-in-Refine-clause-answer g c = rw c.in-Refine.is (none_read _ _ _ shown c.refine.result _ c.refine.ensures.answer)

pub returns-in-Refine-clause-counts : goal.returns-in-Refine-clause-counts
returns-in-Refine-clause-counts g c = counts_next (tables_of (command_on_two c.args.question)) _ _ c.refine.result refl c.refine.ensures.read

pub returns-in-Compose-clause-answer : goal.returns-in-Compose-clause-answer
returns-in-Compose-clause-answer g c = rw c.in-Compose.is (none_read _ _ _ shown c.composed_capacities.result _ c.composed_capacities.ensures.answer)

pub returns-in-Compose-clause-counts : goal.returns-in-Compose-clause-counts
returns-in-Compose-clause-counts g c = counts_next (tables_of (command_on_two c.args.question)) _ _ c.composed_capacities.result refl c.composed_capacities.ensures.read

pub returns-in-Check-clause-answer : goal.returns-in-Check-clause-answer
returns-in-Check-clause-answer g c =
    rw c.in-Check.is (one_read_as _ _ _ c.in-Check.cert.now c.as_str.result.now c.as_str.ensures shown c.check.result _ c.check.ensures.answer)

pub returns-in-Check-clause-counts : goal.returns-in-Check-clause-counts
returns-in-Check-clause-counts g c =
    rw c.in-Check.is (counts_as _ _ (c.in-Check.cert.now ∷ []) (c.as_str.result.now ∷ []) (ap (λ (n : List ℕ). n ∷ []) c.as_str.ensures) c.check.result c.check.ensures.counts)
