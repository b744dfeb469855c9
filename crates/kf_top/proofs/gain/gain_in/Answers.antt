use Rattle.std.proofs.Common.{ℕ, List, [], ◌∷◌, ap, refl}
use Rattle.std.proofs.lemmas.Result.{err_from_is_err_and}
use Rattle.kf_gain.specs.Gains.{Bayes, Guessing, Tries}
use Rattle.kf_gain.specs.Views.{gain_tree}
use Rattle.kf_value.specs.Views.{items_of}
use Rattle.kf_top.specs.Answer.{GainIn}
use Rattle.kf_top.proofs.Readings.{none_read, stop_counts_as, table_read, table_stops}
use Rattle.kf_top.proofs.gain.gain_in.Goals as goal

pub returns-in-Bayes-clause-answer : goal.returns-in-Bayes-clause-answer
returns-in-Bayes-clause-answer g c = rw c.in-Bayes.is (none_read _ _ _ gain_tree _ (GainIn (items_of c.args.target.now) Bayes) refl)

pub returns-in-Tries-clause-answer : goal.returns-in-Tries-clause-answer
returns-in-Tries-clause-answer g c = rw c.in-Tries.is (none_read _ _ _ gain_tree _ (GainIn (items_of c.args.target.now) (Tries c.in-Tries.k)) refl)

pub returns-in-Guessing-clause-answer : goal.returns-in-Guessing-clause-answer
returns-in-Guessing-clause-answer g c = rw c.in-Guessing.is (none_read _ _ _ gain_tree _ (GainIn (items_of c.args.target.now) Guessing) refl)

pub returns-in_err-table-in-Table-clause-answer : goal.returns-in_err-table-in-Table-clause-answer
returns-in_err-table-in-Table-clause-answer g c =
    let p = err_from_is_err_and c.from_residual.result c.from_residual.ensures.1 in
    rw (p.1, p.2, c.in-Table.is) (table_stops _ _ _ c.in-Table.name c.as_str.result.now c.as_str.ensures (items_of c.args.target.now)
    c.in_err-table-in-Table.field-0.0 c.in_err-table-in-Table.ensures.answer)

pub returns-in_err-table-in-Table-clause-counts : goal.returns-in_err-table-in-Table-clause-counts
returns-in_err-table-in-Table-clause-counts g c =
    let p = err_from_is_err_and c.from_residual.result c.from_residual.ensures.1 in
    let stop = c.in_err-table-in-Table.field-0.0 in
    rw (p.1, p.2, c.in-Table.is) (stop_counts_as _ _ (c.in-Table.name ∷ []) (c.as_str.result.now ∷ []) (ap (λ (n : List ℕ). n ∷ []) c.as_str.ensures) stop
    c.in_err-table-in-Table.ensures.counts)

pub returns-in_ok-table-in-Table-clause-answer : goal.returns-in_ok-table-in-Table-clause-answer
returns-in_ok-table-in-Table-clause-answer g c =
    rw c.in-Table.is (table_read _ _ _ c.in-Table.name c.as_str.result.now c.as_str.ensures (items_of c.args.target.now) c.in_ok-table-in-Table.table
    c.in_ok-table-in-Table.ensures.answer)
