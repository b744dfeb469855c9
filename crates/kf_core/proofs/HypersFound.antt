-- A joint has exactly one hyper: that of the columns of its rows.
use Rattle.std.proofs.Common.{List, All, map, subst}
use Rattle.std.proofs.lemmas.List.Elements.{All-from_recursion, recursion_from_All}
use Rattle.kf_value.proofs.ListLemmas.{each_map}
use Rattle.kf_column.specs.Columns.{IsColumn}
use Rattle.kf_column.specs.Hypers.{IsHyper}
use Rattle.kf_column.specs.Laws.{SomeHyper, AtMostOneHyper}
use Rattle.kf_column.specs.Traces.{Row}
use Rattle.kf_core.specs.JointLaws.{HypersExist, HypersAreOne}
use Rattle.kf_core.proofs.OneTable.{one_table}
use Rattle.kf_core.proofs.RowsFound.{rows_exist}

all_columns : (rows : List Row) → All (λ r. IsColumn r.column) rows → All IsColumn (map (λ (r : Row). r.column) rows)
all_columns rows h =
    All-from_recursion IsColumn (map (λ (r : Row). r.column) rows) (each_map IsColumn (λ (r : Row). r.column) rows (recursion_from_All (λ (r : Row). IsColumn r.column) rows h))

pub hypers_exist : SomeHyper → HypersExist
hypers_exist some joint =
    let rows = rows_exist joint in
    let found = some (map (λ (r : Row). r.column) rows.0) (all_columns rows.0 rows.1.columns) in
    (found.0, record { rows = rows.0; are_rows = rows.1; is_hyper = found.1 })

pub hypers_are_one : AtMostOneHyper → HypersAreOne
hypers_are_one one joint is js p q =
    let rows = one_table joint p.rows q.rows p.are_rows q.are_rows in
    one (map (λ (r : Row). r.column) q.rows) is js (subst (λ (rs : List Row). IsHyper (map (λ (r : Row). r.column) rs) is) rows p.is_hyper) q.is_hyper
