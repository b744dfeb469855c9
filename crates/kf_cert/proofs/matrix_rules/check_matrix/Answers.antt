use Rattle.std.proofs.Common.{◌≡◌, List, map, ap, ◌∙◌, subst}
use Rattle.kf_refine.specs.Refinements.{count, IsShaped}
use Rattle.kf_refine.specs.Views.{hyper_tree, matrix_tree}
use Rattle.kf_cert.specs.Certificates.{EntryTree, Yes, matrix_of}
use Rattle.kf_cert.specs.Marks.{IsMarked, MarkedByRules}
use Rattle.kf_cert.specs.Rows.{matrix_between, rows_tree}
use Rattle.kf_cert.specs.Views.{entry_tree}
use Rattle.kf_cert.proofs.NamedRows.{rows_lowest}
use Rattle.kf_cert.proofs.Rejecting.{error_told, mark_told, rows_ordered, rows_marked}
use Rattle.kf_cert.proofs.matrix_rules.check_matrix.Goals as goal
use Rattle.kf_cert.specs.Order.{rows_entries}

pub check_entries-requires : goal.check_entries-requires
check_entries-requires c =
    let a = hyper_tree c.args.a.now in
    let b = hyper_tree c.args.b.now in
    let rows = rows_tree c.as_slice-rows.result.now in
    let shaped : IsShaped (count a) (count b) rows =
    subst (λ m. IsShaped m (count b) rows) c.count.ensures (subst (λ n. IsShaped c.count.result n rows) c.count-2.ensures (c.is_shaped.ensures.0 c.if-not-is_shaped.false)) in
    let named : map entry_tree c.as_slice.result.now ≡ rows_entries 0 rows = ap (map entry_tree) c.as_slice.ensures.value ∙ c.in_ok-entries.ensures in
    rows_ordered a b rows _ shaped (rows_lowest c.as_slice-rows.result.now) named

pub returns-clause-is : goal.returns-clause-is
returns-clause-is c =
    let a = hyper_tree c.args.a.now in
    let b = hyper_tree c.args.b.now in
    let rows = rows_tree c.as_slice-rows.result.now in
    let shaped : IsShaped (count a) (count b) rows =
    subst (λ m. IsShaped m (count b) rows) c.count.ensures (subst (λ n. IsShaped c.count.result n rows) c.count-2.ensures (c.is_shaped.ensures.0 c.if-not-is_shaped.false)) in
    let es : List EntryTree = map entry_tree c.as_slice.result.now in
    let named : es ≡ rows_entries 0 rows = ap (map entry_tree) c.as_slice.ensures.value ∙ c.in_ok-entries.ensures in
    mark_told (MarkedByRules a b (matrix_of (matrix_between a b es))) (IsMarked a b (Yes (matrix_tree c.args.matrix.now)))
    (rows_marked a b rows es shaped (rows_lowest c.as_slice-rows.result.now) named (matrix_tree c.args.matrix.now) (ap rows_tree c.as_slice-rows.ensures)) c.check_entries.result c.check_entries.ensures.is

pub returns-clause-err : goal.returns-clause-err
returns-clause-err c =
    let a = hyper_tree c.args.a.now in
    let b = hyper_tree c.args.b.now in
    let rows = rows_tree c.as_slice-rows.result.now in
    let shaped : IsShaped (count a) (count b) rows =
    subst (λ m. IsShaped m (count b) rows) c.count.ensures (subst (λ n. IsShaped c.count.result n rows) c.count-2.ensures (c.is_shaped.ensures.0 c.if-not-is_shaped.false)) in
    let es : List EntryTree = map entry_tree c.as_slice.result.now in
    let named : es ≡ rows_entries 0 rows = ap (map entry_tree) c.as_slice.ensures.value ∙ c.in_ok-entries.ensures in
    error_told (MarkedByRules a b (matrix_of (matrix_between a b es))) (IsMarked a b (Yes (matrix_tree c.args.matrix.now)))
    (rows_marked a b rows es shaped (rows_lowest c.as_slice-rows.result.now) named (matrix_tree c.args.matrix.now) (ap rows_tree c.as_slice-rows.ensures)) c.check_entries.result c.check_entries.ensures.err
