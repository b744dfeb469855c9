use Rattle.std.proofs.Common.{List, map, ap, ◌∙◌}
use Rattle.kf_refine.specs.Views.{hyper_tree}
use Rattle.kf_cert.specs.Certificates.{EntryTree, Named, matrix_of}
use Rattle.kf_cert.specs.Marks.{IsMarked, MarkedByRules}
use Rattle.kf_cert.specs.Rows.{matrix_between}
use Rattle.kf_cert.specs.Views.{entry_tree, named_tree}
use Rattle.kf_cert.proofs.Rejecting.{error_told, mark_told, named_ordered, named_marked}
use Rattle.kf_cert.proofs.matrix_rules.check_named.Goals as goal

pub check_entries-requires : goal.check_entries-requires
check_entries-requires c =
    let sizes = c.has_sizes.ensures.0 c.if-not-has_sizes.false in
    named_ordered (hyper_tree c.args.a.now) (hyper_tree c.args.b.now) (named_tree c.args.matrix.now) _ (sizes.0 ∙ c.count.ensures) (sizes.1 ∙ c.count-2.ensures)
    (ap (map entry_tree) c.as_slice.ensures) c.requires.ordered

pub returns-clause-is : goal.returns-clause-is
returns-clause-is c =
    let a = hyper_tree c.args.a.now in
    let b = hyper_tree c.args.b.now in
    let t = named_tree c.args.matrix.now in
    let es : List EntryTree = map entry_tree c.as_slice.result.now in
    let sizes = c.has_sizes.ensures.0 c.if-not-has_sizes.false in
    mark_told (MarkedByRules a b (matrix_of (matrix_between a b es))) (IsMarked a b (Named t))
    (named_marked a b t es (sizes.0 ∙ c.count.ensures) (sizes.1 ∙ c.count-2.ensures) (ap (map entry_tree) c.as_slice.ensures)) c.check_entries.result c.check_entries.ensures.is

pub returns-clause-err : goal.returns-clause-err
returns-clause-err c =
    let a = hyper_tree c.args.a.now in
    let b = hyper_tree c.args.b.now in
    let t = named_tree c.args.matrix.now in
    let es : List EntryTree = map entry_tree c.as_slice.result.now in
    let sizes = c.has_sizes.ensures.0 c.if-not-has_sizes.false in
    error_told (MarkedByRules a b (matrix_of (matrix_between a b es))) (IsMarked a b (Named t))
    (named_marked a b t es (sizes.0 ∙ c.count.ensures) (sizes.1 ∙ c.count-2.ensures) (ap (map entry_tree) c.as_slice.ensures)) c.check_entries.result c.check_entries.ensures.err
