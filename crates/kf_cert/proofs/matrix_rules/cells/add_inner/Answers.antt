use Rattle.std.proofs.Common.{◌≡◌, ◌+◌, ◌*◌, ◌<◌, ◌^◌, List, [], sym, ◌∙◌, ap, subst, arith, get_or}
use Rattle.kf_column.specs.declared.entry.Entry.{Entry}
use Rattle.kf_column.specs.Columns.{total}
use Rattle.kf_column.specs.Hypers.{Inner}
use Rattle.kf_hyper.specs.Sums.{summed}
use Rattle.kf_hyper.specs.Views.{inners_of}
use Rattle.kf_column.proofs.Scaling.{product_positive}
use Rattle.kf_cert.proofs.Inners.{sum_some, times_some, times_whole}
use Rattle.kf_cert.proofs.Carrying.{part_fits, all_fits, part_gains}
use Rattle.kf_cert.proofs.matrix_rules.cells.add_inner.Goals as goal

pub overflow_mul-times : goal.overflow_mul-times
overflow_mul-times c =
    let none : Inner = record { entries = []; total = 0 } in
    let inners : List Inner = inners_of c.args.h.now in
    let inner : Inner = get_or inners c.args.i none in
    let whole : c.multiple.result * total inner.entries ≡ inner.total = ap (λ n. n * total inner.entries) c.multiple.ensures ∙ times_whole inners _ _ c.has_shape.ensures c.args.i none c.requires.inner in
    let fits : c.multiple.result * c.args.part < 2 ^ 128 =
    part_fits c.multiple.result (total inner.entries) inner.total c.args.part (total (summed c.args.sums.now.entries)) (2 ^ 128) whole
    (sum_some inners _ _ c.has_shape.ensures c.args.i none c.requires.inner) c.requires.fits in
    omega (arith, fits)

pub add_all-requires-clause-some : goal.add_all-requires-clause-some
add_all-requires-clause-some c =
    let none : Inner = record { entries = []; total = 0 } in
    let inners : List Inner = inners_of c.args.h.now in
    let times : 0 < c.multiple.result = subst (λ n. 0 < n) (sym c.multiple.ensures) (times_some inners _ _ c.has_shape.ensures c.args.i none c.requires.inner) in
    product_positive c.multiple.result c.args.part times (let apart = c.if-part-eq0.false in omega arith)

pub add_all-requires-clause-fits : goal.add_all-requires-clause-fits
add_all-requires-clause-fits c =
    let none : Inner = record { entries = []; total = 0 } in
    let inners : List Inner = inners_of c.args.h.now in
    let inner : Inner = get_or inners c.args.i none in
    let whole : c.multiple.result * total inner.entries ≡ inner.total = ap (λ n. n * total inner.entries) c.multiple.ensures ∙ times_whole inners _ _ c.has_shape.ensures c.args.i none c.requires.inner in
    let same : c.as_slice.result.now ≡ inner.entries = c.as_slice.ensures ∙ c.entries.ensures.kept ∙ c.inner.ensures.kept in
    subst (λ (es : List Entry). total (summed c.args.sums.now.entries) + c.multiple.result * c.args.part * total es < 2 ^ 128) (sym same)
    (all_fits c.multiple.result (total inner.entries) inner.total c.args.part (total (summed c.args.sums.now.entries)) (2 ^ 128) whole c.requires.fits)

pub returns-clause-gains : goal.returns-clause-gains
returns-clause-gains c =
    let none : Inner = record { entries = []; total = 0 } in
    let inners : List Inner = inners_of c.args.h.now in
    let inner : Inner = get_or inners c.args.i none in
    let same : c.as_slice.result.now ≡ inner.entries = c.as_slice.ensures ∙ c.entries.ensures.kept ∙ c.inner.ensures.kept in
    part_gains inner c.args.part c.multiple.result c.as_slice.result.now _ _ c.multiple.ensures same
    (times_whole inners _ _ c.has_shape.ensures c.args.i none c.requires.inner) c.in_ok-add_all.ensures.gains
