use Rattle.std.proofs.Common.{◌≡◌, ◌<◌, ◌≤◌, ◌*◌, ◌/◌, ◌^◌, [], All, List, map, sym, subst, ◌∙◌, ap}
use Rattle.kf_column.specs.declared.entry.Entry.{Entry}
use Rattle.kf_column.specs.Columns.{weight_at, total}
use Rattle.kf_column.specs.Hypers.{Inner}
use Rattle.kf_hyper.specs.Views.{inners_of, inner_at}
use Rattle.kf_capacity.specs.Vulnerabilities.{greatest}
use Rattle.kf_capacity.proofs.Inners.{sum_some, sum_fits, parts, wholes, greatest_is}
use Rattle.kf_capacity.proofs.beliefs.greatest_cell.Goals as goal

abbrev no : Inner
no = record { entries = []; total = 0 }

pub total-requires-2 : goal.total-requires-2
total-requires-2 c =
    subst (λ (es : List Entry). total es < 2 ^ 128) (sym c.inner-inner.ensures.kept)
    (sum_fits (inners_of c.args.h.now) c.args.average.now c.requires.average _ _ c.has_shape.ensures c.args.i no c.requires.inner)

pub quotient-times-requires : goal.quotient-times-requires
quotient-times-requires c =
    subst (λ n. 0 < n) (sym (c.total-2.ensures ∙ ap total c.inner-inner.ensures.kept))
    (sum_some (inners_of c.args.h.now) c.args.average.now c.requires.average _ _ c.has_shape.ensures c.args.i no c.requires.inner)

pub greatest_of_entries-requires-clause-some : goal.greatest_of_entries-requires-clause-some
greatest_of_entries-requires-clause-some c =
    subst (All (λ e. 0 < weight_at c.args.average.now e.value)) (sym (c.as_slice.ensures ∙ c.entries.ensures.kept ∙ c.inner-inner.ensures.kept))
    (wholes (inners_of c.args.h.now) c.args.average.now c.requires.average _ _ c.has_shape.ensures c.args.i no c.requires.inner)

pub greatest_of_entries-requires-clause-part : goal.greatest_of_entries-requires-clause-part
greatest_of_entries-requires-clause-part c =
    let inner : Inner = inner_at c.args.h.now c.args.i in
    let column = c.args.average.now in
    let times : c.quotient-times.result ≡ inner.total / total inner.entries =
    c.quotient-times.ensures ∙ (λ j. c.total.ensures j / (c.total-2.ensures ∙ ap total c.inner-inner.ensures.kept) j) in
    subst (All (λ e. e.weight * c.quotient-times.result ≤ weight_at column e.value)) (sym (c.as_slice.ensures ∙ c.entries.ensures.kept ∙ c.inner-inner.ensures.kept))
    (subst (λ t. All (λ e. e.weight * t ≤ weight_at column e.value) inner.entries) (sym times)
    (parts (inners_of c.args.h.now) column c.requires.average _ _ c.has_shape.ensures c.args.i no c.requires.inner))

pub returns : goal.returns
returns c =
    let inner : Inner = inner_at c.args.h.now c.args.i in
    let column = c.args.average.now in
    let times : c.quotient-times.result ≡ inner.total / total inner.entries =
    c.quotient-times.ensures ∙ (λ j. c.total.ensures j / (c.total-2.ensures ∙ ap total c.inner-inner.ensures.kept) j) in
    let here : c.as_slice.result.now ≡ inner.entries = c.as_slice.ensures ∙ c.entries.ensures.kept ∙ c.inner-inner.ensures.kept in
    c.greatest_of_entries.ensures
    ∙ (λ j. greatest (map (λ e. e.weight * times j * (c.args.n / weight_at column e.value)) (here j)))
    ∙ greatest_is (inners_of c.args.h.now) column c.requires.average _ _ c.has_shape.ensures c.args.i no c.requires.inner c.args.n
