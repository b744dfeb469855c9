use Rattle.std.proofs.Common.{List, [], ap, arith}
use Rattle.kf_column.specs.Columns.{total}
use Rattle.kf_column.specs.Hypers.{Inner}
use Rattle.kf_hyper.specs.Views.{inners_of, scale_of}
use Rattle.kf_gain.specs.Gains.{Bayes}
use Rattle.kf_gain.proofs.Turning.{inner_within, some_total}
use Rattle.kf_attack.proofs.tries.multiple.Goals as goal

pub total-requires-2 : goal.total-requires-2
total-requires-2 c =
    let inners : List Inner = inners_of c.args.h.now in
    let none : Inner = record { entries = []; total = 0 } in
    omega (arith, inner_within _ (scale_of c.args.h.now) Bayes inners c.has_shape.ensures c.args.i none c.requires, ap total c.inner.ensures.kept, c.has_shape.ensures.narrow)

pub nonzero_div-result : goal.nonzero_div-result
nonzero_div-result c =
    let inners : List Inner = inners_of c.args.h.now in
    let none : Inner = record { entries = []; total = 0 } in
    omega (arith, some_total _ (scale_of c.args.h.now) Bayes inners c.has_shape.ensures c.args.i none c.requires, ap total c.inner.ensures.kept, c.total-2.ensures)
