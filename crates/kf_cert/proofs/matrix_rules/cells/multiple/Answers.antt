use Rattle.std.proofs.Common.{[], ap, arith}
use Rattle.kf_column.specs.Columns.{total}
use Rattle.kf_column.specs.Hypers.{Inner}
use Rattle.kf_hyper.specs.Views.{inners_of}
use Rattle.kf_cert.proofs.Inners.{sum_some, sum_narrow}
use Rattle.kf_cert.proofs.matrix_rules.cells.multiple.Goals as goal

pub total-requires-2 : goal.total-requires-2
total-requires-2 c =
    let none : Inner = record { entries = []; total = 0 } in
    omega (arith, ap total c.inner.ensures.kept, sum_narrow (inners_of c.args.h.now) _ _ c.has_shape.ensures c.args.i none c.requires)

pub nonzero_div-result : goal.nonzero_div-result
nonzero_div-result c =
    let none : Inner = record { entries = []; total = 0 } in
    omega (arith, c.total-2.ensures, ap total c.inner.ensures.kept, sum_some (inners_of c.args.h.now) _ _ c.has_shape.ensures c.args.i none c.requires)
