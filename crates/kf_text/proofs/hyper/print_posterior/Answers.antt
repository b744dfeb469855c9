use Rattle.std.proofs.Common.{List, [], ap, arith}
use Rattle.kf_column.specs.Columns.{total}
use Rattle.kf_column.specs.Hypers.{Inner}
use Rattle.kf_hyper.specs.Views.{inners_of, scale_of}
use Rattle.kf_gain.specs.Gains.{Bayes}
use Rattle.kf_gain.proofs.Turning.{inner_within, some_total}
use Rattle.kf_text.proofs.hyper.print_posterior.Goals as goal

pub total-requires : goal.total-requires
total-requires c =
    let inners : List Inner = inners_of c.args.hyper.now in
    let none : Inner = record { entries = []; total = 0 } in
    omega (arith, inner_within _ (scale_of c.args.hyper.now) Bayes inners c.has_shape.ensures c.args.i none c.requires, ap total c.inner-inner.ensures.kept, c.has_shape.ensures.narrow)

pub print_entries-requires-clause-some : goal.print_entries-requires-clause-some
print_entries-requires-clause-some c =
    let inners : List Inner = inners_of c.args.hyper.now in
    let none : Inner = record { entries = []; total = 0 } in
    omega (arith, some_total _ (scale_of c.args.hyper.now) Bayes inners c.has_shape.ensures c.args.i none c.requires, ap total c.inner-inner.ensures.kept, c.total.ensures)

pub print_entries-requires-clause-narrow : goal.print_entries-requires-clause-narrow
print_entries-requires-clause-narrow c =
    let inners : List Inner = inners_of c.args.hyper.now in
    let none : Inner = record { entries = []; total = 0 } in
    omega (
      arith,
      inner_within _ (scale_of c.args.hyper.now) Bayes inners c.has_shape.ensures c.args.i none c.requires,
      ap total c.inner-inner.ensures.kept,
      c.total.ensures,
      c.has_shape.ensures.narrow,
    )
