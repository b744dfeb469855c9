use Rattle.kf_capacity.specs.Views.{listed_tree}
use Rattle.kf_capacity.proofs.Fitting.{sums_fit}
use Rattle.kf_capacity.proofs.series.columns_behind.Goals as goal

pub column_behind-requires-clause-fits : goal.column_behind-requires-clause-fits
column_behind-requires-clause-fits c =
    let g = listed_tree c.args.g.now in
    let h = listed_tree c.args.h.now in
    let within = rw c.as_slice-column-items.ensures at c.loop-column-test.true in
    let read = rw c.as_slice-column-items.ensures at c.column-item.is in
    rw (c.as_slice-columns.ensures, c.as_slice.ensures)
    (sums_fit g h c.args.places.now c.column-item.result c.loop-column.column-index
    c.args.g.now.grid.stochastic c.args.h.now.grid.stochastic c.requires.narrow within read)
