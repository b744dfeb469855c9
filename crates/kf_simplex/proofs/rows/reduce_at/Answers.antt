use Rattle.kf_simplex.proofs.Reducing.{changes_at, narrow_row, narrow_written}
use Rattle.kf_simplex.proofs.rows.reduce_at.Goals as goal

pub reduced-requires-clause-row : goal.reduced-requires-clause-row
reduced-requires-clause-row c = narrow_row c.args.rows.now c.args.i c.index-rows-i-2.result c.requires.i c.index-rows-i-2.is c.requires.row

pub reduced-requires-clause-chosen : goal.reduced-requires-clause-chosen
reduced-requires-clause-chosen c = narrow_row c.args.rows.now c.args.r c.index-rows-r.result c.requires.r c.index-rows-r.is c.requires.chosen

pub returns-clause-passed : goal.returns-clause-passed
returns-clause-passed c =
    changes_at c.args.rows.now c.in_ok-row.row c.index-rows-i-2.result c.index-rows-r.result c.args.r c.args.c c.args.i c.requires.i c.requires.r c.if-i-r.false c.index-rows-i-2.is c.index-rows-r.is c.in_ok-row.ensures

pub returns-clause-narrow : goal.returns-clause-narrow
returns-clause-narrow c = narrow_written c.is_narrow-narrow.result c.args.rows.now c.args.i c.in_ok-row.row c.requires.i c.is_narrow-narrow.ensures
