use Rattle.std.proofs.Common.{◌∙◌}
use Rattle.kf_simplex.proofs.FlatBuild.{whole_part}
use Rattle.kf_simplex.proofs.table.Table.pivot.Goals as goal

pub reduce_rows-requires-clause-narrow : goal.reduce_rows-requires-clause-narrow
reduce_rows-requires-clause-narrow c = rw c.deref_mut.ensures.value c.requires.narrow

pub returns-clause-rows : goal.returns-clause-rows
returns-clause-rows c =
    let same = c.reduce_rows.auto.rows ∙ c.deref_mut.ensures.len ∙ c.args.self.now.rows.ok.0 in
    let whole = whole_part c.args.self.now.rows.len c.reduce_rows.new.rows c.args.self.now.rows.items c.args.self.now.rows.ok.0 same in
    rw whole (rw (c.deref_mut.ensures.value, c.args.self.now.rows_len) at c.in_ok-narrow.ensures.passed)

pub returns-clause-narrow : goal.returns-clause-narrow
returns-clause-narrow c =
    let same = c.reduce_rows.auto.rows ∙ c.deref_mut.ensures.len ∙ c.args.self.now.rows.ok.0 in
    let whole = whole_part c.args.self.now.rows.len c.reduce_rows.new.rows c.args.self.now.rows.items c.args.self.now.rows.ok.0 same in
    rw whole c.in_ok-narrow.ensures.narrow
