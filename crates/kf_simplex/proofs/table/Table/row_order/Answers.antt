use Rattle.std.proofs.Common.{◌+◌, List, arith, ap}
use Rattle.kf_simplex.specs.declared.row.Entry.{Entry}
use Rattle.kf_simplex.specs.Entries.{number_in}
use Rattle.kf_simplex.specs.Flat.{cell}
use Rattle.kf_simplex.proofs.Reducing.{entries_read}
use Rattle.kf_simplex.proofs.RowOrder.{rows_order}
use Rattle.kf_simplex.proofs.table.Table.row_order.Goals as goal

pub key_order-requires-clause-a : goal.key_order-requires-clause-a
key_order-requires-clause-a c =
    rw (entries_read c.args.self.now.rows.items c.args.i c.index.result.now (omega (arith, c.args.self.now.rows_len, c.requires.i)) c.index.ensures) (c.requires.narrow c.args.i)

pub key_order-requires-clause-b : goal.key_order-requires-clause-b
key_order-requires-clause-b c =
    rw (entries_read c.args.self.now.rows.items c.args.r c.index-2.result.now (omega (arith, c.args.self.now.rows_len, c.requires.r)) c.index-2.ensures) (c.requires.narrow c.args.r)

pub returns : goal.returns
returns c =
    let a = entries_read c.args.self.now.rows.items c.args.i c.index.result.now (omega (arith, c.args.self.now.rows_len, c.requires.i)) c.index.ensures in
    let b = entries_read c.args.self.now.rows.items c.args.r c.index-2.result.now (omega (arith, c.args.self.now.rows_len, c.requires.r)) c.index-2.ensures in
    rows_order (cell c.args.self.now.rows.items) (number_in c.index.result.now.entries.items) (number_in c.index-2.result.now.entries.items) (c.args.self.now.unknowns + c.args.self.now.equations)
    c.args.self.now.unknowns c.args.c c.args.i c.args.r c.key_order.result (λ k. ap (λ (es : List Entry). number_in es k) a) (λ k. ap (λ (es : List Entry). number_in es k) b) c.key_order.ensures
