use Rattle.std.proofs.Common.{map, refl, rules, arith}
use Rattle.kf_core.specs.Views.{ex_items, ex_tree}
use Rattle.kf_core.specs.declared.ex.Ex.{the_lemmas}
use Rattle.kf_ops.specs.declared.row.Op.TheVariants as op
use Rattle.kf_eval.specs.Kinds.{shape_kinds}
use Rattle.kf_eval.proofs.Checking.{call_kinded, called, calls_row, nth_kinded, row_within, slot_within}
use Rattle.kf_eval.proofs.Holding.{types_length}
use Rattle.kf_eval.proofs.scalars.+is_whole.Goals as goal

pub bounds-as_slice-from : goal.bounds-as_slice-from
bounds-as_slice-from t c =
    rw (types_length c.args.shape.now c.types.result.now c.as_slice.result.now c.types.ensures c.as_slice.ensures)
    (slot_within c.args.shape.now c.args.e.now c.in-Slot.i c.from.result c.in-Slot.is c.from.ensures c.requires.kinded)

pub code_at-requires : goal.code_at-requires
code_at-requires t c =
    let ks = shape_kinds c.args.shape.now in
    let xs = ex_items c.in-Apply.args in
    row_within ks c.from-in-Apply.result (map ex_tree xs)
    (calls_row ks c.from-in-Apply.result (map ex_tree xs)
    (call_kinded ks c.args.e.now c.in-Apply.row c.from-in-Apply.result c.in-Apply.args xs c.in-Apply.is c.from-in-Apply.ensures refl c.requires.kinded))

pub bounds-as_slice-1 : goal.bounds-as_slice-1
bounds-as_slice-1 t c =
    let ks = shape_kinds c.args.shape.now in
    let xs = c.as_slice-in-Cond.result.now in
    let three =
    (called ks c.from-in-Apply.result xs
    (call_kinded ks c.args.e.now c.in-Apply.row c.from-in-Apply.result c.in-Apply.args xs c.in-Apply.is c.from-in-Apply.ensures c.as_slice-in-Cond.ensures c.requires.kinded) op.Cond
    c.in-Cond.ensures).0 in
    omega (arith, three)

pub is_whole-requires : goal.is_whole-requires
is_whole-requires t c =
    let ks = shape_kinds c.args.shape.now in
    let xs = c.as_slice-in-Cond.result.now in
    let given =
    called ks c.from-in-Apply.result xs
    (call_kinded ks c.args.e.now c.in-Apply.row c.from-in-Apply.result c.in-Apply.args xs c.in-Apply.is c.from-in-Apply.ensures c.as_slice-in-Cond.ensures c.requires.kinded) op.Cond
    c.in-Cond.ensures in
    (search (rules, the_lemmas), nth_kinded ks xs 1 c.index-as_slice-1.result given.1 (omega (arith, given.0)) c.index-as_slice-1.is)
