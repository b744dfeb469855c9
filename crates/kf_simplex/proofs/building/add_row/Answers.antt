use Rattle.std.proofs.Common.{◌<◌, ◌≤◌, ◌^◌, FitsSigned, unsigned_abs, get_or, arith, rules, length}
use Rattle.std.proofs.lemmas.Int.{to_z-of_z}
use mir.Syntax.{w128}
use Rattle.kf_simplex.specs.Base.{at}
use Rattle.kf_simplex.specs.Entries.{no_entry}
use Rattle.kf_simplex.proofs.Places.{bound_by_places}
use Rattle.kf_simplex.proofs.FirstRows.{adding_first, adding_more, adding_whole}
use Rattle.kf_simplex.proofs.Merging.{left_all, left_head}
use Rattle.kf_simplex.proofs.FlatBuild.{row_sum_fits}
use Rattle.kf_simplex.proofs.building.add_row.Goals as goal

pub loop-e-init : goal.loop-e-init
loop-e-init c = adding_first c.args.sums.now c.args.row.now.entries.items c.args.row.now.entries.items (left_all c.args.row.now.entries.items c.args.row.now.ascending)

pub slice_copy_out-sums : goal.slice_copy_out-sums
slice_copy_out-sums c =
    let inside : (get_or c.as_slice-e-items.result.now c.loop-e.e-index no_entry).column < length c.args.sums.now =
    rw c.as_slice-e-items.ensures.value (c.requires.inside c.loop-e.e-index (omega (arith, c.loop-e-test.true, c.as_slice-e-items.ensures.len))) in
    omega (arith, inside, c.loop-e.auto.sums)

pub bounds-sums-e : goal.bounds-sums-e
bounds-sums-e c =
    let inside : (get_or c.as_slice-e-items.result.now c.loop-e.e-index no_entry).column < length c.args.sums.now =
    rw c.as_slice-e-items.ensures.value (c.requires.inside c.loop-e.e-index (omega (arith, c.loop-e-test.true, c.as_slice-e-items.ensures.len))) in
    omega (arith, inside, c.loop-e.auto.sums)

pub offset_bounds-sums-e : goal.offset_bounds-sums-e
offset_bounds-sums-e c =
    let inside : (get_or c.as_slice-e-items.result.now c.loop-e.e-index no_entry).column < length c.args.sums.now =
    rw c.as_slice-e-items.ensures.value (c.requires.inside c.loop-e.e-index (omega (arith, c.loop-e-test.true, c.as_slice-e-items.ensures.len))) in
    omega (arith, inside, c.requires.small)

pub offset_bounds-sums-e-in-loop-e : goal.offset_bounds-sums-e-in-loop-e
offset_bounds-sums-e-in-loop-e c =
    let inside : (get_or c.as_slice-e-items.result.now c.loop-e.e-index no_entry).column < length c.args.sums.now =
    rw c.as_slice-e-items.ensures.value (c.requires.inside c.loop-e.e-index (omega (arith, c.loop-e-test.true, c.as_slice-e-items.ensures.len))) in
    omega (arith, inside, c.requires.small)

pub overflow_add-sums : goal.overflow_add-sums
overflow_add-sums c =
    let x : FitsSigned w128 (at c.loop-e.sums (get_or c.as_slice-e-items.result.now c.loop-e.e-index no_entry).column) = search rules in
    let y : FitsSigned w128 (get_or c.as_slice-e-items.result.now c.loop-e.e-index no_entry).number = search rules in
    let a : unsigned_abs (at c.loop-e.sums (get_or c.as_slice-e-items.result.now c.loop-e.e-index no_entry).column) ≤ 2 ^ 100 =
    rw (c.loop-e.invariant.later (get_or c.as_slice-e-items.result.now c.loop-e.e-index no_entry).column
    (left_head c.args.row.now.entries.items c.as_slice-e-items.result.now c.loop-e.e-index c.loop-e.invariant.low c.as_slice-e-items.ensures.value c.loop-e-test.true c.loop-e.invariant.rest.ascending).0)
    (c.requires.sums (get_or c.as_slice-e-items.result.now c.loop-e.e-index no_entry).column) in
    let b : unsigned_abs (get_or c.as_slice-e-items.result.now c.loop-e.e-index no_entry).number ≤ 2 ^ 62 =
    rw c.as_slice-e-items.ensures.value
    (bound_by_places c.args.row.now.entries.items (2 ^ 62) c.args.row.now.ascending c.requires.narrow c.loop-e.e-index (omega (arith, c.loop-e-test.true, c.as_slice-e-items.ensures.len))) in
    simp to_z-of_z (row_sum_fits (at c.loop-e.sums (get_or c.as_slice-e-items.result.now c.loop-e.e-index no_entry).column) (get_or c.as_slice-e-items.result.now c.loop-e.e-index no_entry).number a b)

pub loop-e-preserved : goal.loop-e-preserved
loop-e-preserved c =
    let x : FitsSigned w128 (at c.loop-e.sums (get_or c.as_slice-e-items.result.now c.loop-e.e-index no_entry).column) = search rules in
    let y : FitsSigned w128 (get_or c.as_slice-e-items.result.now c.loop-e.e-index no_entry).number = search rules in
    let a : unsigned_abs (at c.loop-e.sums (get_or c.as_slice-e-items.result.now c.loop-e.e-index no_entry).column) ≤ 2 ^ 100 =
    rw (c.loop-e.invariant.later (get_or c.as_slice-e-items.result.now c.loop-e.e-index no_entry).column
    (left_head c.args.row.now.entries.items c.as_slice-e-items.result.now c.loop-e.e-index c.loop-e.invariant.low c.as_slice-e-items.ensures.value c.loop-e-test.true c.loop-e.invariant.rest.ascending).0)
    (c.requires.sums (get_or c.as_slice-e-items.result.now c.loop-e.e-index no_entry).column) in
    let b : unsigned_abs (get_or c.as_slice-e-items.result.now c.loop-e.e-index no_entry).number ≤ 2 ^ 62 =
    rw c.as_slice-e-items.ensures.value
    (bound_by_places c.args.row.now.entries.items (2 ^ 62) c.args.row.now.ascending c.requires.narrow c.loop-e.e-index (omega (arith, c.loop-e-test.true, c.as_slice-e-items.ensures.len))) in
    let s = row_sum_fits (at c.loop-e.sums (get_or c.as_slice-e-items.result.now c.loop-e.e-index no_entry).column) (get_or c.as_slice-e-items.result.now c.loop-e.e-index no_entry).number a b in
    let inside : (get_or c.as_slice-e-items.result.now c.loop-e.e-index no_entry).column < length c.args.sums.now =
    rw c.as_slice-e-items.ensures.value (c.requires.inside c.loop-e.e-index (omega (arith, c.loop-e-test.true, c.as_slice-e-items.ensures.len))) in
    adding_more c.args.sums.now c.loop-e.sums c.args.row.now.entries.items c.as_slice-e-items.result.now c.loop-e.e-index _ c.as_slice-e-items.ensures.value c.loop-e-test.true c.loop-e.invariant
    (omega (arith, inside, c.loop-e.auto.sums)) (simp to_z-of_z)

pub returns : goal.returns
returns c =
    adding_whole c.args.sums.now c.loop-e.sums c.args.row.now.entries.items c.as_slice-e-items.result.now c.loop-e.e-index c.as_slice-e-items.ensures.value c.loop-e-test.false c.loop-e.invariant
