use Rattle.std.proofs.Common.{FitsSigned, rules, get_or, sym}
use Rattle.std.proofs.lemmas.Int.{to_z-of_z}
use mir.Syntax.{w128}
use Rattle.kf_simplex.specs.Entries.{no_entry}
use Rattle.kf_simplex.proofs.Crossing.{divided_more, divided_whole, head_here}
use Rattle.kf_simplex.proofs.Entries.{made_ascends}
use Rattle.kf_simplex.proofs.rows.divided.Goals as goal

pub quotient-number-requires-clause-divides : goal.quotient-number-requires-clause-divides
quotient-number-requires-clause-divides c =
    let g : FitsSigned w128 c.args.g = c.ranges.g in
    let x : FitsSigned w128 (get_or c.as_slice-e-items.result.now c.loop-e.e-index no_entry).number = search rules in
    let here = head_here c.args.row.now.entries.items c.as_slice-e-items.result.now c.loop-e.e-index c.loop-e.invariant.0 c.as_slice-e-items.ensures.value c.loop-e-test.true c.loop-e.invariant.1 in
    simp to_z-of_z (rw (sym here) (c.requires.divides (get_or c.as_slice-e-items.result.now c.loop-e.e-index no_entry).column))

pub loop-e-preserved : goal.loop-e-preserved
loop-e-preserved c =
    let g : FitsSigned w128 c.args.g = c.ranges.g in
    let x : FitsSigned w128 (get_or c.as_slice-e-items.result.now c.loop-e.e-index no_entry).number = search rules in
    let q : FitsSigned w128 c.quotient-number.result = search rules in
    let so_far = simp to_z-of_z at c.loop-e.invariant in
    simp to_z-of_z
    (divided_more c.args.row.now.entries.items c.as_slice-e-items.result.now c.loop-e.entries.items c.push.new.self.items c.loop-e.e-index so_far.0 c.args.g _
    c.as_slice-e-items.ensures.value c.loop-e-test.true so_far.1 so_far.2 c.in_ok-push.ensures.items (simp to_z-of_z (simp to_z-of_z at c.quotient-number.ensures)))

pub invariant_of-result : goal.invariant_of-result
invariant_of-result c = record { ascending = made_ascends _ c.loop-e.invariant.0 c.loop-e.entries.items c.loop-e.invariant.2 }

pub returns : goal.returns
returns c =
    let g : FitsSigned w128 c.args.g = c.ranges.g in
    let so_far = simp to_z-of_z at c.loop-e.invariant in
    divided_whole c.args.row.now.entries.items c.as_slice-e-items.result.now c.loop-e.entries.items c.loop-e.e-index so_far.0 c.args.g
    c.as_slice-e-items.ensures.value c.loop-e-test.false so_far.1 so_far.2
