use Rattle.std.proofs.Common.{◌≡◌, ◌+◌, ◌-◌, ◌*◌, ◌≤◌, ◌∙◌, length, take, drop, arith, rules}
use Rattle.std.proofs.Math.Nat.{mul-le-mul_right}
use Rattle.kf_refine.proofs.MatrixRows.{cuts_none, cuts_more, cuts_all}
use Rattle.kf_refine.proofs.matrix.matrix.Goals.{In-loop-i}
use Rattle.kf_refine.proofs.matrix.matrix.Goals as goal

pub loop-i-init : goal.loop-i-init
loop-i-init c = rw c.in_ok-list.ensures.items (cuts_none c.args.columns c.args.solution.now)

next_row : (c : In-loop-i) → (c.loop-i.i + 1) * c.args.columns ≤ length c.args.solution.now
next_row c = rw c.requires (mul-le-mul_right c.args.columns (omega arith))

pub overflow_mul-i : goal.overflow_mul-i
overflow_mul-i c = let l = next_row (goal.at.overflow_mul-i c).In-loop-i in search rules

pub overflow_mul-i-in-loop-i : goal.overflow_mul-i-in-loop-i
overflow_mul-i-in-loop-i c = let l = next_row (goal.at.overflow_mul-i-in-loop-i c).In-loop-i in search rules

pub offset_bounds-entries-i : goal.offset_bounds-entries-i
offset_bounds-entries-i c = let l = next_row (goal.at.offset_bounds-entries-i c).In-loop-i in search rules

pub slice_bounds-to_vec-count : goal.slice_bounds-to_vec-count
slice_bounds-to_vec-count c = omega (arith, next_row (goal.at.slice_bounds-to_vec-count c).In-loop-i)

pub slice_bounds-to_vec-start : goal.slice_bounds-to_vec-start
slice_bounds-to_vec-start c = omega (arith, next_row (goal.at.slice_bounds-to_vec-start c).In-loop-i)

pub slice_bounds-to_vec-end : goal.slice_bounds-to_vec-end
slice_bounds-to_vec-end c = let l = next_row (goal.at.slice_bounds-to_vec-end c).In-loop-i in search rules

pub loop-i-preserved : goal.loop-i-preserved
loop-i-preserved c =
    let width : (c.loop-i.i + 1) * c.args.columns - c.loop-i.i * c.args.columns ≡ c.args.columns = omega arith in
    let items : c.in_ok-row.row.items ≡ take c.args.columns (drop (c.loop-i.i * c.args.columns) c.args.solution.now) =
    c.in_ok-row.ensures.items_if_clones_equal (λ x y h. h) ∙ (λ k. take (width k) (drop (c.loop-i.i * c.args.columns)
    (c.as_slice-entries.ensures k))) in
    rw (c.in_ok-push.ensures.items, c.new.ensures)
    (cuts_more c.args.rows c.args.columns c.loop-i.i c.args.solution.now c.loop-i.list.items c.in_ok-row.row.items
    c.loop-i-test.true c.requires items c.loop-i.invariant)

pub returns : goal.returns
returns c = rw c.new-2.ensures (cuts_all c.args.rows c.args.columns c.loop-i.i c.args.solution.now c.loop-i.list.items (omega arith) c.loop-i.invariant)
