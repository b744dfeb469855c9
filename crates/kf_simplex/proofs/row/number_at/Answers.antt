use Rattle.std.proofs.Common.{sym, ◌∙◌}
use Rattle.kf_simplex.proofs.Merging.{left_missing}
use Rattle.kf_simplex.proofs.row.number_at.Goals as goal

pub returns-then-e-column-2 : goal.returns-then-e-column-2
returns-then-e-column-2 c =
    let so_far = c.loop-e.invariant in
    sym (left_missing c.args.row.now.entries.items c.as_slice-e-items.result.now c.loop-e.e-index so_far.ascending.0 c.args.column c.as_slice-e-items.ensures.value c.loop-e-test.true
    so_far.ascending.2 c.if-e-column-2.true)
    ∙ so_far.left
