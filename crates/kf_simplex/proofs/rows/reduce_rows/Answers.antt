use Rattle.std.proofs.Common.{◌∙◌}
use Rattle.kf_simplex.specs.Flat.{cell}
use Rattle.kf_simplex.proofs.FlatTurns.{yes_of, not_of}
use Rattle.kf_simplex.proofs.Reducing.{passes_more, narrow_kept, narrow_lost}
use Rattle.kf_simplex.proofs.rows.reduce_rows.Goals as goal
use Rattle.kf_simplex.proofs.rows.reduce_rows.Goals.{then-not-branch, else-not-branch}

pub loop-i-preserved : goal.loop-i-preserved
loop-i-preserved c =
    let so_far = c.loop-i.invariant in
    let passed = passes_more (cell c.args.rows.now) (cell c.loop-i.rows) (cell c.reduce_at.new.rows) c.args.r c.args.c c.loop-i.i so_far.passed c.in_ok-reduce_at.ensures.passed in
    record {
      len = c.reduce_at.auto.rows ∙ so_far.len;
      passed = passed;
      narrow = elim c.if-not-branch.branch [
        | then-not-branch w ↦
            rw w.narrow-is
            (narrow_lost c.in_ok-reduce_at.field-0 (cell c.reduce_at.new.rows) c.loop-i.i (not_of c.in_ok-reduce_at.field-0 w.if-not-branch.true) c.in_ok-reduce_at.ensures.narrow.1)
        | else-not-branch w ↦
            rw w.narrow-is
            (narrow_kept c.loop-i.narrow c.in_ok-reduce_at.field-0 (cell c.args.rows.now) (cell c.loop-i.rows) (cell c.reduce_at.new.rows) c.args.r c.args.c c.loop-i.i c.requires.narrow
            so_far.passed c.in_ok-reduce_at.ensures.passed (yes_of c.in_ok-reduce_at.field-0 w.if-not-branch.false) c.in_ok-reduce_at.ensures.narrow so_far.narrow)
      ];
    }
