use Rattle.kf_simplex.proofs.Places.{narrow_both}
use Rattle.kf_simplex.proofs.rows.is_narrow.Goals as goal

pub returns : goal.returns
returns c =
    narrow_both c.are_narrow.result c.args.row.now.entries.items c.as_slice.result.now c.as_slice.ensures.value c.args.row.now.ascending c.are_narrow.ensures
