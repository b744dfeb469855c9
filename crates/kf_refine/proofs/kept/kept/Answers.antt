use Rattle.kf_refine.proofs.Keeping.{both_rows, both_filled, row_column, are_kept, kept_outcome}
use Rattle.kf_refine.proofs.kept.kept.Goals as goal

pub smallest-requires : goal.smallest-requires
smallest-requires c =
    row_column c.args.a.now c.args.b.now c.push_inners-2.new.rows.entries
    (both_rows c.args.a.now c.args.b.now c.count-3.result c.new-rows.result.entries c.push_inners.new.rows.entries c.push_inners-2.new.rows.entries c.new-rows.ensures.empty c.count-3.ensures
    c.in_ok-push_inners.ensures.rows c.in_ok-push_inners-2.ensures.rows)
    (both_filled c.new-rows.result.entries c.push_inners.new.rows.entries c.push_inners-2.new.rows.entries c.new-rows.ensures.empty c.in_ok-push_inners.ensures.filled
    c.in_ok-push_inners-2.ensures.filled)

pub returns : goal.returns
returns c =
    kept_outcome c.smallest.result
    (λ values. are_kept c.args.a.now c.args.b.now c.push_inners-2.new.rows.entries
    (both_rows c.args.a.now c.args.b.now c.count-3.result c.new-rows.result.entries c.push_inners.new.rows.entries c.push_inners-2.new.rows.entries c.new-rows.ensures.empty c.count-3.ensures
    c.in_ok-push_inners.ensures.rows c.in_ok-push_inners-2.ensures.rows)
    (both_filled c.new-rows.result.entries c.push_inners.new.rows.entries c.push_inners-2.new.rows.entries c.new-rows.ensures.empty c.in_ok-push_inners.ensures.filled
    c.in_ok-push_inners-2.ensures.filled) values.items)
    c.smallest.ensures
