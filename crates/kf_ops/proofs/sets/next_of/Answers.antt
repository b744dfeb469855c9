use Rattle.std.proofs.Common.{sym, ◌∙◌, rules}
use Rattle.kf_ops.proofs.Merging.{headed, no_items, next_less, next_equal, next_greater, next_first, next_second}
use Rattle.kf_ops.proofs.sets.next_of.Goals as goal

pub returns-in-empty-len1-up : goal.returns-in-empty-len1-up
returns-in-empty-len1-up c = next_second (no_items c.args.xs.now (search rules)) (headed c.args.ys.now c.y-item.result (search rules) c.y-item.is)

pub returns-in-len1-up-empty : goal.returns-in-len1-up-empty
returns-in-len1-up-empty c = next_first (headed c.args.xs.now c.x-item.result (search rules) c.x-item.is) (no_items c.args.ys.now (search rules))

pub returns-in-Less : goal.returns-in-Less
returns-in-Less c =
    next_less (headed c.args.xs.now c.x-item-2.result (search rules) c.x-item-2.is)
    (headed c.args.ys.now c.y-item-2.result (search rules) c.y-item-2.is) (sym c.compare.ensures ∙ c.in-Less.is)

pub returns-in-Equal : goal.returns-in-Equal
returns-in-Equal c =
    next_equal (headed c.args.xs.now c.x-item-2.result (search rules) c.x-item-2.is)
    (headed c.args.ys.now c.y-item-2.result (search rules) c.y-item-2.is) (sym c.compare.ensures ∙ c.in-Equal.is)

pub returns-in-Greater : goal.returns-in-Greater
returns-in-Greater c =
    next_greater (headed c.args.xs.now c.x-item-2.result (search rules) c.x-item-2.is)
    (headed c.args.ys.now c.y-item-2.result (search rules) c.y-item-2.is) (sym c.compare.ensures ∙ c.in-Greater.is)
