use Rattle.std.proofs.Common.{sym, ◌∙◌}
use Rattle.kf_eval.proofs.TotalRows.{always_sure}
use Rattle.kf_eval.proofs.sureness.is_always_sure.Goals as goal

pub returns-in-Sure : goal.returns-in-Sure
returns-in-Sure c = λ h. always_sure c.args.dist.now.at c.args.dist.now.node c.in-Sure.x c.in-Sure.is (sym c.has_value.ensures ∙ h)
