use Rattle.std.proofs.Common.{sym, ◌∙◌, true≢false, arith}
use Rattle.kf_value.specs.Views.{kind_tree}
use Rattle.kf_check.proofs.RowRules.{kind_at}
use Rattle.kf_check.proofs.rows.fits.Goals as goal

pub returns-then-not-is_pattern : goal.returns-then-not-is_pattern
returns-then-not-is_pattern c = (
  λ yes. absurd (true≢false (sym yes)),
  λ same. absurd (true≢false (sym (c.is_pattern.ensures.1 (kind_at c.args.patterns.now c.args.kinds.now c.loop-i.i _ (omega arith) (omega arith) c.index-kinds-i.result (kind_tree c.args.any.now) c.index-kinds-i.is same))
      ∙ c.if-not-is_pattern.true)),
)
