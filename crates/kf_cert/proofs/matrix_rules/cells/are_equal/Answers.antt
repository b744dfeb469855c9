use Rattle.std.proofs.Common.{sym, ◌∙◌, true≢false, arith}
use Rattle.kf_column.specs.Averages.{scaled}
use Rattle.kf_cert.proofs.Each.{twice_mapped}
use Rattle.kf_cert.proofs.matrix_rules.cells.are_equal.Goals as goal

pub returns-then-not-is_equal : goal.returns-then-not-is_equal
returns-then-not-is_equal c = (
  λ yes. absurd (true≢false (sym yes)),
  λ same.
      absurd (true≢false (sym (c.is_equal.ensures.1 (twice_mapped (scaled c.args.factor) (scaled c.args.whole) (scaled c.args.times) c.args.ones.now c.args.others.now c.loop-k.k _ _ c.loop-k-test.true (omega (arith, c.loop-k-test.true, c.if-ones-others.false)) same)) ∙ c.if-not-is_equal.true)),
)
