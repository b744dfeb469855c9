use Rattle.std.proofs.Common.{ℕ, ◌*◌, ◌/◌, ap, ◌∙◌, arith, []}
use Rattle.kf_hyper.proofs.Reading.{whole_some, weighs, weighs_within, total_within}
use Rattle.kf_hyper.proofs.hyper.Hyper.weight.Goals as goal

pub quotient-multiple-requires : goal.quotient-multiple-requires
quotient-multiple-requires c =
    whole_some c.args.self.now.classes.items c.args.i c.index-class.result.now _ _ c.args.self.now.shape c.requires c.index-class.ensures c.index-class.result.now.summed

pub overflow_mul-result : goal.overflow_mul-result
overflow_mul-result c =
    omega (
      arith,
      ap (λ (n : ℕ). c.weight.result * n) c.quotient-multiple.ensures,
      ap (λ (n : ℕ). n * (c.index-class.result.now.total / c.index-class.result.now.whole)) c.weight.ensures,
      weighs_within c.args.self.now.classes.items c.args.i c.index-class.result.now _ _ c.args.self.now.shape c.requires c.index-class.ensures c.index-class.result.now.summed c.args.x,
      total_within c.args.self.now.classes.items c.args.i c.index-class.result.now _ _ c.args.self.now.shape c.requires c.index-class.ensures,
      c.args.self.now.shape.narrow,
    )

pub returns : goal.returns
returns c =
    ap (λ (n : ℕ). c.weight.result * n) c.quotient-multiple.ensures
    ∙ ap (λ (n : ℕ). n * (c.index-class.result.now.total / c.index-class.result.now.whole)) c.weight.ensures
    ∙ weighs c.args.self.now.classes.items c.args.i c.index-class.result.now _ _ c.args.self.now.shape c.requires c.index-class.ensures c.index-class.result.now.summed c.args.x (record { entries = []; total = 0 })
