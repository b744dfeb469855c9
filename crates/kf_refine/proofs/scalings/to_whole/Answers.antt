use Rattle.std.proofs.Common.{refl, ◌^◌}
use Rattle.kf_refine.specs.Views.{hyper_tree}
use Rattle.kf_refine.proofs.Scaled.{scaled, unscaled, kept_of_a, kept_of_b, divisor_some}
use Rattle.kf_refine.proofs.scalings.to_whole.Goals as goal

pub factors-requires-clause-a_divisor : goal.factors-requires-clause-a_divisor
factors-requires-clause-a_divisor c =
    divisor_some (hyper_tree c.args.a.now) c.args.kept.now c.divisor-a_divisor.result c.divisor-a_divisor.ensures
    (kept_of_a (hyper_tree c.args.a.now) (hyper_tree c.args.b.now) c.args.kept.now c.requires c.scale.ensures.shape)

pub factors-requires-clause-b_divisor : goal.factors-requires-clause-b_divisor
factors-requires-clause-b_divisor c =
    divisor_some (hyper_tree c.args.b.now) c.args.kept.now c.divisor-b_divisor.result c.divisor-b_divisor.ensures
    (kept_of_b (hyper_tree c.args.a.now) (hyper_tree c.args.b.now) c.args.kept.now c.requires c.scale-2.ensures.shape)

pub returns-in_err-a_factor-clause-none : goal.returns-in_err-a_factor-clause-none
returns-in_err-a_factor-clause-none c =
    let found = c.in_err-a_factor.ensures.none refl in
    let a = hyper_tree c.args.a.now in
    let b = hyper_tree c.args.b.now in
    λ none. unscaled a b c.args.kept.now c.divisor-a_divisor.result c.divisor-b_divisor.result (2 ^ 62) c.scale.result c.scale-2.result
    c.requires c.scale.ensures.shape c.scale-2.ensures.shape
    c.divisor-a_divisor.ensures c.divisor-b_divisor.ensures c.scale.ensures.kept c.scale-2.ensures.kept found

pub invariant_of-result : goal.invariant_of-result
invariant_of-result c = record {
  a_some = divisor_some (hyper_tree c.args.a.now) c.args.kept.now c.divisor-a_divisor.result c.divisor-a_divisor.ensures
      (kept_of_a (hyper_tree c.args.a.now) (hyper_tree c.args.b.now) c.args.kept.now c.requires c.scale.ensures.shape);
  b_some = divisor_some (hyper_tree c.args.b.now) c.args.kept.now c.divisor-b_divisor.result c.divisor-b_divisor.ensures
      (kept_of_b (hyper_tree c.args.a.now) (hyper_tree c.args.b.now) c.args.kept.now c.requires c.scale-2.ensures.shape);
}

pub returns-clause-some : goal.returns-clause-some
returns-clause-some c =
    scaled (hyper_tree c.args.a.now) (hyper_tree c.args.b.now) c.args.kept.now c.divisor-a_divisor.result c.divisor-b_divisor.result
    c.in_ok-a_factor.a_factor c.in_ok-a_factor.b_factor c.scale.result c.scale-2.result
    c.requires c.scale.ensures.shape c.scale-2.ensures.shape
    c.divisor-a_divisor.ensures c.divisor-b_divisor.ensures c.scale.ensures.kept c.scale-2.ensures.kept c.in_ok-a_factor.ensures.some
