use Rattle.std.proofs.Common.{refl, inl, inr, ◌*◌, ◌^◌, ◌<◌, arith}
use Rattle.kf_refine.proofs.Scaled.{factors_are, factors_along}
use Rattle.kf_refine.proofs.scalings.factors.Goals as goal

pub returns-in_err-a_factor-clause-none : goal.returns-in_err-a_factor-clause-none
returns-in_err-a_factor-clause-none c =
    let passes : 2 ^ 62 < c.lowest-a_left.result.0 * c.lowest-a_right.result.1 = (let past = c.in_err-a_factor.ensures in omega arith) in
    λ none. (
      c.lowest-a_left.result.0 * c.lowest-a_right.result.1,
      c.lowest-a_left.result.1 * c.lowest-a_right.result.0,
      factors_are c.args.a_divisor c.args.a_scale c.args.b_divisor c.args.b_scale
          c.lowest-a_top.result.0 c.lowest-a_top.result.1 c.lowest-b_top.result.0 c.lowest-b_top.result.1
          c.lowest-a_left.result.0 c.lowest-a_left.result.1 c.lowest-a_right.result.0 c.lowest-a_right.result.1
          c.requires.a_divisor c.requires.a_scale c.requires.b_divisor c.requires.b_scale
          c.lowest-a_top.ensures.lowest c.lowest-b_top.ensures.lowest c.lowest-a_left.ensures.lowest c.lowest-a_right.ensures.lowest,
      inl passes,
    )

pub returns-in_err-b_factor-clause-none : goal.returns-in_err-b_factor-clause-none
returns-in_err-b_factor-clause-none c =
    let passes : 2 ^ 62 < c.lowest-a_left.result.1 * c.lowest-a_right.result.0 = (let past = c.in_err-b_factor.ensures in omega arith) in
    λ none. (
      c.lowest-a_left.result.0 * c.lowest-a_right.result.1,
      c.lowest-a_left.result.1 * c.lowest-a_right.result.0,
      factors_are c.args.a_divisor c.args.a_scale c.args.b_divisor c.args.b_scale
          c.lowest-a_top.result.0 c.lowest-a_top.result.1 c.lowest-b_top.result.0 c.lowest-b_top.result.1
          c.lowest-a_left.result.0 c.lowest-a_left.result.1 c.lowest-a_right.result.0 c.lowest-a_right.result.1
          c.requires.a_divisor c.requires.a_scale c.requires.b_divisor c.requires.b_scale
          c.lowest-a_top.ensures.lowest c.lowest-b_top.ensures.lowest c.lowest-a_left.ensures.lowest c.lowest-a_right.ensures.lowest,
      inr passes,
    )

pub returns-clause-some : goal.returns-clause-some
returns-clause-some c =
    factors_along _ _ _ _ c.args.a_divisor c.args.a_scale c.args.b_divisor c.args.b_scale _ _ _ _ refl refl refl refl c.in_ok-a_factor.ensures.1 c.in_ok-b_factor.ensures.1
    (factors_are c.args.a_divisor c.args.a_scale c.args.b_divisor c.args.b_scale
    c.lowest-a_top.result.0 c.lowest-a_top.result.1 c.lowest-b_top.result.0 c.lowest-b_top.result.1
    c.lowest-a_left.result.0 c.lowest-a_left.result.1 c.lowest-a_right.result.0 c.lowest-a_right.result.1
    c.requires.a_divisor c.requires.a_scale c.requires.b_divisor c.requires.b_scale
    c.lowest-a_top.ensures.lowest c.lowest-b_top.ensures.lowest c.lowest-a_left.ensures.lowest c.lowest-a_right.ensures.lowest)
