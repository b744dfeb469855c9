use Rattle.std.proofs.Common.{◌≤◌, ◌≡◌, arith, length}
use Rattle.kf_refine.proofs.Coefficients.{spread_whole, spread_ascends}
use Rattle.kf_refine.proofs.equations.value_coefficients.Goals as goal

pub invariant_of-result : goal.invariant_of-result
invariant_of-result c =
    let weights = c.args.weights.now.entries.items in
    let past : length weights ≤ c.loop-weight.weight-index = omega (arith, c.loop-weight-test.false, c.as_slice-weight-items.ensures.len, c.args.weights.now.entries.ok.0) in
    record {
      ascending = spread_ascends c.args.columns c.args.j c.requires.inner weights c.loop-weight.entries.items
          (spread_whole c.args.columns c.args.j c.requires.inner weights c.loop-weight.entries.items c.loop-weight.weight-index past c.loop-weight.invariant)
          c.args.weights.now.ascending;
    }
