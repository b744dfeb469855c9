use Rattle.std.proofs.Common.{◌*◌, ◌<◌, ◌≤◌, arith, refl}
use Rattle.std.specs.Prelude.{unsigned_abs}
use Rattle.kf_frac.specs.Views.{num_of, den_of}
use Rattle.kf_attack.proofs.Least.{not_enough, more_to_try, next_within, tried_next, posterior_within, tried_least, tried_shows}
use Rattle.kf_attack.proofs.least_tries.least.Goals as goal

pub offset_bounds-gains-tries : goal.offset_bounds-gains-tries
offset_bounds-gains-tries c =
    let short : c.loop-before.posterior * den_of c.args.wanted < unsigned_abs (num_of c.args.wanted) * c.args.scale = not_enough _ _ c.loop-before-test.ensures.1 in
    omega (arith, more_to_try _ _ _ c.args.gains.now c.requires.whole _ _ _ c.loop-before.invariant c.requires.part short)

pub bounds-gains-tries : goal.bounds-gains-tries
bounds-gains-tries c =
    let short : c.loop-before.posterior * den_of c.args.wanted < unsigned_abs (num_of c.args.wanted) * c.args.scale = not_enough _ _ c.loop-before-test.ensures.1 in
    more_to_try _ _ _ c.args.gains.now c.requires.whole _ _ _ c.loop-before.invariant c.requires.part short

pub overflow_add-posterior : goal.overflow_add-posterior
overflow_add-posterior c = omega (arith, next_within _ _ _ c.args.gains.now c.requires.whole _ _ _ c.loop-before.invariant, c.requires.narrow)

pub overflow_add-tries : goal.overflow_add-tries
overflow_add-tries c =
    let short : c.loop-before.posterior * den_of c.args.wanted < unsigned_abs (num_of c.args.wanted) * c.args.scale = not_enough _ _ c.loop-before-test.ensures.1 in
    omega (arith, more_to_try _ _ _ c.args.gains.now c.requires.whole _ _ _ c.loop-before.invariant c.requires.part short)

pub loop-before-smaller : goal.loop-before-smaller
loop-before-smaller c =
    let short : c.loop-before.posterior * den_of c.args.wanted < unsigned_abs (num_of c.args.wanted) * c.args.scale = not_enough _ _ c.loop-before-test.ensures.1 in
    omega (arith, more_to_try _ _ _ c.args.gains.now c.requires.whole _ _ _ c.loop-before.invariant c.requires.part short)

pub loop-before-preserved : goal.loop-before-preserved
loop-before-preserved c =
    let short : c.loop-before.posterior * den_of c.args.wanted < unsigned_abs (num_of c.args.wanted) * c.args.scale = not_enough _ _ c.loop-before-test.ensures.1 in
    tried_next _ _ _ c.args.gains.now c.requires.whole _ _ _ c.loop-before.invariant short

pub share-requires-clause-within : goal.share-requires-clause-within
share-requires-clause-within c = posterior_within _ _ _ c.args.gains.now c.requires.whole _ _ _ c.loop-before.invariant

pub returns : goal.returns
returns c =
    let enough : unsigned_abs (num_of c.args.wanted) * c.args.scale ≤ c.loop-before.posterior * den_of c.args.wanted = c.loop-before-test.ensures.0 refl in (
      c.loop-before.tries,
      tried_least _ _ _ c.args.gains.now c.requires.whole _ _ _ c.loop-before.invariant c.requires.some c.requires.positive enough,
      tried_shows _ _ _ c.args.gains.now c.requires.whole _ _ _ c.loop-before.invariant _ refl (record { num = c.share.ensures.num; den = c.share.ensures.den }) (record { num = c.share-2.ensures.num; den = c.share-2.ensures.den }),
    )
