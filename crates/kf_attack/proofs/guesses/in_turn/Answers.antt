use Rattle.std.proofs.Common.{◌≤◌, pos, ap, arith, subst}
use Rattle.std.specs.Prelude.{ℤ, unsigned_abs}
use Rattle.std.specs.Int.{w128}
use Rattle.std.proofs.lemmas.Int.{to_z_pos, fits_signed_from_abs}
use Rattle.kf_frac.specs.Fractions.{limit}
use Rattle.kf_frac.specs.Parts.{IsFraction}
use Rattle.kf_column.specs.Columns.{total}
use Rattle.kf_column.proofs.Scaling.{total_positive}
use Rattle.kf_attack.specs.Inners.{cost_of}
use Rattle.kf_attack.proofs.Taking.{same_total, cost_fits, in_turn_shown, total_fits}
use Rattle.kf_attack.proofs.guesses.in_turn.Goals as goal

pub sum-whole-requires : goal.sum-whole-requires
sum-whole-requires c = total_fits c.args.entries.now c.requires.column limit c.requires.fits

pub cost-requires : goal.cost-requires
cost-requires c =
    let fits = cost_fits c.args.entries.now c.in_ok-guesses.guesses.items c.in_ok-guesses.ensures in
    omega (arith, ap (cost_of 1) c.as_slice-guesses.ensures.value, fits, c.requires.fits)

pub overflow_cast-cost : goal.overflow_cast-cost
overflow_cast-cost c =
    let fits = cost_fits c.args.entries.now c.in_ok-guesses.guesses.items c.in_ok-guesses.ensures in
    fits_signed_from_abs w128 (pos c.cost.result) (omega (arith, c.cost.ensures, ap (cost_of 1) c.as_slice-guesses.ensures.value, fits, c.requires.fits))

pub fraction-worth-requires-clause-num : goal.fraction-worth-requires-clause-num
fraction-worth-requires-clause-num c =
    let fits = cost_fits c.args.entries.now c.in_ok-guesses.guesses.items c.in_ok-guesses.ensures in
    let within : c.cost.result ≤ limit = omega (arith, c.cost.ensures, ap (cost_of 1) c.as_slice-guesses.ensures.value, fits, c.requires.fits) in
    omega (arith, within, ap unsigned_abs (to_z_pos w128 c.cost.result (omega (arith, within))))

pub fraction-worth-requires-clause-some : goal.fraction-worth-requires-clause-some
fraction-worth-requires-clause-some c = omega (arith, total_positive c.args.entries.now c.requires.column, c.sum-whole.ensures)

pub weighed-requires-clause-part : goal.weighed-requires-clause-part
weighed-requires-clause-part c =
    let same = same_total c.args.entries.now c.in_ok-guesses.guesses.items c.in_ok-guesses.ensures in
    omega (arith, ap total c.as_slice-guesses.ensures.value, same, c.sum-whole.ensures)

pub weighed-requires-clause-some : goal.weighed-requires-clause-some
weighed-requires-clause-some c = omega (arith, total_positive c.args.entries.now c.requires.column, c.sum-whole.ensures)

pub returns : goal.returns
returns c =
    let fits = cost_fits c.args.entries.now c.in_ok-guesses.guesses.items c.in_ok-guesses.ensures in
    let within : c.cost.result ≤ limit = omega (arith, c.cost.ensures, ap (cost_of 1) c.as_slice-guesses.ensures.value, fits, c.requires.fits) in
    let worth : IsFraction c.fraction-worth.result (pos c.cost.result) c.sum-whole.result =
    subst (λ (n : ℤ). IsFraction c.fraction-worth.result n c.sum-whole.result) (to_z_pos w128 c.cost.result (omega (arith, within))) c.fraction-worth.ensures in
    in_turn_shown c.args.entries.now c.in_ok-guesses.guesses.items c.in_ok-guesses.ensures c.requires.column c.sum-whole.result c.sum-whole.ensures
    c.as_slice-guesses.result.now c.cost.result c.fraction-worth.result c.in_ok-values.values worth c.in_ok-values.ensures
    c.as_slice-guesses.ensures.value c.cost.ensures
