use Rattle.std.proofs.Common.{◌≡◌, pos, to_z, of_z, arith, ap, ◌∙◌}
use Rattle.std.specs.Prelude.{ℤ, ◌*ℤ◌, unsigned_abs, FitsSigned}
use Rattle.std.specs.Int.{w128}
use Rattle.std.proofs.lemmas.Int.{to_z-of_z, to_z_pos, fits_signed_from_abs, unsigned_abs-mul}
use Rattle.kf_gain.proofs.actions.times.Goals as goal

pub overflow_mul-result : goal.overflow_mul-result
overflow_mul-result c =
    let w : to_z w128 c.args.weight ≡ pos c.args.weight = to_z_pos w128 c.args.weight (omega (arith, c.requires.narrow)) in
    let g : to_z w128 (of_z w128 c.args.gain) ≡ c.args.gain = to_z-of_z w128 c.args.gain c.ranges.gain in
    let z : ℤ = to_z w128 c.args.weight *ℤ to_z w128 (of_z w128 c.args.gain) in
    let same : z ≡ pos c.args.weight *ℤ c.args.gain = λ i. w i *ℤ g i in
    fits_signed_from_abs w128 z (omega (arith, ap unsigned_abs same, unsigned_abs-mul (pos c.args.weight) c.args.gain, c.requires.fits))

pub returns : goal.returns
returns c =
    let w : to_z w128 c.args.weight ≡ pos c.args.weight = to_z_pos w128 c.args.weight (omega (arith, c.requires.narrow)) in
    let g : to_z w128 (of_z w128 c.args.gain) ≡ c.args.gain = to_z-of_z w128 c.args.gain c.ranges.gain in
    let z : ℤ = to_z w128 c.args.weight *ℤ to_z w128 (of_z w128 c.args.gain) in
    let same : z ≡ pos c.args.weight *ℤ c.args.gain = λ i. w i *ℤ g i in
    let fits : FitsSigned w128 z = fits_signed_from_abs w128 z (omega (arith, ap unsigned_abs same, unsigned_abs-mul (pos c.args.weight) c.args.gain, c.requires.fits)) in
    to_z-of_z w128 z fits ∙ same
