use Rattle.std.proofs.Common.{◌≡◌, ◌≤◌, pos, to_z, Result, Ok, Err, Some, SomeIff, true≢false, arith, sym, subst}
use Rattle.std.specs.Int.{w128}
use Rattle.std.specs.Result.{IsOk, IsErr}
use Rattle.std.proofs.lemmas.Int.{ints}
use Rattle.kf_frac.specs.Fractions.{limit, reduced_num, reduced_den}
use Rattle.kf_frac.specs.Parts.{PartsFit}
use Rattle.kf_frac.proofs.Scaling.{reduced_fit}
use Rattle.kf_capacity.specs.Grids.{capacity_of}
use Rattle.kf_capacity.specs.Views.{grid_tree}
use Rattle.kf_capacity.proofs.capacities.capacity.Goals as goal

not_both : {T E : Type 0} (r : Result T E) → IsOk r → IsErr r → ⊥
not_both (Ok x) ok err = true≢false (sym err)
not_both (Err e) ok err = true≢false (sym ok)

pub returns-clause-wide : goal.returns-clause-wide
returns-clause-wide c =
    let sum = c.in_ok-sum.sum in
    let over = c.args.g.now.over in
    let whole = capacity_of (grid_tree c.args.g.now) in
    let found : c.sum_of_all.result ≡ Some sum = c.in_ok-sum.ensures.ok_part in
    let exact : (whole ≤ limit) × (sum ≡ whole) = subst (λ o. SomeIff o (whole ≤ limit) whole) found c.sum_of_all.ensures in
    let same : to_z w128 sum ≡ pos sum = omega (arith, ints, exact.0, exact.1) in
    let fit : PartsFit (pos sum) over = record { num = omega (arith, ints, exact.0, exact.1); den = c.args.g.now.grid.narrow } in
    let fits = subst (λ n. PartsFit (reduced_num n over) (reduced_den n over)) (sym same) (reduced_fit (pos sum) over fit) in
    (λ wide. absurd (not_both c.make.result (c.make.ensures.fits.1 fits) wide), λ wide. absurd (omega (arith, exact.0, wide)))
