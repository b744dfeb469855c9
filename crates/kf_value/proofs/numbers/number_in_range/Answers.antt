use Rattle.std.proofs.Common.{arith, ◌≤ℤ◌, Some, w64}
use Rattle.std.proofs.lemmas.Int.{ints, to_z-of_z}
use Rattle.kf_value.specs.Types.{Range}
use Rattle.kf_value.specs.Values.{Whole}
use Rattle.kf_value.proofs.ByForm.{in_bounds_tells, number_of_whole, no_whole, range_number, place_below}
use Rattle.kf_value.proofs.numbers.number_in_range.Goals as goal
use Rattle.kf_value.proofs.numbers.number_in_range.Goals.{else-lo-whole-via-then-lo-whole+else-whole-hi, else-lo-whole-via-else-lo-whole}

pub returns-then-whole-hi : goal.returns-then-whole-hi
returns-then-whole-hi c =
    let low : c.args.lo ≤ℤ c.args.whole = grind (arith, ints) in
    let high : c.args.whole ≤ℤ c.args.hi = grind (arith, ints) in
    let place = number_of_whole c.args.lo c.args.hi c.args.whole _ low high (range_number c.args.lo c.args.hi c.args.whole c.requires low high) in
    record { place = place; below = place_below (Range c.args.lo c.args.hi) (Whole c.args.whole) (Some _) place }

pub returns-else-lo-whole-clause-place : goal.returns-else-lo-whole-clause-place
returns-else-lo-whole-clause-place c =
    no_whole c.args.lo c.args.hi c.args.whole (λ low high.
    elim c.else-lo-whole.branch [
      | else-lo-whole-via-then-lo-whole+else-whole-hi w ↦ grind (arith, ints)
      | else-lo-whole-via-else-lo-whole w ↦ grind (arith, ints)
    ])

pub overflow_sub-result : goal.overflow_sub-result
overflow_sub-result c =
    let low : c.args.lo ≤ℤ c.args.whole = grind (arith, ints) in
    let high : c.args.whole ≤ℤ c.args.hi = grind (arith, ints) in
    let bounds = in_bounds_tells c.args.lo c.args.hi c.requires in
    rw (to_z-of_z w64 c.args.whole c.ranges.whole, to_z-of_z w64 c.args.lo c.ranges.lo) (omega (arith, ints))
