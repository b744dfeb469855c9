use Rattle.std.proofs.Common.{◌≡◌, length, sym, ap, get_or, subst, arith}
use Rattle.std.proofs.Math.Nat.{div-le_self}
use Rattle.std.proofs.lemmas.Nat.{mod_below}
use Rattle.std.proofs.lemmas.List.{length-map}
use Rattle.kf_value.specs.Types.{count}
use Rattle.kf_value.specs.Numbers.{weights, digits, HasDigit}
use Rattle.kf_value.specs.Shapes.{shape_types, shape_sizes}
use Rattle.kf_value.proofs.Digits.{positive_sizes, length-weights, entry, size_small, digit_read, digit_below, digit_value}
use Rattle.kf_value.proofs.Widening.{place_size, place_weight}
use Rattle.kf_value.proofs.shape.Shape.slot.Goals as goal

pub index-place-requires : goal.index-place-requires
index-place-requires c =
    let size = length-map (shape_types c.args.self.now) count in
    let listed = ap length c.args.self.now.sizes_are in
    let kept = length-map c.args.self.now.places.items place_size in
    let held = c.args.self.now.places.ok.0 in
    omega arith

pub quotient-steps-requires : goal.quotient-steps-requires
quotient-steps-requires c =
    let fits = c.args.self.now.fits in
    let below = c.requires.store in
    omega arith

pub remainder-requires : goal.remainder-requires
remainder-requires c =
    let fits = c.args.self.now.fits in
    let below = c.requires.store in
    let less = div-le_self c.args.store c.index-place.result.now.weight.divisor in
    rw c.quotient-steps.ensures (omega arith)

pub overflow_cast-result : goal.overflow_cast-result
overflow_cast-result c =
    let sizes = length-map (shape_types c.args.self.now) count in
    let size = entry place_size c.args.self.now.places.items (shape_sizes c.args.self.now) c.args.i c.index-place.result.now c.args.self.now.sizes_are (omega arith) c.index-place.ensures in
    let small = size_small (shape_types c.args.self.now) c.args.i c.args.self.now.sized c.requires.variable in
    let below = mod_below c.quotient-steps.result c.index-place.result.now.size.divisor c.index-place.result.now.size.some in
    rw c.remainder.ensures (omega arith)

pub returns : goal.returns
returns c =
    let sizes = length-map (shape_types c.args.self.now) count in
    let long = length-weights (shape_sizes c.args.self.now) in
    let positive = positive_sizes (shape_types c.args.self.now) c.args.self.now.sized in
    let weight = entry place_weight c.args.self.now.places.items (weights (shape_sizes c.args.self.now)) c.args.i c.index-place.result.now c.args.self.now.weights_are (omega arith) c.index-place.ensures in
    let size = entry place_size c.args.self.now.places.items (shape_sizes c.args.self.now) c.args.i c.index-place.result.now c.args.self.now.sizes_are (omega arith) c.index-place.ensures in
    let digit : c.remainder.result ≡ get_or (digits (shape_sizes c.args.self.now) c.args.store) c.args.i 0 =
    rw (c.remainder.ensures, c.quotient-steps.ensures, weight, size) (digit_read (shape_sizes c.args.self.now) c.args.store c.args.i positive c.requires.store (omega arith)) in
    record {
      digit = digit;
      value = subst (λ k. HasDigit (shape_types c.args.self.now) c.args.store c.args.i k) (sym digit) (digit_value (shape_types c.args.self.now) c.args.store c.args.i);
      below = rw digit (digit_below (shape_sizes c.args.self.now) c.args.store c.args.i positive c.requires.store (omega arith));
    }
