-- The quotient and the remainder of std are those of Euclid.
use Rattle.std.proofs.Common.{◌≡◌, ◌≢◌, ℕ, zero, suc, ℤ, pos, negsuc, ◌+◌, ◌-◌, ◌*◌, ◌/◌, ◌%◌, ◌<◌, ◌+ℤ◌, ◌*ℤ◌, neg_ℤ, refl, sym, ap, ◌∙◌, arith}
use Rattle.std.specs.Prelude.{◌≤ℤ◌, ◌<ℤ◌}
use Rattle.std.specs.Int.{int_div_euclid, int_rem_euclid}
use Rattle.std.proofs.lemmas.Int.{ints}
use Rattle.kf_ops.specs.Laws.{IsEuclidean}

divided : (a b : ℕ) → 0 < b → (b * (a / b) + a % b ≡ a) × (a % b < b)
divided a b some = (omega arith, omega arith)

next_multiple : (a b : ℕ) → 0 < b → b * suc (a / b) + a % b ≡ a + b
next_multiple a b some = let whole = (divided a b some).0 in omega arith

positive : (b : ℕ) → pos b ≢ pos 0 → 0 < b
positive zero some = absurd (some refl)
positive (suc b) some = omega arith

neg_product : (b q : ℕ) → negsuc b *ℤ neg_ℤ (pos q) ≡ pos (suc b * q)
neg_product b zero = let none : suc b * 0 ≡ 0 = omega arith in rw none refl
neg_product b (suc q) = refl

from_below : (a b m p : ℕ) → p + m ≡ a + b → m < b → negsuc a ≡ neg_ℤ (pos p) +ℤ pos (b - 1 - m)
from_below a b m p sum small = omega (arith, ints)

within : (n b : ℕ) → n < b → (pos 0 ≤ℤ pos n) × (pos n <ℤ pos b)
within n b small = (omega (arith, ints), omega (arith, ints))

pub euclidean : (a b : ℤ) → b ≢ pos 0 → IsEuclidean a b (int_div_euclid a b) (int_rem_euclid a b)
euclidean (pos a) (pos b) some =
    let law = divided a b (positive b some) in
    let rest = within (a % b) b law.1 in
    record { whole = ap pos (sym law.0); low = rest.0; high = rest.1 }
euclidean (pos a) (negsuc b) some =
    let law = divided a (suc b) (omega arith) in
    let rest = within (a % suc b) (suc b) law.1 in
    record { whole = ap pos (sym law.0) ∙ ap (λ p. p +ℤ pos (a % suc b)) (sym (neg_product b (a / suc b))); low = rest.0; high = rest.1 }
euclidean (negsuc a) (pos b) some =
    let low = positive b some in
    let law = divided a b low in
    let rest = within (b - 1 - a % b) b (omega arith) in
    record { whole = from_below a b (a % b) (b * suc (a / b)) (next_multiple a b low) law.1; low = rest.0; high = rest.1 }
euclidean (negsuc a) (negsuc b) some =
    let law = divided a (suc b) (omega arith) in
    let rest = within (suc b - 1 - a % suc b) (suc b) (omega arith) in
    record { whole = from_below a (suc b) (a % suc b) (suc b * suc (a / suc b)) (next_multiple a (suc b) (omega arith)) law.1; low = rest.0; high = rest.1 }
