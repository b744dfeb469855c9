-- Signs and order of products of whole numbers.
use Rattle.std.proofs.Common.{◌≡◌, zero, suc, ◌+◌, ◌≤◌, arith}
use Rattle.std.proofs.Math.IntN.{ℤ, pos, negsuc, ◌*ℤ◌}
use Rattle.std.proofs.lemmas.Int.{ints, by_lt_z}
use Rattle.std.proofs.Math.Nat.{mul-le-mul_left}
use lib.Signed.{◌<ℤ◌, ◌≤ℤ◌}
use borrow.Author.Differences.{up, down}

-- the factor is written as a natural, and the order is multiplied there
pub product_monotone : (a b c : ℤ) → pos 0 ≤ℤ c → a ≤ℤ b → (c *ℤ a) ≤ℤ (c *ℤ b)
product_monotone a b (pos n) h k = let m : up a + down b ≤ up b + down a = omega (arith, ints) in omega (arith, ints, mul-le-mul_left n m)
product_monotone a b (negsuc n) h k = omega (arith, ints)

pub product_strict : (a b c : ℤ) → pos 0 <ℤ c → a <ℤ b → (c *ℤ a) <ℤ (c *ℤ b)
product_strict a b (pos zero) h k = omega (arith, ints)
product_strict a b (pos (suc n)) h k = let m : up a + down b + 1 ≤ up b + down a = omega (arith, ints) in omega (arith, ints, mul-le-mul_left (suc n) m)
product_strict a b (negsuc n) h k = omega (arith, ints)

pub cancel : (a b c : ℤ) → pos 0 <ℤ c → c *ℤ a ≡ c *ℤ b → a ≡ b
cancel a b c h e =
    by_lt_z a b (λ (l : a <ℤ b). omega (arith, ints, product_strict a b c h l))
    (λ (g : b ≤ℤ a). by_lt_z b a (λ (l : b <ℤ a). omega (arith, ints, product_strict b a c h l)) (λ (g' : a ≤ℤ b). omega (arith, ints)))

pub cancel_le : (a b c : ℤ) → pos 0 <ℤ c → (c *ℤ a) ≤ℤ (c *ℤ b) → a ≤ℤ b
cancel_le a b c h k = by_lt_z b a (λ (l : b <ℤ a). omega (arith, ints, product_strict b a c h l)) (λ g. g)

pub cancel_lt : (a b c : ℤ) → pos 0 <ℤ c → (c *ℤ a) <ℤ (c *ℤ b) → a <ℤ b
cancel_lt a b c h k = let w : pos 0 ≤ℤ c = omega (arith, ints) in by_lt_z a b (λ l. l) (λ (g : b ≤ℤ a). omega (arith, ints, product_monotone b a c w g))

pub product_positive : (a b : ℤ) → pos 0 <ℤ a → pos 0 <ℤ b → pos 0 <ℤ (a *ℤ b)
product_positive a b h k = omega (arith, ints, product_strict (pos 0) b a h k)

pub product_not_negative : (a b : ℤ) → pos 0 ≤ℤ a → pos 0 ≤ℤ b → pos 0 ≤ℤ (a *ℤ b)
product_not_negative a b h k = omega (arith, ints, product_monotone (pos 0) b a h k)

pub product_at_most_zero : (a b : ℤ) → pos 0 ≤ℤ a → b ≤ℤ pos 0 → (a *ℤ b) ≤ℤ pos 0
product_at_most_zero a b h k = omega (arith, ints, product_monotone b (pos 0) a h k)

pub factor_zero : (a b : ℤ) → pos 0 <ℤ a → a *ℤ b ≡ pos 0 → b ≡ pos 0
factor_zero a b h e = cancel b (pos 0) a h (omega (arith, ints))

pub factor_positive : (a b : ℤ) → pos 0 <ℤ a → pos 0 <ℤ (a *ℤ b) → pos 0 <ℤ b
factor_positive a b h k = cancel_lt (pos 0) b a h (omega (arith, ints))

pub factor_not_negative : (a b : ℤ) → pos 0 <ℤ a → pos 0 ≤ℤ (a *ℤ b) → pos 0 ≤ℤ b
factor_not_negative a b h k = cancel_le (pos 0) b a h (omega (arith, ints))
