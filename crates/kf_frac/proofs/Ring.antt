-- Laws of products of whole numbers with signs: `simp ring` flattens a product, and `omega (arith, ints)` adds up.
use Rattle.std.proofs.Common.{◌≡◌, ℕ, ◌*◌, sym, ap, ◌∙◌, arith}
use Rattle.std.proofs.Math.IntN.{ℤ, ◌+ℤ◌, ◌*ℤ◌, neg_ℤ, *ℤ_comm}
use Rattle.std.proofs.lemmas.Int.{ints}
use borrow.Author.Differences.{up, down, sum_is_lem, product_is, neg_is}

pub mul_add : (a b c : ℤ) → a *ℤ (b +ℤ c) ≡ a *ℤ b +ℤ a *ℤ c
mul_add a b c = omega (arith, ints, ap (λ (n : ℕ). up a * n) (sum_is_lem b c), ap (λ (n : ℕ). down a * n) (sum_is_lem b c))

pub add_mul : (a b c : ℤ) → (b +ℤ c) *ℤ a ≡ b *ℤ a +ℤ c *ℤ a
add_mul a b c = omega (arith, ints, ap (λ (n : ℕ). up a * n) (sum_is_lem b c), ap (λ (n : ℕ). down a * n) (sum_is_lem b c))

pub mul_assoc : (a b c : ℤ) → a *ℤ b *ℤ c ≡ a *ℤ (b *ℤ c)
mul_assoc a b c = omega (
  arith,
  ints,
  ap (λ (n : ℕ). n * up c) (product_is a b).0,
  ap (λ (n : ℕ). n * down c) (product_is a b).0,
  ap (λ (n : ℕ). n * up c) (product_is a b).1,
  ap (λ (n : ℕ). n * down c) (product_is a b).1,
  ap (λ (n : ℕ). up a * n) (product_is b c).0,
  ap (λ (n : ℕ). down a * n) (product_is b c).0,
  ap (λ (n : ℕ). up a * n) (product_is b c).1,
  ap (λ (n : ℕ). down a * n) (product_is b c).1,
)

pub mul_left_comm : (a b c : ℤ) → a *ℤ (b *ℤ c) ≡ b *ℤ (a *ℤ c)
mul_left_comm a b c = sym (mul_assoc a b c) ∙ ap (λ (z : ℤ). z *ℤ c) (*ℤ_comm a b) ∙ mul_assoc b a c

pub neg_mul : (a b : ℤ) → neg_ℤ a *ℤ b ≡ neg_ℤ (a *ℤ b)
neg_mul a b = omega (
  arith,
  ints,
  ap (λ (n : ℕ). n * up b) (neg_is a).0,
  ap (λ (n : ℕ). n * down b) (neg_is a).0,
  ap (λ (n : ℕ). n * up b) (neg_is a).1,
  ap (λ (n : ℕ). n * down b) (neg_is a).1,
)

pub mul_neg : (a b : ℤ) → a *ℤ neg_ℤ b ≡ neg_ℤ (a *ℤ b)
mul_neg a b = *ℤ_comm a (neg_ℤ b) ∙ neg_mul b a ∙ ap neg_ℤ (*ℤ_comm b a)

pub ruleset ring = (mul_add, add_mul, neg_mul, mul_neg, mul_assoc, *ℤ_comm, mul_left_comm)
