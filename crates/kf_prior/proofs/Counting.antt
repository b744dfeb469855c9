-- The stores of the first variables.
use Rattle.std.proofs.Common.{◌≡◌, ℕ, zero, suc, ◌+◌, ◌*◌, ◌<◌, ◌≤◌, List, [], ◌∷◌, length, take, get_or, sym, ap, ◌∙◌, arith, add-one}
use Rattle.std.proofs.Math.Nat.{mul-le-mul_left, mul_assoc}
use Rattle.kf_value.specs.Types.{product}

parts_some : (a b : ℕ) → 0 < a * b → (0 < a) × (0 < b)
parts_some zero b h = absurd (omega arith)
parts_some (suc a) zero h = absurd (omega arith)
parts_some (suc a) (suc b) h = (omega arith, omega arith)

-- no more than all have
pub first_few : (ns : List ℕ) (i : ℕ) → 0 < product ns → product (take i ns) ≤ product ns
first_few [] zero h = omega arith
first_few [] (suc i) h = omega arith
first_few (n ∷ ns) zero h = omega arith
first_few (n ∷ ns) (suc i) h = mul-le-mul_left n (first_few ns i (parts_some n (product ns) h).1)

pub one_more : (ns : List ℕ) (i d : ℕ) → i < length ns → product (take (i + 1) ns) ≡ product (take i ns) * get_or ns i d
one_more [] i d h = absurd (omega arith)
one_more (n ∷ ns) zero d h = omega arith
one_more (n ∷ ns) (suc i) d h = ap (λ ms. product ms) (ap (λ m. take m (n ∷ ns)) (add-one (suc i))) ∙ (ap (λ m. n * m) (ap (λ m. product (take m ns)) (sym (add-one i)) ∙ one_more ns i d (omega arith)) ∙ sym (mul_assoc n (product (take i ns)) (get_or ns i d)))
