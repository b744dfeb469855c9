-- The order of whole numbers, from that of their sizes.
use Rattle.std.proofs.Common.{◌≡◌, ℕ, ◌<◌, ℤ, pos, neg_ℤ, ◌<ℤ◌, Ordering, Less, Equal, Greater, nat_cmp, int_cmp, sym, ap, rules}
use Rattle.std.specs.Cmp.{ranks, int_cmp_is}
use Rattle.std.specs.Ordering.{MatchOrdering}

ranked_alike : {A B C D E F : Type 0} (r : Ordering) → (A → D) → (B → E) → (C → F) → MatchOrdering r A B C → MatchOrdering r D E F
ranked_alike Less f g h is = f is
ranked_alike Equal f g h is = g is
ranked_alike Greater f g h is = h is

pos_below : (m n : ℕ) → m < n → pos m <ℤ pos n
pos_below m n h = search rules

neg_below : (m n : ℕ) → m < n → neg_ℤ (pos n) <ℤ neg_ℤ (pos m)
neg_below m n h = search rules

-- numbers that are not below 0 go by their sizes
pub rising : (m n : ℕ) {x y : ℤ} → pos m ≡ x → pos n ≡ y → nat_cmp m n ≡ int_cmp x y
rising m n a b = rw (← a, ← b) (int_cmp_is (pos m) (pos n) (nat_cmp m n) (ranked_alike (nat_cmp m n) (pos_below m n) (ap pos) (pos_below n m) (ranks m n)))

-- numbers that are not above 0 go the other way round
pub falling : (m n : ℕ) {x y : ℤ} → neg_ℤ (pos m) ≡ x → neg_ℤ (pos n) ≡ y → nat_cmp n m ≡ int_cmp x y
falling m n a b =
    rw (← a, ← b) (int_cmp_is (neg_ℤ (pos m)) (neg_ℤ (pos n)) (nat_cmp n m)
    (ranked_alike (nat_cmp n m) (neg_below n m) (λ h. ap (λ k. neg_ℤ (pos k)) (sym h)) (neg_below m n) (ranks n m)))
