-- Numbers in strictly ascending order, by recursion, and a search in a list whose keys ascend.
use Rattle.std.proofs.Common.{◌≡◌, ℕ, ◌+◌, ◌<◌, ◌≤◌, List, [], ◌∷◌, map, arith, suc, zero, length, get_or, add-one, ⊎_elim}
use Rattle.std.specs.Ordering.{nat_cmp, ordering_index}
use Rattle.std.specs.declared.cmp.Ordering.TheVariants.{Less, Greater}
use Rattle.std.specs.List.Sorted.{IsNonDecreasingBy, IsStrictlyIncreasing}
use Rattle.std.proofs.lemmas.Bool.{cases_lt}
use Rattle.std.proofs.lemmas.Bool.Decides.{nat_tests}

-- the numbers ascend from `low` on
abbrev pub Rises : ℕ → List ℕ → Type 0
Rises low [] = Unit {0}
Rises low (x ∷ xs) = (low ≤ x) × Rises (x + 1) xs

rises_from : (low : ℕ) (xs : List ℕ) → (0 < length xs → low ≤ get_or xs 0 0) → IsStrictlyIncreasing xs → Rises low xs
rises_from low [] from ascending = tt
rises_from low (x ∷ xs) from ascending = (
  from (omega arith),
  rises_from (x + 1) xs (λ some. omega (arith, ascending 0 (omega (arith, some))))
      (λ k within. rw add-one (rw add-one at (ascending (suc k) (omega (arith, within))))),
)

pub rises : (xs : List ℕ) → IsStrictlyIncreasing xs → Rises 0 xs
rises xs ascending = rises_from 0 xs (λ some. omega arith) ascending

pub increasing : (low : ℕ) (xs : List ℕ) → Rises low xs → IsStrictlyIncreasing xs
increasing low [] rises k below = absurd (omega arith)
increasing low (x ∷ []) rises k below = absurd (omega arith)
increasing low (x ∷ y ∷ ys) (from, rest) zero below = omega (arith, rest.0)
increasing low (x ∷ y ∷ ys) (from, rest) (suc k) below = rw add-one (rw add-one at (increasing (x + 1) (y ∷ ys) rest k (omega arith)))

pub rises_less : (low high : ℕ) (xs : List ℕ) → low ≤ high → Rises high xs → Rises low xs
rises_less low high [] order rises = tt
rises_less low high (x ∷ xs) order (from, rest) = (omega (arith, from, order), rest)

rank_le : (v w x : ℕ) → v ≤ w → ordering_index (nat_cmp v x) ≤ ordering_index (nat_cmp w x)
rank_le v w x order = grind (arith, nat_tests)

not_less : (v x : ℕ) → nat_cmp v x ≡ Less → v ≡ x → ⊥
not_less v x less same = grind (arith, nat_tests)

not_greater : (v x : ℕ) → nat_cmp v x ≡ Greater → v ≡ x → ⊥
not_greater v x greater same = grind (arith, nat_tests)

module _ {X : Type 0} (key : X → ℕ) where
  pub from_low : (low : ℕ) (xs : List X) → Rises low (map key xs) → (k : ℕ) (d : X) → k < length xs → low ≤ key (get_or xs k d)
  from_low low [] up k d within = absurd (omega (arith, within))
  from_low low (e ∷ es) (from, rest) zero d within = from
  from_low low (e ∷ es) (from, rest) (suc k) d within = omega (arith, from, from_low (key e + 1) es rest k d (omega (arith, within)))

  rising : (low : ℕ) (xs : List X) → Rises low (map key xs) → (i j : ℕ) (d : X) → i ≤ j → j < length xs → key (get_or xs i d) ≤ key (get_or xs j d)
  rising low [] up i j d order within = absurd (omega (arith, within))
  rising low (e ∷ es) up zero zero d order within = omega arith
  rising low (e ∷ es) (from, rest) zero (suc j) d order within = omega (arith, from_low (key e + 1) es rest j d (omega (arith, within)))
  rising low (e ∷ es) up (suc i) zero d order within = absurd (omega (arith, order))
  rising low (e ∷ es) (from, rest) (suc i) (suc j) d order within = rising (key e + 1) es rest i j d (omega (arith, order)) (omega (arith, within))

  -- what a search for a key needs
  pub searchable_by : (xs : List X) (x : ℕ) → IsStrictlyIncreasing (map key xs) → IsNonDecreasingBy (λ (e : X). ordering_index (nat_cmp (key e) x)) xs
  searchable_by xs x ascending i j d order within =
      rank_le (key (get_or xs i d)) (key (get_or xs j d)) x (rising 0 xs (rises (map key xs) ascending) i j d order within)

  -- a key that a search finds greater or less than each is nowhere
  pub missing_by : (xs : List X) (x gap : ℕ) → ((k : ℕ) (d : X) → 0 ≤ k → k < gap → nat_cmp (key (get_or xs k d)) x ≡ Less)
      → ((k : ℕ) (d : X) → gap ≤ k → k < length xs → nat_cmp (key (get_or xs k d)) x ≡ Greater)
      → (k : ℕ) (d : X) → k < length xs → key (get_or xs k d) ≡ x → ⊥
  missing_by xs x gap below above k d within same =
      ⊎_elim
      (λ (h : k < gap). not_less (key (get_or xs k d)) x (below k d (omega arith) h) same)
      (λ (h : gap ≤ k). not_greater (key (get_or xs k d)) x (above k d h within) same)
      (cases_lt k gap)
