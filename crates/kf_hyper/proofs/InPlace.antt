-- A list whose elements are replaced one after the other.
use Rattle.std.proofs.Common.{◌≡◌, ℕ, ◌<◌, ◌≤◌, ◌+◌, zero, suc, List, [], ◌∷◌, ◌++◌, map, refl, ◌∙◌, ap, arith, add-one, length, get_or, set, take, drop, append-nil}
use Rattle.std.proofs.lemmas.List.{take_all, drop_all}

-- the first so many elements are replaced
abbrev pub part_mapped : {X : Type 0} → (X → X) → ℕ → List X → List X
part_mapped f i xs = map f (take i xs) ++ drop i xs

module _ {X : Type 0} (f : X → X) where
  one_more : (xs : List X) (i : ℕ) (d : X) → i < length xs → set (part_mapped f i xs) i (f (get_or (part_mapped f i xs) i d)) ≡ part_mapped f (suc i) xs
  one_more [] i d within = absurd (omega (arith, within))
  one_more (x ∷ xs) zero d within = refl
  one_more (x ∷ xs) (suc i) d within = ap (λ (ys : List X). f x ∷ ys) (one_more xs i d (omega (arith, within)))

  pub mapped_more : (xs now : List X) (i : ℕ) (d : X) → i < length xs → now ≡ part_mapped f i xs → set now i (f (get_or now i d)) ≡ part_mapped f (i + 1) xs
  mapped_more xs now i d within is = rw (is, add-one) (one_more xs i d within)

  pub mapped_all : (xs : List X) (i : ℕ) → length xs ≤ i → part_mapped f i xs ≡ map f xs
  mapped_all xs i past = rw (take_all i xs past, drop_all i xs past) (append-nil (map f xs))

  length_more : (xs : List X) (i : ℕ) → length (part_mapped f i xs) ≡ length xs
  length_more [] zero = refl
  length_more [] (suc i) = refl
  length_more (x ∷ xs) zero = refl
  length_more (x ∷ xs) (suc i) = ap suc (length_more xs i)

  pub as_long : (xs now : List X) (i : ℕ) → now ≡ part_mapped f i xs → length now ≡ length xs
  as_long xs now i is = ap length is ∙ length_more xs i

  kept_so_far : (xs : List X) (i : ℕ) (d : X) → i < length xs → get_or (part_mapped f i xs) i d ≡ get_or xs i d
  kept_so_far [] i d within = absurd (omega (arith, within))
  kept_so_far (x ∷ xs) zero d within = refl
  kept_so_far (x ∷ xs) (suc i) d within = kept_so_far xs i d (omega (arith, within))

  pub still_there : (xs now : List X) (i : ℕ) (d : X) → i < length xs → now ≡ part_mapped f i xs → get_or now i d ≡ get_or xs i d
  still_there xs now i d within is = ap (λ (ys : List X). get_or ys i d) is ∙ kept_so_far xs i d within
