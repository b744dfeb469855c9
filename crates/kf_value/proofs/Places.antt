-- Where values stand in lists that are made piece by piece.
use Rattle.std.proofs.Common.{◌≡◌, ℕ, zero, suc, ◌+◌, ◌*◌, ◌^◌, ◌/◌, ◌%◌, ◌<◌, List, [], ◌∷◌, ◌++◌, length, map, slice_get, Option, Some, None, refl, sym, ap, ◌∙◌, inl, inr, ◌⊎◌, ⊎_elim, arith, length-append}
use Rattle.std.proofs.Math.Nat.{pow-suc}
use Rattle.std.proofs.lemmas.List.{length-map}
use Rattle.std.proofs.lemmas.Nat.{div-mul-add, mod-mul-add}
use Rattle.std.proofs.lemmas.Option.{slice_get_within, slice_get-map}
use Rattle.std.specs.Option.{option_map}
use Rattle.std.specs.List.{flat_map}
use Rattle.kf_value.specs.Values.{ValueTree}
use Rattle.kf_value.specs.Types.{combinations, subsets, product}

-- ---- pieces of one length

pub slice_get-append_left : {X : Type 0} (xs ys : List X) (n : ℕ) (x : X) → slice_get xs n ≡ Some x → slice_get (xs ++ ys) n ≡ Some x
slice_get-append_left [] ys n x h = (cc)
slice_get-append_left (y ∷ xs) ys zero x h = h
slice_get-append_left (y ∷ xs) ys (suc n) x h = slice_get-append_left xs ys n x h

pub slice_get-append_right : {X : Type 0} (xs ys : List X) (n k : ℕ) → k ≡ length xs + n → slice_get (xs ++ ys) k ≡ slice_get ys n
slice_get-append_right [] ys n k h = let same : k ≡ n = omega arith in ap (slice_get ys) same
slice_get-append_right (x ∷ xs) ys n zero h = absurd (omega arith)
slice_get-append_right (x ∷ xs) ys n (suc k) h = slice_get-append_right xs ys n k (omega arith)

-- a place is in the first list or in the second
slice_get-append_cases : {X : Type 0} (xs ys : List X) (n : ℕ) (x : X) → slice_get (xs ++ ys) n ≡ Some x
    → (slice_get xs n ≡ Some x) ⊎ ((k : ℕ) × (n ≡ length xs + k) × (slice_get ys k ≡ Some x))
slice_get-append_cases [] ys n x h = let start : n ≡ 0 + n = omega arith in inr (n, start, h)
slice_get-append_cases (y ∷ xs) ys zero x h = inl h
slice_get-append_cases (y ∷ xs) ys (suc n) x h =
    ⊎_elim
    (λ (here : slice_get xs n ≡ Some x). inl here)
    (λ (there : (k : ℕ) × (n ≡ length xs + k) × (slice_get ys k ≡ Some x)).
    let shifted : suc n ≡ suc (length xs) + there.0 = omega (arith, there.1) in inr (there.0, shifted, there.2))
    (slice_get-append_cases xs ys n x h)

module _ {X Y : Type 0} (f : X → List Y) (m : ℕ) (each : (x : X) → length (f x) ≡ m) where
  pub length_pieces : (xs : List X) → length (flat_map f xs) ≡ length xs * m
  length_pieces [] = omega arith
  length_pieces (x ∷ xs) =
      let both = length-append (f x) (flat_map f xs) in
      let first = each x in
      let rest = length_pieces xs in
      omega arith

  -- the j-th of the i-th piece
  pub piece_at : (xs : List X) (i j k : ℕ) (x : X) (y : Y) → k ≡ i * m + j → slice_get xs i ≡ Some x → slice_get (f x) j ≡ Some y
      → slice_get (flat_map f xs) k ≡ Some y
  piece_at [] i j k x y place at_i at_j = (cc)
  piece_at (z ∷ xs) zero j k x y place at_i at_j =
      let same : x ≡ z = (cc) in
      let first : k ≡ j = omega arith in
      slice_get-append_left (f z) (flat_map f xs) k y (ap (slice_get (f z)) first ∙ (ap (λ w. slice_get (f w) j) (sym same) ∙ at_j))
  piece_at (z ∷ xs) (suc i) j k x y place at_i at_j =
      let size = each z in
      let later : k ≡ length (f z) + (i * m + j) = omega arith in
      slice_get-append_right (f z) (flat_map f xs) (i * m + j) k later ∙ piece_at xs i j (i * m + j) x y refl at_i at_j

  -- each place is in one of the pieces
  pub piece_of : (xs : List X) (k : ℕ) (y : Y) → slice_get (flat_map f xs) k ≡ Some y
      → (i : ℕ) × (j : ℕ) × (x : X) × (k ≡ i * m + j) × (slice_get xs i ≡ Some x) × (slice_get (f x) j ≡ Some y)
  piece_of [] k y h = (cc)
  piece_of (x ∷ xs) k y h =
      ⊎_elim
      (λ (here : slice_get (f x) k ≡ Some y). let first : k ≡ 0 * m + k = omega arith in (0, k, x, first, refl, here))
      (λ (there : (n : ℕ) × (k ≡ length (f x) + n) × (slice_get (flat_map f xs) n ≡ Some y)).
      let inner = piece_of xs there.0 y there.2 in
      let size = each x in
      let place : k ≡ suc inner.0 * m + inner.1 = omega (arith, there.1, inner.3) in
      (suc inner.0, inner.1, inner.2, place, inner.4, inner.5))
      (slice_get-append_cases (f x) (flat_map f xs) k y h)

mapped_some : {X Y : Type 0} (f : X → Y) (o : Option X) (y : Y) → option_map f o ≡ Some y → (x : X) × (o ≡ Some x) × (y ≡ f x)
mapped_some f None y h = (cc)
mapped_some f (Some x) y h = let same : y ≡ f x = (cc) in (x, refl, same)

pub mapped_at : {X Y : Type 0} (f : X → Y) (xs : List X) (k : ℕ) (y : Y) → slice_get (map f xs) k ≡ Some y → (x : X) × (slice_get xs k ≡ Some x) × (y ≡ f x)
mapped_at f xs k y h = mapped_some f (slice_get xs k) y (sym (slice_get-map f xs k) ∙ h)

-- ---- combinations

pub length-combinations : (vss : List (List ValueTree)) → length (combinations vss) ≡ product (map length vss)
length-combinations [] = refl
length-combinations (vs ∷ vss) =
    length_pieces (λ v. map (λ rest. v ∷ rest) (combinations vss)) (length (combinations vss)) (λ v. length-map (combinations vss) (λ rest. v ∷ rest)) vs
    ∙ ap (λ n. length vs * n) (length-combinations vss)

module _ (vs : List ValueTree) (others : List (List ValueTree)) where
  -- all lists that begin with a value
  begun : ValueTree → List (List ValueTree)
  begun v = map (λ rest. v ∷ rest) (combinations others)

  length-begun : (v : ValueTree) → length (begun v) ≡ length (combinations others)
  unfolding begun
  length-begun v = length-map (combinations others) (λ rest. v ∷ rest)

  pub combination_at : (i j k : ℕ) (v : ValueTree) (rest : List ValueTree) → k ≡ i * length (combinations others) + j
      → slice_get vs i ≡ Some v → slice_get (combinations others) j ≡ Some rest → slice_get (combinations (vs ∷ others)) k ≡ Some (v ∷ rest)
  unfolding begun
  combination_at i j k v rest place at_i at_j =
      piece_at begun (length (combinations others)) length-begun vs i j k v (v ∷ rest) place at_i
      (slice_get-map (λ r. v ∷ r) (combinations others) j ∙ ap (option_map (λ r. v ∷ r)) at_j)

  pub combination_of : (k : ℕ) (s : List ValueTree) → slice_get (combinations (vs ∷ others)) k ≡ Some s
      → (i : ℕ) × (j : ℕ) × (v : ValueTree) × (rest : List ValueTree) × (k ≡ i * length (combinations others) + j)
      × (slice_get vs i ≡ Some v) × (slice_get (combinations others) j ≡ Some rest) × (s ≡ v ∷ rest)
  unfolding begun
  combination_of k s h =
      let piece = piece_of begun (length (combinations others)) length-begun vs k s h in
      let inner = mapped_at (λ r. piece.2 ∷ r) (combinations others) piece.1 s piece.5 in
      (piece.0, piece.1, piece.2, inner.0, piece.3, piece.4, inner.1, inner.2)

  -- the same by quotient and remainder
  pub combination_split : (k : ℕ) (s : List ValueTree) → slice_get (combinations (vs ∷ others)) k ≡ Some s
      → (v : ValueTree) × (rest : List ValueTree) × (slice_get vs (k / length (combinations others)) ≡ Some v)
      × (slice_get (combinations others) (k % length (combinations others)) ≡ Some rest) × (s ≡ v ∷ rest)
  combination_split k s h =
      let found = combination_of k s h in
      let size = length (combinations others) in
      let within : found.1 < size = slice_get_within (combinations others) found.1 found.3 found.6 in
      let quotient : k / size ≡ found.0 = ap (λ n. n / size) found.4 ∙ div-mul-add found.0 size found.1 within in
      let remainder : k % size ≡ found.1 = ap (λ n. n % size) found.4 ∙ mod-mul-add found.0 size found.1 within in
      (found.2, found.3, ap (slice_get vs) quotient ∙ found.5, ap (slice_get (combinations others)) remainder ∙ found.6, found.7)

-- ---- subsets

pub length-subsets : (vs : List ValueTree) → length (subsets vs) ≡ 2 ^ length vs
length-subsets [] = refl
length-subsets (v ∷ vs) =
    length_pieces (λ part. part ∷ (v ∷ part) ∷ []) 2 (λ part. refl) (subsets vs)
    ∙ (ap (λ n. n * 2) (length-subsets vs) ∙ sym (pow-suc 2 (length vs)))

pub subset_without : (v : ValueTree) (vs : List ValueTree) (k : ℕ) (part : List ValueTree) → slice_get (subsets vs) k ≡ Some part
    → slice_get (subsets (v ∷ vs)) (k * 2) ≡ Some part
subset_without v vs k part h =
    let place : k * 2 ≡ k * 2 + 0 = omega arith in
    piece_at (λ p. p ∷ (v ∷ p) ∷ []) 2 (λ p. refl) (subsets vs) k 0 (k * 2) part part place h refl

pub subset_with : (v : ValueTree) (vs : List ValueTree) (k : ℕ) (part : List ValueTree) → slice_get (subsets vs) k ≡ Some part
    → slice_get (subsets (v ∷ vs)) (k * 2 + 1) ≡ Some (v ∷ part)
subset_with v vs k part h = piece_at (λ p. p ∷ (v ∷ p) ∷ []) 2 (λ p. refl) (subsets vs) k 1 (k * 2 + 1) part (v ∷ part) refl h refl

-- the empty part comes first
pub subset_first : (vs : List ValueTree) → slice_get (subsets vs) 0 ≡ Some []
subset_first [] = refl
subset_first (v ∷ vs) = subset_without v vs 0 [] (subset_first vs)
