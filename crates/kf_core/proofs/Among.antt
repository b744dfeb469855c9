-- That a fact holds of one among the elements of a list, by recursion.
use Rattle.std.proofs.Common.{◌≡◌, ℕ, zero, suc, ◌<◌, List, [], ◌∷◌, ◌++◌, map, length, get_or, ◌⊎◌, inl, inr, refl, sym, subst, arith}
use Rattle.std.specs.Prelude.{flat_map, Any}

abbrev pub Among : {X : Type 0} → (X → Type 0) → List X → Type 0
Among P [] = ⊥
Among P (x ∷ xs) = P x ⊎ Among P xs

module _ {X : Type 0} (P Q : X → Type 0) (gives : (x : X) → P x → Q x) where
  pub among_weaker : (xs : List X) → Among P xs → Among Q xs
  among_weaker [] h = h
  among_weaker (x ∷ xs) (inl p) = inl (gives x p)
  among_weaker (x ∷ xs) (inr h) = inr (among_weaker xs h)

module _ {X : Type 0} (P : X → Type 0) where
  pub among_left : (xs ys : List X) → Among P xs → Among P (xs ++ ys)
  among_left [] ys h = absurd h
  among_left (x ∷ xs) ys (inl p) = inl p
  among_left (x ∷ xs) ys (inr h) = inr (among_left xs ys h)

  pub among_right : (xs ys : List X) → Among P ys → Among P (xs ++ ys)
  among_right [] ys h = h
  among_right (x ∷ xs) ys h = inr (among_right xs ys h)

  among_past : (x : X) (xs ys : List X) → Among P xs ⊎ Among P ys → Among P (x ∷ xs) ⊎ Among P ys
  among_past x xs ys (inl h) = inl (inr h)
  among_past x xs ys (inr h) = inr h

  pub among_either : (xs ys : List X) → Among P (xs ++ ys) → Among P xs ⊎ Among P ys
  among_either [] ys h = inr h
  among_either (x ∷ xs) ys (inl p) = inl (inl p)
  among_either (x ∷ xs) ys (inr h) = among_past x xs ys (among_either xs ys h)

  -- in the words of contracts
  any_later : (x : X) (xs : List X) → Any P xs → Any P (x ∷ xs)
  any_later x xs h = (suc h.0, h.1, omega (arith, h.2), h.3, h.4)

  pub any_from_among : (xs : List X) → Among P xs → Any P xs
  any_from_among [] h = absurd h
  any_from_among (x ∷ xs) (inl p) = (0, x, omega arith, refl, p)
  any_from_among (x ∷ xs) (inr h) = any_later x xs (any_from_among xs h)

  pub among_at : (xs : List X) (k : ℕ) (d : X) → k < length xs → P (get_or xs k d) → Among P xs
  among_at [] k d within p = absurd (omega arith)
  among_at (x ∷ xs) zero d within p = inl p
  among_at (x ∷ xs) (suc k) d within p = inr (among_at xs k d (omega arith) p)

  pub among_from_any : (xs : List X) → Any P xs → Among P xs
  among_from_any xs h = among_at xs h.0 h.1 h.2 (subst P (sym h.3) h.4)

-- elements that come from others
module _ {X Y : Type 0} (P : Y → Type 0) (f : X → Y) where
  pub among_mapped : (xs : List X) → Among (λ x. P (f x)) xs → Among P (map f xs)
  among_mapped [] h = h
  among_mapped (x ∷ xs) (inl p) = inl p
  among_mapped (x ∷ xs) (inr h) = inr (among_mapped xs h)

  pub among_map : (xs : List X) → Among P (map f xs) → Among (λ x. P (f x)) xs
  among_map [] h = h
  among_map (x ∷ xs) (inl p) = inl p
  among_map (x ∷ xs) (inr h) = inr (among_map xs h)

  -- by the image that one has
  pub among_image : (xs : List X) → Among (λ x. P (f x)) xs → (y : Y) × Among (λ x. f x ≡ y) xs × P y
  among_image [] h = absurd h
  among_image (x ∷ xs) (inl p) = (f x, inl refl, p)
  among_image (x ∷ xs) (inr h) = let r = among_image xs h in (r.0, inr r.1, r.2)

  pub among_of_image : (xs : List X) (y : Y) → P y → Among (λ x. f x ≡ y) xs → Among (λ x. P (f x)) xs
  among_of_image [] y p h = absurd h
  among_of_image (x ∷ xs) y p (inl e) = inl (subst P (sym e) p)
  among_of_image (x ∷ xs) y p (inr h) = inr (among_of_image xs y p h)

module _ {X Y : Type 0} (P : Y → Type 0) (g : X → List Y) where
  pub among_flat : (xs : List X) → Among (λ x. Among P (g x)) xs → Among P (flat_map g xs)
  among_flat [] h = h
  among_flat (x ∷ xs) (inl h) = among_left P (g x) (flat_map g xs) h
  among_flat (x ∷ xs) (inr h) = among_right P (g x) (flat_map g xs) (among_flat xs h)

  flat_step : (x : X) (xs : List X) → Among P (g x) ⊎ Among P (flat_map g xs) → (Among P (flat_map g xs) → Among (λ x. Among P (g x)) xs) → Among (λ x. Among P (g x)) (x ∷ xs)
  flat_step x xs (inl h) later = inl h
  flat_step x xs (inr h) later = inr (later h)

  pub flat_among : (xs : List X) → Among P (flat_map g xs) → Among (λ x. Among P (g x)) xs
  flat_among [] h = h
  flat_among (x ∷ xs) h = flat_step x xs (among_either P (g x) (flat_map g xs) h) (flat_among xs)
