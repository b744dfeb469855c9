-- Two lists whose elements are related one by one, as a loop makes the second from the first.
use Rattle.std.proofs.Common.{◌≡◌, ℕ, ◌+◌, ◌<◌, ◌≤◌, List, [], ◌∷◌, ◌++◌, length, get_or, take, drop, map, slice_get, Some, sym, ap, ◌∙◌}
use Rattle.std.specs.Option.{option_map}
use Rattle.std.proofs.lemmas.Option.{slice_get-map, slice_get-get_or}
use Rattle.std.proofs.lemmas.List.{map-append, take_more, take_all, take-append-drop, drop_more}

pub data Each {A B : Type 0} (R : A → B → Type 0) : List A → List B → Type 0 where
  none : Each R [] []
  more : {x : A} {xs : List A} {y : B} {ys : List B} → R x y → Each R xs ys → Each R (x ∷ xs) (y ∷ ys)

module _ {A B : Type 0} (R : A → B → Type 0) where
  each_behind : {xs : List A} {ys : List B} (x : A) (y : B) → Each R xs ys → R x y → Each R (xs ++ x ∷ []) (ys ++ y ∷ [])
  each_behind x y none h = more h none
  each_behind x y (more r rs) h = more r (each_behind x y rs h)

  -- before a loop, after a turn, and at its end
  pub each_start : (xs : List A) → Each R (take 0 xs) []
  each_start xs = none

  pub each_turn : (xs : List A) (ys : List B) (i : ℕ) (x : A) (y : B) → i < length xs → x ≡ get_or xs i x → Each R (take i xs) ys → R x y
      → Each R (take (i + 1) xs) (ys ++ y ∷ [])
  each_turn xs ys i x y within read before here =
      let longer : take (i + 1) xs ≡ take i xs ++ x ∷ [] = take_more xs i x within ∙ ap (λ z. take i xs ++ z ∷ []) (sym read) in
      rw longer (each_behind x y before here)

  pub each_end : (xs : List A) (ys : List B) (i : ℕ) → length xs ≤ i → Each R (take i xs) ys → Each R xs ys
  each_end xs ys i past h = rw (take_all i xs past) at h

-- the elements before a turn, its own and those behind
pub around : {A : Type 0} (xs : List A) (i : ℕ) (x : A) → i < length xs → x ≡ get_or xs i x → xs ≡ take i xs ++ x ∷ drop (i + 1) xs
around xs i x within read =
    sym (take-append-drop i xs) ∙ ap (λ ys. take i xs ++ ys) (drop_more xs i x within ∙ ap (λ z. z ∷ drop (i + 1) xs) (sym read))

-- what a read of a list tells of the mapped list
pub mapped_read : {A B : Type 0} (f : A → B) (xs : List A) (i : ℕ) (x : A) → i < length xs → x ≡ get_or xs i x → slice_get (map f xs) i ≡ Some (f x)
mapped_read f xs i x within read =
    slice_get-map f xs i ∙ (ap (option_map f) (slice_get-get_or xs i x within) ∙ ap (λ y. Some (f y)) (sym read))

taken : {A B : Type 0} (f : A → B) (xs : List A) (i : ℕ) (x : A) → i < length xs → x ≡ get_or xs i x → map f (take (i + 1) xs) ≡ map f (take i xs) ++ f x ∷ []
taken f xs i x within read =
    ap (map f) (take_more xs i x within ∙ ap (λ z. take i xs ++ z ∷ []) (sym read)) ∙ map-append f (take i xs) (x ∷ [])

-- lists that differ at one place
pub apart : {A B C : Type 0} (f : A → C) (g : B → C) (xs : List A) (ys : List B) (i : ℕ) (x : A) (y : B) → i < length xs → x ≡ get_or xs i x → i < length ys → y ≡ get_or ys i y
    → (f x ≡ g y → ⊥) → map f xs ≡ map g ys → ⊥
apart f g xs ys i x y within read within' read' differ same =
    let both : Some (f x) ≡ Some (g y) = sym (mapped_read f xs i x within read) ∙ (ap (λ zs. slice_get zs i) same ∙ mapped_read g ys i y within' read') in
    differ (cc)
