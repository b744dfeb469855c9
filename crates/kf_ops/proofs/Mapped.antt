-- A search in a list that was mapped.
use Rattle.std.proofs.Common.{◌≡◌, Bool, not, List, [], ◌∷◌, map, position, refl}
use Rattle.std.specs.List.{prefix_len}
use Rattle.std.proofs.lemmas.List.{length-map}

module _ {X Y : Type 0} (p : Y → Bool) (f : X → Y) where
  prefix_len-map : (xs : List X) → prefix_len (λ x. not (p (f x))) xs ≡ prefix_len (λ y. not (p y)) (map f xs)
  prefix_len-map [] = refl
  prefix_len-map (x ∷ xs) = rw (prefix_len-map xs) refl

  pub position-map : (xs : List X) → position (λ x. p (f x)) xs ≡ position p (map f xs)
  position-map xs = rw (prefix_len-map xs, length-map) refl
