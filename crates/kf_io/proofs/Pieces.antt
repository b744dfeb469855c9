-- Texts that are written one after the other.
use Rattle.std.proofs.Common.{◌≡◌, ℕ, ◌+◌, ◌<◌, ◌≤◌, suc, List, ◌++◌, length, get_or, take, drop, sym, ◌∙◌, ap, arith, length-append, take-append-drop, drop-cons}
use Rattle.std.proofs.lemmas.Grind.{flat_map-append}
use Rattle.std.specs.List.{flat_map}
use Rattle.std.specs.declared.option.Option.{Option}
use Rattle.std.specs.Io.KnownBytes.{Appends}
use Rattle.kf_io.specs.Writes.{AppendsSome}
use Rattle.kf_io.proofs.Taking.{front_more, front_then}

module _ {X : Type 0} (f : X → List ℕ) (xs : List X) (i : ℕ) (d : X) (within : i < length xs) where
  -- those before one, that one, and the rest
  split : flat_map f xs ≡ flat_map f (take i xs) ++ (f (get_or xs i d) ++ flat_map f (drop (suc i) xs))
  split =
      sym (ap (flat_map f) (take-append-drop i xs)) ∙ flat_map-append f (take i xs) (drop i xs)
      ∙ ap (λ rest. flat_map f (take i xs) ++ flat_map f rest) (drop-cons xs i d within)

  -- where all are certain to fit, so is each in its turn
  pub fits_at : (room now : ℕ) → length (flat_map f xs) ≤ room → room ≤ now + length (flat_map f (take i xs)) → length (f (get_or xs i d)) ≤ now
  fits_at room now fits left = let sizes = simp length-append at (ap length split) in omega arith

  -- a fault within one of them leaves a front of all
  pub front_at : (a b c : Option (List ℕ)) → Appends a b (flat_map f (take i xs)) → AppendsSome b c (f (get_or xs i d)) → AppendsSome a c (flat_map f xs)
  front_at a b c took front = rw split (front_then a b c _ _ took (front_more b c _ _ front))
