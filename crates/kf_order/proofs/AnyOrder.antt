-- Lists in another order: where their images are, and what they are worth.
use Rattle.std.proofs.Common.{◌≡◌, ℕ, List, [], ◌∷◌, get_or, map, set, sum_by}
use Rattle.std.proofs.Common.{refl, sym, ap, subst, ◌∙◌, arith}
use Rattle.std.specs.Prelude.{IsPermutation}
use Rattle.std.specs.List.{swap}
use Rattle.std.specs.List.Sorted.{SwapsInRange, apply_swaps}
use Rattle.std.proofs.Math.IntN.{ℤ, pos, ◌+ℤ◌}
use Rattle.std.proofs.lemmas.Int.{ints}
use Rattle.std.proofs.lemmas.List.{length-map}
use Rattle.std.proofs.lemmas.List.Sorted.{sum_by-IsPermutation}
use Rattle.std.proofs.lemmas.List.Sums.{sum_by-cons}
use borrow.Author.Differences.{up, down}
use lib.ListN.{get_or-map}
use lib.Seq.{map-set}
use Rattle.kf_quiet.proofs.Worths.{worth}

module _ {X Y : Type 0} (f : X → Y) where
  exchanged : (xs : List X) (i j : ℕ) → map f (swap xs i j) ≡ swap (map f xs) i j
  exchanged [] i j = refl
  exchanged (x ∷ xs) i j =
      map-set f (set (x ∷ xs) i (get_or (x ∷ xs) j x)) j (get_or (x ∷ xs) i x)
      ∙ (λ t. set (map-set f (x ∷ xs) i (get_or (x ∷ xs) j x) t) j (f (get_or (x ∷ xs) i x)))
      ∙ (λ t. set (set (map f (x ∷ xs)) i (sym (get_or-map f (x ∷ xs) j x) t)) j (sym (get_or-map f (x ∷ xs) i x) t))

  all_exchanged : (xs : List X) (moves : List (ℕ × ℕ)) → map f (apply_swaps xs moves) ≡ apply_swaps (map f xs) moves
  all_exchanged xs [] = refl
  all_exchanged xs (m ∷ moves) = exchanged (apply_swaps xs moves) m.0 m.1 ∙ ap (λ (l : List Y). swap l m.0 m.1) (all_exchanged xs moves)

  -- images in another order are those of what they come from, in another order
  pub reordered : (xs : List X) (ys : List Y) → IsPermutation (map f xs) ys → (zs : List X) × IsPermutation xs zs × (map f zs ≡ ys)
  reordered xs ys order = (
    apply_swaps xs order.moves,
    record { moves = order.moves; below = subst (λ n. SwapsInRange n order.moves) (length-map xs f) order.below; is = refl },
    all_exchanged xs order.moves ∙ sym order.is,
  )

module _ {X : Type 0} (f : X → ℤ) where
  abbrev above : X → ℕ
  above x = up (f x)

  abbrev under : X → ℕ
  under x = down (f x)

  parts : (xs : List X) → worth f xs +ℤ pos (sum_by under xs) ≡ pos (sum_by above xs)
  parts [] = refl
  parts (x ∷ xs) = omega (arith, ints, parts xs, sum_by-cons above x xs, sum_by-cons under x xs)

  pub same_worth : (xs ys : List X) → IsPermutation xs ys → worth f xs ≡ worth f ys
  same_worth xs ys order = omega (arith, ints, parts xs, parts ys, sum_by-IsPermutation above xs ys order, sum_by-IsPermutation under xs ys order)
