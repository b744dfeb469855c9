-- What all inners, or all rows, together give to a value, one after the other.
use Rattle.std.proofs.Common.{◌≡◌, ℕ, ◌+◌, ◌<◌, ◌≤◌, List, [], ◌∷◌, All, map, sum_by, refl, sym, ◌∙◌, ap, subst, arith, length, get_or, take}
use Rattle.std.proofs.lemmas.List.{take_all, get_or-map, length-map}
use Rattle.std.proofs.lemmas.List.Sums.{sum_by-cons, sum_by_more, sum_by_more_le}

pub sum-mapped : {X Y : Type 0} (shown : X → Y) (f : Y → ℕ) (xs : List X) → sum_by f (map shown xs) ≡ sum_by (λ (x : X). f (shown x)) xs
sum-mapped shown f [] = refl
sum-mapped shown f (x ∷ xs) =
    sum_by-cons f (shown x) (map shown xs) ∙ ap (λ (n : ℕ). f (shown x) + n) (sum-mapped shown f xs) ∙ sym (sum_by-cons (λ x. f (shown x)) x xs)

module _ {X Y : Type 0} (shown : X → Y) (f : Y → ℕ) (xs : List X) (i : ℕ) (x : X) (inside : i < length xs) (is : x ≡ get_or xs i x) where
  pub one_more : sum_by f (map shown (take (i + 1) xs)) ≡ sum_by f (map shown (take i xs)) + f (shown x)
  one_more =
      sum-mapped shown f (take (i + 1) xs) ∙ sum_by_more (λ (x : X). f (shown x)) xs i x inside
      ∙ ap (λ (n : ℕ). n + f (shown (get_or xs i x))) (sym (sum-mapped shown f (take i xs)))
      ∙ ap (λ (y : X). sum_by f (map shown (take i xs)) + f (shown y)) (sym is)

  pub one_more_le : sum_by f (map shown (take i xs)) + f (shown x) ≤ sum_by f (map shown xs)
  one_more_le =
      omega (
        arith,
        sum-mapped shown f xs,
        sum-mapped shown f (take i xs),
        ap (λ (y : X). f (shown y)) is,
        sum_by_more_le (λ (x : X). f (shown x)) xs i x inside,
      )

-- what holds of each holds of the one that is read
pub here_too : {X Y : Type 0} (shown : X → Y) (P : Y → Type 0) (xs : List X) (i : ℕ) (x : X) → i < length xs → x ≡ get_or xs i x → All P (map shown xs) → P (shown x)
here_too shown P xs i x inside is all =
    subst P (get_or-map shown xs i x (shown x) inside ∙ sym (ap shown is)) (all i (shown x) (rw length-map inside))

pub all_seen : {X Y : Type 0} (shown : X → Y) (f : Y → ℕ) (xs : List X) (i : ℕ) → length xs ≤ i → sum_by f (map shown (take i xs)) ≡ sum_by f (map shown xs)
all_seen {X} shown f xs i past = ap (λ (ys : List X). sum_by f (map shown ys)) (take_all i xs past)
