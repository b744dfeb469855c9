-- Lists that are made piece by piece.
use Rattle.std.proofs.Common.{◌≡◌, ℕ, ◌+◌, ◌<◌, List, [], ◌∷◌, ◌++◌, All, map, flat_map, sum_by, take, length, get_or, refl, sym, ◌∙◌}
use Rattle.std.proofs.lemmas.List.{get_or-map, length-map, take_more}
use Rattle.std.proofs.lemmas.List.Elements.{All-nil, All-cons, All-head, All-tail, All-append}
use Rattle.std.proofs.lemmas.List.Sums.{sum_by-cons}

module _ {X : Type 0} (P : X → Type 0) where
  all_left : (xs ys : List X) → All P (xs ++ ys) → All P xs
  all_left [] ys all = All-nil P
  all_left (x ∷ xs) ys all = All-cons P x xs (All-head P x (xs ++ ys) all) (all_left xs ys (All-tail P x (xs ++ ys) all))

  all_right : (xs ys : List X) → All P (xs ++ ys) → All P ys
  all_right [] ys all = all
  all_right (x ∷ xs) ys all = all_right xs ys (All-tail P x (xs ++ ys) all)

  -- each piece has it
  pub in_pieces : {Y : Type 0} (f : Y → List X) (ys : List Y) → All P (flat_map f ys) → All (λ y. All P (f y)) ys
  in_pieces f [] all = All-nil (λ y. All P (f y))
  in_pieces f (y ∷ ys) all =
      All-cons (λ y. All P (f y)) y ys (all_left (f y) (flat_map f ys) all) (in_pieces f ys (all_right (f y) (flat_map f ys) all))

-- all pieces together have what each of them has
pub from_pieces : {X Y : Type 0} (P : X → Type 0) (f : Y → List X) (ys : List Y) → All (λ y. All P (f y)) ys → All P (flat_map f ys)
from_pieces P f [] all = All-nil P
from_pieces P f (y ∷ ys) all =
    All-append P (f y) (flat_map f ys) (All-head (λ y. All P (f y)) y ys all) (from_pieces P f ys (All-tail (λ y. All P (f y)) y ys all))

-- a sum over what is made of each
pub sum_of_made : {X Y : Type 0} (f : Y → ℕ) (g : X → Y) (h : X → ℕ) → ((x : X) → f (g x) ≡ h x) → (xs : List X)
    → sum_by f (map g xs) ≡ sum_by h xs
sum_of_made f g h same [] = refl
sum_of_made f g h same (x ∷ xs) =
    sum_by-cons f (g x) (map g xs) ∙ (λ k. same x k + sum_of_made f g h same xs k) ∙ sym (sum_by-cons h x xs)

-- what is made of the elements so far, and of one more
pub more_made : {X Y : Type 0} (f : X → Y) (xs : List X) (i : ℕ) (d : X) (made : List Y) (y : Y) → i < length xs
    → made ≡ take i (map f xs) → y ≡ f (get_or xs i d) → made ++ (y ∷ []) ≡ take (i + 1) (map f xs)
more_made f xs i d made y within same here =
    (λ k. same k ++ ((here ∙ sym (get_or-map f xs i d y within)) k ∷ [])) ∙ sym (take_more (map f xs) i y (simp length-map within))
