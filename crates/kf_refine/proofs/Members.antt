-- Members of lists by recursion, and lists of numbers that rise.
use Rattle.std.proofs.Common.{◌≡◌, ℕ, zero, suc, ◌<◌, List, [], ◌∷◌, ◌++◌, All, Contains, ◌⊎◌, inl, inr, refl, sym, subst, arith, add-one, nat_cmp}
use Rattle.std.specs.declared.cmp.Ordering.TheVariants.{Less}
use Rattle.std.specs.List.{AllByRecursion}
use Rattle.std.specs.List.Sorted.{IsStrictlyIncreasing, IsStrictlySortedBy}
use Rattle.std.proofs.lemmas.Bool.Decides.{nat_tests}
use Rattle.std.proofs.lemmas.List.Elements.{All-head, All-tail}
use Rattle.kf_column.proofs.AtMostOne.{In}

module _ {X : Type 0} where
  pub in_contains : (x : X) (xs : List X) → In x xs → Contains xs x
  in_contains x [] h = absurd h
  in_contains x (y ∷ ys) (inl is) = (0, omega arith, sym is)
  in_contains x (y ∷ ys) (inr is) = let r = in_contains x ys is in (suc r.0, omega (arith, r.1), r.2)

  pub contains_in : (x : X) (xs : List X) → Contains xs x → In x xs
  contains_in x [] (k, within, is) = absurd (omega (arith, within))
  contains_in x (y ∷ ys) (zero, within, is) = inl (sym is)
  contains_in x (y ∷ ys) (suc k, within, is) = inr (contains_in x ys (k, omega (arith, within), is))

  pub all_in : (P : X → Type 0) (xs : List X) → All P xs → (x : X) → In x xs → P x
  all_in P [] all x here = absurd here
  all_in P (y ∷ ys) all x (inl is) = subst P (sym is) (All-head P y ys all)
  all_in P (y ∷ ys) all x (inr is) = all_in P ys (All-tail P y ys all) x is

  pub in_left : (x : X) (xs ys : List X) → In x xs → In x (xs ++ ys)
  in_left x [] ys h = absurd h
  in_left x (z ∷ zs) ys (inl is) = inl is
  in_left x (z ∷ zs) ys (inr is) = inr (in_left x zs ys is)

  pub in_right : (x : X) (xs ys : List X) → In x ys → In x (xs ++ ys)
  in_right x [] ys h = h
  in_right x (z ∷ zs) ys h = inr (in_right x zs ys h)

  further : (x z : X) (zs ys : List X) → In x zs ⊎ In x ys → In x (z ∷ zs) ⊎ In x ys
  further x z zs ys (inl h) = inl (inr h)
  further x z zs ys (inr h) = inr h

  pub in_either : (x : X) (xs ys : List X) → In x (xs ++ ys) → In x xs ⊎ In x ys
  in_either x [] ys h = inr h
  in_either x (z ∷ zs) ys (inl is) = inl (inl is)
  in_either x (z ∷ zs) ys (inr is) = further x z zs ys (in_either x zs ys is)

-- each number is below all that follow
abbrev pub Rises : List ℕ → Type 0
Rises [] = Unit {0}
Rises (x ∷ xs) = ((y : ℕ) → In y xs → x < y) × Rises xs

below_each : (x : ℕ) (xs : List ℕ) → AllByRecursion (λ (k : ℕ). nat_cmp x k ≡ Less) xs → (y : ℕ) → In y xs → x < y
below_each x [] all y here = absurd here
below_each x (z ∷ zs) all y (inl is) = let less : nat_cmp x z ≡ Less = all.0 in let h : x < z = grind (arith, nat_tests) in omega (arith, h, is)
below_each x (z ∷ zs) all y (inr is) = below_each x zs all.1 y is

pub sorted_rises : (xs : List ℕ) → IsStrictlySortedBy nat_cmp xs → Rises xs
unfolding IsStrictlySortedBy
sorted_rises [] sorted = tt
sorted_rises (x ∷ xs) sorted = (below_each x xs sorted.0, sorted_rises xs sorted.1)

pub rises_increasing : (xs : List ℕ) → Rises xs → IsStrictlyIncreasing xs
rises_increasing [] rises k within = absurd (omega (arith, within))
rises_increasing (x ∷ []) rises k within = absurd (omega (arith, within))
rises_increasing (x ∷ y ∷ ys) rises zero within = rises.0 y (inl refl)
rises_increasing (x ∷ y ∷ ys) rises (suc k) within = rw add-one (rw add-one at (rises_increasing (y ∷ ys) rises.1 k (omega (arith, within))))

below_behind : (x y : ℕ) (xs : List ℕ) → ((z : ℕ) → In z xs → x < z) → x < y → (z : ℕ) → In z xs ⊎ In z (y ∷ []) → x < z
below_behind x y xs all less z (inl is) = all z is
below_behind x y xs all less z (inr (inl is)) = omega (arith, less, is)
below_behind x y xs all less z (inr (inr is)) = absurd is

pub rises_behind : (y : ℕ) (xs : List ℕ) → Rises xs → ((z : ℕ) → In z xs → z < y) → Rises (xs ++ y ∷ [])
rises_behind y [] rises all = (λ z h. absurd h, tt)
rises_behind y (x ∷ xs) rises all =
    (λ z h. below_behind x y xs rises.0 (all x (inl refl)) z (in_either z xs (y ∷ []) h), rises_behind y xs rises.1 (λ z h. all z (inr h)))

-- what stands before a number in a rising list is below it, and what stands behind is above
pub front_below : (x : ℕ) (front back : List ℕ) → Rises (front ++ x ∷ back) → (y : ℕ) → In y front → y < x
front_below x [] back rises y here = absurd here
front_below x (z ∷ zs) back rises y (inl is) = omega (arith, rises.0 x (in_right x zs (x ∷ back) (inl refl)), is)
front_below x (z ∷ zs) back rises y (inr is) = front_below x zs back rises.1 y is

pub back_above : (x : ℕ) (front back : List ℕ) → Rises (front ++ x ∷ back) → (y : ℕ) → In y back → x < y
back_above x [] back rises y here = rises.0 y here
back_above x (z ∷ zs) back rises y here = back_above x zs back rises.1 y here
