-- Strictly sorted lists: joined, mapped and made piece by piece.
use Rattle.std.proofs.Common.{◌≡◌, ℕ, zero, suc, ◌<◌, List, [], ◌∷◌, ◌++◌, map, slice_get, Some, sym, ap, ◌∙◌, arith}
use Rattle.std.specs.Prelude.{⊤}
use Rattle.std.specs.declared.cmp.Ordering.{Ordering}
use Rattle.std.specs.declared.cmp.Ordering.TheVariants.{Less}
use Rattle.std.specs.List.{AllByRecursion as Each, flat_map}
use Rattle.std.specs.List.Sorted.{IsStrictlySortedBy}
use Rattle.kf_value.proofs.ListLemmas.{each_append, each_map, each_weaker, each_at}

-- each of the first is less than each of the second
abbrev pub Before : {X : Type 0} → (X → X → Ordering) → List X → List X → Type 0
Before c xs ys = Each (λ x. Each (λ y. c x y ≡ Less) ys) xs

pub sorted-nil : {X : Type 0} (c : X → X → Ordering) → IsStrictlySortedBy c []
unfolding IsStrictlySortedBy
sorted-nil c = tt

pub sorted-cons : {X : Type 0} (c : X → X → Ordering) (x : X) (xs : List X) → Each (λ y. c x y ≡ Less) xs → IsStrictlySortedBy c xs
    → IsStrictlySortedBy c (x ∷ xs)
unfolding IsStrictlySortedBy
sorted-cons c x xs first rest = (first, rest)

pub sorted-head : {X : Type 0} (c : X → X → Ordering) (x : X) (xs : List X) → IsStrictlySortedBy c (x ∷ xs) → Each (λ y. c x y ≡ Less) xs
unfolding IsStrictlySortedBy
sorted-head c x xs h = h.0

pub sorted-tail : {X : Type 0} (c : X → X → Ordering) (x : X) (xs : List X) → IsStrictlySortedBy c (x ∷ xs) → IsStrictlySortedBy c xs
unfolding IsStrictlySortedBy
sorted-tail c x xs h = h.1

pub sorted-append : {X : Type 0} (c : X → X → Ordering) (xs ys : List X) → IsStrictlySortedBy c xs → IsStrictlySortedBy c ys → Before c xs ys
    → IsStrictlySortedBy c (xs ++ ys)
sorted-append c [] ys hx hy h = hy
sorted-append c (x ∷ xs) ys hx hy h =
    sorted-cons c x (xs ++ ys)
    (each_append (λ y. c x y ≡ Less) xs ys (sorted-head c x xs hx) h.0)
    (sorted-append c xs ys (sorted-tail c x xs hx) hy h.1)

pub sorted-map : {X Y : Type 0} (c : X → X → Ordering) (d : Y → Y → Ordering) (f : X → Y) → ((x y : X) → c x y ≡ Less → d (f x) (f y) ≡ Less)
    → (xs : List X) → IsStrictlySortedBy c xs → IsStrictlySortedBy d (map f xs)
sorted-map c d f keeps [] h = sorted-nil d
sorted-map c d f keeps (x ∷ xs) h =
    sorted-cons d (f x) (map f xs)
    (each_map (λ y. d (f x) y ≡ Less) f xs (each_weaker (λ y. c x y ≡ Less) (λ y. d (f x) (f y) ≡ Less) (keeps x) xs (sorted-head c x xs h)))
    (sorted-map c d f keeps xs (sorted-tail c x xs h))

each_nothing : {X : Type 0} (xs : List X) → Each (λ x. ⊤) xs
each_nothing [] = tt
each_nothing (x ∷ xs) = (tt, each_nothing xs)

before_both : {X : Type 0} (c : X → X → Ordering) (xs ys zs : List X) → Before c xs ys → Before c xs zs → Before c xs (ys ++ zs)
before_both c [] ys zs hy hz = tt
before_both c (x ∷ xs) ys zs hy hz = (each_append (λ y. c x y ≡ Less) ys zs hy.0 hz.0, before_both c xs ys zs hy.1 hz.1)

-- pieces of which each is sorted, and the pieces of lesser values stand before those of greater ones
module _ {X Y : Type 0} (G : X → Type 0) (c : X → X → Ordering) (d : Y → Y → Ordering) (f : X → List Y)
    (inner : (x : X) → G x → IsStrictlySortedBy d (f x))
    (outer : (x y : X) → G x → G y → c x y ≡ Less → Before d (f x) (f y)) where
  before_rest : (x : X) → G x → (ys : List X) → Each G ys → Each (λ y. c x y ≡ Less) ys → Before d (f x) (flat_map f ys)
  before_rest x gx [] gs h = each_nothing (f x)
  before_rest x gx (y ∷ ys) gs h = before_both d (f x) (f y) (flat_map f ys) (outer x y gx gs.0 h.0) (before_rest x gx ys gs.1 h.1)

  pub sorted-flat_map : (xs : List X) → Each G xs → IsStrictlySortedBy c xs → IsStrictlySortedBy d (flat_map f xs)
  sorted-flat_map [] gs h = sorted-nil d
  sorted-flat_map (x ∷ xs) gs h =
      sorted-append d (f x) (flat_map f xs) (inner x gs.0) (sorted-flat_map xs gs.1 (sorted-tail c x xs h))
      (before_rest x gs.0 xs gs.1 (sorted-head c x xs h))

-- the places of a sorted list go with its order
pub sorted-at : {X : Type 0} (c : X → X → Ordering) (xs : List X) → IsStrictlySortedBy c xs → (i j : ℕ) (x y : X) → i < j
    → slice_get xs i ≡ Some x → slice_get xs j ≡ Some y → c x y ≡ Less
sorted-at c [] h i j x y below at_i at_j = (cc)
sorted-at c (z ∷ xs) h i zero x y below at_i at_j = absurd (omega arith)
sorted-at c (z ∷ xs) h zero (suc j) x y below at_i at_j =
    let same : z ≡ x = (cc) in
    let less : c z y ≡ Less = each_at (λ w. c z w ≡ Less) xs j y (sorted-head c z xs h) at_j in
    ap (λ w. c w y) (sym same) ∙ less
sorted-at c (z ∷ xs) h (suc i) (suc j) x y below at_i at_j = sorted-at c xs (sorted-tail c z xs h) i j x y (omega arith) at_i at_j
