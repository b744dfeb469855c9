-- The elements with one key, among elements whose keys don't fall.
use Rattle.std.proofs.Common.{◌≡◌, ℕ, ◌+◌, ◌<◌, ◌==◌, List, [], ◌∷◌, All, sum_by, take, drop, length, get_or, Bool, true, false, refl, ap, arith, if◌then◌else◌, length-drop}
use Rattle.std.specs.List.Sorted.{IsPartitionPoint}
use Rattle.std.proofs.lemmas.Bool.{eq-eqb, ne_eqb, ltb-true, ltb-false, leb-true, leb-false}
use Rattle.std.proofs.lemmas.List.{get_or-take, get_or-drop, length-take}
use Rattle.std.proofs.lemmas.List.Elements.{All-head, All-tail}
use Rattle.std.proofs.lemmas.List.Sums.{sum_by-cons, sum_by-take-drop}
use lib.Dec.{ltb, leb}

module _ {X : Type 0} (key : X → ℕ) (one : ℕ) where
  abbrev tested : (X → ℕ) → X → ℕ
  tested f x = if key x == one then f x else 0

  sum_none : (f : X → ℕ) (xs : List X) → All (λ (x : X). key x ≡ one → ⊥) xs → sum_by (tested f) xs ≡ 0
  sum_none f [] none = refl
  sum_none f (x ∷ xs) none =
      let here : tested f x ≡ 0 = ap (λ (b : Bool). if b then f x else 0) (ne_eqb (key x) one (All-head (λ (x : X). key x ≡ one → ⊥) x xs none)) in
      omega (arith, sum_by-cons (tested f) x xs, here, sum_none f xs (All-tail (λ (x : X). key x ≡ one → ⊥) x xs none))

  sum_all : (f : X → ℕ) (xs : List X) → All (λ (x : X). key x ≡ one) xs → sum_by (tested f) xs ≡ sum_by f xs
  sum_all f [] all = refl
  sum_all f (x ∷ xs) all =
      let here : tested f x ≡ f x = ap (λ (b : Bool). if b then f x else 0) (eq-eqb (key x) one (All-head (λ (x : X). key x ≡ one) x xs all)) in
      omega (arith, sum_by-cons (tested f) x xs, sum_by-cons f x xs, here, sum_all f xs (All-tail (λ (x : X). key x ≡ one) x xs all))

  module _ (xs behind these : List X) (start end : ℕ)
      (first : IsPartitionPoint (λ (x : X). ltb (key x) one ≡ true) (λ (x : X). ltb (key x) one ≡ false) xs start) (rest : behind ≡ drop start xs)
      (second : IsPartitionPoint (λ (x : X). leb (key x) one ≡ true) (λ (x : X). leb (key x) one ≡ false) behind end) (are : these ≡ take end behind) where
    before : All (λ (x : X). key x ≡ one → ⊥) (take start xs)
    before i d within same =
        let low : i < start = omega (arith, within, length-take start xs) in
        let less = ltb-true (key (get_or xs i d)) one (first.0 i d (omega arith) low) in
        omega (arith, less, same, ap key (get_or-take start xs i d low))

    after : All (λ (x : X). key x ≡ one → ⊥) (drop end behind)
    after i d within same =
        let high : end + i < length behind = omega (arith, within, length-drop end behind) in
        let more = leb-false (key (get_or behind (end + i) d)) one (second.1 (end + i) d (omega arith) high) in
        omega (arith, more, same, ap key (get_or-drop end behind i d))

    among : All (λ (x : X). key x ≡ one) (take end behind)
    among i d within =
        let low : i < end = omega (arith, within, length-take end behind) in
        let inside : i < length behind = omega (arith, within, length-take end behind) in
        let far : start + i < length xs = omega (arith, inside, ap length rest, length-drop start xs) in
        let most = leb-true (key (get_or behind i d)) one (second.0 i d (omega arith) low) in
        let least = ltb-false (key (get_or xs (start + i) d)) one (first.1 (start + i) d (omega arith) far) in
        omega (
          arith,
          most,
          least,
          ap key (get_or-take end behind i d low),
          ap (λ (l : List X). key (get_or l i d)) rest,
          ap key (get_or-drop start xs i d),
        )

    pub key_sums : (f : X → ℕ) → sum_by f these ≡ sum_by (tested f) xs
    key_sums f =
        omega (
          arith,
          ap (sum_by f) are,
          sum_all f (take end behind) among,
          sum_none f (drop end behind) after,
          sum_none f (take start xs) before,
          sum_by-take-drop (tested f) xs start,
          ap (sum_by (tested f)) rest,
          sum_by-take-drop (tested f) behind end,
        )
