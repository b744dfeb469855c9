-- Where a target is what each variable is before the statements and behind them, the number of its value is that of the initial store,
-- times the number of stores, and that of the store behind.
use Rattle.std.proofs.Common.{◌≡◌, ℕ, zero, suc, ◌+◌, ◌*◌, false, List, [], ◌∷◌, ◌++◌, length, map, get_or, slice_get, Some, refl, sym, ap, ◌∙◌, arith, append_assoc}
use Rattle.std.specs.List.{range_with_len}
use Rattle.std.proofs.Math.Nat.{mul_assoc}
use Rattle.std.proofs.lemmas.List.{length-append}
use Rattle.kf_value.specs.Types.{TypeTree, values, combinations, count, product}
use Rattle.kf_value.specs.Values.{ValueTree, Truth}
use Rattle.kf_value.specs.Stores.{stores}
use Rattle.kf_value.specs.Numbers.{IsStore}
use Rattle.kf_value.proofs.Places.{combination_at, combination_of}
use Rattle.kf_core.proofs.Stores.{length-stores}

-- ---- stores of two lists of variables

abbrev pub size : List TypeTree → ℕ
size ts = product (map count ts)

pub size_append : (ts us : List TypeTree) → size (ts ++ us) ≡ size ts * size us
size_append [] us = omega arith
size_append (t ∷ ts) us = ap (λ n. count t * n) (size_append ts us) ∙ sym (mul_assoc (count t) (size ts) (size us))

many : (ts : List TypeTree) → length (combinations (map values ts)) ≡ size ts
unfolding stores
many ts = length-stores ts

joined_at : (ts us : List TypeTree) (x y : ℕ) (s r : List ValueTree) → slice_get (combinations (map values ts)) x ≡ Some s → slice_get (combinations (map values us)) y ≡ Some r
    → slice_get (combinations (map values (ts ++ us))) (x * size us + y) ≡ Some (s ++ r)
joined_at [] us zero y s r h g =
    let same : [] ≡ s = (cc) in
    let place : 0 * size us + y ≡ y = omega arith in
    ap (slice_get (combinations (map values us))) place ∙ g ∙ ap (λ l. Some (l ++ r)) same
joined_at [] us (suc x) y s r h g = absurd (cc)
joined_at (t ∷ ts) us x y s r h g =
    let (i, j, v, rest, place, at_i, at_j, is) = combination_of (values t) (map values ts) x s h in
    let inner = joined_at ts us j y rest r at_j g in
    combination_at (values t) (map values (ts ++ us)) i (j * size us + y) (x * size us + y) v (rest ++ r)
    (ap (λ n. n * size us + y) (place ∙ ap (λ n. i * n + j) (many ts)) ∙ regrouped i j (size ts) (size us) y
    ∙ ap (λ n. i * n + (j * size us + y)) (sym (many (ts ++ us) ∙ size_append ts us))) at_i inner
    ∙ ap (λ l. Some (l ++ r)) (sym is)
  where
    regrouped : (i j m n y : ℕ) → (i * m + j) * n + y ≡ i * (m * n) + (j * n + y)
    regrouped i j m n y = omega arith

-- the store of both
pub both_stores : (ts us : List TypeTree) (x y : ℕ) (s r : List ValueTree) → IsStore ts x s → IsStore us y r → IsStore (ts ++ us) (x * size us + y) (s ++ r)
unfolding stores
both_stores ts us x y s r h g = joined_at ts us x y s r h g

-- a store of both is a store of each
record Parted (ts us : List TypeTree) (w : List ValueTree) : Type 0 where
  first : ℕ
  second : ℕ
  front : List ValueTree
  back : List ValueTree
  of_first : slice_get (combinations (map values ts)) first ≡ Some front
  of_second : slice_get (combinations (map values us)) second ≡ Some back
  whole : w ≡ front ++ back

parted_at : (ts us : List TypeTree) (n : ℕ) (w : List ValueTree) → slice_get (combinations (map values (ts ++ us))) n ≡ Some w → Parted ts us w
parted_at [] us n w g = record { first = 0; second = n; front = []; back = w; of_first = refl; of_second = g; whole = refl }
parted_at (t ∷ ts) us n w g =
    let (i, j, v, rest, place, at_i, at_j, is) = combination_of (values t) (map values (ts ++ us)) n w g in
    let inner : Parted ts us rest = parted_at ts us j rest at_j in
    record {
      first = i * length (combinations (map values ts)) + inner.first;
      second = inner.second;
      front = v ∷ inner.front;
      back = inner.back;
      of_first = combination_at (values t) (map values ts) i inner.first _ v inner.front refl at_i inner.of_first;
      of_second = inner.of_second;
      whole = is ∙ ap (λ l. v ∷ l) inner.whole;
    }

pub record IsParted (ts us : List TypeTree) (w : List ValueTree) : Type 0 where
  pub first : ℕ
  pub second : ℕ
  pub front : List ValueTree
  pub back : List ValueTree
  pub of_first : IsStore ts first front
  pub of_second : IsStore us second back
  pub whole : w ≡ front ++ back

pub parted : (ts us : List TypeTree) (n : ℕ) (w : List ValueTree) → IsStore (ts ++ us) n w → IsParted ts us w
unfolding stores
parted ts us n w g =
    let r : Parted ts us w = parted_at ts us n w g in
    record { first = r.first; second = r.second; front = r.front; back = r.back; of_first = r.of_first; of_second = r.of_second; whole = r.whole }

-- ---- values read one after the other

pub reads : (as' xs zs : List ValueTree) → map (λ c. get_or (as' ++ (xs ++ zs)) c (Truth false)) (range_with_len (length as') (length xs)) ≡ xs
reads as' [] zs = refl
reads as' (x ∷ xs) zs =
    let here : get_or (as' ++ (x ∷ (xs ++ zs))) (length as') (Truth false) ≡ x = first as' in
    let assoc : (as' ++ x ∷ []) ++ (xs ++ zs) ≡ as' ++ (x ∷ (xs ++ zs)) = append_assoc as' (x ∷ []) (xs ++ zs) in
    let long : length (as' ++ x ∷ []) ≡ length as' + 1 = length-append as' (x ∷ []) in
    let later = reads (as' ++ x ∷ []) xs zs in
    λ i. here i ∷ ((λ j. map (λ c. get_or (sym assoc j) c (Truth false)) (range_with_len (sym long j) (length xs))) ∙ later) i
  where
    first : (l : List ValueTree) → get_or (l ++ (x ∷ (xs ++ zs))) (length l) (Truth false) ≡ x
    first [] = refl
    first (y ∷ l) = first l
