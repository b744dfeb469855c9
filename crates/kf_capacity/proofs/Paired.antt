-- Columns that are the products of each of some with each of others.
use Rattle.std.proofs.Common.{◌≡◌, ℕ, zero, suc, ◌+◌, ◌*◌, ◌/◌, ◌%◌, ◌<◌, All, subst, List, [], ◌∷◌, length, get_or, map, min, refl, sym, ◌∙◌, ap, arith}
use Rattle.std.specs.List.{flat_map}
use Rattle.std.proofs.Math.Nat.{div-lt_iff_lt-mul, mod-lt}
use Rattle.std.proofs.lemmas.Nat.{div-add-mod'}
use Rattle.std.proofs.lemmas.List.{get_or-map, get_or_append_left, get_or-append-add, length-map, length-append}
use Rattle.kf_capacity.specs.Composing.{products}

pub products_long : (ms ns : List ℕ) → length (products ms ns) ≡ min (length ms) (length ns)
products_long [] ns = omega arith
products_long (m ∷ ms) [] = omega arith
products_long (m ∷ ms) (n ∷ ns) = omega (arith, products_long ms ns)

pub product_at : (ms ns : List ℕ) (i d : ℕ) → i < length ms → i < length ns → get_or (products ms ns) i d ≡ get_or ms i d * get_or ns i d
product_at [] ns i d left right = absurd (omega (arith, left))
product_at (m ∷ ms) [] i d left right = absurd (omega (arith, right))
product_at (m ∷ ms) (n ∷ ns) zero d left right = refl
product_at (m ∷ ms) (n ∷ ns) (suc i) d left right = product_at ms ns i d (omega (arith, left)) (omega (arith, right))

first_row : (l n : ℕ) → 0 * n + l ≡ l
first_row l n = omega arith

module _ (others : List (List ℕ)) where
  abbrev pub paired : List (List ℕ) → List (List ℕ)
  paired columns = flat_map (λ column. map (products column) others) columns

  pub paired_long : (columns : List (List ℕ)) → length (paired columns) ≡ length columns * length others
  paired_long [] = omega arith
  paired_long (column ∷ columns) =
      omega (arith, length-append (map (products column) others) (paired columns), length-map others (products column), paired_long columns)

  pub paired_at : (columns : List (List ℕ)) (k l : ℕ) (d : List ℕ) → k < length columns → l < length others
      → get_or (paired columns) (k * length others + l) d ≡ products (get_or columns k d) (get_or others l d)
  paired_at [] k l d inside within = absurd (omega (arith, inside))
  paired_at (column ∷ columns) zero l d inside within =
      ap (λ n. get_or (paired (column ∷ columns)) n d) (first_row l (length others))
      ∙ get_or_append_left (map (products column) others) (paired columns) d l (omega (arith, length-map others (products column), within))
      ∙ get_or-map (products column) others l d d within
  paired_at (column ∷ columns) (suc k) l d inside within =
      ap (λ n. get_or (paired (column ∷ columns)) n d) (shifted k l (length others) (length (map (products column) others)) (length-map others (products column)))
      ∙ get_or-append-add (map (products column) others) (paired columns) (k * length others + l) d
      ∙ paired_at columns k l d (omega (arith, inside)) within
    where
      shifted : (k l n m : ℕ) → m ≡ n → suc k * n + l ≡ m + (k * n + l)
      shifted k l n m same = omega (arith, same)

  -- ---- one number of one of them

  pub record IsPlace (columns : List (List ℕ)) (i j : ℕ) : Type 0 where
    pub some : 0 < length others
    pub first : j / length others < length columns
    pub second : j % length others < length others
    pub left : i < length (get_or columns (j / length others) [])
    pub right : i < length (get_or others (j % length others) [])
    pub number : get_or (get_or (paired columns) j []) i 0 ≡ get_or (get_or columns (j / length others) []) i 0 * get_or (get_or others (j % length others) []) i 0

  some_others : (m n j : ℕ) → j < m * n → 0 < n
  some_others m zero j within = absurd (omega (arith, within))
  some_others m (suc n) j within = omega arith

  pub place_is : (columns : List (List ℕ)) (rows i j : ℕ) → All (λ column. length column ≡ rows) (paired columns) → i < rows
      → j < length (paired columns) → IsPlace columns i j
  place_is columns rows i j long inside within =
      let n = length others in
      let k = j / n in
      let l = j % n in
      let below : j < length columns * n = subst (λ m. j < m) (paired_long columns) within in
      let some : 0 < n = some_others (length columns) n j below in
      let first : k < length columns = (div-lt_iff_lt-mul some).1 below in
      let second : l < n = mod-lt j some in
      let read : get_or (paired columns) j [] ≡ products (get_or columns k []) (get_or others l []) =
      ap (λ m. get_or (paired columns) m []) (sym (div-add-mod' j n)) ∙ paired_at columns k l [] first second in
      let both : min (length (get_or columns k [])) (length (get_or others l [])) ≡ rows =
      sym (products_long (get_or columns k []) (get_or others l [])) ∙ ap length (sym read) ∙ long j [] within in
      let left : i < length (get_or columns k []) = omega (arith, both, inside) in
      let right : i < length (get_or others l []) = omega (arith, both, inside) in
      record {
        some = some;
        first = first;
        second = second;
        left = left;
        right = right;
        number = ap (λ ns. get_or ns i 0) read ∙ product_at (get_or columns k []) (get_or others l []) i 0 left right;
      }
