-- Matrices of fractions made of a function, and the unit matrix: a hyper refines itself.
use Rattle.std.proofs.Common.{◌≡◌, ◌≢◌, ℕ, ◌<◌, List, [], length, map, get_or, refl, sym, ap, ◌∙◌, arith, zero-add, ⊎_elim}
use Rattle.std.specs.List.{range_with_len}
use Rattle.std.proofs.Math.IntN.{ℤ, pos, ◌*ℤ◌}
use Rattle.std.proofs.lemmas.Bool.{cases_eq}
use Rattle.std.proofs.lemmas.Int.{ints}
use Rattle.std.proofs.lemmas.List.Elements.{All-from_get_or}
use Rattle.std.proofs.lemmas.List.FromFn.{length-map-range_with_len, get_or-map-range_with_len}
use lib.Signed.{◌≤ℤ◌}
use Rattle.kf_simplex.specs.Base.{total}
use Rattle.kf_simplex.proofs.Sums.{total-single, choose, choose-same, choose-other}
use Rattle.kf_refine.specs.Refinements.{count, joint, Fraction, entry, IsShaped, IsOver}
use Rattle.kf_refine.specs.Laws.{IsReflexive}

abbrev pub row_of : ℕ → (ℕ → Fraction) → List Fraction
row_of n f = map f (range_with_len 0 n)

-- m rows of n fractions, from a function
abbrev pub rows_of : ℕ → ℕ → (ℕ → ℕ → Fraction) → List (List Fraction)
rows_of m n f = map (λ i. row_of n (f i)) (range_with_len 0 m)

module _ (m n : ℕ) (f : ℕ → ℕ → Fraction) where
  row_is : (i : ℕ) → i < m → get_or (rows_of m n f) i [] ≡ row_of n (f i)
  row_is i l = get_or-map-range_with_len (λ i. row_of n (f i)) 0 m i i [] l (zero-add i)

  pub rows_shaped : IsShaped m n (rows_of m n f)
  rows_shaped = record {
    many = length-map-range_with_len (λ i. row_of n (f i)) 0 m;
    each = All-from_get_or (λ row. length row ≡ n) (rows_of m n f) []
        (λ (i : ℕ) (l : i < length (rows_of m n f)).
        let many = length-map-range_with_len (λ i. row_of n (f i)) 0 m in
        ap (λ (row : List Fraction). length row) (row_is i (omega (arith, many))) ∙ length-map-range_with_len (f i) 0 n);
  }

  pub entry_is : (i j : ℕ) → i < m → j < n → entry (rows_of m n f) i j ≡ f i j
  entry_is i j l k =
      ap (λ (row : List Fraction). get_or row j (record { num = pos 0; den = 1 })) (row_is i l)
      ∙ get_or-map-range_with_len (f i) 0 n j j (record { num = pos 0; den = 1 }) k (zero-add j)

-- the matrix of the whole numbers r over d
abbrev pub matrix_of : ℕ → ℕ → ℕ → (ℕ → ℕ → ℤ) → List (List Fraction)
matrix_of m n d r = rows_of m n (λ i j. record { num = r i j; den = d })

module _ (m n d : ℕ) (r : ℕ → ℕ → ℤ) where
  pub matrix_shaped : IsShaped m n (matrix_of m n d r)
  matrix_shaped = rows_shaped m n (λ i j. record { num = r i j; den = d })

  pub matrix_over : 0 < d → IsOver m n (matrix_of m n d r) d r
  matrix_over some = record {
    positive = some;
    fractions = λ i j l k. rw (is i j l k) some;
    numbers = λ i j l k. rw (is i j l k) refl;
  }
    where
      is : (i j : ℕ) → i < m → j < n → entry (matrix_of m n d r) i j ≡ record { num = r i j; den = d }
      is = entry_is m n (λ i j. record { num = r i j; den = d })

-- ---- the unit matrix

abbrev unit : ℕ → ℕ → ℤ
unit i j = choose i j (pos 1) (pos 0)

unit_not_negative : (i j : ℕ) → pos 0 ≤ℤ unit i j
unit_not_negative i j =
    ⊎_elim (λ (same : i ≡ j). rw same (rw (choose-same j (pos 1) (pos 0)) (omega (arith, ints))))
    (λ (other : i ≢ j). rw (choose-other i j (pos 1) (pos 0) other) (omega (arith, ints)))
    (cases_eq i j)

unit_row : (m i : ℕ) → i < m → total m (unit i) ≡ pos 1
unit_row m i l =
    total-single m i (unit i) l (λ (j : ℕ) (k : j < m) (other : j ≢ i). choose-other i j (pos 1) (pos 0) (λ same. other (sym same)))
    ∙ choose-same i (pos 1) (pos 0)

unit_column : (m j : ℕ) (f : ℕ → ℤ) → j < m → total m (λ i. f i *ℤ unit i j) ≡ f j
unit_column m j f l =
    total-single m j (λ i. f i *ℤ unit i j) l
    (λ (i : ℕ) (k : i < m) (other : i ≢ j). rw (choose-other i j (pos 1) (pos 0) other) (omega (arith, ints)))
    ∙ rw (choose-same j (pos 1) (pos 0)) (omega (arith, ints))

pub reflexive : IsReflexive
reflexive a proper = (
  matrix_of (count a) (count a) 1 unit,
  record {
    shape = matrix_shaped (count a) (count a) 1 unit;
    over = 1;
    number = unit;
    is_over = matrix_over (count a) (count a) 1 unit (omega arith);
    stochastic = record { not_negative = λ i j l k. unit_not_negative i j; rows = unit_row (count a) };
    carries = λ x j l. ap (λ (z : ℤ). pos a.scale *ℤ z) (unit_column (count a) j (λ i. pos (joint a x i)) l) ∙ omega (arith, ints);
  },
)
