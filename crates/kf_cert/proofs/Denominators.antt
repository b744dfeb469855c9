-- The one denominator of a matrix of fractions, and its entries over it.
use Rattle.std.proofs.Common.{◌≡◌, ℕ, ◌*◌, ◌/◌, ◌<◌, List, [], ◌∷◌, ◌++◌, All, length, map, get_or, ap, subst, arith}
use Rattle.std.specs.Prelude.{flat_map}
use Rattle.std.proofs.Math.IntN.{ℤ, pos, ◌*ℤ◌}
use Rattle.std.proofs.Math.Nat.{mul-div_cancel'}
use Rattle.std.proofs.lemmas.Int.{ints}
use Rattle.std.proofs.lemmas.List.Elements.{All-head, All-tail, All-cons, All-nil, All-append, All-map, All-get_or, All-from_get_or}
use Rattle.std.specs.Int.{◌∣◌}
use Rattle.kf_frac.proofs.Multiples.{common_positive, common_divided}
use Rattle.kf_frac.proofs.Ring.{ring}
use Rattle.kf_refine.specs.Refinements.{Fraction, entry, IsShaped}
use Rattle.kf_cert.specs.Marks.{denominator, over_one}

-- ---- entries of a matrix

module _ (P : Fraction → Type 0) (m n : ℕ) (rows : List (List Fraction)) (shape : IsShaped m n rows) where
  pub at_entry : All (λ row. All P row) rows → (i j : ℕ) → i < m → j < n → P (entry rows i j)
  at_entry all i j l k =
      let inside : i < length rows = rw shape.many l in
      let long : length (get_or rows i []) ≡ n = All-get_or (λ row. length row ≡ n) rows i [] inside shape.each in
      All-get_or P (get_or rows i []) j (record { num = pos 0; den = 1 }) (rw long k) (All-get_or (λ row. All P row) rows i [] inside all)

  pub from_entries : ((i j : ℕ) → i < m → j < n → P (entry rows i j)) → All (λ row. All P row) rows
  from_entries each =
      All-from_get_or (λ row. All P row) rows []
      (λ (i : ℕ) (inside : i < length rows).
      let long : length (get_or rows i []) ≡ n = All-get_or (λ row. length row ≡ n) rows i [] inside shape.each in
      All-from_get_or P (get_or rows i []) (record { num = pos 0; den = 1 })
      (λ (j : ℕ) (k : j < length (get_or rows i [])).
      each i j (subst (λ (v : ℕ). i < v) shape.many inside) (subst (λ (v : ℕ). j < v) long k)))

-- ---- the denominator

abbrev dens : List (List Fraction) → List ℕ
dens rows = flat_map (λ row. map (λ f. f.den) row) rows

module _ (Q : ℕ → Type 0) where
  pub to_dens : (rows : List (List Fraction)) → All (λ row. All (λ f. Q f.den) row) rows → All Q (dens rows)
  to_dens [] all = All-nil Q
  to_dens (row ∷ rows) all =
      All-append Q (map (λ f. f.den) row) (dens rows) (All-map Q (λ (f : Fraction). f.den) row (All-head (λ row. All (λ f. Q f.den) row) row rows all))
      (to_dens rows (All-tail (λ row. All (λ f. Q f.den) row) row rows all))

  split_all : (xs ys : List ℕ) → All Q (xs ++ ys) → All Q xs × All Q ys
  split_all [] ys all = (All-nil Q, all)
  split_all (x ∷ xs) ys all =
      let rest = split_all xs ys (All-tail Q x (xs ++ ys) all) in (All-cons Q x xs (All-head Q x (xs ++ ys) all) rest.0, rest.1)

  of_row : (row : List Fraction) → All Q (map (λ f. f.den) row) → All (λ f. Q f.den) row
  of_row [] all = All-nil (λ (f : Fraction). Q f.den)
  of_row (f ∷ row) all =
      All-cons (λ (f : Fraction). Q f.den) f row (All-head Q f.den (map (λ f. f.den) row) all) (of_row row (All-tail Q f.den (map (λ f. f.den) row) all))

  of_dens : (rows : List (List Fraction)) → All Q (dens rows) → All (λ row. All (λ f. Q f.den) row) rows
  of_dens [] all = All-nil (λ (row : List Fraction). All (λ f. Q f.den) row)
  of_dens (row ∷ rows) all =
      let both = split_all (map (λ f. f.den) row) (dens rows) all in
      All-cons (λ (row : List Fraction). All (λ f. Q f.den) row) row rows (of_row row both.0) (of_dens rows both.1)

module _ (rows : List (List Fraction)) (sound : All (λ row. All (λ f. 0 < f.den) row) rows) where
  pub denominator_positive : 0 < denominator rows
  denominator_positive = common_positive (dens rows) (to_dens (λ d. 0 < d) rows sound)

  -- every denominator divides it
  pub denominator_divided : All (λ row. All (λ f. f.den ∣ denominator rows) row) rows
  denominator_divided = of_dens (λ d. d ∣ denominator rows) rows (common_divided (dens rows) (to_dens (λ d. 0 < d) rows sound))

  -- an entry over it is the entry
  pub over_one_is : (m n i j : ℕ) → IsShaped m n rows → i < m → j < n
      → over_one rows i j *ℤ pos (entry rows i j).den ≡ (entry rows i j).num *ℤ pos (denominator rows)
  over_one_is m n i j shape l k =
      times (entry rows i j).num (entry rows i j).den (denominator rows) (at_entry (λ f. f.den ∣ denominator rows) m n rows shape denominator_divided i j l k)
    where
      whole : (z : ℤ) (q d w : ℕ) → d * q ≡ w → z *ℤ pos q *ℤ pos d ≡ z *ℤ pos w
      whole z q d w is = simp ring (ap (λ (x : ℤ). z *ℤ x) (omega (arith, ints, is)))

      times : (z : ℤ) (d w : ℕ) → d ∣ w → z *ℤ pos (w / d) *ℤ pos d ≡ z *ℤ pos w
      times z d w divides = whole z (w / d) d w (mul-div_cancel' d divides)
