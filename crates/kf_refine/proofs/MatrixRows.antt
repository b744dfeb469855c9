-- A list of fractions cut into rows.
use Rattle.std.proofs.Common.{◌≡◌, ℕ, zero, suc, ◌+◌, ◌*◌, ◌<◌, ◌≤◌, refl, ap, ◌∙◌, subst, arith, ⊎_elim, List, [], ◌∷◌, ◌++◌, length, map, take, drop, get_or, length-append, length-take-le, length-drop}
use Rattle.std.proofs.Math.IntN.{pos}
use Rattle.std.proofs.Math.Nat.{mul-le-mul_right}
use Rattle.std.proofs.lemmas.Bool.{cases_lt}
use Rattle.std.proofs.lemmas.List.{length-map}
use Rattle.std.proofs.lemmas.List.Elements.{All-map, All-from_get_or}
use Rattle.kf_frac.specs.declared.frac.Frac.{Frac}
use Rattle.kf_simplex.specs.Answers.{num_at, den_at}
use Rattle.kf_refine.specs.Refinements.{Fraction, entry}
use Rattle.kf_refine.specs.Verdicts.{IsMatrixOf}
use Rattle.kf_refine.specs.Views.{fraction_of}

-- the fraction at an index; 0 past the end
abbrev frac_at : List Frac → ℕ → Fraction
frac_at xs k = get_or (map fraction_of xs) k (record { num = pos 0; den = 1 })

frac_parts : (xs : List Frac) (k : ℕ) → frac_at xs k ≡ record { num = num_at xs k; den = den_at xs k }
frac_parts [] k = refl
frac_parts (x ∷ xs) zero = refl
frac_parts (x ∷ xs) (suc k) = frac_parts xs k

frac_front : (n : ℕ) (xs : List Frac) (j : ℕ) → j < n → frac_at (take n xs) j ≡ frac_at xs j
frac_front zero xs j l = absurd (omega arith)
frac_front (suc n) [] j l = refl
frac_front (suc n) (x ∷ xs) zero l = refl
frac_front (suc n) (x ∷ xs) (suc j) l = frac_front n xs j (omega arith)

frac_behind : (a : ℕ) (xs : List Frac) (j : ℕ) → frac_at (drop a xs) j ≡ frac_at xs (a + j)
frac_behind zero xs j = ap (λ (k : ℕ). frac_at xs k) (omega arith)
frac_behind (suc a) [] j = refl
frac_behind (suc a) (x ∷ xs) j =
    let e : suc (a + j) ≡ suc a + j = omega arith in frac_behind a xs j ∙ ap (λ (k : ℕ). frac_at (x ∷ xs) k) e

entry_is : (rows : List (List Frac)) (i j : ℕ) → entry (map (λ row. map fraction_of row) rows) i j ≡ frac_at (get_or rows i []) j
entry_is [] i j = refl
entry_is (row ∷ rows) zero j = refl
entry_is (row ∷ rows) (suc i) j = entry_is rows i j

row_before : (rows : List (List Frac)) (row : List Frac) (k : ℕ) → k < length rows → get_or (rows ++ row ∷ []) k [] ≡ get_or rows k []
row_before [] row k l = absurd (omega arith)
row_before (r ∷ rows) row zero l = refl
row_before (r ∷ rows) row (suc k) l = row_before rows row k (omega arith)

row_last : (rows : List (List Frac)) (row : List Frac) → get_or (rows ++ row ∷ []) (length rows) [] ≡ row
row_last [] row = refl
row_last (r ∷ rows) row = row_last rows row

-- the first i rows of n fractions each
pub record Cuts (n i : ℕ) (xs : List Frac) (rows : List (List Frac)) : Type 0 where
  pub many : length rows ≡ i
  pub widths : (k : ℕ) → k < i → length (get_or rows k []) ≡ n
  pub fractions : (k j : ℕ) → k < i → j < n → frac_at (get_or rows k []) j ≡ frac_at xs (k * n + j)

pub cuts_more : (m n i : ℕ) (xs : List Frac) (rows : List (List Frac)) (row : List Frac) → i < m → length xs ≡ m * n
    → row ≡ take n (drop (i * n) xs) → Cuts n i xs rows → Cuts n (i + 1) xs (rows ++ row ∷ [])
cuts_more m n i xs rows row below size is h =
    let room : (i + 1) * n ≤ m * n = let b : i + 1 ≤ m = omega arith in mul-le-mul_right n b in
    let left : n ≤ length (drop (i * n) xs) = rw (length-drop (i * n) xs) (omega arith) in
    let wide : length row ≡ n = ap (λ (r : List Frac). length r) is ∙ length-take-le n (drop (i * n) xs) left in
    let last : get_or (rows ++ row ∷ []) i [] ≡ row = subst (λ (k : ℕ). get_or (rows ++ row ∷ []) k [] ≡ row) h.many (row_last rows row) in
    record {
      many = simp length-append (let m = h.many in omega arith);
      widths = λ k l. ⊎_elim
          (λ (m : k < i). let b : k < length rows = let z = h.many in omega arith in
          ap (λ (r : List Frac). length r) (row_before rows row k b) ∙ h.widths k m)
          (λ (m : i ≤ k). let q : i ≡ k = omega arith in
          subst (λ (z : ℕ). length (get_or (rows ++ row ∷ []) z []) ≡ n) q (ap (λ (r : List Frac). length r) last ∙ wide))
          (cases_lt k i);
      fractions = λ k j l within. ⊎_elim
          (λ (m : k < i). let b : k < length rows = let z = h.many in omega arith in
          ap (λ (r : List Frac). frac_at r j) (row_before rows row k b) ∙ h.fractions k j m within)
          (λ (m : i ≤ k). let q : i ≡ k = omega arith in
          subst (λ (z : ℕ). frac_at (get_or (rows ++ row ∷ []) z []) j ≡ frac_at xs (z * n + j)) q
          (ap (λ (r : List Frac). frac_at r j) (last ∙ is) ∙ frac_front n (drop (i * n) xs) j within ∙ frac_behind (i * n) xs j))
          (cases_lt k i);
    }

pub cuts_none : (n : ℕ) (xs : List Frac) → Cuts n 0 xs []
cuts_none n xs = record { many = refl; widths = λ k l. absurd (omega arith); fractions = λ k j l within. absurd (omega arith) }

-- all of them are the matrix
pub cuts_all : (m n i : ℕ) (xs : List Frac) (rows : List (List Frac)) → i ≡ m → Cuts n i xs rows → IsMatrixOf m n xs (map (λ row. map fraction_of row) rows)
cuts_all m n i xs rows e h = record {
  shape = record {
    many = length-map rows (λ row. map fraction_of row) ∙ h.many ∙ e;
    each = All-map (λ row. length row ≡ n) (λ row. map fraction_of row) rows
        (All-from_get_or (λ row. length (map fraction_of row) ≡ n) rows []
        (λ k l. length-map (get_or rows k []) fraction_of ∙ h.widths k (let z = h.many in omega arith)));
  };
  entries = λ k j l within. entry_is rows k j ∙ h.fractions k j (omega arith) within ∙ frac_parts xs (k * n + j);
}
