-- The rows of the first table, one after the other.
use Rattle.std.proofs.Common.{◌≡◌, ℕ, zero, suc, ◌+◌, ◌*◌, ◌^◌, ◌<◌, ◌≤◌, refl, sym, ap, ◌∙◌, subst, arith, ⊎_elim, unsigned_abs, FitsSigned, List, [], ◌∷◌, length, ◌++◌, take, drop, get_or, length-append}
use Rattle.std.proofs.Math.IntN.{ℤ, pos, ◌+ℤ◌}
use Rattle.std.proofs.Math.Nat.{mul-le-mul_left}
use Rattle.std.proofs.lemmas.Int.{ints}
use Rattle.std.proofs.lemmas.List.{take-append-le, take_all, get_or_append_left, get_or_past, get_or_push}
use Rattle.std.proofs.lemmas.Bool.{cases_lt}
use mir.Syntax.{w128}
use Rattle.kf_simplex.specs.declared.row.Entry.{Entry}
use Rattle.kf_simplex.specs.declared.row.Row.{Row}
use Rattle.kf_simplex.specs.Base.{at, total}
use Rattle.kf_simplex.specs.Entries.{number_in}
use Rattle.kf_simplex.specs.Systems.{IsSystem}
use Rattle.kf_simplex.specs.Flat.{IsWithin, entries_at, cell, tableau_of}
use Rattle.kf_simplex.specs.Building.{Built}
use Rattle.kf_simplex.specs.Turns.{InRun, system}
use Rattle.kf_simplex.proofs.FirstTableau.{first_tableau}
use Rattle.kf_simplex.proofs.Reducing.{past_rows}
use Rattle.kf_simplex.proofs.Equations.{total_bound}

entries_push_same : (rows : List Row) (row : Row) → entries_at (rows ++ row ∷ []) (length rows) ≡ row.entries.items
entries_push_same [] row = refl
entries_push_same (r ∷ rows) row = entries_push_same rows row

entries_push_other : (rows : List Row) (row : Row) (i : ℕ) → i < length rows → entries_at (rows ++ row ∷ []) i ≡ entries_at rows i
entries_push_other [] row i l = absurd (omega arith)
entries_push_other (r ∷ rows) row zero l = refl
entries_push_other (r ∷ rows) row (suc i) l = entries_push_other rows row i (omega arith)

pub cell_push_same : (rows new : List Row) (row : Row) (i c : ℕ) → new ≡ rows ++ row ∷ [] → i ≡ length rows → cell new i c ≡ number_in row.entries.items c
cell_push_same rows new row i c is e = rw (is, e) (ap (λ (es : List Entry). number_in es c) (entries_push_same rows row))

pub cell_push_other : (rows new : List Row) (row : Row) (i c : ℕ) → new ≡ rows ++ row ∷ [] → i < length rows → cell new i c ≡ cell rows i c
cell_push_other rows new row i c is l = rw is (ap (λ (es : List Entry). number_in es c) (entries_push_other rows row i l))

pub built_none : (v e : ℕ) (number : ℕ → ℕ → ℤ) (rows : List Row) (sums : List ℤ) → rows ≡ [] → length sums ≡ v + e + 1 → ((c : ℕ) → at sums c ≡ pos 0)
    → Built v e number rows sums (length rows)
built_none v e number rows sums none l z = rw none (record { len = refl; sums_len = l; written = λ i c m. absurd (omega arith); summed = λ c m. z c })

suc_is : (k : ℕ) → suc k ≡ k + 1
suc_is k = omega arith

pub built_more : (v e : ℕ) (number : ℕ → ℕ → ℤ) (rows new : List Row) (sums after : List ℤ) (row : Row) → Built v e number rows sums (length rows)
    → new ≡ rows ++ row ∷ [] → ((c : ℕ) → number_in row.entries.items c ≡ number (length rows) c) → length after ≡ length sums
    → ((c : ℕ) → c < length sums → at after c ≡ at sums c +ℤ number_in row.entries.items c) → Built v e number new after (length rows + 1)
built_more v e number rows new sums after row h is own same added =
    let k = length rows in
    record {
      len = rw is (length-append rows (row ∷ []));
      sums_len = same ∙ h.sums_len;
      written = λ i c m. ⊎_elim
          (λ (u : i < k). cell_push_other rows new row i c is u ∙ h.written i c u)
          (λ (u : k ≤ i). let q : k ≡ i = omega arith in subst (λ (j : ℕ). cell new j c ≡ number j c) q (cell_push_same rows new row k c is refl ∙ own c))
          (cases_lt i k);
      summed = λ c m. subst (λ (j : ℕ). at after c ≡ total j (λ i. number i c)) (suc_is k)
          (added c (let l = h.sums_len in omega arith) ∙ ap (λ (z : ℤ). z +ℤ number_in row.entries.items c) (h.summed c m) ∙ ap (λ (z : ℤ). total k (λ i. number i c) +ℤ z) (own c));
    }

-- ---- the bounds under which a row is added

pub sums_small : (v e : ℕ) (number : ℕ → ℕ → ℤ) (rows : List Row) (sums : List ℤ) (k c : ℕ) → ((i j : ℕ) → unsigned_abs (number i j) ≤ 2 ^ 62) → k < e → e < 4000001
    → Built v e number rows sums k → unsigned_abs (at sums c) ≤ 2 ^ 100
sums_small v e number rows sums k c narrow l small h =
    ⊎_elim
    (λ (u : c < v + e + 1). rw (h.summed c u) (let b = total_bound k (2 ^ 62) (λ i. number i c) (λ i. narrow i c) in omega arith))
    (λ (u : v + e + 1 ≤ c). rw (get_or_past sums c (pos 0) (let q = h.sums_len in omega arith)) (omega arith))
    (cases_lt c (v + e + 1))

pub row_sum_fits : (a b : ℤ) → unsigned_abs a ≤ 2 ^ 100 → unsigned_abs b ≤ 2 ^ 62 → FitsSigned w128 (a +ℤ b)
row_sum_fits a b h k = omega (arith, ints)

-- a table of so few cells has few rows
pub few : (v n : ℕ) → (n + 1) * (v + n + 1) < 4000001 → n < 4000001
few v n h = omega (arith, mul-le-mul_left (n + 1) (one_more v n))
  where
    one_more : (v n : ℕ) → 1 ≤ v + n + 1
    one_more v n = omega arith

pub narrow_width : (v n : ℕ) → (n + 1) * (v + n + 1) < 4000001 → v + n + 1 < 4000001
narrow_width v n h = omega (arith, mul-le-mul_left (v + n + 1) (one_more n))
  where
    one_more : (n : ℕ) → 1 ≤ n + 1
    one_more n = omega arith

-- what a whole part written over leaves
pub whole_part : {X : Type 0} (n : ℕ) (xs old : List X) → n ≡ length old → length xs ≡ length old → take n (xs ++ drop (length xs) old) ≡ xs
whole_part n xs old e l = take-append-le n xs (drop (length xs) old) (omega arith) ∙ take_all n xs (omega arith)

-- ---- the first table begins a run

-- the rows of the equations, and then their sums as the objective
module _ (v e : ℕ) (number : ℕ → ℕ → ℤ) (rows new : List Row) (sums : List ℤ) (row : Row) (is : new ≡ rows ++ row ∷ []) (built : Built v e number rows sums e)
    (last : (c : ℕ) → number_in row.entries.items c ≡ at sums c) where
  pub first_within : ((k c : ℕ) → k < e → v + e < c → number k c ≡ pos 0) → IsWithin (v + e) (cell new)
  first_within past i c l =
      let len = built.len in
      let sums_len = built.sums_len in
      ⊎_elim
      (λ (u : i < e). cell_push_other rows new row i c is (omega arith) ∙ built.written i c u ∙ past i c u l)
      (λ (u : e ≤ i). ⊎_elim
      (λ (w : e < i). past_rows new i c (rw is (rw (length-append rows (row ∷ [])) (omega arith))))
      (λ (w : i ≤ e). cell_push_same rows new row i c is (omega arith) ∙ last c ∙ get_or_past sums c (pos 0) (omega arith))
      (cases_lt e i))
      (cases_lt i e)

  pub first_in_run : (basis : List ℕ) (limit : ℕ) → IsSystem (system v e number) → ((k : ℕ) → k < e → get_or basis k 0 ≡ v + k)
      → InRun (system v e number) limit 0 (cell new) basis
  first_in_run basis limit good b =
      let len = built.len in
      record {
        before = [];
        run = (
          first_tableau (system v e number) (tableau_of (system v e number) (cell new) basis) good
              (λ i c l m. cell_push_other rows new row i c is (omega arith) ∙ built.written i c l)
              (λ c m. cell_push_same rows new row e c is (sym len) ∙ last c ∙ built.summed c (omega arith)) b,
          b,
        );
        pivots = refl;
      }

-- the artificial columns, one after the other
pub basis_more : (basis news : List ℕ) (v k : ℕ) → length basis ≡ k → ((j : ℕ) → j < k → get_or basis j 0 ≡ v + j) → news ≡ basis ++ (v + k) ∷ []
    → (j : ℕ) → j < k + 1 → get_or news j 0 ≡ v + j
basis_more basis news v k len so_far pushed j l = ap (λ (xs : List ℕ). get_or xs j 0) pushed ∙ ⊎_elim
    (λ (m : j < k). get_or_append_left basis ((v + k) ∷ []) 0 j (omega (arith, len)) ∙ so_far j m)
    (λ (m : k ≤ j). let e : k ≡ j = omega arith in get_or_push basis (v + k) 0 j (len ∙ e) ∙ ap (λ z. v + z) e)
    (cases_lt j k)
