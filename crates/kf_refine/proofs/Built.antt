-- The equations are those of the two hypers, and a number past 2^62 in them ends the run at once.
use Rattle.std.proofs.Common.{◌≡◌, ◌≢◌, ℕ, ◌+◌, ◌-◌, ◌*◌, ◌/◌, ◌%◌, ◌^◌, ◌<◌, ◌≤◌, ◌==◌, ◌⊎◌, inl, inr, ⊎_elim, refl, sym, ap, ◌∙◌, subst, arith, unsigned_abs, List, [], ◌∷◌, ◌++◌, zero, suc, length, length-append, map, get_or, nat_lt, cond, Result, Err, IsErrAnd}
use Rattle.std.proofs.Math.IntN.{ℤ, pos}
use Rattle.std.proofs.Math.Nat.{mul-le-mul_right}
use Rattle.std.proofs.lemmas.Int.{ints}
use Rattle.std.proofs.lemmas.Nat.{div-mul-add, mod-mul-add}
use Rattle.std.proofs.lemmas.Bool.{cond_both, cases_eq, cases_lt}
use Rattle.std.proofs.lemmas.List.Elements.{All-push}
use Rattle.std.proofs.lemmas.Bool.Decides.{nat_tests}
use Rattle.std.proofs.lemmas.Result.{err_from_is_err_and}
use lib.Signed.{◌≤ℤ◌}
use Rattle.kf_simplex.specs.declared.outcome.SimplexError.TheVariants as simplex
use Rattle.kf_simplex.specs.declared.system.SparseEquation.{SparseEquation}
use Rattle.kf_simplex.specs.Base.{total}
use Rattle.kf_simplex.specs.Entries.{IsRowWithin, number_in}
use Rattle.kf_simplex.specs.Systems.{LinearSystem, IsSystem, right_column}
use Rattle.kf_simplex.specs.Tableaus.{Tableau}
use Rattle.kf_simplex.specs.Answers.{IsAnswer}
use Rattle.kf_simplex.specs.Views.{coefficients_in, right_side_in, sparse_number}
use Rattle.kf_simplex.proofs.Equations.{entry-unknown, entry-right, sparse_is_system}
use Rattle.kf_simplex.proofs.FirstTableau.{first_tableau}
use Rattle.kf_refine.specs.Refinements.{HyperTree, count}
use Rattle.kf_refine.specs.Equations.{AreKept, AreWhole, AreEquations}
use Rattle.kf_refine.specs.Built.{weight_number, sum_number, coefficient_number, right_number, AreBuilt, HasNumbers, HasWide, IsWide}
use Rattle.kf_refine.proofs.Coefficients.{weight_here, weight_elsewhere, sum_here, sum_elsewhere, within}
use Rattle.kf_refine.proofs.Scaled.{read_at}

-- ---- the numbers of an equation by its value and inner, or by its row

module _ (n : ℕ) (xs : List ℕ) (u : ℕ → ℕ → ℕ) where
  pub coefficient_of_value : (q j c : ℕ) → q < length xs → j < n → coefficient_number n xs u (q * n + j) c ≡ weight_number n (u (get_or xs q 0)) j c
  unfolding coefficient_number
  coefficient_of_value q j c l k =
      let low : q * n + j < length xs * n = within (length xs) n q j l k in
      rw (div-mul-add q n j k, mod-mul-add q n j k) (grind (arith, nat_tests))

  pub coefficient_of_sum : (p c : ℕ) → coefficient_number n xs u (length xs * n + p) c ≡ sum_number n p c
  unfolding coefficient_number
  coefficient_of_sum p c =
      let place : length xs * n + p - length xs * n ≡ p = omega arith in
      rw place (grind (arith, nat_tests))

  pub right_of_value : (q j : ℕ) → q < length xs → j < n → right_number n xs u (q * n + j) ≡ pos (u (get_or xs q 0) j)
  unfolding right_number
  right_of_value q j l k =
      let low : q * n + j < length xs * n = within (length xs) n q j l k in
      rw (div-mul-add q n j k, mod-mul-add q n j k) (grind (arith, nat_tests))

  pub right_of_sum : (p : ℕ) → right_number n xs u (length xs * n + p) ≡ pos 1
  unfolding right_number
  right_of_sum p = grind (arith, nat_tests)

  right_not_negative : (k : ℕ) → pos 0 ≤ℤ right_number n xs u k
  unfolding right_number
  right_not_negative k =
      cond_both (nat_lt k (length xs * n)) (pos (u (get_or xs (k / n) 0) (k % n))) (pos 1) (λ z. pos 0 ≤ℤ z) (λ t. omega (arith, ints)) (λ t. omega (arith, ints))

-- ---- an equation that is made has the numbers of its place

numbers_along : (v : ℕ) (co co' : ℕ → ℤ) (ri ri' : ℤ) (e : SparseEquation) → ((c : ℕ) → co' c ≡ co c) → ri' ≡ ri → HasNumbers v co ri e → HasNumbers v co' ri' e
numbers_along v co co' ri ri' e same right had = record { within = had.within; coefs = λ c l. had.coefs c l ∙ sym (same c); rhs = had.rhs ∙ sym right }

module _ (v n : ℕ) (xs : List ℕ) (u w : ℕ → ℕ → ℕ) (e : SparseEquation) where
  pub of_value_numbers : (q j : ℕ) → q < length xs → j < n → HasNumbers v (weight_number n (u (get_or xs q 0)) j) (pos (w (get_or xs q 0) j)) e
      → HasNumbers v (coefficient_number n xs u (q * n + j)) (right_number n xs w (q * n + j)) e
  of_value_numbers q j l k had =
      numbers_along v (weight_number n (u (get_or xs q 0)) j) (coefficient_number n xs u (q * n + j)) (pos (w (get_or xs q 0) j)) (right_number n xs w (q * n + j)) e
      (λ c. coefficient_of_value n xs u q j c l k) (right_of_value n xs w q j l k) had

  pub of_sum_numbers : (p : ℕ) → HasNumbers v (sum_number n p) (pos 1) e
      → HasNumbers v (coefficient_number n xs u (length xs * n + p)) (right_number n xs w (length xs * n + p)) e
  of_sum_numbers p had =
      numbers_along v (sum_number n p) (coefficient_number n xs u (length xs * n + p)) (pos 1) (right_number n xs w (length xs * n + p)) e
      (λ c. coefficient_of_sum n xs u p c) (right_of_sum n xs w p) had

-- ---- equation after equation

module _ {X : Type 0} (part : SparseEquation → X) (d : X) where
  before : (rows : List SparseEquation) (e : SparseEquation) (k : ℕ) → k < length rows → get_or (map part (rows ++ e ∷ [])) k d ≡ get_or (map part rows) k d
  before [] e k l = absurd (omega arith)
  before (r ∷ rows) e zero l = refl
  before (r ∷ rows) e (suc k) l = before rows e k (omega arith)

  last : (rows : List SparseEquation) (e : SparseEquation) → get_or (map part (rows ++ e ∷ [])) (length rows) d ≡ part e
  last [] e = refl
  last (r ∷ rows) e = last rows e

  -- what holds of each index still does with one more
  each : (P : ℕ → X → Type 0) (rows : List SparseEquation) (e : SparseEquation) → ((k : ℕ) → k < length rows → P k (get_or (map part rows) k d))
      → P (length rows) (part e) → (k : ℕ) → k < length (rows ++ e ∷ []) → P k (get_or (map part (rows ++ e ∷ [])) k d)
  each P rows e old new k l = ⊎_elim
      (λ (b : k < length rows). subst (P k) (sym (before rows e k b)) (old k b))
      (λ (b : length rows ≤ k). let here : length rows ≡ k = omega (arith, length-append rows (e ∷ [])) in
      subst (λ (j : ℕ). P j (get_or (map part (rows ++ e ∷ [])) j d)) here (subst (P (length rows)) (sym (last rows e)) new))
      (cases_lt k (length rows))

module _ (m n : ℕ) (xs : List ℕ) (u w : ℕ → ℕ → ℕ) where
  built_more : (rows new : List SparseEquation) (e : SparseEquation) (k : ℕ) → new ≡ rows ++ e ∷ []
      → HasNumbers (m * n) (coefficient_number n xs u k) (right_number n xs w k) e → AreBuilt m n xs u w k rows → AreBuilt m n xs u w (k + 1) new
  built_more rows new e k is its (many, had) =
      let mine : HasNumbers (m * n) (coefficient_number n xs u (length rows)) (right_number n xs w (length rows)) e =
      subst (λ (j : ℕ). HasNumbers (m * n) (coefficient_number n xs u j) (right_number n xs w j) e) (sym many) its in
      subst (AreBuilt m n xs u w (k + 1)) (sym is) (
        length-append rows (e ∷ []) ∙ ap (λ (j : ℕ). j + 1) many,
        record {
          within = All-push (λ e. IsRowWithin (m * n) e.coefs.entries.items) rows e had.within its.within;
          coefs = λ i c l b. each (λ e. e.coefs.entries.items) [] (λ j es. number_in es c ≡ coefficient_number n xs u j c) rows e (λ j b'. had.coefs j c b' b) (mine.coefs c b) i l;
          rights = each (λ e. e.rhs) (pos 0) (λ j z. z ≡ right_number n xs w j) rows e had.rights mine.rhs;
        },
      )

  pub built_next : (rows new : List SparseEquation) (e : SparseEquation) (k j : ℕ) → new ≡ rows ++ e ∷ []
      → HasNumbers (m * n) (coefficient_number n xs u (k + j)) (right_number n xs w (k + j)) e → AreBuilt m n xs u w (k + j) rows
      → AreBuilt m n xs u w (k + (j + 1)) new
  built_next rows new e k j is its had =
      let next : k + j + 1 ≡ k + (j + 1) = omega arith in
      subst (λ (i : ℕ). AreBuilt m n xs u w i new) next (built_more rows new e (k + j) is its had)

-- what the exit of a `?` returns
pub passed : {T E : Type 0} (r : Result T E) (e : E) → IsErrAnd r (λ f. f ≡ e) → r ≡ Err e
passed r e h = let p = err_from_is_err_and r h in p.1 ∙ ap (λ f. Err f) p.2

-- ---- what has these numbers is the system of equations

chosen_same : (i r : ℕ) (z : ℤ) → i ≡ r → cond (i == r) z (pos 0) ≡ z
chosen_same i r z e = grind (arith, nat_tests)

chosen_other : (i r : ℕ) (z : ℤ) → i ≢ r → cond (i == r) z (pos 0) ≡ pos 0
chosen_other i r z d = grind (arith, nat_tests)

module _ (a b : HyperTree) (xs : List ℕ) (u v : ℕ → ℕ → ℕ) (s : LinearSystem) (y : IsSystem s) (kept : AreKept a b xs) (are : AreWhole a b xs u v)
    (ev : s.unknowns ≡ count a * count b) (ee : s.equations ≡ length xs * count b + count a)
    (coefs : (k c : ℕ) → k < s.equations → c < s.unknowns → s.number k c ≡ coefficient_number (count b) xs u k c)
    (rights : (k : ℕ) → k < s.equations → s.number k (right_column s) ≡ right_number (count b) xs v k) where
  of_value : (q j : ℕ) → q < length xs → j < count b → q * count b + j < s.equations
  of_value q j l k = rw ee (let low : q * count b + j < length xs * count b = within (length xs) (count b) q j l k in omega arith)

  of_sum : (p : ℕ) → p < count a → length xs * count b + p < s.equations
  of_sum p l = rw ee (omega arith)

  unknown : (i l : ℕ) → i < count a → l < count b → i * count b + l < s.unknowns
  unknown i l k m = rw ev (within (count a) (count b) i l k m)

  weights : (q j i l : ℕ) → q < length xs → j < count b → i < count a → l < count b
      → s.number (q * count b + j) (i * count b + l) ≡ cond (j == l) (pos (u (get_or xs q 0) i)) (pos 0)
  weights q j i l lq lj li ll =
      coefs (q * count b + j) (i * count b + l) (of_value q j lq lj) (unknown i l li ll)
      ∙ coefficient_of_value (count b) xs u q j (i * count b + l) lq lj
      ∙ ⊎_elim
      (λ (e : j ≡ l). subst (λ (m : ℕ). weight_number (count b) (u (get_or xs q 0)) j (i * count b + m) ≡ pos (u (get_or xs q 0) i)) e
      (weight_here (count b) (u (get_or xs q 0)) j i lj)
      ∙ sym (chosen_same j l (pos (u (get_or xs q 0) i)) e))
      (λ (d : j ≢ l). weight_elsewhere (count b) (u (get_or xs q 0)) j i l ll (λ e. d (sym e)) ∙ sym (chosen_other j l (pos (u (get_or xs q 0) i)) d))
      (cases_eq j l)

  entries : (p i l : ℕ) → p < count a → i < count a → l < count b
      → s.number (length xs * count b + p) (i * count b + l) ≡ cond (p == i) (pos 1) (pos 0)
  entries p i l lp li ll =
      coefs (length xs * count b + p) (i * count b + l) (of_sum p lp) (unknown i l li ll)
      ∙ coefficient_of_sum (count b) xs u p (i * count b + l)
      ∙ ⊎_elim
      (λ (e : p ≡ i). subst (λ (m : ℕ). sum_number (count b) p (m * count b + l) ≡ pos 1) e (sum_here (count b) p l ll) ∙ sym (chosen_same p i (pos 1) e))
      (λ (d : p ≢ i). sum_elsewhere (count b) p i l ll (λ e. d (sym e)) ∙ sym (chosen_other p i (pos 1) d))
      (cases_eq p i)

  pub are_equations : (e : AreEquations a b s) × (e.values ≡ xs)
  are_equations = (
    record {
      system = y;
      values = xs;
      are_kept = kept;
      u = u;
      v = v;
      are_whole = are;
      unknowns = ev;
      equations = ee;
      weight = weights;
      sum = λ q j l k. rights (q * count b + j) (of_value q j l k) ∙ right_of_value (count b) xs v q j l k;
      entry = entries;
      one = λ p l. rights (length xs * count b + p) (of_sum p l) ∙ right_of_sum (count b) xs v p;
    },
    refl,
  )

-- ---- the system with all its numbers, however large

-- a coefficient passes 2^62
abbrev HasWideNumber : ℕ → (ℕ → ℤ) → Type 0
HasWideNumber unknowns coefficient = (c : ℕ) × (c < unknowns) × (2 ^ 62 < unsigned_abs (coefficient c))

-- or a number of an equation does
abbrev IsWideEquation : ℕ → (ℕ → ℤ) → ℤ → Type 0
IsWideEquation unknowns coefficient right = HasWideNumber unknowns coefficient ⊎ (2 ^ 62 < unsigned_abs right)

unfoldable pub full_number : ℕ → ℕ → (ℕ → ℕ → ℤ) → (ℕ → ℤ) → ℕ → ℕ → ℤ
full_number v e coefficient right k c = cond (nat_lt c v) (coefficient k c) (cond (c == v + e) (right k) (cond (c == v + k) (pos 1) (pos 0)))

module _ (v e : ℕ) (coefficient : ℕ → ℕ → ℤ) (right : ℕ → ℤ) where
  full_unknown : (k c : ℕ) → c < v → full_number v e coefficient right k c ≡ coefficient k c
  unfolding full_number
  full_unknown k c l = grind (arith, nat_tests)

  full_right : (k : ℕ) → full_number v e coefficient right k (v + e) ≡ right k
  unfolding full_number
  full_right k = grind (arith, nat_tests)

  full_own : (k : ℕ) → k < e → full_number v e coefficient right k (v + k) ≡ pos 1
  unfolding full_number
  full_own k l = grind (arith, nat_tests)

  full_other : (k m : ℕ) → m < e → k ≢ m → full_number v e coefficient right k (v + m) ≡ pos 0
  unfolding full_number
  full_other k m l d = grind (arith, nat_tests)

  abbrev pub full : LinearSystem
  full = record { unknowns = v; equations = e; number = full_number v e coefficient right }

  pub full_is_system : ((k : ℕ) → pos 0 ≤ℤ right k) → IsSystem full
  full_is_system sign = record {
    same = λ k l. full_own k l;
    other = λ k m l k' d. full_other k m k' d;
    right = λ k l. rw (full_right k) (sign k);
  }

  -- a wide number of an equation is one of the system
  full_wide : (k : ℕ) → IsWideEquation v (coefficient k) (right k) → (c : ℕ) × (c ≤ v + e) × (2 ^ 62 < unsigned_abs (full_number v e coefficient right k c))
  full_wide k wide = ⊎_elim
      (λ (h : HasWideNumber v (coefficient k)). let l = h.1 in (h.0, omega arith, rw (full_unknown k h.0 h.1) h.2))
      (λ (h : 2 ^ 62 < unsigned_abs (right k)). (v + e, omega arith, rw (full_right k) h))
      wide

-- ---- a wide number ends the run before the first pivot

first : LinearSystem → Tableau
first s = record { basis = λ k. s.unknowns + k; rows = s.number; objective = λ c. total s.equations (λ k. s.number k c) }

pub wide_at_once : (s : LinearSystem) (k c : ℕ) → IsSystem s → k < s.equations → c ≤ right_column s → 2 ^ 62 < unsigned_abs (s.number k c)
    → (pivots : ℕ) → IsAnswer s pivots (Err (simplex.Wide 0))
unfolding first
wide_at_once s k c y l m wide pivots = (
  first s,
  record {
    before = [];
    run = (first_tableau s (first s) y (λ i c l m. refl) (λ c m. refl) (λ k l. refl), λ k l. refl);
    pivots = refl;
    ends = λ narrow. let low = narrow.rows k c l m in omega arith;
  },
)

-- ---- the equations are wide

abbrev pub AnswersWide : HyperTree → HyperTree → List ℕ → Type 0
AnswersWide a b xs = (s : LinearSystem) × (e : AreEquations a b s) × (e.values ≡ xs) × ((pivots : ℕ) → IsAnswer s pivots (Err (simplex.Wide 0)))

module _ (a b : HyperTree) (xs : List ℕ) (u v : ℕ → ℕ → ℕ) (kept : AreKept a b xs) (are : AreWhole a b xs u v) where
  answers_wide : (k : ℕ) → k < length xs * count b + count a
      → IsWideEquation (count a * count b) (coefficient_number (count b) xs u k) (right_number (count b) xs v k) → AnswersWide a b xs
  answers_wide k l wide =
      let co = coefficient_number (count b) xs u in
      let ri = right_number (count b) xs v in
      let y = full_is_system (count a * count b) (length xs * count b + count a) co ri (right_not_negative (count b) xs v) in
      let s = full (count a * count b) (length xs * count b + count a) co ri in
      let is = are_equations a b xs u v s y kept are refl refl
      (λ k c l n. full_unknown (count a * count b) (length xs * count b + count a) co ri k c n)
      (λ k l. full_right (count a * count b) (length xs * count b + count a) co ri k) in
      let found = full_wide (count a * count b) (length xs * count b + count a) co ri k wide in
      (s, is.0, is.1, wide_at_once s k found.0 y l found.1 found.2)

  -- so they are where one of the weights is
  pub weight_is_wide : 0 < count b → HasWide (count a) (count b) xs u v → AnswersWide a b xs
  weight_is_wide some (x, inside, wide) =
      let is : get_or xs inside.0 0 ≡ x = read_at xs x inside in
      let room : (inside.0 + 1) * count b ≤ length xs * count b = mul-le-mul_right (count b) (let l = inside.1 in omega arith) in
      ⊎_elim
      (λ (h : IsWide (count a) (u x)).
      answers_wide (inside.0 * count b + 0) (omega arith) (inl (
        h.0 * count b + 0,
        within (count a) (count b) h.0 0 h.1 some,
        rw (coefficient_of_value (count b) xs u inside.0 0 (h.0 * count b + 0) inside.1 some, weight_here (count b) (u (get_or xs inside.0 0)) 0 h.0 some, is) h.2,
      )))
      (λ (h : IsWide (count b) (v x)).
      answers_wide (inside.0 * count b + h.0) (let l = h.1 in omega arith) (inr
      (rw (right_of_value (count b) xs v inside.0 h.0 inside.1 h.1, is) h.2)))
      wide

-- ---- what is built is the system of equations

pub rows_are : (a b : HyperTree) (xs : List ℕ) (u v : ℕ → ℕ → ℕ) (rows : List SparseEquation) (n : ℕ) → AreKept a b xs → AreWhole a b xs u v
    → n ≡ count a * count b → AreBuilt (count a) (count b) xs u v (length xs * count b + count a) rows
    → (e : AreEquations a b (record { unknowns = n; equations = length rows; number = sparse_number n rows })) × (e.values ≡ xs)
unfolding sparse_number
rows_are a b xs u v rows n kept are en (el, have) =
    are_equations a b xs u v (record { unknowns = n; equations = length rows; number = sparse_number n rows }) (sparse_is_system n rows) kept are en el
    (λ k c l m. entry-unknown n (length rows) (number_in (coefficients_in rows k)) (right_side_in rows k) k c m ∙ have.coefs k c l (omega arith))
    (λ k l. entry-right n (length rows) (number_in (coefficients_in rows k)) (right_side_in rows k) k (n + length rows) refl ∙ have.rights k l)
