-- A run that ends has an answer: its solution as fractions, its multipliers, or why there is none.
use Rattle.std.proofs.Common.{◌≡◌, ◌≢◌, ℕ, zero, suc, ◌+◌, ◌^◌, ◌<◌, ◌≤◌, refl, sym, ◌∙◌, subst, arith, ◌⊎◌, ⊎_elim, inl, inr, List, Result, Ok, Err, unsigned_abs}
use Rattle.std.proofs.Math.IntN.{ℤ, pos, ◌*ℤ◌}
use Rattle.std.proofs.lemmas.Int.{ints}
use Rattle.std.proofs.lemmas.Bool.{cases_eq, cases_lt}
use lib.Signed.{◌<ℤ◌}
use Rattle.kf_frac.specs.declared.frac.Frac.{Frac}
use Rattle.kf_frac.specs.Fractions.{reduced_num, reduced_den}
use Rattle.kf_frac.specs.Parts.{PartsFit}
use Rattle.kf_frac.specs.Views.{num_of, den_of}
use Rattle.kf_frac.proofs.LowestTerms.{reduced_den_positive, reduced_coprime}
use Rattle.kf_simplex.specs.declared.outcome.Outcome.{Outcome}
use Rattle.kf_simplex.specs.declared.outcome.Outcome.TheVariants as outcome
use Rattle.kf_simplex.specs.declared.outcome.SimplexError.{SimplexError}
use Rattle.kf_simplex.specs.declared.outcome.SimplexError.TheVariants as error
use Rattle.kf_simplex.specs.Systems.{LinearSystem, IsSystem, right_column}
use Rattle.kf_simplex.specs.Tableaus.{Tableau}
use Rattle.kf_simplex.specs.Runs.{Cause, wide, solution, multipliers, budget, EndsAt, IsNarrow}
use Rattle.kf_simplex.specs.Laws.{SomeAnswer}
use Rattle.kf_simplex.specs.Answers.{IsAnswer, IsSolutionOf, AreMultipliersOf, num_at, den_at}
use Rattle.kf_simplex.proofs.Counting.{apart_basis}
use Rattle.kf_simplex.proofs.Endings.{good_end, spent}
use Rattle.kf_simplex.proofs.EveryRunEnds.{every_run_ends}
use Rattle.kf_simplex.proofs.Filled.{filled, length-filled, get_or-filled}
use Rattle.kf_simplex.proofs.Quotients.{quotient_is, quotient_fits, zero_quotient}
use Rattle.kf_simplex.proofs.RunFacts.{IsGood}

-- ---- fractions

quotient : (num den : ℤ) → pos 0 <ℤ den → unsigned_abs num ≤ 2 ^ 62 → unsigned_abs den ≤ 2 ^ 62 → (f : Frac) × (num_of f *ℤ den ≡ num *ℤ pos (den_of f))
quotient num den p h k =
    let d : ℕ = unsigned_abs den in
    let same : pos (unsigned_abs den) ≡ den = omega (arith, ints) in
    let some : 0 < unsigned_abs den = omega (arith, ints) in
    let fit : PartsFit (reduced_num num (unsigned_abs den)) (reduced_den num (unsigned_abs den)) = quotient_fits num den num (unsigned_abs den) refl same h k in
    let f : Frac = record {
      num = reduced_num num (unsigned_abs den);
      den = reduced_den num (unsigned_abs den);
      positive = reduced_den_positive num (unsigned_abs den) some;
      num_fits = fit.num;
      den_fits = fit.den;
      reduced = reduced_coprime num (unsigned_abs den) some;
    } in
    (f, quotient_is num den num (reduced_num num (unsigned_abs den)) (unsigned_abs den) (reduced_den num (unsigned_abs den)) refl same refl refl)

num_at-filled : (f : ℕ → Frac) (n j : ℕ) → j < n → num_at (filled f n) j ≡ num_of (f j)
num_at-filled f zero j l = absurd (omega arith)
num_at-filled f (suc n) zero l = refl
num_at-filled f (suc n) (suc j) l = num_at-filled (λ k. f (suc k)) n j (omega arith)

den_at-filled : (f : ℕ → Frac) (n j : ℕ) → j < n → den_at (filled f n) j ≡ den_of (f j)
den_at-filled f zero j l = absurd (omega arith)
den_at-filled f (suc n) zero l = refl
den_at-filled f (suc n) (suc j) l = den_at-filled (λ k. f (suc k)) n j (omega arith)

-- ---- the solution of a tableau

-- the row of a basic column, or none
pub basic_row : (b : ℕ → ℕ) (n j : ℕ) → ((i : ℕ) × (i < n) × (b i ≡ j)) ⊎ ((i : ℕ) → i < n → b i ≡ j → ⊥)
basic_row b zero j = inr (λ i l. absurd (omega arith))
basic_row b (suc n) j =
    ⊎_elim
    (λ (found : (i : ℕ) × (i < n) × (b i ≡ j)). let l = found.1 in inl (found.0, omega arith, found.2))
    (λ (none : (i : ℕ) → i < n → b i ≡ j → ⊥).
    ⊎_elim
    (λ (e : b n ≡ j). inl (n, omega arith, e))
    (λ (d : b n ≡ j → ⊥). inr (λ (i : ℕ) (l : i < suc n) (e : b i ≡ j).
    ⊎_elim (λ (m : i < n). none i m e) (λ (m : n ≤ i). let q : i ≡ n = omega arith in d (subst (λ (k : ℕ). b k ≡ j) q e)) (cases_lt i n)))
    (cases_eq (b n) j))
    (basic_row b n j)

module _ (s : LinearSystem) (t : Tableau) (g : IsGood s t) (narrow : IsNarrow s t) where
  record Value (j : ℕ) : Type 0 where
    value : Frac
    basic : (i : ℕ) → i < s.equations → t.basis i ≡ j → num_of value *ℤ t.rows i (t.basis i) ≡ t.rows i (right_column s) *ℤ pos (den_of value)
    not_basic : ((i : ℕ) → i < s.equations → t.basis i ≡ j → ⊥) → num_of value ≡ pos 0

  one_row : (i k : ℕ) → i < s.equations → k < s.equations → t.basis i ≡ t.basis k → i ≡ k
  one_row i k l m e =
      ⊎_elim
      (λ (p : i < k). absurd (apart_basis s t g i k p m e))
      (λ (p : k ≤ i). ⊎_elim (λ (q : k < i). absurd (apart_basis s t g k i q l (sym e))) (λ (q : i ≤ k). omega arith) (cases_lt k i))
      (cases_lt i k)

  value_of : (j : ℕ) → Value j
  value_of j =
      ⊎_elim
      (λ (found : (i : ℕ) × (i < s.equations) × (t.basis i ≡ j)).
      let i : ℕ = found.0 in
      let column : t.basis found.0 < right_column s = g.column found.0 found.1 in
      let f = quotient (t.rows found.0 (right_column s)) (t.rows found.0 (t.basis found.0)) (g.tableau.rows found.0 found.1).positive
      (narrow.rows found.0 (right_column s) found.1 (omega arith)) (narrow.rows found.0 (t.basis found.0) found.1 (omega arith)) in
      record {
        value = f.0;
        basic = λ k l e.
            let same : found.0 ≡ k = one_row found.0 k found.1 l (found.2 ∙ sym e) in
            subst (λ (k : ℕ). num_of f.0 *ℤ t.rows k (t.basis k) ≡ t.rows k (right_column s) *ℤ pos (den_of f.0)) same f.1;
        not_basic = λ none. absurd (none found.0 found.1 found.2);
      })
      (λ (none : (i : ℕ) → i < s.equations → t.basis i ≡ j → ⊥).
      let f = quotient (pos 0) (pos 1) (omega (arith, ints)) (omega arith) (omega arith) in
      record { value = f.0; basic = λ k l e. absurd (none k l e); not_basic = λ _. zero_quotient (num_of f.0) (den_of f.0) f.1 })
      (basic_row t.basis s.equations j)

  abbrev values : List Frac
  values = filled (λ j. (value_of j).value) s.unknowns

  solved : IsSolutionOf s t values
  solved = record {
    len = length-filled (λ j. (value_of j).value) s.unknowns;
    basic = λ i l u. rw (num_at-filled (λ j. (value_of j).value) s.unknowns (t.basis i) u, den_at-filled (λ j. (value_of j).value) s.unknowns (t.basis i) u) ((value_of (t.basis i)).basic i l refl);
    not_basic = λ j l none. num_at-filled (λ j. (value_of j).value) s.unknowns j l ∙ (value_of j).not_basic none;
  }

multiplied : (s : LinearSystem) (t : Tableau) → AreMultipliersOf s t (filled (λ k. t.objective (s.unknowns + k)) s.equations)
multiplied s t = record {
  len = length-filled (λ k. t.objective (s.unknowns + k)) s.equations;
  entries = λ k l. get_or-filled (λ k. t.objective (s.unknowns + k)) s.equations k (pos 0) l;
}

-- ---- the answer

abbrev Answered : LinearSystem → ℕ → Type 0
Answered s limit = (r : Result Outcome SimplexError) × (r ≢ Err error.Mem) × IsAnswer s limit r

answered : (s : LinearSystem) (limit p : ℕ) (t : Tableau) (c : Cause) → IsSystem s → EndsAt s limit p t c → Answered s limit
answered s limit p t wide y e = (Err (error.Wide p), (λ q. absurd (cc)), (t, e))
answered s limit p t solution y e =
    let g : IsGood s t = good_end s limit p t solution y e in
    (Ok (outcome.Solution (values s t g e.ends.0)), (λ q. absurd (cc)), (p, t, e, solved s t g e.ends.0))
answered s limit p t multipliers y e =
    (Ok (outcome.Multipliers (filled (λ k. t.objective (s.unknowns + k)) s.equations)), (λ q. absurd (cc)), (p, t, e, multiplied s t))
answered s limit p t budget y e = (Err error.Budget, (λ q. absurd (cc)), spent s limit p t e)

pub some_answer : SomeAnswer
some_answer s limit y = let e = every_run_ends s limit y in answered s limit e.0 e.1 e.2 y e.3
