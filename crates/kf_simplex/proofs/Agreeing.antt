-- Two systems that agree at each equation and column have the same runs, solutions, multipliers and answers.
use Rattle.std.proofs.Common.{◌≡◌, ℕ, ◌+◌, ◌<◌, ◌≤◌, sym, ap, ◌∙◌, subst, arith, List, [], ◌∷◌, length, Result, Ok, Err}
use Rattle.std.proofs.Math.IntN.{ℤ, pos, ◌*ℤ◌}
use lib.Signed.{◌<ℤ◌, ◌≤ℤ◌}
use Rattle.kf_frac.specs.declared.frac.Frac.{Frac}
use Rattle.kf_simplex.specs.declared.outcome.Outcome.{Outcome}
use Rattle.kf_simplex.specs.declared.outcome.Outcome.TheVariants as outcome
use Rattle.kf_simplex.specs.declared.outcome.SimplexError.{SimplexError}
use Rattle.kf_simplex.specs.declared.outcome.SimplexError.TheVariants as error
use Rattle.kf_simplex.specs.Base.{at, total}
use Rattle.kf_simplex.specs.Systems.{LinearSystem, IsSystem}
use Rattle.kf_simplex.specs.Tableaus.{Row, Tableau, IsInRowSpace, IsRowOf, IsSumOfRows, IsTableau}
use Rattle.kf_simplex.specs.Runs.{IsNarrow, Enters, Leaves, IsStep, Ends, GoesOn, IsRun, EndsAt, Cause, wide, solution, multipliers, budget}
use Rattle.kf_simplex.specs.Solutions.{Solves, Refutes, IsRight}
use Rattle.kf_simplex.specs.Answers.{IsAnswer, IsSolutionOf, AreMultipliersOf}
use Rattle.kf_simplex.specs.Turns.{system}
use Rattle.kf_simplex.specs.Laws.{AgreesBothWays, AgreesAsSystem, AgreesInRuns, AgreesInEnds, SameNumbers}
use Rattle.kf_simplex.specs.Laws.{AgreesInSolutions, AgreesInMultipliers, AgreesInOutcomes, AgreesInAnswers}
use Rattle.kf_simplex.proofs.FlatTurns.{along}
use Rattle.kf_simplex.proofs.Sums.{total-ext}

-- ---- what depends on the sizes alone

module _ (v e : ℕ) (f g : ℕ → ℕ → ℤ) where
  narrow : (t : Tableau) → IsNarrow (system v e f) t → IsNarrow (system v e g) t
  narrow t a = record { rows = a.rows; objective = a.objective }

  enters : (w : Row) (c : ℕ) → Enters (system v e f) w c → Enters (system v e g) w c
  enters w c a = record { unknown = a.unknown; positive = a.positive; least = a.least }

  leaves : (rows : ℕ → Row) (c r : ℕ) → Leaves (system v e f) rows c r → Leaves (system v e g) rows c r
  leaves rows c r a = record { row = a.row; positive = a.positive; least = a.least }

  sum_of_rows : (b : ℕ → ℕ) (rows : ℕ → Row) (w : Row) → IsSumOfRows (system v e f) b rows w → IsSumOfRows (system v e g) b rows w
  sum_of_rows b rows w a = record {
    times = a.times;
    times_positive = a.times_positive;
    common = a.common;
    common_positive = a.common_positive;
    part = a.part;
    artificial = a.artificial;
    unknown = a.unknown;
    sum = a.sum;
  }

  solution_of : (t : Tableau) (xs : List Frac) → IsSolutionOf (system v e f) t xs → IsSolutionOf (system v e g) t xs
  solution_of t xs a = record { len = a.len; basic = a.basic; not_basic = a.not_basic }

  multipliers_of : (t : Tableau) (ys : List ℤ) → AreMultipliersOf (system v e f) t ys → AreMultipliersOf (system v e g) t ys
  multipliers_of t ys a = record { len = a.len; entries = a.entries }

ends : (v e : ℕ) (f g : ℕ → ℕ → ℤ) (limit p : ℕ) (t : Tableau) (c : Cause) → Ends (system v e f) limit p t c → Ends (system v e g) limit p t c
ends v e f g limit p t wide a = λ n. a (narrow v e g f t n)
ends v e f g limit p t solution a = (narrow v e f g t a.0, a.1)
ends v e f g limit p t multipliers a = (narrow v e f g t a.0, a.1, a.2)
ends v e f g limit p t budget a = (narrow v e f g t a.0, a.1, a.2, a.3)

goes_on : (v e : ℕ) (f g : ℕ → ℕ → ℤ) (limit p : ℕ) (t : Tableau) → GoesOn (system v e f) limit p t → GoesOn (system v e g) limit p t
goes_on v e f g limit p t a = (narrow v e f g t a.0, a.1, a.2, a.3)

-- ---- what depends on the numbers

module _ (v e : ℕ) (f g : ℕ → ℕ → ℤ) (h : (k c : ℕ) → k < e → c ≤ v + e → f k c ≡ g k c) where
  is_system : IsSystem (system v e f) → IsSystem (system v e g)
  is_system a = record {
    same = λ k l. sym (h k (v + k) l (omega arith)) ∙ a.same k l;
    other = λ k m l n d. sym (h k (v + m) l (omega arith)) ∙ a.other k m l n d;
    right = λ k l. subst (λ (z : ℤ). pos 0 ≤ℤ z) (h k (v + e) l (omega arith)) (a.right k l);
  }

  in_space : (r : Row) → IsInRowSpace (system v e f) r → IsInRowSpace (system v e g) r
  in_space r a c m =
      a c m ∙ total-ext e (λ k. r (v + k) *ℤ f k c) (λ k. r (v + k) *ℤ g k c) (λ (k : ℕ) (l : k < e). ap (λ (z : ℤ). r (v + k) *ℤ z) (h k c l m))

  row_of : (b : ℕ → ℕ) (i : ℕ) (r : Row) → IsRowOf (system v e f) b i r → IsRowOf (system v e g) b i r
  row_of b i r a = record { in_space = in_space r a.in_space; positive = a.positive; zero_elsewhere = a.zero_elsewhere; primitive = a.primitive }

  tableau : (t : Tableau) → IsTableau (system v e f) t → IsTableau (system v e g) t
  tableau t a = record {
    rows = λ i l. row_of t.basis i (t.rows i) (a.rows i l);
    objective = sum_of_rows v e f g t.basis t.rows t.objective a.objective;
    objective_primitive = a.objective_primitive;
  }

  step : (t u : Tableau) → IsStep (system v e f) t u → IsStep (system v e g) t u
  step t u a = record {
    column = a.column;
    row = a.row;
    enters = enters v e f g t.objective a.column a.enters;
    leaves = leaves v e f g t.rows a.column a.row a.leaves;
    replaced = a.replaced;
    kept = a.kept;
    tableau = tableau u a.tableau;
  }

  run : (limit : ℕ) (ts : List Tableau) → IsRun (system v e f) limit ts → IsRun (system v e g) limit ts
  run limit [] a = a
  run limit (t ∷ []) a = (tableau t a.0, a.1)
  run limit (t ∷ (u ∷ us)) a = (run limit (u ∷ us) a.0, goes_on v e f g limit (length us) u a.1, step u t a.2)

  ends_at : (limit p : ℕ) (t : Tableau) (c : Cause) → EndsAt (system v e f) limit p t c → EndsAt (system v e g) limit p t c
  ends_at limit p t c a = record { before = a.before; run = run limit (t ∷ a.before) a.run; pivots = a.pivots; ends = ends v e f g limit p t c a.ends }

  solves : (x : ℕ → ℤ) (d : ℤ) → Solves (system v e f) x d → Solves (system v e g) x d
  solves x d a = record {
    positive = a.positive;
    not_negative = a.not_negative;
    equation = λ k l.
        total-ext v (λ j. g k j *ℤ x j) (λ j. f k j *ℤ x j) (λ (j : ℕ) (m : j < v). ap (λ (z : ℤ). z *ℤ x j) (sym (h k j l (omega arith))))
        ∙ a.equation k l
        ∙ ap (λ (z : ℤ). d *ℤ z) (h k (v + e) l (omega arith));
  }

  weighed : (y : ℕ → ℤ) (c : ℕ) → c ≤ v + e → total e (λ k. y k *ℤ f k c) ≡ total e (λ k. y k *ℤ g k c)
  weighed y c m = total-ext e (λ k. y k *ℤ f k c) (λ k. y k *ℤ g k c) (λ (k : ℕ) (l : k < e). ap (λ (z : ℤ). y k *ℤ z) (h k c l m))

  refutes : (y : ℕ → ℤ) → Refutes (system v e f) y → Refutes (system v e g) y
  refutes y a = record {
    unknowns = λ j l. subst (λ (z : ℤ). z ≤ℤ pos 0) (weighed y j (omega arith)) (a.unknowns j l);
    right = subst (λ (z : ℤ). pos 0 <ℤ z) (weighed y (v + e) (omega arith)) a.right;
  }

  right : (o : Outcome) → IsRight (system v e f) o → IsRight (system v e g) o
  right (outcome.Solution xs) a = (a.0, a.1, solves a.0 a.1 a.2, a.3)
  right (outcome.Multipliers ys) a = refutes (at ys) a

  answer : (limit : ℕ) (r : Result Outcome SimplexError) → IsAnswer (system v e f) limit r → IsAnswer (system v e g) limit r
  answer limit (Ok (outcome.Solution xs)) a = (a.0, a.1, ends_at limit a.0 a.1 solution a.2, solution_of v e f g a.1 xs a.3)
  answer limit (Ok (outcome.Multipliers ys)) a = (a.0, a.1, ends_at limit a.0 a.1 multipliers a.2, multipliers_of v e f g a.1 ys a.3)
  answer limit (Err (error.Wide p)) a = (a.0, ends_at limit p a.0 wide a.1)
  answer limit (Err error.Budget) a = (a.0, ends_at limit limit a.0 budget a.1)
  answer limit (Err error.Mem) a = a

-- ---- for any two systems

carried : (P : LinearSystem → Type 0)
    → ((v e : ℕ) (f g : ℕ → ℕ → ℤ) → ((k c : ℕ) → k < e → c ≤ v + e → f k c ≡ g k c) → P (system v e f) → P (system v e g))
    → (s u : LinearSystem) → SameNumbers s u → P s → P u
carried P along_numbers s u h a =
    along (λ v e. P (system v e u.number)) u.unknowns u.equations s.unknowns s.equations h.unknowns h.equations
    (along_numbers s.unknowns s.equations s.number u.number h.number a)

pub agrees_both_ways : AgreesBothWays
agrees_both_ways s u h = record {
  unknowns = sym h.unknowns;
  equations = sym h.equations;
  number = λ k c l m. sym (h.number k c (rw h.equations l) (rw (h.unknowns, h.equations) m));
}

pub agrees_as_system : AgreesAsSystem
agrees_as_system s u h a = carried IsSystem is_system s u h a

pub agrees_in_runs : AgreesInRuns
agrees_in_runs s u limit ts h a = carried (λ z. IsRun z limit ts) (λ v e f g n. run v e f g n limit ts) s u h a

pub agrees_in_ends : AgreesInEnds
agrees_in_ends s u limit p t c h a = carried (λ z. EndsAt z limit p t c) (λ v e f g n. ends_at v e f g n limit p t c) s u h a

pub agrees_in_solutions : AgreesInSolutions
agrees_in_solutions s u x d h a = carried (λ z. Solves z x d) (λ v e f g n. solves v e f g n x d) s u h a

pub agrees_in_multipliers : AgreesInMultipliers
agrees_in_multipliers s u y h a = carried (λ z. Refutes z y) (λ v e f g n. refutes v e f g n y) s u h a

pub agrees_in_outcomes : AgreesInOutcomes
agrees_in_outcomes s u o h a = carried (λ z. IsRight z o) (λ v e f g n. right v e f g n o) s u h a

pub agrees_in_answers : AgreesInAnswers
agrees_in_answers s u limit r h a = carried (λ z. IsAnswer z limit r) (λ v e f g n. answer v e f g n limit r) s u h a
