-- The parts of a verdict.
use Rattle.std.proofs.Common.{◌≡◌, ℕ, ◌≤◌, min, sym, subst, arith, List, length, Result}
use Rattle.std.proofs.Math.IntN.{ℤ}
use Rattle.kf_frac.specs.declared.frac.Frac.{Frac}
use Rattle.kf_frac.specs.Fractions.{limit}
use Rattle.kf_gain.specs.Gains.{TableTree}
use Rattle.kf_simplex.specs.Answers.{IsAnswer}
use Rattle.kf_simplex.specs.Systems.{LinearSystem}
use Rattle.kf_simplex.specs.declared.outcome.Outcome.{Outcome}
use Rattle.kf_simplex.specs.declared.outcome.SimplexError.{SimplexError}
use Rattle.kf_refine.specs.Equations.{AreEquations, cells_of}
use Rattle.kf_refine.specs.Refinements.{HyperTree, Fraction, count}
use Rattle.kf_refine.specs.Verdicts.{Runs, IsMatrixOf, IsTableOf}

-- the run on the equations of kept values
pub run_of : (a b : HyperTree) (pivots : ℕ) (s : LinearSystem) (kept : List ℕ) (r : Result Outcome SimplexError)
    → (e : AreEquations a b s) × (e.values ≡ kept) → cells_of (length kept) (count a) (count b) ≤ 4000000 → a.target ≡ b.target → IsAnswer s pivots r
    → (run : Runs a b pivots r) × (run.equations.values ≡ kept)
run_of a b pivots s kept r e few targets answer = (
  record {
    targets = targets;
    system = s;
    equations = e.0;
    few = subst (λ (xs : List ℕ). cells_of (length xs) (count a) (count b) ≤ 4000000) (sym e.1) few;
    is_answer = answer;
  },
  e.1,
)

pub few_cells : (a b : HyperTree) (counted k m n : ℕ) (kept : List ℕ) → k ≡ length kept → m ≡ count a → n ≡ count b → counted ≡ min limit (cells_of k m n)
    → counted ≤ 4000000 → cells_of (length kept) (count a) (count b) ≤ 4000000
few_cells a b counted k m n kept ek em en is few =
    let f : cells_of k m n ≤ 4000000 = omega arith in
    subst (λ (x : ℕ). cells_of x (count a) (count b) ≤ 4000000) ek
    (subst (λ (x : ℕ). cells_of k x (count b) ≤ 4000000) em (subst (λ (x : ℕ). cells_of k m x ≤ 4000000) en f))

-- the table of these values, by the numbers of their inners
pub table_of : (xs kept : List ℕ) (n m : ℕ) (ys : List ℤ) (t : TableTree) → kept ≡ xs → m ≡ n → IsTableOf kept m ys t → IsTableOf xs n ys t
table_of xs kept n m ys t e same h =
    subst (λ (vs : List ℕ). IsTableOf vs n ys t) e (subst (λ (k : ℕ). IsTableOf kept k ys t) same h)

-- the matrix of so many rows
pub matrix_of : (m n k l : ℕ) (xs : List Frac) (rows : List (List Fraction)) → k ≡ m → l ≡ n → IsMatrixOf k l xs rows → IsMatrixOf m n xs rows
matrix_of m n k l xs rows e same h =
    subst (λ (i : ℕ). IsMatrixOf i n xs rows) e (subst (λ (j : ℕ). IsMatrixOf k j xs rows) same h)
