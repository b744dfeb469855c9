-- From the end of a run of the table to the answer.
use Rattle.std.proofs.Common.{◌≡◌, ℕ, ◌+◌, ◌<◌, sym, subst, List, get_or}
use Rattle.std.proofs.Math.IntN.{ℤ, pos}
use lib.Signed.{◌<ℤ◌}
use Rattle.kf_frac.specs.declared.frac.Frac.{Frac}
use Rattle.kf_simplex.specs.Systems.{LinearSystem, IsSystem}
use Rattle.kf_simplex.specs.Tableaus.{Tableau}
use Rattle.kf_simplex.specs.Runs.{Cause, Ends, EndsAt, IsNarrow, budget}
use Rattle.kf_simplex.specs.Cells.{AllNarrow}
use Rattle.kf_simplex.specs.Flat.{IsWithin, tableau_of}
use Rattle.kf_simplex.specs.Turns.{system, sizes, InRun}
use Rattle.kf_simplex.specs.Answers.{IsSolutionOf, AreMultipliersOf}
use Rattle.kf_simplex.proofs.Counting.{apart_basis}
use Rattle.kf_simplex.proofs.RunFacts.{IsGood, run_facts}
use Rattle.kf_simplex.proofs.FlatTurns.{along, all_narrow_of}

-- the run of a table with the sizes of the system
pub ended : (v e v' e' : ℕ) (number : ℕ → ℕ → ℤ) (limit p : ℕ) (first cells : ℕ → ℕ → ℤ) (artificials basis : List ℕ) (cause : Cause) → v' ≡ v → e' ≡ e
    → IsSystem (system v e number) → InRun (system v e number) limit 0 first artificials
    → (IsSystem (system v' e' number) → InRun (system v' e' number) limit 0 first artificials → InRun (system v' e' number) limit p cells basis)
    → (IsSystem (system v' e' number) → InRun (system v' e' number) limit 0 first artificials → Ends (system v' e' number) limit p (tableau_of (system v' e' number) cells basis) cause)
    → EndsAt (system v e number) limit p (tableau_of (system v e number) cells basis) cause
ended v e v' e' number limit p first cells artificials basis cause ev ee y r runs ends =
    along
    (λ v e. IsSystem (system v e number) → InRun (system v e number) limit 0 first artificials → EndsAt (system v e number) limit p (tableau_of (system v e number) cells basis) cause)
    v e v' e' ev ee
    (λ y' r'. let h : InRun (system v' e' number) limit p cells basis = runs y' r' in record { before = h.before; run = h.run; pivots = h.pivots; ends = ends y' r' })
    y r

pub good_end : (s : LinearSystem) (limit p : ℕ) (t : Tableau) (cause : Cause) → IsSystem s → EndsAt s limit p t cause → IsGood s t
good_end s limit p t cause y h = (run_facts s limit t h.before y h.run).0

-- a run that ends by its budget has spent it
pub spent : (s : LinearSystem) (limit p : ℕ) (t : Tableau) → EndsAt s limit p t budget → ((t : Tableau) × EndsAt s limit limit t budget)
spent s limit p t h = (t, subst (λ (n : ℕ). EndsAt s limit n t budget) h.ends.3 h)

-- ---- what the readers of a table ask, in the table's own sizes

pub narrow_cells : (v e v' e' : ℕ) (number : ℕ → ℕ → ℤ) (cells : ℕ → ℕ → ℤ) (basis : List ℕ) → v' ≡ v → e' ≡ e → IsWithin (v' + e') cells → ((i c : ℕ) → e' < i → cells i c ≡ pos 0)
    → IsNarrow (system v e number) (tableau_of (system v e number) cells basis) → (i : ℕ) → AllNarrow (cells i)
narrow_cells v e v' e' number cells basis ev ee within past h =
    all_narrow_of (system v e number) cells basis (along (λ v e. IsWithin (v + e) cells) v e v' e' ev ee within) (along (λ v e. (i c : ℕ) → e < i → cells i c ≡ pos 0) v e v' e' ev ee past) h

pub positive_entries : (v e v' e' : ℕ) (number : ℕ → ℕ → ℤ) (cells : ℕ → ℕ → ℤ) (basis : List ℕ) → v' ≡ v → e' ≡ e → IsGood (system v e number) (tableau_of (system v e number) cells basis)
    → (i : ℕ) → i < e' → get_or basis i 0 < v' → pos 0 <ℤ cells i (get_or basis i 0)
positive_entries v e v' e' number cells basis ev ee g =
    along (λ v e. (i : ℕ) → i < e → get_or basis i 0 < v → pos 0 <ℤ cells i (get_or basis i 0)) v' e' v e (sym ev) (sym ee)
    (λ i l u. (g.tableau.rows i l).positive)

pub distinct_columns : (v e e' : ℕ) (number : ℕ → ℕ → ℤ) (cells : ℕ → ℕ → ℤ) (basis : List ℕ) → e' ≡ e → IsGood (system v e number) (tableau_of (system v e number) cells basis)
    → (i k : ℕ) → i < k → k < e' → get_or basis k 0 ≡ get_or basis i 0 → ⊥
distinct_columns v e e' number cells basis ee g i k l m q =
    apart_basis (system v e number) (tableau_of (system v e number) cells basis) g i k l (subst (λ (z : ℕ). k < z) ee m) (sym q)

-- ---- what they read, in the sizes of the system

pub solution_read : (v e v' e' : ℕ) (number : ℕ → ℕ → ℤ) (cells : ℕ → ℕ → ℤ) (basis : List ℕ) (xs : List Frac) → v' ≡ v → e' ≡ e
    → IsSolutionOf (sizes v' e') (tableau_of (sizes v' e') cells basis) xs → IsSolutionOf (system v e number) (tableau_of (system v e number) cells basis) xs
solution_read v e v' e' number cells basis xs ev ee h =
    along (λ v e. IsSolutionOf (system v e number) (tableau_of (system v e number) cells basis) xs) v e v' e' ev ee
    (record { len = h.len; basic = h.basic; not_basic = h.not_basic })

pub multipliers_read : (v e v' e' : ℕ) (number : ℕ → ℕ → ℤ) (cells : ℕ → ℕ → ℤ) (basis : List ℕ) (ys : List ℤ) → v' ≡ v → e' ≡ e
    → AreMultipliersOf (sizes v' e') (tableau_of (sizes v' e') cells basis) ys → AreMultipliersOf (system v e number) (tableau_of (system v e number) cells basis) ys
multipliers_read v e v' e' number cells basis ys ev ee h =
    along (λ v e. AreMultipliersOf (system v e number) (tableau_of (system v e number) cells basis) ys) v e v' e' ev ee
    (record { len = h.len; entries = h.entries })
