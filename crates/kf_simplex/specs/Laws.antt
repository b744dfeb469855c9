-- For bodies: laws of systems and of runs.
use Rattle.std.specs.Prelude.{◌≡◌, ◌≢◌, ℕ, zero, suc, ◌+◌, ◌<◌, ◌≤◌, ℤ, pos, ◌<ℤ◌, List, [], ◌∷◌, length, Result, Err}
use Rattle.kf_simplex.specs.declared.outcome.Outcome.{Outcome}
use Rattle.kf_simplex.specs.declared.outcome.SimplexError.{SimplexError}
use Rattle.kf_simplex.specs.declared.outcome.SimplexError.TheVariants as error
use Rattle.kf_simplex.specs.Systems.{LinearSystem, IsSystem, right_column}
use Rattle.kf_simplex.specs.Tableaus.{Tableau}
use Rattle.kf_simplex.specs.Runs.{Cause, EndsAt, IsBelow, IsRun}
use Rattle.kf_simplex.specs.Solutions.{Solves, Refutes, HasNoSolution, IsRight}
use Rattle.kf_simplex.specs.Answers.{IsAnswer}

-- every column of the one basis stands in the other
abbrev pub SameColumns : ℕ → (ℕ → ℕ) → (ℕ → ℕ) → Type 0
SameColumns n a b = ((i : ℕ) → i < n → (k : ℕ) × (k < n) × (b k ≡ a i))

-- no member of the list has the columns of t
abbrev pub NoneHas : LinearSystem → Tableau → List Tableau → Type 0
NoneHas s t [] = Unit {0}
NoneHas s t (u ∷ us) = (SameColumns s.equations u.basis t.basis → ⊥) × NoneHas s t us

abbrev pub NoBasisTwice : LinearSystem → List Tableau → Type 0
NoBasisTwice s [] = Unit {0}
NoBasisTwice s (t ∷ ts) = NoneHas s t ts × NoBasisTwice s ts

-- no run comes back to a basis
abbrev pub NoRunReturns : Type 0
NoRunReturns = (s : LinearSystem) (limit : ℕ) (ts : List Tableau) → IsSystem s → IsRun s limit ts → NoBasisTwice s ts

-- the objective row has this one positive number at each basic artificial
abbrev pub IsScale : LinearSystem → Tableau → ℤ → Type 0
IsScale s t p = (pos 0 <ℤ p) × ((i : ℕ) → i < s.equations → s.unknowns ≤ t.basis i → t.objective (t.basis i) ≡ p)

-- at each step of a run the objective row over its scale, read as its deciding list, is below that of the step before by first difference
abbrev pub MeasureFalls : Type 0
MeasureFalls = (s : LinearSystem) (limit : ℕ) (t u : Tableau) (ts : List Tableau) → IsSystem s → IsRun s limit (u ∷ (t ∷ ts))
    → (p : ℤ) × (q : ℤ) × IsScale s t p × IsScale s u q × IsBelow s u.objective q t.objective p

-- binomial coefficients, by Pascal's rule
abbrev pub ways : ℕ → ℕ → ℕ
ways n zero = 1
ways zero (suc k) = 0
ways (suc n) (suc k) = ways n k + ways n (suc k)

-- no run has more tableaus than there are ways to choose a basis
abbrev pub NoRunIsLong : Type 0
NoRunIsLong = (s : LinearSystem) (limit : ℕ) (ts : List Tableau) → IsSystem s → IsRun s limit ts → length ts ≤ ways (s.unknowns + s.equations) s.equations

-- equality of tableaus, number by number
pub record SameTableau (s : LinearSystem) (t u : Tableau) : Type 0 where
  pub basis : (k : ℕ) → k < s.equations → t.basis k ≡ u.basis k
  pub rows : (i c : ℕ) → i < s.equations → c ≤ right_column s → t.rows i c ≡ u.rows i c
  pub objective : (c : ℕ) → c ≤ right_column s → t.objective c ≡ u.objective c

-- a run ends once: after one number of pivots, at one tableau and for one cause
abbrev pub OneAnswer : Type 0
OneAnswer = (s : LinearSystem) (limit p q : ℕ) (t u : Tableau) (c d : Cause) → IsSystem s
    → EndsAt s limit p t c → EndsAt s limit q u d → (p ≡ q) × SameTableau s t u × (c ≡ d)

-- and each does end
abbrev pub EveryRunEnds : Type 0
EveryRunEnds = (s : LinearSystem) (limit : ℕ) → IsSystem s → (p : ℕ) × (t : Tableau) × (c : Cause) × EndsAt s limit p t c

-- its answer is never missing
abbrev pub SomeAnswer : Type 0
SomeAnswer = (s : LinearSystem) (limit : ℕ) → IsSystem s
    → (r : Result Outcome SimplexError) × (r ≢ Err error.Mem) × IsAnswer s limit r

-- where such multipliers exist, no solution does
abbrev pub WeakDuality : Type 0
WeakDuality = (s : LinearSystem) (y : ℕ → ℤ) → Refutes s y → HasNoSolution s

-- two systems that agree at each equation and column
pub record SameNumbers (s u : LinearSystem) : Type 0 where
  pub unknowns : s.unknowns ≡ u.unknowns
  pub equations : s.equations ≡ u.equations
  pub number : (k c : ℕ) → k < s.equations → c ≤ right_column s → s.number k c ≡ u.number k c

-- agreement goes both ways
abbrev pub AgreesBothWays : Type 0
AgreesBothWays = (s u : LinearSystem) → SameNumbers s u → SameNumbers u s

-- what agrees with a system at each equation and column is a system
abbrev pub AgreesAsSystem : Type 0
AgreesAsSystem = (s u : LinearSystem) → SameNumbers s u → IsSystem s → IsSystem u

-- a run of the one is a run of the other
abbrev pub AgreesInRuns : Type 0
AgreesInRuns = (s u : LinearSystem) (limit : ℕ) (ts : List Tableau) → SameNumbers s u → IsRun s limit ts → IsRun u limit ts

-- it ends there as here
abbrev pub AgreesInEnds : Type 0
AgreesInEnds = (s u : LinearSystem) (limit p : ℕ) (t : Tableau) (c : Cause) → SameNumbers s u → EndsAt s limit p t c → EndsAt u limit p t c

-- what solves the one solves the other
abbrev pub AgreesInSolutions : Type 0
AgreesInSolutions = (s u : LinearSystem) (x : ℕ → ℤ) (d : ℤ) → SameNumbers s u → Solves s x d → Solves u x d

-- what refutes the one refutes the other
abbrev pub AgreesInMultipliers : Type 0
AgreesInMultipliers = (s u : LinearSystem) (y : ℕ → ℤ) → SameNumbers s u → Refutes s y → Refutes u y

-- an outcome that is right for the one is right for the other
abbrev pub AgreesInOutcomes : Type 0
AgreesInOutcomes = (s u : LinearSystem) (o : Outcome) → SameNumbers s u → IsRight s o → IsRight u o

-- an answer to the one is an answer to the other
abbrev pub AgreesInAnswers : Type 0
AgreesInAnswers = (s u : LinearSystem) (limit : ℕ) (r : Result Outcome SimplexError) → SameNumbers s u → IsAnswer s limit r → IsAnswer u limit r

-- two systems that agree have one end: one number of pivots, one tableau, one cause
abbrev pub OneEnd : Type 0
OneEnd = (s u : LinearSystem) (limit p q : ℕ) (t w : Tableau) (c d : Cause) → SameNumbers s u → IsSystem s
    → EndsAt s limit p t c → EndsAt u limit q w d → (p ≡ q) × SameTableau s t w × (c ≡ d)

-- and one result, besides want of memory
abbrev pub OneResult : Type 0
OneResult = (s u : LinearSystem) (limit : ℕ) (a b : Result Outcome SimplexError) → SameNumbers s u → IsSystem s
    → a ≢ Err error.Mem → b ≢ Err error.Mem → IsAnswer s limit a → IsAnswer u limit b → a ≡ b
