-- For bodies: laws of refinement and of its verdicts.
use Rattle.std.specs.Prelude.{◌≡◌, ℕ, ◌+◌, ◌*◌, ◌≤◌, List, length, Result, Ok, Err}
use Rattle.kf_gain.specs.Gains.{TableTree}
use Rattle.kf_simplex.specs.Laws.{ways}
use Rattle.kf_refine.specs.declared.verdict.RefineError.{RefineError}
use Rattle.kf_refine.specs.declared.verdict.RefineError.TheVariants as error
use Rattle.kf_refine.specs.Refinements.{HyperTree, count, Fraction, Carries, Separates}
use Rattle.kf_refine.specs.Equations.{AreKept}
use Rattle.kf_refine.specs.Verdicts.{VerdictTree, Yes, No, IsVerdict, Proves}
use Rattle.kf_refine.specs.Views.{IsProper}

-- some matrix carries a to b: b leaks no more than a
abbrev pub Refines : HyperTree → HyperTree → Type 0
Refines a b = (rows : List (List Fraction)) × Carries a b rows

-- where a matrix carries, no gain table whatever separates: whatever an adversary wants, it does no better at b
abbrev pub NothingSeparates : Type 0
NothingSeparates = (a b : HyperTree) (t : TableTree) → IsProper a → IsProper b → Refines a b → Separates t a b → ⊥

-- a hyper refines itself
abbrev pub IsReflexive : Type 0
IsReflexive = (a : HyperTree) → IsProper a → Refines a a

-- matrices compose
abbrev pub IsTransitive : Type 0
IsTransitive = (a b c : HyperTree) → IsProper a → IsProper b → IsProper c → Refines a b → Refines b c → Refines a c

-- what the run answers proves itself
abbrev pub VerdictsProve : Type 0
VerdictsProve = (a b : HyperTree) (pivots : ℕ) (v : VerdictTree) → IsProper a → IsProper b
    → IsVerdict a b pivots (Ok v) → Proves a b v

-- a yes exactly where some matrix carries, and so a no exactly where none does
abbrev pub VerdictsDecide : Type 0
VerdictsDecide = (a b : HyperTree) (pivots : ℕ) → IsProper a → IsProper b
    → ((rows : List (List Fraction)) → IsVerdict a b pivots (Ok (Yes rows)) → Refines a b)
    × ((t : TableTree) → IsVerdict a b pivots (Ok (No t)) → Refines a b → ⊥)

-- there is a verdict, or a cause why there is none
abbrev pub SomeVerdict : Type 0
SomeVerdict = (a b : HyperTree) (pivots : ℕ) → IsProper a → IsProper b
    → (r : Result VerdictTree RefineError) × IsVerdict a b pivots r

-- and only one
abbrev pub OneVerdict : Type 0
OneVerdict = (a b : HyperTree) (pivots : ℕ) (r q : Result VerdictTree RefineError) → IsProper a → IsProper b
    → IsVerdict a b pivots r → IsVerdict a b pivots q → r ≡ q

-- no run is longer than there are ways to choose the basic columns
abbrev pub EnoughPivots : Type 0
EnoughPivots = (a b : HyperTree) (pivots : ℕ) (xs : List ℕ) → IsProper a → IsProper b → AreKept a b xs
    → ways (count a * count b + (length xs * count b + count a)) (length xs * count b + count a) ≤ pivots
    → IsVerdict a b pivots (Err error.Budget) → ⊥
