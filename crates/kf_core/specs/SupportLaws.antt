-- For bodies: how the support pass agrees with the runs of single stores.
use Rattle.std.specs.Prelude.{◌≡◌, ◌↔◌, ℕ, ◌<◌, ◌≤◌, List, ◌++◌, map, Ok, Err, IsOk, IsTrue, Any}
use Rattle.std.specs.List.{All}
use Rattle.std.specs.Int.{◌∣◌}
use Rattle.std.specs.FinSet.{contains}
use Rattle.kf_value.specs.Types.{TypeTree}
use Rattle.kf_core.specs.Sts.{StTree, sts}
use Rattle.kf_core.specs.Programs.{ProgramTree}
use Rattle.kf_core.specs.Runs.{Run, Halted, chain, runs, all_runs, program_runs}
use Rattle.kf_core.specs.Support.{StoreSet, Passed, step, pass, all_pass, program_pass}
use Rattle.kf_core.specs.Each.{common_scale}

-- no run stops at a fault
abbrev pub AllEnd : List Run → Type 0
AllEnd rs = All (λ r. IsOk r.end) rs

-- some run ends in the store
abbrev pub EndsIn : List Run → ℕ → Type 0
EndsIn rs n = Any (λ r. r.end ≡ Ok n) rs

-- some run stops at the fault
abbrev pub StopsAt : List Run → Halted → Type 0
StopsAt rs f = Any (λ r. r.end ≡ Err f) rs

-- A pass over a set of stores meets no fault exactly where no run from one of them stops at one, and then what it reaches is where such
-- runs end; and where it meets a fault, some run from one of them stops at that one.
pub record Agrees (passed : StoreSet → Passed StoreSet) (from : ℕ → List Run) : Type 0 where
  pub clear : (ns : StoreSet) → IsOk (passed ns) ↔ ((n : ℕ) → IsTrue (contains ns n) → AllEnd (from n))
  pub reached : (ns ms : StoreSet) → passed ns ≡ Ok ms
      → (m : ℕ) → IsTrue (contains ms m) ↔ ((n : ℕ) × IsTrue (contains ns n) × EndsIn (from n) m)
  pub told : (ns : StoreSet) (f : Halted) → passed ns ≡ Err f → (n : ℕ) × IsTrue (contains ns n) × StopsAt (from n) f

abbrev pub PassAgrees : Type 0
PassAgrees = (ts : List TypeTree) (turns : ℕ) (x : StTree) → Agrees (pass ts turns x) (runs ts turns x)

abbrev pub BlockAgrees : Type 0
BlockAgrees = (ts : List TypeTree) (turns : ℕ) (xs : List StTree) → Agrees (all_pass ts turns (sts xs)) (all_runs ts turns (sts xs))

-- the same of whole programs, which begin in the first store
abbrev pub ProgramAgrees : Type 0
ProgramAgrees = (turns : ℕ) (p : ProgramTree) → (IsOk (program_pass turns p) ↔ AllEnd (program_runs turns p))
    × ((ms : StoreSet) → program_pass turns p ≡ Ok ms → (m : ℕ) → IsTrue (contains ms m) ↔ EndsIn (program_runs turns p) m)

-- a program's told fault is one at which some run of it stops
abbrev pub FaultIsOfARun : Type 0
FaultIsOfARun = (turns : ℕ) (p : ProgramTree) (f : Halted) → program_pass turns p ≡ Err f → StopsAt (program_runs turns p) f

-- the fault of one step from a set of stores is that of the least store which has one
abbrev pub LeastStoreFaults : Type 0
LeastStoreFaults = (next : ℕ → Passed (List ℕ)) (ns : StoreSet) (f : Halted) → step next ns ≡ Err f
    → (n : ℕ) × IsTrue (contains ns n) × (next n ≡ Err f)
    × ((m : ℕ) → m < n → IsTrue (contains ns m) → IsOk (next m))

-- the runs of one block and then another are the runs of the first, each gone on by those of the second
abbrev pub RunsChain : Type 0
RunsChain = (ts : List TypeTree) (turns : ℕ) (xs ys : List StTree) (n : ℕ)
    → all_runs ts turns (sts (xs ++ ys)) n ≡ chain (all_runs ts turns (sts xs) n) (all_runs ts turns (sts ys))

-- m is the least positive number that all of these divide
pub record IsLeastMultiple (ks : List ℕ) (m : ℕ) : Type 0 where
  pub positive : 0 < m
  pub multiple : All (λ k. k ∣ m) ks
  pub least : (n : ℕ) → 0 < n → All (λ k. k ∣ n) ks → m ≤ n

-- each run's scale is a positive whole number, and the common scale is the least that all of them divide
abbrev pub ScalesArePositive : Type 0
ScalesArePositive = (turns : ℕ) (p : ProgramTree) → All (λ r. 0 < r.scale) (program_runs turns p)

abbrev pub CommonScaleIsLeast : Type 0
CommonScaleIsLeast = (rs : List Run) → All (λ r. 0 < r.scale) rs → IsLeastMultiple (map (λ r. r.scale) rs) (common_scale rs)
