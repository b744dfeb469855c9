-- For bodies: laws of reported faults: each is that of the first statements, in the order of the text, that have one.
use Rattle.std.specs.Prelude.{◌≡◌, ◌↔◌, ℕ, ◌<◌, List, take, IsOk, Err}
use Rattle.kf_value.specs.Types.{TypeTree}
use Rattle.kf_core.specs.Programs.{ProgramTree}
use Rattle.kf_core.specs.Runs.{Halted, program_runs}
use Rattle.kf_core.specs.Sts.{StTree, sts}
use Rattle.kf_core.specs.Support.{Passed, StoreSet, all_pass, program_pass}
use Rattle.kf_core.specs.SupportLaws.{AllEnd, StopsAt}

-- a program with only its first i outermost statements
abbrev pub front : ℕ → ProgramTree → ProgramTree
front i p = record p { body = take i p.body }

-- the first i statements have this fault, and fewer of them have none
pub record IsFirst (passed : ℕ → Passed StoreSet) (f : Halted) (i : ℕ) : Type 0 where
  pub here : passed i ≡ Err f
  pub before : (j : ℕ) → j < i → IsOk (passed j)

-- the reported fault of a block from a set of stores, also of a block in a branch or a loop, is that of its shortest prefix which has one
abbrev pub BlockFaultIsFirst : Type 0
BlockFaultIsFirst = (ts : List TypeTree) (turns : ℕ) (xs : List StTree) (ns : StoreSet) (f : Halted)
    → all_pass ts turns (sts xs) ns ≡ Err f → (i : ℕ) × IsFirst (λ j. all_pass ts turns (sts (take j xs)) ns) f i

-- that of a program is that of the shortest prefix of its outermost statements which has one; where this is empty, the declarations have it
abbrev pub FirstFaultOfProgram : Type 0
FirstFaultOfProgram = (turns : ℕ) (p : ProgramTree) (f : Halted)
    → program_pass turns p ≡ Err f → (i : ℕ) × IsFirst (λ j. program_pass turns (front j p)) f i

-- a program has no fault exactly where no prefix of its statements has one
abbrev pub NoFaultBefore : Type 0
NoFaultBefore = (turns : ℕ) (p : ProgramTree) → IsOk (program_pass turns p) ↔ ((i : ℕ) → IsOk (program_pass turns (front i p)))

-- so of the runs: some run of the first i statements stops at the reported fault, and every run of fewer statements ends
abbrev pub FirstFaultOfRuns : Type 0
FirstFaultOfRuns = (turns : ℕ) (p : ProgramTree) (f : Halted)
    → program_pass turns p ≡ Err f
    → (i : ℕ) × StopsAt (program_runs turns (front i p)) f × ((j : ℕ) → j < i → AllEnd (program_runs turns (front j p)))
