-- For bodies: what walks from state to state come to, and the visits to a loop's guard.
use Rattle.std.specs.Prelude.{ℕ, Bool, false, zero, suc, List, [], ◌∷◌, map, if◌then◌else◌}
use Rattle.kf_value.specs.Values.{ValueTree, truth}
use Rattle.kf_core.specs.Runs.{Tried}
use Rattle.kf_traces.specs.declared.walks.Visit.{Visit}
use Rattle.kf_traces.specs.declared.walks.Visit.TheVariants as code
use Rattle.kf_traces.specs.Traced.{Lead, Traced, split, behind}
use Rattle.kf_traces.specs.Views.{traced_of}

-- a state for each value that is leaked
abbrev pub leaked : Lead → (ℕ → Tried) → Traced → List Traced
leaked go tries s = map (behind s.trace) (split go tries [] s.stores)

-- whether the last value of a trace is true
abbrev pub last_true : List ValueTree → Bool
last_true [] = false
last_true (v ∷ []) = truth v
last_true (v ∷ w ∷ vs) = last_true (w ∷ vs)

-- a state goes on as the last value that it leaked says
abbrev pub side : (Traced → List Traced) → (Traced → List Traced) → Traced → List Traced
side taken left s = if last_true s.trace then taken s else left s

-- a state that has left a loop, or one that asks its guard, with so many turns to come
pub data VisitTree : Type 0 where
  Left : Traced → VisitTree
  Asks : Traced → ℕ → VisitTree

-- what contracts see of a visit
abbrev pub visit_of : Visit → VisitTree
visit_of (code.Left s) = Left (traced_of s)
visit_of (code.Asks s k) = Asks (traced_of s) k

-- the state of a visit
abbrev pub visitor : VisitTree → Traced
visitor (Left s) = s
visitor (Asks s k) = s

-- behind the body each state asks again; where no turn is to come, none does
abbrev pub asks_again : (Traced → List Traced) → ℕ → Traced → List VisitTree
asks_again body zero s = []
asks_again body (suc k) s = map (λ u. Asks u k) (body s)

-- what a state that has leaked the guard's value comes to next
abbrev pub visits_next : (Traced → List Traced) → ℕ → Traced → List VisitTree
visits_next body k s = if last_true s.trace then asks_again body k s else (Left s ∷ [])

-- nothing is leaked, and all weight lies on the first store
abbrev pub first_of : ℕ → Traced
first_of whole = record { trace = []; stores = (0, whole) ∷ [] }
