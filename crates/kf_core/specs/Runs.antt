-- Believed: runs: every way through statements from a store, to its end or to a fault, with its trace and its weight (Gibbons et al.
-- 2020, weighted pairs of trace and state; the loop here has a bound on its turns). A store is named by its number in the shape.
use Rattle.std.specs.Prelude.{ℕ, suc, zero, ◌*◌, List, [], ◌∷◌, ◌++◌, Bool, true, false, map, take, length, get_or, slice_set, if◌then◌else◌, Option, Result, Ok, Err, flat_map}
use Rattle.std.specs.List.{position}
use Rattle.std.specs.Cmp.Lexicographic.{pointwise}
use Rattle.std.specs.Result.{result_map_both}
use Rattle.std.specs.Option.{option_map_or, unwrap_or}
use Rattle.kf_value.specs.Values.{ValueTree, Truth, truth, is_equal}
use Rattle.kf_value.specs.Types.{TypeTree}
use Rattle.kf_value.specs.Stores.{stores}
use Rattle.kf_core.specs.Dxs.{DxTree, dx_at}
use Rattle.kf_core.specs.Sts.{StTree, StTrees, Skip, Assign, Observe, If, While, no_sts, more_sts, sts}
use Rattle.kf_core.specs.Programs.{ProgramTree}
use Rattle.kf_core.specs.Choices.{Weighted, ChoiceFault, choices, total}

pub data Cause : Type 0 where
  Choosing : ChoiceFault → Cause
  OutOfRange : Cause
  LoopBound : Cause

-- why a run doesn't end, and the first byte of the distribution at which it stops
pub record Halted : Type 0 where
  pub cause : Cause
  pub at : ℕ

-- a run: the values leaked, in order; the store in which it ends, or the fault at which it stops; and its probability weight / scale
pub record Run : Type 0 where
  pub trace : List ValueTree
  pub end : Result ℕ Halted
  pub weight : ℕ
  pub scale : ℕ

-- the values of the variables in the store with this number
abbrev pub store_at : List TypeTree → ℕ → List ValueTree
store_at ts n = get_or (stores ts) n []

-- the number of the store with these values; none where one of them isn't of its variable's type
abbrev pub store_number : List TypeTree → List ValueTree → Option ℕ
store_number ts s = position (pointwise is_equal s) (stores ts)

-- the store in which variable i has the value
abbrev pub replaced : List TypeTree → ℕ → ValueTree → ℕ → Option ℕ
replaced ts i v n = store_number ts (slice_set (store_at ts n) i v)

-- what a distribution chooses in a store, or the fault there
abbrev pub Tried : Type 0
Tried = Result (List Weighted) Halted

abbrev pub tried : List TypeTree → DxTree → ℕ → Tried
tried ts (dx_at at d) n = result_map_both (λ ws. ws) (λ f. record { cause = Choosing f; at = at }) (choices (store_at ts n) d)

abbrev pub place : DxTree → ℕ
place (dx_at at d) = at

-- the one run that ends here
abbrev pub ended : Result ℕ Halted → List Run
ended end = record { trace = []; end = end; weight = 1; scale = 1 } ∷ []

abbrev pub stay : ℕ → List Run
stay n = ended (Ok n)

abbrev pub stopped : Cause → ℕ → List Run
stopped cause at = ended (Err (record { cause = cause; at = at }))

-- one run and another from where it ends
abbrev pub joined : Run → Run → Run
joined r q = record { trace = r.trace ++ q.trace; end = q.end; weight = r.weight * q.weight; scale = r.scale * q.scale }

-- each run goes on from where it ends
abbrev pub chain : List Run → (ℕ → List Run) → List Run
chain rs next = flat_map (λ (r : Run). elim r.end [ Ok n ↦ map (joined r) (next n) | Err f ↦ r ∷ [] ]) rs

-- a choice as a run that leaks what it leaks
abbrev pub choice_run : (ValueTree → List ValueTree) → ℕ → ℕ → Weighted → Run
choice_run leak n scale w = record { trace = leak w.value; end = Ok n; weight = w.weight; scale = scale }

-- a run for each choice in the store, which goes on as its value says
abbrev pub branched : (ValueTree → List ValueTree) → ℕ → (ValueTree → List Run) → Tried → List Run
branched leak n next (Ok ws) = flat_map (λ w. map (joined (choice_run leak n (total ws) w)) (next w.value)) ws
branched leak n next (Err f) = ended (Err f)

-- what an assignment leaks: the value, where the variable is visible; a guard and an observation always leak it
abbrev pub leaks : Bool → ValueTree → List ValueTree
leaks true v = v ∷ []
leaks false v = []

-- variable i takes a value
abbrev pub assigned : (ValueTree → List ValueTree) → List TypeTree → ℕ → DxTree → ℕ → List Run
assigned leak ts i d n = branched leak n (λ v. option_map_or stay (replaced ts i v n) (stopped OutOfRange (place d))) (tried ts d n)

-- the guard's value is leaked and decides
abbrev pub guarded : (ℕ → Tried) → (ℕ → List Run) → (ℕ → List Run) → ℕ → List Run
guarded guard taken left n = branched (leaks true) n (λ v. if truth v then taken n else left n) (guard n)

-- a loop of at most so many turns, whose guard stands at this place
abbrev pub looped : ℕ → (ℕ → Tried) → ℕ → (ℕ → List Run) → ℕ → List Run
looped zero guard at body = guarded guard (λ n. stopped LoopBound at) stay
looped (suc k) guard at body = guarded guard (λ n. chain (body n) (looped k guard at body)) stay

-- where the variables have these types, and each loop has at most so many turns
module _ (ts : List TypeTree) (turns : ℕ) where
  -- the runs of a statement, and of a block, from a store
  abbrev mutual
    pub runs : StTree → ℕ → List Run
    runs Skip n = stay n
    runs (Assign i d visible) n = assigned (leaks visible) ts i d n
    runs (Observe d) n = branched (leaks true) n (λ v. stay n) (tried ts d n)
    runs (If d xs ys) n = guarded (tried ts d) (all_runs xs) (all_runs ys) n
    runs (While d xs) n = looped turns (tried ts d) (place d) (all_runs xs) n

    pub all_runs : StTrees → ℕ → List Run
    all_runs no_sts n = stay n
    all_runs (more_sts x xs) n = chain (runs x n) (all_runs xs)

-- declarations from variable i on, each an assignment that leaks nothing, whether or not the variable is visible
abbrev pub declared : List TypeTree → ℕ → List DxTree → ℕ → List Run
declared ts i [] n = stay n
declared ts i (d ∷ ds) n = chain (assigned (leaks false) ts i d n) (declared ts (suc i) ds)

-- the values of a store where each carried copy has the value of its variable
abbrev pub carried : ProgramTree → List ValueTree → List ValueTree
carried p s = take (length p.decls) s ++ map (λ c. get_or s c (Truth false)) p.copies

-- the number of that store; a checked program's copies are of their variables' types
abbrev pub copied : ProgramTree → ℕ → ℕ
copied p n = unwrap_or (store_number p.types (carried p (store_at p.types n))) n

-- the runs of the declarations from the first store, and behind them of the body
abbrev pub program_runs : ℕ → ProgramTree → List Run
program_runs turns p = chain (declared p.types 0 p.decls 0) (λ n. all_runs p.types turns (sts p.body) (copied p n))
