-- For bodies: runs told apart by their traces: what is leaked so far, and how much weight lies on each store behind it.
use Rattle.std.specs.Prelude.{ℕ, zero, suc, ◌+◌, ◌*◌, ◌/◌, Bool, true, false, List, [], ◌∷◌, ◌++◌, flat_map, if◌then◌else◌, Option, None, Some, Ok, Err}
use Rattle.std.specs.Ordering.{nat_cmp, match_ordering}
use Rattle.kf_value.specs.Values.{ValueTree, order, truth}
use Rattle.kf_value.specs.Types.{TypeTree}
use Rattle.kf_core.specs.Choices.{Weighted, total}
use Rattle.kf_core.specs.Dxs.{DxTree}
use Rattle.kf_core.specs.Sts.{StTree, StTrees, Skip, Assign, Observe, If, While, no_sts, more_sts, sts}
use Rattle.kf_core.specs.Programs.{ProgramTree}
use Rattle.kf_core.specs.Runs.{Tried, tried, replaced, copied}

-- stores in ascending number, each with its weight
abbrev pub Weights : Type 0
Weights = List (ℕ × ℕ)

-- what is leaked, and the stores behind it
pub record Traced : Type 0 where
  pub trace : List ValueTree
  pub stores : Weights

-- with more weight on a store
abbrev pub with_weight : Weights → ℕ → ℕ → Weights
with_weight [] n w = (n, w) ∷ []
with_weight (e ∷ es) n w = match_ordering (nat_cmp n e.0) ((n, w) ∷ e ∷ es) ((e.0, e.1 + w) ∷ es) (e ∷ with_weight es n w)

-- a value that is leaked, and the stores behind it
pub record Part : Type 0 where
  pub value : ValueTree
  pub stores : Weights

-- the parts in ascending order of values, with more weight on a store behind the value
abbrev pub with_part : List Part → ValueTree → ℕ → ℕ → List Part
with_part [] v n w = record { value = v; stores = (n, w) ∷ [] } ∷ []
with_part (p ∷ ps) v n w =
    match_ordering (order v p.value)
    (record { value = v; stores = (n, w) ∷ [] } ∷ p ∷ ps)
    (record { value = p.value; stores = with_weight p.stores n w } ∷ ps)
    (p ∷ with_part ps v n w)

-- where a choice of a value leads a store, if it leads anywhere
abbrev pub Lead : Type 0
Lead = ℕ → ValueTree → Option ℕ

-- to the same store
abbrev pub unmoved : Lead
unmoved n v = Some n

-- to the store in which variable i has the value
abbrev pub into : List TypeTree → ℕ → Lead
into ts i n v = replaced ts i v n

-- a share of a value goes to the store behind it, if there is one
abbrev pub with_share : List Part → ValueTree → Option ℕ → ℕ → List Part
with_share ps v None w = ps
with_share ps v (Some n) w = with_part ps v n w

-- each choice in a store has a share of its weight: as many times this weight as the choice weighs
abbrev pub with_shares : Lead → List Part → ℕ → ℕ → List Weighted → List Part
with_shares go ps n share [] = ps
with_shares go ps n share (c ∷ cs) = with_shares go (with_share ps c.value (go n c.value) (share * c.weight)) n share cs

-- the shares of a store of this weight; where there is a fault, none
abbrev pub parted : Lead → List Part → ℕ → ℕ → Tried → List Part
parted go ps n w (Ok cs) = with_shares go ps n (w / total cs) cs
parted go ps n w (Err f) = ps

-- stores in turn, beside the parts that are there
abbrev pub split : Lead → (ℕ → Tried) → List Part → Weights → List Part
split go tries ps [] = ps
split go tries ps (e ∷ es) = split go tries (parted go ps e.0 e.1 (tries e.0)) es

-- the stores behind a value, with the value behind the trace
abbrev pub behind : List ValueTree → Part → Traced
behind t p = record { trace = t ++ p.value ∷ []; stores = p.stores }

-- each part goes on as its value says
abbrev pub branches : Lead → (ℕ → Tried) → (ValueTree → Traced → List Traced) → Traced → List Traced
branches go tries next s = flat_map (λ p. next p.value (behind s.trace p)) (split go tries [] s.stores)

abbrev pub alone : Traced → List Traced
alone s = s ∷ []

abbrev pub gone : Traced → List Traced
gone s = []

-- a share goes to the store in which the variable has the value, if there is one
abbrev pub with_move : Weights → Option ℕ → ℕ → Weights
with_move es None w = es
with_move es (Some n) w = with_weight es n w

abbrev pub with_moves : List TypeTree → ℕ → ℕ → Weights → ℕ → List Weighted → Weights
with_moves ts i n es share [] = es
with_moves ts i n es share (c ∷ cs) = with_moves ts i n (with_move es (replaced ts i c.value n) (share * c.weight)) share cs

abbrev pub moved : List TypeTree → ℕ → Weights → ℕ → ℕ → Tried → Weights
moved ts i es n w (Ok cs) = with_moves ts i n es (w / total cs) cs
moved ts i es n w (Err f) = es

-- where an assignment to variable i leads stores, beside those that are reached already
abbrev pub assign_all : List TypeTree → ℕ → DxTree → Weights → Weights → Weights
assign_all ts i d to [] = to
assign_all ts i d to (e ∷ es) = assign_all ts i d (moved ts i to e.0 e.1 (tried ts d e.0)) es

abbrev pub assign_traced : List TypeTree → ℕ → DxTree → Traced → List Traced
assign_traced ts i d s = record { trace = s.trace; stores = assign_all ts i d [] s.stores } ∷ []

-- an assignment leaks nothing; one to a visible variable leaks the value, and leads to the store in which the variable has it
abbrev pub assignment_traced : Bool → List TypeTree → ℕ → DxTree → Traced → List Traced
assignment_traced false ts i d s = assign_traced ts i d s
assignment_traced true ts i d s = branches (into ts i) (tried ts d) (λ v. alone) s

-- a guard's value is leaked and decides
abbrev pub guard_traced : (ℕ → Tried) → (Traced → List Traced) → (Traced → List Traced) → Traced → List Traced
guard_traced guard taken left = branches unmoved guard (λ v. if truth v then taken else left)

-- a loop turn by turn; behind the last turn the guard is false
abbrev pub loop_traced : ℕ → (ℕ → Tried) → (Traced → List Traced) → Traced → List Traced
loop_traced zero guard body = guard_traced guard gone alone
loop_traced (suc k) guard body = guard_traced guard (λ s. flat_map (loop_traced k guard body) (body s)) alone

-- what becomes of a state in a statement, and in a block, where each loop has at most so many turns
abbrev mutual
  pub traced : List TypeTree → ℕ → StTree → Traced → List Traced
  traced ts turns Skip s = alone s
  traced ts turns (Assign i d visible) s = assignment_traced visible ts i d s
  traced ts turns (Observe d) s = branches unmoved (tried ts d) (λ v. alone) s
  traced ts turns (If d xs ys) s = guard_traced (tried ts d) (all_traced ts turns xs) (all_traced ts turns ys) s
  traced ts turns (While d xs) s = loop_traced turns (tried ts d) (all_traced ts turns xs) s

  pub all_traced : List TypeTree → ℕ → StTrees → Traced → List Traced
  all_traced ts turns no_sts s = alone s
  all_traced ts turns (more_sts x xs) s = flat_map (all_traced ts turns xs) (traced ts turns x s)

-- declarations from variable i on, each an assignment that leaks nothing, whether or not the variable is visible
abbrev pub declared_traced : List TypeTree → ℕ → List DxTree → Traced → List Traced
declared_traced ts i [] s = alone s
declared_traced ts i (d ∷ ds) s = flat_map (declared_traced ts (suc i) ds) (assign_traced ts i d s)

-- each store with its carried copies set
abbrev pub copy_all : ProgramTree → Weights → Weights → Weights
copy_all p to [] = to
copy_all p to (e ∷ es) = copy_all p (with_weight to (copied p e.0) e.1) es

abbrev pub copied_traced : ProgramTree → Traced → Traced
copied_traced p s = record { trace = s.trace; stores = copy_all p [] s.stores }

-- a whole program, all whose weight lies on the first store
abbrev pub program_traced : ℕ → ℕ → ProgramTree → List Traced
program_traced turns whole p =
    flat_map (λ s. all_traced p.types turns (sts p.body) (copied_traced p s))
    (declared_traced p.types 0 p.decls (record { trace = []; stores = (0, whole) ∷ [] }))
