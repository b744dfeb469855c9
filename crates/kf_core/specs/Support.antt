-- Believed: the support pass: which stores are reached, statement by statement, or the first fault.
use Rattle.std.specs.Prelude.{ℕ, suc, zero, Bool, true, false, not, List, [], ◌∷◌, map, Result, Ok, Err}
use Rattle.std.specs.List.{list_any}
use Rattle.std.specs.Ordering.{nat_cmp}
use Rattle.std.specs.BTreeSet.{insert_key}
use Rattle.std.specs.FinSet.{FinSet, from_list, items, retain, union}
use Rattle.std.specs.Option.{option_map_or}
use Rattle.std.specs.Result.{result_map_both}
use Rattle.kf_value.specs.Types.{TypeTree}
use Rattle.kf_value.specs.Values.{truth}
use Rattle.kf_core.specs.Results.{then_ok, each_ok}
use Rattle.kf_core.specs.Dxs.{DxTree}
use Rattle.kf_core.specs.Sts.{StTree, StTrees, Skip, Assign, Observe, If, While, no_sts, more_sts, sts}
use Rattle.kf_core.specs.Programs.{ProgramTree}
use Rattle.kf_core.specs.Runs.{OutOfRange, LoopBound, Halted, Tried, tried, place, replaced, copied}
use mathlib.Core.List.{foldr}

abbrev pub StoreSet : Type 0
StoreSet = FinSet nat_cmp

-- what is reached, or the first fault on the way
abbrev pub Passed : Type 0 → Type 0
Passed A = Result A Halted

-- the stores of a set are tried in ascending number, each once
abbrev pub step : (ℕ → Passed (List ℕ)) → StoreSet → Passed StoreSet
step next ns = then_ok (each_ok next (foldr (λ n others. insert_key nat_cmp others n) [] (items ns))) (λ ms. Ok (from_list ms))

-- the store itself, once for each choice
abbrev pub same : ℕ → Tried → Passed (List ℕ)
same n chosen = result_map_both (λ ws. map (λ w. n) ws) (λ f. f) chosen

-- each choice leads to the store that it makes: out of range is a fault behind those of the choices
abbrev pub assign_pass : List TypeTree → ℕ → DxTree → StoreSet → Passed StoreSet
assign_pass ts i d ns = step (λ n. then_ok (tried ts d n) (each_ok (λ w.
    option_map_or (λ m. Ok (m ∷ [])) (replaced ts i w.value n) (Err (record { cause = OutOfRange; at = place d }))))) ns

-- a guard in a store can be true, or false
abbrev pub can_be : Bool → Tried → Bool
can_be true (Ok ws) = list_any (λ w. truth w.value) ws
can_be false (Ok ws) = list_any (λ w. not (truth w.value)) ws
can_be b (Err f) = false

abbrev pub where_guard : Bool → (ℕ → Tried) → StoreSet → StoreSet
where_guard b guard ns = retain ns (λ n. can_be b (guard n))

-- what two branches reach: the first one's fault before the second one's
abbrev pub either_pass : Passed StoreSet → Passed StoreSet → Passed StoreSet
either_pass one other = then_ok one (λ ns. then_ok other (λ ms. Ok (union ns ms)))

abbrev pub guard_pass : (ℕ → Tried) → (StoreSet → Passed StoreSet) → (StoreSet → Passed StoreSet) → StoreSet → Passed StoreSet
guard_pass guard taken left ns =
    then_ok (step (λ n. same n (guard n)) ns) (λ _. either_pass (taken (where_guard true guard ns)) (left (where_guard false guard ns)))

-- behind the last turn: a guard that can still be true is a fault, where it has no fault of its own
abbrev pub bounded : ℕ → ℕ → Tried → Passed (List ℕ)
bounded at n (Ok ws) = elim (can_be true (Ok ws)) [ true ↦ Err (record { cause = LoopBound; at = at }) | false ↦ Ok (n ∷ []) ]
bounded at n (Err f) = Err f

-- a loop turn by turn
abbrev pub loop_pass : ℕ → (ℕ → Tried) → ℕ → (StoreSet → Passed StoreSet) → StoreSet → Passed StoreSet
loop_pass zero guard at body ns = then_ok (step (λ n. bounded at n (guard n)) ns) (λ _. Ok (where_guard false guard ns))
loop_pass (suc k) guard at body ns = guard_pass guard (λ turn. then_ok (body turn) (loop_pass k guard at body)) (λ left. Ok left) ns

-- where the variables have these types, and each loop has at most so many turns
module _ (ts : List TypeTree) (turns : ℕ) where
  -- the stores reached by a statement, and by a block, from a set of stores
  abbrev mutual
    pub pass : StTree → StoreSet → Passed StoreSet
    pass Skip ns = Ok ns
    pass (Assign i d visible) ns = assign_pass ts i d ns
    pass (Observe d) ns = step (λ n. same n (tried ts d n)) ns
    pass (If d xs ys) ns = guard_pass (tried ts d) (all_pass xs) (all_pass ys) ns
    pass (While d xs) ns = loop_pass turns (tried ts d) (place d) (all_pass xs) ns

    pub all_pass : StTrees → StoreSet → Passed StoreSet
    all_pass no_sts ns = Ok ns
    all_pass (more_sts x xs) ns = then_ok (pass x ns) (all_pass xs)

abbrev pub declare_pass : List TypeTree → ℕ → List DxTree → StoreSet → Passed StoreSet
declare_pass ts i [] ns = Ok ns
declare_pass ts i (d ∷ ds) ns = then_ok (assign_pass ts i d ns) (declare_pass ts (suc i) ds)

-- the final stores of a program, or its first fault
abbrev pub program_pass : ℕ → ProgramTree → Passed StoreSet
program_pass turns p =
    then_ok (declare_pass p.types 0 p.decls (from_list (0 ∷ [])))
    (λ ns. all_pass p.types turns (sts p.body) (from_list (map (copied p) (items ns))))
