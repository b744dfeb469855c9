-- There are runs from each store, where each distribution that has no fault chooses something.
use Rattle.std.proofs.Common.{ℕ, zero, suc, Bool, true, false, List, [], ◌∷◌, ◌++◌, map, Option, Some, None, Result, Ok, Err}
use Rattle.std.specs.Prelude.{if◌then◌else◌}
use Rattle.std.specs.List.{AllByRecursion as Each, flat_map}
use Rattle.kf_value.specs.Types.{TypeTree}
use Rattle.kf_value.specs.Values.{ValueTree, truth}
use Rattle.kf_core.specs.Choices.{total}
use Rattle.kf_core.specs.Dxs.{DxTree}
use Rattle.kf_core.specs.Sts.{StTree, StTrees, Skip, Assign, Observe, If, While, no_sts, more_sts}
use Rattle.kf_core.specs.Runs.{Run, Halted, Tried, tried, place, LoopBound, joined, chain, choice_run, branched, stay, stopped, replaced, assigned, guarded, looped, runs, all_runs, declared, leaks}
use Rattle.kf_core.proofs.Measures.{Full}
use Rattle.kf_core.specs.Each.{moved, onward}
use Rattle.kf_core.specs.Leaks.{silent, shown}

abbrev pub Filled : Tried → Type 0
Filled (Ok ws) = Full ws
Filled (Err f) = Unit {0}

full_left : {X : Type 0} (xs ys : List X) → Full xs → Full (xs ++ ys)
full_left [] ys h = absurd h
full_left (x ∷ xs) ys h = tt

full_map : {X Y : Type 0} (f : X → Y) (xs : List X) → Full xs → Full (map f xs)
full_map f [] h = absurd h
full_map f (x ∷ xs) h = tt

module _ (next : ℕ → List Run) (full : (n : ℕ) → Full (next n)) where
  onward_full : (r : Run) (x : Result ℕ Halted) → Full (onward next r x)
  onward_full r (Ok n) = full_map (joined r) (next n) (full n)
  onward_full r (Err f) = tt

  pub chain_full : (rs : List Run) → Full rs → Full (chain rs next)
  chain_full [] h = absurd h
  chain_full (r ∷ rs) h = full_left (onward next r r.end) (chain rs next) (onward_full r r.end)

module _ (leak : ValueTree → List ValueTree) (n : ℕ) (next : ValueTree → List Run) (full : (v : ValueTree) → Full (next v)) where
  pub branched_full : (g : Tried) → Filled g → Full (branched leak n next g)
  branched_full (Ok []) h = absurd h
  branched_full (Ok (c ∷ cs)) h =
      full_left (map (joined (choice_run leak n (total (c ∷ cs)) c)) (next c.value)) (flat_map (λ u. map (joined (choice_run leak n (total (c ∷ cs)) u)) (next u.value)) cs)
      (full_map (joined (choice_run leak n (total (c ∷ cs)) c)) (next c.value) (full c.value))
  branched_full (Err f) h = tt

pub moved_some : (at : ℕ) (x : Option ℕ) → Full (moved at x)
moved_some at (Some n) = tt
moved_some at None = tt

pub side_full : (c : Bool) (xs ys : List Run) → Full xs → Full ys → Full (if c then xs else ys)
side_full true xs ys h k = h
side_full false xs ys h k = k

module _ (guard : ℕ → Tried) (filled : (n : ℕ) → Filled (guard n)) where
  guarded_full : (a b : ℕ → List Run) → ((n : ℕ) → Full (a n)) → ((n : ℕ) → Full (b n)) → (n : ℕ) → Full (guarded guard a b n)
  guarded_full a b h k n = branched_full shown n (λ v. if truth v then a n else b n) (λ v. side_full (truth v) (a n) (b n) (h n) (k n)) (guard n) (filled n)

  pub looped_full : (k at : ℕ) (body : ℕ → List Run) → ((n : ℕ) → Full (body n)) → (n : ℕ) → Full (looped k guard at body n)
  looped_full zero at body h n = guarded_full (λ m. stopped LoopBound at) stay (λ m. tt) (λ m. tt) n
  looped_full (suc k) at body h n =
      guarded_full (λ m. chain (body m) (looped k guard at body)) stay (λ m. chain_full (looped k guard at body) (looped_full k at body h) (body m) (h m)) (λ m. tt) n

-- ---- statements, blocks and declarations

-- each distribution chooses something, where it has no fault
abbrev mutual
  pub Solid : List TypeTree → StTree → Type 0
  Solid ts Skip = Unit {0}
  Solid ts (Assign i d visible) = (n : ℕ) → Filled (tried ts d n)
  Solid ts (Observe d) = (n : ℕ) → Filled (tried ts d n)
  Solid ts (If d xs ys) = ((n : ℕ) → Filled (tried ts d n)) × AllSolid ts xs × AllSolid ts ys
  Solid ts (While d xs) = ((n : ℕ) → Filled (tried ts d n)) × AllSolid ts xs

  pub AllSolid : List TypeTree → StTrees → Type 0
  AllSolid ts no_sts = Unit {0}
  AllSolid ts (more_sts x xs) = Solid ts x × AllSolid ts xs

pub assigned_full : (leak : ValueTree → List ValueTree) (ts : List TypeTree) (i : ℕ) (d : DxTree) → ((n : ℕ) → Filled (tried ts d n)) → (n : ℕ) → Full (assigned leak ts i d n)
assigned_full leak ts i d filled n = branched_full leak n (λ v. moved (place d) (replaced ts i v n)) (λ v. moved_some (place d) (replaced ts i v n)) (tried ts d n) (filled n)

module _ (ts : List TypeTree) (turns : ℕ) where
  mutual
    pub runs_full : (x : StTree) → Solid ts x → (n : ℕ) → Full (runs ts turns x n)
    runs_full Skip h n = tt
    runs_full (Assign i d visible) h n = assigned_full (leaks visible) ts i d h n
    runs_full (Observe d) h n = branched_full shown n (λ v. stay n) (λ v. tt) (tried ts d n) (h n)
    runs_full (If d xs ys) h n = guarded_full (tried ts d) h.0 (all_runs ts turns xs) (all_runs ts turns ys) (all_full xs h.1) (all_full ys h.2) n
    runs_full (While d xs) h n = looped_full (tried ts d) h.0 turns (place d) (all_runs ts turns xs) (all_full xs h.1) n

    pub all_full : (xs : StTrees) → AllSolid ts xs → (n : ℕ) → Full (all_runs ts turns xs n)
    all_full no_sts h n = tt
    all_full (more_sts x xs) h n = chain_full (all_runs ts turns xs) (all_full xs h.1) (runs ts turns x n) (runs_full x h.0 n)

abbrev pub DeclsSolid : List TypeTree → List DxTree → Type 0
DeclsSolid ts ds = Each (λ d. (n : ℕ) → Filled (tried ts d n)) ds

pub declared_full : (ts : List TypeTree) (i : ℕ) (ds : List DxTree) → DeclsSolid ts ds → (n : ℕ) → Full (declared ts i ds n)
declared_full ts i [] h n = tt
declared_full ts i (d ∷ ds) h n = chain_full (declared ts (suc i) ds) (declared_full ts (suc i) ds h.1) (assigned silent ts i d n) (assigned_full silent ts i d h.0 n)
