-- Silent runs differ in their traces alone: where nothing is seen of them, they are the runs of which nothing is seen.
use Rattle.std.proofs.Common.{◌≡◌, ℕ, suc, zero, Bool, true, false, List, [], ◌∷◌, ◌++◌, map, Ok, Err, refl, sym, ap, ◌∙◌}
use Rattle.std.specs.Prelude.{if◌then◌else◌}
use Rattle.std.specs.List.{flat_map}
use Rattle.std.proofs.lemmas.List.{map-append}
use Rattle.kf_value.specs.Types.{TypeTree}
use Rattle.kf_value.specs.Values.{ValueTree, truth}
use Rattle.kf_core.specs.Choices.{Weighted, total}
use Rattle.kf_core.specs.Runs.{Run, Tried, all_runs, assigned, branched, chain, choice_run, guarded, joined, leaks, looped, place, runs, stay, tried}
use Rattle.kf_core.specs.Sts.{StTree, StTrees, Skip, Assign, Observe, If, While, no_sts, more_sts}
use Rattle.kf_core.specs.Leaks.{shown}
use Rattle.kf_silent.specs.Quiet.{hushed}
use Rattle.kf_push.proofs.Carrying.{Runner}
use Rattle.kf_silent.proofs.QuietRuns.{hushed_chain, hushed_twice}
use Rattle.kf_silent.specs.Silent.{Path, all_silent_runs, silent_runs, unless_silent, within}
use Rattle.kf_silent.specs.Paths.{hush}

-- ---- choices

hushed_joined : (r : Run) (qs : List Run) → hushed (map (joined r) qs) ≡ map (joined (hush r)) (hushed qs)
hushed_joined r [] = refl
hushed_joined r (q ∷ qs) = ap (λ rs. hush (joined r q) ∷ rs) (hushed_joined r qs)

module _ (leak : ValueTree → List ValueTree) (n : ℕ) (next : ValueTree → List Run) where
  abbrev none : ValueTree → List ValueTree
  none v = []

  abbrev chosen : (ValueTree → List ValueTree) → (ValueTree → List Run) → ℕ → Weighted → List Run
  chosen leak next k w = map (joined (choice_run leak n k w)) (next w.value)

  choices_hushed : (k : ℕ) (ws : List Weighted) → hushed (flat_map (chosen leak next k) ws) ≡ flat_map (chosen none (λ v. hushed (next v)) k) ws
  choices_hushed k [] = refl
  choices_hushed k (w ∷ ws) =
      let first = hushed_joined (choice_run leak n k w) (next w.value) in
      let others = choices_hushed k ws in
      map-append hush (chosen leak next k w) (flat_map (chosen leak next k) ws) ∙ (λ i. first i ++ others i)

  branched_hushed : (g : Tried) → hushed (branched leak n next g) ≡ branched none n (λ v. hushed (next v)) g
  branched_hushed (Ok ws) = choices_hushed (total ws) ws
  branched_hushed (Err f) = refl

-- ---- guards and loops

-- nothing tells these apart but their traces
abbrev pub SameHushed : Runner → Runner → Type 0
SameHushed from other = (n : ℕ) → hushed (from n) ≡ hushed (other n)

if_hushed : (b : Bool) (rs qs us vs : List Run) → hushed rs ≡ hushed us → hushed qs ≡ hushed vs → hushed (if b then rs else qs) ≡ hushed (if b then us else vs)
if_hushed true rs qs us vs h k = h
if_hushed false rs qs us vs h k = k

pub chain_hushed : (rs qs : List Run) (next other : Runner) → hushed rs ≡ hushed qs → SameHushed next other → hushed (chain rs next) ≡ hushed (chain qs other)
chain_hushed rs qs next other first later = hushed_chain next rs ∙ (λ i. chain (first i) (λ n. later n i)) ∙ sym (hushed_chain other qs)

module _ (guard : ℕ → Tried) where
  pub guarded_hushed : (taken left others rest : Runner) → SameHushed taken others → SameHushed left rest → SameHushed (guarded guard taken left) (guarded guard others rest)
  guarded_hushed taken left others rest one other n =
      branched_hushed shown n (λ v. if truth v then taken n else left n) (guard n)
      ∙ (λ i. branched (λ v. []) n (λ v. if_hushed (truth v) (taken n) (left n) (others n) (rest n) (one n) (other n) i) (guard n))
      ∙ sym (branched_hushed shown n (λ v. if truth v then others n else rest n) (guard n))

  pub looped_hushed : (at : ℕ) (body other : Runner) → SameHushed body other → (k : ℕ) → SameHushed (looped k guard at body) (looped k guard at other)
  looped_hushed at body other same zero n = refl
  looped_hushed at body other same (suc k) n =
      guarded_hushed (λ m. chain (body m) (looped k guard at body)) stay (λ m. chain (other m) (looped k guard at other)) stay
      (λ m. chain_hushed (body m) (other m) (looped k guard at body) (looped k guard at other) (same m) (looped_hushed at body other same k)) (λ m. refl) n

-- ---- statements and blocks

if_silent : (b : Bool) (rs : List Run) → hushed (if b then hushed rs else rs) ≡ hushed rs
if_silent true rs = hushed_twice rs
if_silent false rs = refl

unless_hushed : (silent : Path → Bool) (rs : List Run) → hushed (unless_silent silent rs) ≡ hushed rs
unless_hushed silent rs = if_silent (silent []) rs

module _ (ts : List TypeTree) (turns : ℕ) where
  mutual
    pub statement_hushed : (silent : Path → Bool) (x : StTree) → SameHushed (silent_runs silent ts turns x) (runs ts turns x)
    statement_hushed silent Skip n = refl
    statement_hushed silent (Assign i d visible) n = unless_hushed silent (assigned (leaks visible) ts i d n)
    statement_hushed silent (Observe d) n = unless_hushed silent (branched shown n (λ v. stay n) (tried ts d n))
    statement_hushed silent (If d xs ys) n =
        unless_hushed silent (guarded (tried ts d) (all_silent_runs (within silent 0) ts turns 0 xs) (all_silent_runs (within silent 1) ts turns 0 ys) n)
        ∙ guarded_hushed (tried ts d) (all_silent_runs (within silent 0) ts turns 0 xs) (all_silent_runs (within silent 1) ts turns 0 ys) (all_runs ts turns xs)
        (all_runs ts turns ys) (block_hushed (within silent 0) 0 xs) (block_hushed (within silent 1) 0 ys) n
    statement_hushed silent (While d xs) n =
        unless_hushed silent (looped turns (tried ts d) (place d) (all_silent_runs (within silent 0) ts turns 0 xs) n)
        ∙ looped_hushed (tried ts d) (place d) (all_silent_runs (within silent 0) ts turns 0 xs) (all_runs ts turns xs) (block_hushed (within silent 0) 0 xs) turns n

    pub block_hushed : (silent : Path → Bool) (i : ℕ) (xs : StTrees) → SameHushed (all_silent_runs silent ts turns i xs) (all_runs ts turns xs)
    block_hushed silent i no_sts n = refl
    block_hushed silent i (more_sts x xs) n =
        chain_hushed (silent_runs (within silent i) ts turns x n) (runs ts turns x n) (all_silent_runs silent ts turns (suc i) xs) (all_runs ts turns xs)
        (statement_hushed (within silent i) x n) (block_hushed silent (suc i) xs)
