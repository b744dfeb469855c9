-- Where a range of outermost statements is silent, the runs are those with that block quiet; and where nothing is, they are the program's own.
use Rattle.std.proofs.Common.{◌≡◌, ℕ, suc, zero, ◌+◌, ◌-◌, ◌≤◌, ◌<◌, Bool, true, false, List, [], ◌∷◌, take, drop, ◌⊎◌, inl, inr, refl, sym, ap, ◌∙◌, arith, true≢false}
use Rattle.std.specs.Prelude.{if◌then◌else◌}
use Rattle.std.proofs.lemmas.Bool.{false_from_ne_true}
use Rattle.std.proofs.lemmas.List.{drop-drop}
use Rattle.std.proofs.lemmas.Slice.Eq.{bytes_eq-Decides}
use Rattle.kf_value.specs.Types.{TypeTree}
use Rattle.kf_core.specs.Joint.{cells, target_number}
use Rattle.kf_core.specs.Runs.{Run, all_runs, assigned, branched, chain, copied, declared, guarded, leaks, looped, place, runs, stay, tried}
use Rattle.kf_core.specs.Scale.{scale_of}
use Rattle.kf_core.specs.Sts.{StTree, StTrees, Skip, Assign, Observe, If, While, no_sts, more_sts, sts}
use Rattle.kf_core.specs.Leaks.{shown}
use Rattle.kf_silent.specs.Quiet.{hushed}
use Rattle.kf_push.proofs.Carrying.{Runner}
use Rattle.kf_silent.proofs.QuietRuns.{hushed_chain, hushed_twice}
use Rattle.kf_silent.specs.Laws.{IsRange, NothingIsSilent, OneIsQuiet, SilentIsQuiet}
use Rattle.kf_silent.specs.Silent.{Path, all_silent_runs, silent_runs, unless_silent, within}
use Rattle.kf_silent.proofs.Chaining.{chain_chain, stay_chain}
use Rattle.kf_silent.proofs.Hushing.{statement_hushed}
use Rattle.kf_silent.specs.Paths.{only}

-- ---- where nothing is silent

unless_none : (silent : Path → Bool) (rs : List Run) → silent [] ≡ false → unless_silent silent rs ≡ rs
unless_none silent rs none = ap (λ (b : Bool). if b then hushed rs else rs) none

module _ (ts : List TypeTree) (turns : ℕ) where
  mutual
    pub statement_seen : (silent : Path → Bool) (x : StTree) → ((path : Path) → silent path ≡ false) → (n : ℕ)
        → silent_runs silent ts turns x n ≡ runs ts turns x n
    statement_seen silent Skip none n = refl
    statement_seen silent (Assign i d visible) none n = unless_none silent (assigned (leaks visible) ts i d n) (none [])
    statement_seen silent (Observe d) none n = unless_none silent (branched shown n (λ v. stay n) (tried ts d n)) (none [])
    statement_seen silent (If d xs ys) none n =
        unless_none silent (guarded (tried ts d) (all_silent_runs (within silent 0) ts turns 0 xs) (all_silent_runs (within silent 1) ts turns 0 ys) n) (none [])
        ∙ (λ k. guarded (tried ts d) (λ m. block_seen (within silent 0) 0 xs (λ j path later. none (0 ∷ j ∷ path)) m k)
        (λ m. block_seen (within silent 1) 0 ys (λ j path later. none (1 ∷ j ∷ path)) m k) n)
    statement_seen silent (While d xs) none n =
        unless_none silent (looped turns (tried ts d) (place d) (all_silent_runs (within silent 0) ts turns 0 xs) n) (none [])
        ∙ (λ k. looped turns (tried ts d) (place d) (λ m. block_seen (within silent 0) 0 xs (λ j path later. none (0 ∷ j ∷ path)) m k) n)

    pub block_seen : (silent : Path → Bool) (i : ℕ) (xs : StTrees) → ((j : ℕ) (path : Path) → i ≤ j → silent (j ∷ path) ≡ false) → (n : ℕ)
        → all_silent_runs silent ts turns i xs n ≡ all_runs ts turns xs n
    block_seen silent i no_sts none n = refl
    block_seen silent i (more_sts x xs) none n =
        (λ k. chain (statement_seen (within silent i) x (λ path. none i path (omega arith)) n k)
        (λ m. block_seen silent (suc i) xs (λ j path later. none j path (omega (arith, later))) m k))

pub nothing_silent : NothingIsSilent
nothing_silent silent turns p none =
    ap (cells (target_number p) (scale_of turns p))
    (λ k. chain (declared p.types 0 p.decls 0)
    (λ n. block_seen p.types turns silent 0 (sts p.body) (λ j path later. none (j ∷ path)) (copied p n) k))

-- ---- one silent statement

if_hushed : (b : Bool) (rs : List Run) → b ≡ true → (if b then hushed rs else rs) ≡ hushed (if b then hushed rs else rs)
if_hushed true rs is = sym (hushed_twice rs)
if_hushed false rs is = absurd (true≢false (sym is))

module _ (ts : List TypeTree) (turns : ℕ) (silent : Path → Bool) (is : silent [] ≡ true) where
  itself_hushed : (x : StTree) (n : ℕ) → silent_runs silent ts turns x n ≡ hushed (silent_runs silent ts turns x n)
  itself_hushed Skip n = refl
  itself_hushed (Assign i d visible) n = if_hushed (silent []) (assigned (leaks visible) ts i d n) is
  itself_hushed (Observe d) n = if_hushed (silent []) (branched shown n (λ v. stay n) (tried ts d n)) is
  itself_hushed (If d xs ys) n =
      if_hushed (silent []) (guarded (tried ts d) (all_silent_runs (within silent 0) ts turns 0 xs) (all_silent_runs (within silent 1) ts turns 0 ys) n) is
  itself_hushed (While d xs) n = if_hushed (silent []) (looped turns (tried ts d) (place d) (all_silent_runs (within silent 0) ts turns 0 xs) n) is

  -- the runs of a silent statement are its own, of which nothing is seen
  pub silent_hushed : (x : StTree) (n : ℕ) → silent_runs silent ts turns x n ≡ hushed (runs ts turns x n)
  silent_hushed x n = itself_hushed x n ∙ statement_hushed ts turns silent x n

-- ---- before a range, within it and after it

module _ (silent : Path → Bool) (ts : List TypeTree) (turns from to : ℕ) (order : from ≤ to) (is : IsRange silent from to) where
  abbrev seen : List StTree → Runner
  seen xs = all_runs ts turns (sts xs)

  abbrev silent_from : ℕ → List StTree → Runner
  silent_from i xs = all_silent_runs silent ts turns i (sts xs)

  after : (i : ℕ) (xs : List StTree) → to ≤ i → (n : ℕ) → silent_from i xs n ≡ seen xs n
  after i xs past n = block_seen ts turns silent i (sts xs) (λ j path later. is.outside j path (inr (omega (arith, past, later)))) n

  inside : (k i : ℕ) (xs : List StTree) → from ≤ i → i + k ≡ to → (n : ℕ)
      → silent_from i xs n ≡ chain (hushed (seen (take k xs) n)) (seen (drop k xs))
  inside zero i xs low end n = after i xs (omega (arith, end)) n ∙ sym (stay_chain n (seen xs))
  inside (suc k) i [] low end n = sym (stay_chain n (seen []))
  inside (suc k) i (x ∷ xs) low end n =
      let first = silent_hushed ts turns (within silent i) (is.inside i low (omega (arith, end))) x n in
      (λ j. chain (first j) (λ m. inside k (suc i) xs (omega (arith, low)) (omega (arith, end)) m j))
      ∙ sym (chain_chain (λ m. hushed (seen (take k xs) m)) (seen (drop k xs)) (hushed (runs ts turns x n)))
      ∙ ap (λ rs. chain rs (seen (drop k xs))) (sym (hushed_chain (seen (take k xs)) (runs ts turns x n)))

  before : (k i : ℕ) (xs : List StTree) → i + k ≡ from → (n : ℕ)
      → silent_from i xs n ≡ chain (seen (take k xs) n) (silent_from from (drop k xs))
  before zero i xs end n =
      let same : i ≡ from = omega (arith, end) in
      ap (λ j. silent_from j xs n) same ∙ sym (stay_chain n (silent_from from xs))
  before (suc k) i [] end n = sym (stay_chain n (silent_from from []))
  before (suc k) i (x ∷ xs) end n =
      let first = statement_seen ts turns (within silent i) x (λ path. is.outside i path (inl (omega (arith, end)))) n in
      (λ j. chain (first j) (λ m. before k (suc i) xs (omega (arith, end)) m j))
      ∙ sym (chain_chain (seen (take k xs)) (silent_from from (drop k xs)) (runs ts turns x n))

  parts : (xs : List StTree) (n : ℕ)
      → silent_from 0 xs n ≡ chain (seen (take (from - 0) (drop 0 xs)) n) (λ m. chain (hushed (seen (take (to - from) (drop from xs)) m)) (seen (drop to xs)))
  parts xs n =
      let far : from + (to - from) ≡ to = omega (arith, order) in
      let front : take from xs ≡ take (from - 0) (drop 0 xs) = ap (λ j. take j xs) (omega arith) in
      let rest : drop (to - from) (drop from xs) ≡ drop to xs = drop-drop (to - from) from xs ∙ ap (λ j. drop j xs) far in
      before from 0 xs (omega arith) n
      ∙ (λ j. chain (seen (front j) n) (λ m. (inside (to - from) from (drop from xs) (omega arith) far m
      ∙ (λ i. chain (hushed (seen (take (to - from) (drop from xs)) m)) (seen (rest i)))) j))

pub silent_quiet : SilentIsQuiet
silent_quiet silent turns p from to order is =
    ap (cells (target_number p) (scale_of turns p))
    (λ k. chain (declared p.types 0 p.decls 0) (λ n. parts silent p.types turns from to order is p.body (copied p n) k))

-- ---- one outermost statement

only_one : (i : ℕ) → IsRange (only (i ∷ [])) i (suc i)
only_one i = record {
  inside = λ j low high.
      let same : i ≡ j = omega (arith, low, high) in
      (bytes_eq-Decides (i ∷ []) (j ∷ [])).1 (ap (λ k. k ∷ []) same);
  outside = λ j path other.
      false_from_ne_true (only (i ∷ []) (j ∷ path))
      (λ same. apart j other (first_is j path ((bytes_eq-Decides (i ∷ []) (j ∷ path)).0 same)));
}
  where
    first_is : (j : ℕ) (path : Path) → i ∷ [] ≡ j ∷ path → i ≡ j
    first_is j path e = cc

    apart : (j : ℕ) → (j < i) ⊎ (suc i ≤ j) → i ≡ j → ⊥
    apart j (inl less) same = omega (arith, less, same)
    apart j (inr more) same = omega (arith, more, same)

pub one_quiet : OneIsQuiet
one_quiet turns p i = silent_quiet (only (i ∷ [])) turns p i (suc i) (omega arith) (only_one i)
