-- Where more statements are silent, what is left of a trace is decided by what was left of it before.
use Rattle.std.proofs.Common.{◌≡◌, ℕ, suc, ◌+◌, Bool, true, false, List, [], ◌∷◌, ◌++◌, ◌⊎◌, inl, inr, refl, sym, subst, ◌∙◌, arith, true≢false}
use Rattle.kf_value.specs.Types.{TypeTree}
use Rattle.kf_core.specs.Dxs.{DxTree}
use Rattle.kf_core.specs.Programs.{ProgramTree}
use Rattle.kf_core.specs.Runs.{Run, assigned, branched, chain, copied, declared, guarded, leaks, looped, place, stay, tried}
use Rattle.kf_core.specs.Sts.{StTree, StTrees, Skip, Assign, Observe, If, While, no_sts, more_sts, sts}
use Rattle.kf_core.specs.Leaks.{shown}
use Rattle.kf_push.proofs.Carrying.{Runner}
use Rattle.kf_push.proofs.CellsFrom.{each_in}
use Rattle.kf_push.proofs.CellWeights.{Trace}
use Rattle.kf_push.proofs.Declaring.{declared_silent}
use Rattle.kf_push.proofs.Splitting.{Splits, assigned_splits, guarded_splits, looped_splits, shown_splits, stay_splits}
use Rattle.kf_silent.specs.Laws.{AreSilentToo, IsSilentAmong, IsSilentWithin}
use Rattle.kf_silent.specs.Silent.{Path, all_silent_runs, silent_runs, within}
use Rattle.kf_silent.proofs.Hushing.{SameHushed, block_hushed, guarded_hushed, looped_hushed}
use Rattle.kf_silent.proofs.Leaving.{Leads, if_leads, leads_chain, leads_guarded, leads_itself, leads_looped}
use Rattle.kf_silent.proofs.SilentSplits.{block_splits}
use Rattle.kf_silent.specs.Paths.{IsWithin, IsAmong}

-- ---- the paths of a statement, and of the statements of a block from the one with this place on

abbrev Within : (Path → Bool) → (Path → Bool) → StTree → Type 0
Within silent more x = (path : Path) → IsWithin x path → silent path ≡ true → IsSilentWithin more path

abbrev Among : (Path → Bool) → (Path → Bool) → ℕ → StTrees → Type 0
Among silent more i xs = (j : ℕ) (path : Path) → IsAmong xs (j ∷ path) → silent ((i + j) ∷ path) ≡ true → IsSilentWithin (within more (i + j)) path

module _ (silent more : Path → Bool) where
  -- the same path, counted in another way
  at_place : (j k : ℕ) (path : Path) → j ≡ k → (silent (j ∷ path) ≡ true → IsSilentWithin (within more j) path)
      → silent (k ∷ path) ≡ true → IsSilentWithin (within more k) path
  at_place j k path same h = subst (λ (m : ℕ). silent (m ∷ path) ≡ true → IsSilentWithin (within more m) path) same h

  first_within : (i : ℕ) (x : StTree) (xs : StTrees) → Among silent more i (more_sts x xs) → Within (within silent i) (within more i) x
  first_within i x xs h path is = at_place (i + 0) i path (omega arith) (h 0 path is)

  others_among : (i : ℕ) (x : StTree) (xs : StTrees) → Among silent more i (more_sts x xs) → Among silent more (suc i) xs
  others_among i x xs h j path is = at_place (i + suc j) (suc i + j) path (omega arith) (h (suc j) path is)

  -- where a statement isn't silent by itself, what is silent of a block within it is so within the block
  block_among : (side : ℕ) (xs : StTrees) → more [] ≡ false
      → ((path : Path) → IsAmong xs path → silent (side ∷ path) ≡ true → IsSilentWithin more (side ∷ path))
      → Among (within silent side) (within more side) 0 xs
  block_among side xs none h j path is = λ it. later (h ((0 + j) ∷ path) (subst (λ (m : ℕ). IsAmong xs (m ∷ path)) (omega arith) is) it)
    where
      later : (more [] ≡ true) ⊎ IsSilentAmong (within more side) ((0 + j) ∷ path) → IsSilentWithin (within (within more side) (0 + j)) path
      later (inl itself) = absurd (true≢false (sym itself ∙ none))
      later (inr h) = h

-- ---- statements and blocks

module _ (ts : List TypeTree) (turns : ℕ) where
  both_hushed : (silent more : Path → Bool) (i : ℕ) (xs : StTrees) → SameHushed (all_silent_runs silent ts turns i xs) (all_silent_runs more ts turns i xs)
  both_hushed silent more i xs n = block_hushed ts turns silent i xs n ∙ sym (block_hushed ts turns more i xs n)

  mutual
    statement_leads : (silent more : Path → Bool) (x : StTree) → Within silent more x → Leads (silent_runs silent ts turns x) (silent_runs more ts turns x)
    statement_leads silent more Skip h = leads_itself stay stay_splits
    statement_leads silent more (Assign i d visible) h =
        if_leads (silent []) (more []) (assigned (leaks visible) ts i d) (assigned (leaks visible) ts i d) (h [] tt) (λ n. refl) (assigned_splits ts i d visible)
        (λ none. leads_itself (assigned (leaks visible) ts i d) (assigned_splits ts i d visible))
    statement_leads silent more (Observe d) h =
        let shows : Runner = λ n. branched shown n (λ v. stay n) (tried ts d n) in
        let splits : Splits shows = shown_splits (tried ts d) (λ n v. stay n) (λ v. stay_splits) in
        if_leads (silent []) (more []) shows shows (h [] tt) (λ n. refl) splits (λ none. leads_itself shows splits)
    statement_leads silent more (If d xs ys) h =
        if_leads (silent []) (more [])
        (guarded (tried ts d) (all_silent_runs (within silent 0) ts turns 0 xs) (all_silent_runs (within silent 1) ts turns 0 ys))
        (guarded (tried ts d) (all_silent_runs (within more 0) ts turns 0 xs) (all_silent_runs (within more 1) ts turns 0 ys)) (h [] tt)
        (guarded_hushed (tried ts d) (all_silent_runs (within silent 0) ts turns 0 xs) (all_silent_runs (within silent 1) ts turns 0 ys)
        (all_silent_runs (within more 0) ts turns 0 xs) (all_silent_runs (within more 1) ts turns 0 ys)
        (both_hushed (within silent 0) (within more 0) 0 xs) (both_hushed (within silent 1) (within more 1) 0 ys))
        (guarded_splits (tried ts d) (all_silent_runs (within silent 0) ts turns 0 xs) (all_silent_runs (within silent 1) ts turns 0 ys)
        (block_splits ts turns (within silent 0) 0 xs) (block_splits ts turns (within silent 1) 0 ys))
        (λ none.
        leads_guarded (tried ts d) (all_silent_runs (within silent 0) ts turns 0 xs) (all_silent_runs (within silent 1) ts turns 0 ys)
        (all_silent_runs (within more 0) ts turns 0 xs) (all_silent_runs (within more 1) ts turns 0 ys)
        (block_leads (within silent 0) (within more 0) 0 xs (block_among silent more 0 xs none (λ path. h (0 ∷ path))))
        (block_leads (within silent 1) (within more 1) 0 ys (block_among silent more 1 ys none (λ path. h (1 ∷ path)))))
    statement_leads silent more (While d xs) h =
        if_leads (silent []) (more []) (looped turns (tried ts d) (place d) (all_silent_runs (within silent 0) ts turns 0 xs))
        (looped turns (tried ts d) (place d) (all_silent_runs (within more 0) ts turns 0 xs)) (h [] tt)
        (looped_hushed (tried ts d) (place d) (all_silent_runs (within silent 0) ts turns 0 xs) (all_silent_runs (within more 0) ts turns 0 xs)
        (both_hushed (within silent 0) (within more 0) 0 xs) turns)
        (looped_splits (tried ts d) turns (place d) (all_silent_runs (within silent 0) ts turns 0 xs) (block_splits ts turns (within silent 0) 0 xs))
        (λ none.
        leads_looped (tried ts d) (place d) (all_silent_runs (within silent 0) ts turns 0 xs) (all_silent_runs (within more 0) ts turns 0 xs)
        (block_leads (within silent 0) (within more 0) 0 xs (block_among silent more 0 xs none (λ path. h (0 ∷ path)))) turns)

    block_leads : (silent more : Path → Bool) (i : ℕ) (xs : StTrees) → Among silent more i xs
        → Leads (all_silent_runs silent ts turns i xs) (all_silent_runs more ts turns i xs)
    block_leads silent more i no_sts h = leads_itself stay stay_splits
    block_leads silent more i (more_sts x xs) h =
        leads_chain (silent_runs (within silent i) ts turns x) (silent_runs (within more i) ts turns x) (all_silent_runs silent ts turns (suc i) xs)
        (all_silent_runs more ts turns (suc i) xs) (statement_leads (within silent i) (within more i) x (first_within silent more i x xs h))
        (block_leads silent more (suc i) xs (others_among silent more i x xs h))

-- ---- a whole program

no_rest : (t u : Trace) → t ++ u ≡ [] → u ≡ []
no_rest [] u h = h
no_rest (v ∷ t) u h = absurd (cc)

declared_splits : (ts : List TypeTree) (ds : List DxTree) → Splits (declared ts 0 ds)
declared_splits ts ds n m r q u has is ends stops goes =
    no_rest r.trace u (sym goes ∙ each_in (λ (p : Run). p.trace ≡ []) (declared ts 0 ds m) q (declared_silent ts 0 ds m) is)

leads_moved : (from to : Runner) (h : ℕ → ℕ) → Leads from to → Leads (λ n. from (h n)) (λ n. to (h n))
leads_moved from to h l = record { Leaves = l.Leaves; decide = l.decide; free = l.free; like = λ n. l.like (h n) }

module _ (silent more : Path → Bool) (turns : ℕ) (p : ProgramTree) (too : AreSilentToo p silent more) where
  -- the runs from any store
  abbrev runs_from : (Path → Bool) → Runner
  runs_from set n = chain (declared p.types 0 p.decls n) (λ m. all_silent_runs set p.types turns 0 (sts p.body) (copied p m))

  among : Among silent more 0 (sts p.body)
  among j path is = at_place silent more j (0 + j) path (omega arith) (too (j ∷ path) is)

  pub program_leads : Leads (λ n. chain (declared p.types 0 p.decls n) (λ m. all_silent_runs silent p.types turns 0 (sts p.body) (copied p m)))
      (λ n. chain (declared p.types 0 p.decls n) (λ m. all_silent_runs more p.types turns 0 (sts p.body) (copied p m)))
  program_leads =
      leads_chain (declared p.types 0 p.decls) (declared p.types 0 p.decls) (λ m. all_silent_runs silent p.types turns 0 (sts p.body) (copied p m))
      (λ m. all_silent_runs more p.types turns 0 (sts p.body) (copied p m))
      (leads_itself (declared p.types 0 p.decls) (declared_splits p.types p.decls))
      (leads_moved (all_silent_runs silent p.types turns 0 (sts p.body)) (all_silent_runs more p.types turns 0 (sts p.body)) (copied p)
      (block_leads p.types turns silent more 0 (sts p.body) among))
