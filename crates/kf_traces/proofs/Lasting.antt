-- That no traced state is without a store.
use Rattle.std.proofs.Common.{ℕ, zero, suc, ◌+◌, ◌*◌, ◌/◌, Bool, true, false, List, [], ◌∷◌, ◌++◌, Option, Some, None, Ok, Err, subst}
use Rattle.std.specs.Prelude.{if◌then◌else◌}
use Rattle.std.specs.Ordering.{nat_cmp, match_ordering}
use Rattle.std.specs.declared.cmp.Ordering.{Ordering}
use Rattle.std.specs.declared.cmp.Ordering.TheVariants.{Less, Equal, Greater}
use Rattle.std.specs.List.{AllByRecursion as Each, flat_map}
use Rattle.kf_value.specs.Types.{TypeTree}
use Rattle.kf_value.specs.Values.{ValueTree, order, truth}
use Rattle.kf_value.proofs.ListLemmas.{each_append}
use Rattle.kf_core.specs.Choices.{Weighted, total}
use Rattle.kf_core.specs.Dxs.{DxTree}
use Rattle.kf_core.specs.Sts.{StTree, StTrees, Skip, Assign, Observe, If, While, no_sts, more_sts}
use Rattle.kf_core.specs.Runs.{Run, Tried, tried, place, LoopBound, chain, branched, stay, stopped, replaced, assigned, guarded, looped, runs, all_runs, declared}
use Rattle.kf_core.proofs.Filled.{Filled, Solid, AllSolid, DeclsSolid, looped_full, all_full, declared_full}
use Rattle.kf_core.proofs.Measures.{Measure, Trace, RunsWithin, ahead, Full, chain_runs, choices_run}
use Rattle.kf_core.specs.Each.{moved}
use Rattle.kf_core.specs.Leaks.{silent, shown}
use Rattle.kf_traces.specs.Traced.{Weights, Traced, Part, Lead, unmoved, into, with_weight, with_part, with_share, with_shares, parted, split, behind, branches, alone, gone, with_move, with_moves, assign_all, assign_traced, guard_traced, loop_traced, traced, all_traced, declared_traced}
use Rattle.kf_traces.specs.Traced as spec
use Rattle.kf_traces.proofs.Measures.{Within}
use Rattle.kf_traces.proofs.Splitting.{PartsWithin, onto, shown_to, split_is}
use Rattle.kf_traces.proofs.Carrying.{StateWithin, StatesWithin, Carries, turned, assign_carries, shown_is, carries, all_carry}

-- ---- no state is without a store

weight_full_at : (n w : ℕ) (e : ℕ × ℕ) (es : Weights) (r : Ordering) → Full (match_ordering r ((n, w) ∷ e ∷ es) ((e.0, e.1 + w) ∷ es) (e ∷ with_weight es n w))
weight_full_at n w e es Less = tt
weight_full_at n w e es Equal = tt
weight_full_at n w e es Greater = tt

pub weight_full : (es : Weights) (n w : ℕ) → Full (with_weight es n w)
weight_full [] n w = tt
weight_full (e ∷ es) n w = weight_full_at n w e es (nat_cmp n e.0)

abbrev pub PartsFull : List Part → Type 0
PartsFull ps = Each (λ p. Full p.stores) ps

module _ (v : ValueTree) (n w : ℕ) where
  part_full_at : (p : Part) (ps : List Part) (r : Ordering) → PartsFull (p ∷ ps) → PartsFull (with_part ps v n w)
      → PartsFull (match_ordering r (record { value = v; stores = (n, w) ∷ [] } ∷ p ∷ ps) (record { value = p.value; stores = with_weight p.stores n w } ∷ ps) (p ∷ with_part ps v n w))
  part_full_at p ps Less h k = (tt, h)
  part_full_at p ps Equal h k = (weight_full p.stores n w, h.1)
  part_full_at p ps Greater h k = (h.0, k)

  part_full : (ps : List Part) → PartsFull ps → PartsFull (with_part ps v n w)
  part_full [] h = (tt, tt)
  part_full (p ∷ ps) h = part_full_at p ps (order v p.value) h (part_full ps h.1)

share_full : (ps : List Part) (v : ValueTree) (x : Option ℕ) (w : ℕ) → PartsFull ps → PartsFull (with_share ps v x w)
share_full ps v (Some n) w h = part_full v n w ps h
share_full ps v None w h = h

module _ (go : Lead) where
  shares_full : (ps : List Part) (n share : ℕ) (cs : List Weighted) → PartsFull ps → PartsFull (with_shares go ps n share cs)
  shares_full ps n share [] h = h
  shares_full ps n share (c ∷ cs) h = shares_full (with_share ps c.value (go n c.value) (share * c.weight)) n share cs (share_full ps c.value (go n c.value) (share * c.weight) h)

  parted_full : (ps : List Part) (n w : ℕ) (g : Tried) → PartsFull ps → PartsFull (parted go ps n w g)
  parted_full ps n w (Ok cs) h = shares_full ps n (w / total cs) cs h
  parted_full ps n w (Err f) h = h

  split_full : (tries : ℕ → Tried) (ps : List Part) (es : Weights) → PartsFull ps → PartsFull (split go tries ps es)
  split_full tries ps [] h = h
  split_full tries ps (e ∷ es) h = split_full tries (parted go ps e.0 e.1 (tries e.0)) es (parted_full ps e.0 e.1 (tries e.0) h)

abbrev pub StatesFull : List Traced → Type 0
StatesFull ss = Each (λ s. Full s.stores) ss

-- a state with stores leads to such states, where its runs end
abbrev pub Lasts : (Traced → List Traced) → (ℕ → List Run) → Type 1
Lasts f from = (M : Trace → Measure) (s : Traced) → Full s.stores → StateWithin (ahead M from) s → StatesFull (f s)

alone_lasts : Lasts alone stay
alone_lasts M s full within = (full, tt)

module _ (g : Traced → List Traced) (from : ℕ → List Run) (lasts : Lasts g from) (M : Trace → Measure) where
  pub each_lasts : (ss : List Traced) → StatesFull ss → StatesWithin (ahead M from) ss → StatesFull (flat_map g ss)
  each_lasts [] h within = tt
  each_lasts (s ∷ ss) h within = each_append (λ u. Full u.stores) (g s) (flat_map g ss) (lasts M s h.0 within.0) (each_lasts ss h.1 within.1)

pub chain_lasts : (f g : Traced → List Traced) (a b : ℕ → List Run) → ((n : ℕ) → Full (b n)) → Carries f a → Lasts f a → Lasts g b → Lasts (λ s. flat_map g (f s)) (λ n. chain (a n) b)
chain_lasts f g a b full carry one other M s some within =
    let h = turned (ahead M (λ n. chain (a n) b) s.trace) (ahead (ahead M b) a s.trace) (λ n v w. chain_runs M s.trace v b full (a n) w) s.stores within in
    each_lasts g b other M (f s) (one (ahead M b) s some h.0) (carry (ahead M b) s h.0).0

module _ (next : ValueTree → Traced → List Traced) (from : ValueTree → ℕ → List Run) (lasts : (v : ValueTree) → Lasts (next v) (from v)) (M : Trace → Measure) (t : Trace) (go : Lead) (at : ℕ) (tries : ℕ → Tried) where
  parts_last : (ps : List Part) → PartsFull ps → PartsWithin (shown_to M t go at tries from) ps → StatesFull (flat_map (λ p. next p.value (behind t p)) ps)
  parts_last [] h within = tt
  parts_last (p ∷ ps) h within =
      each_append (λ u. Full u.stores) (next p.value (behind t p)) (flat_map (λ (q : Part). next q.value (behind t q)) ps)
      (lasts p.value M (behind t p) h.0 within.0) (parts_last ps h.1 within.1)

branches_last : (go : Lead) (at : ℕ) (tries : ℕ → Tried) (next : ValueTree → Traced → List Traced) (from : ValueTree → ℕ → List Run)
    → ((v : ValueTree) → Lasts (next v) (from v)) → Lasts (branches go tries next) (λ n. branched shown n (λ v. onto at (from v) (go n v)) (tries n))
branches_last go at tries next from lasts M s full within =
    parts_last next from lasts M s.trace go at tries (split go tries [] s.stores) (split_full go tries [] s.stores tt) (split_is M s.trace go at tries from [] s.stores tt within).0

module _ (ts : List TypeTree) (i at : ℕ) where
  move_full : (es : Weights) (x : Option ℕ) (w : ℕ) → Full es → Full (with_move es x w)
  move_full es None w h = h
  move_full es (Some n) w h = weight_full es n w

  moves_full : (n share : ℕ) (es : Weights) (cs : List Weighted) → Full es → Full (with_moves ts i n es share cs)
  moves_full n share es [] h = h
  moves_full n share es (c ∷ cs) h = moves_full n share (with_move es (replaced ts i c.value n) (share * c.weight)) cs (move_full es (replaced ts i c.value n) (share * c.weight) h)

  moved_keeps : (n w : ℕ) (es : Weights) (g : Tried) → Full es → Full (spec.moved ts i es n w g)
  moved_keeps n w es (Ok cs) h = moves_full n (w / total cs) es cs h
  moved_keeps n w es (Err f) h = h

  module _ (M : Trace → Measure) (t : Trace) where
    first_move : (u : Trace) (v z : ℕ) (es : Weights) (x : Option ℕ) → RunsWithin M u v (moved at x) → Full (with_move es x z)
    first_move u v z es (Some m) h = weight_full es m z
    first_move u v z es None h = absurd h.0.2

    moved_full : (n w : ℕ) (es : Weights) (g : Tried) → Filled g → RunsWithin M t w (branched silent n (λ v. moved at (replaced ts i v n)) g) → Full (spec.moved ts i es n w g)
    moved_full n w es (Ok []) filled h = absurd filled
    moved_full n w es (Ok (c ∷ cs)) filled h =
        let k = total (c ∷ cs) in
        let x = replaced ts i c.value n in
        let one = (choices_run M t w silent n k (λ v. moved at (replaced ts i v n)) (c ∷ cs) h).0.0 in
        moves_full n (w / k) (with_move es x (w / k * c.weight)) cs
        (first_move (t ++ []) (w / k * c.weight) (w / k * c.weight) es x one)
    moved_full n w es (Err f) filled h = absurd h.0.2

module _ (ts : List TypeTree) (i : ℕ) (d : DxTree) where
  assign_keeps : (to es : Weights) → Full to → Full (assign_all ts i d to es)
  assign_keeps to [] h = h
  assign_keeps to (e ∷ es) h = assign_keeps (spec.moved ts i to e.0 e.1 (tried ts d e.0)) es (moved_keeps ts i (place d) e.0 e.1 to (tried ts d e.0) h)

  module _ (filled : (n : ℕ) → Filled (tried ts d n)) (M : Trace → Measure) (t : Trace) where
    assign_full : (es : Weights) → Full es → Within (ahead M (assigned silent ts i d) t) es → Full (assign_all ts i d [] es)
    assign_full [] full within = absurd full
    assign_full (e ∷ es) full within = assign_keeps (spec.moved ts i [] e.0 e.1 (tried ts d e.0)) es (moved_full ts i (place d) M t e.0 e.1 [] (tried ts d e.0) (filled e.0) within.0)

assign_lasts : (ts : List TypeTree) (i : ℕ) (d : DxTree) → ((n : ℕ) → Filled (tried ts d n)) → Lasts (assign_traced ts i d) (assigned silent ts i d)
assign_lasts ts i d filled M s full within = (assign_full ts i d filled M s.trace s.stores full within, tt)

shown_lasts : (ts : List TypeTree) (i : ℕ) (d : DxTree) → Lasts (branches (into ts i) (tried ts d) (λ v. alone)) (assigned shown ts i d)
shown_lasts ts i d =
    subst (λ (from : ℕ → List Run). Lasts (branches (into ts i) (tried ts d) (λ v. alone)) from) (shown_is ts i d) (branches_last (into ts i) (place d) (tried ts d) (λ v. alone) (λ v. stay) (λ v. alone_lasts))

module _ (F G : Traced → List Traced) (a b : ℕ → List Run) (one : Lasts F a) (other : Lasts G b) where
  side_lasts : (c : Bool) → Lasts (if c then F else G) (λ n. if c then a n else b n)
  side_lasts true = one
  side_lasts false = other

  guard_lasts : (guard : ℕ → Tried) → Lasts (guard_traced guard F G) (guarded guard a b)
  guard_lasts guard = branches_last unmoved 0 guard (λ v. if truth v then F else G) (λ v n. if truth v then a n else b n) (λ v. side_lasts (truth v))

gone_lasts : (at : ℕ) → Lasts gone (λ n. stopped LoopBound at)
gone_lasts at M s full within = tt

module _ (guard : ℕ → Tried) (filled : (n : ℕ) → Filled (guard n)) where
  loop_lasts : (k at : ℕ) (F : Traced → List Traced) (body : ℕ → List Run) → ((n : ℕ) → Full (body n)) → Carries F body → Lasts F body → Lasts (loop_traced k guard F) (looped k guard at body)
  loop_lasts zero at F body full carry lasts = guard_lasts gone alone (λ n. stopped LoopBound at) stay (gone_lasts at) alone_lasts guard
  loop_lasts (suc k) at F body full carry lasts =
      guard_lasts (λ s. flat_map (loop_traced k guard F) (F s)) alone (λ n. chain (body n) (looped k guard at body)) stay
      (chain_lasts F (loop_traced k guard F) body (looped k guard at body) (looped_full guard filled k at body full) carry lasts (loop_lasts k at F body full carry lasts))
      alone_lasts guard

module _ (ts : List TypeTree) (turns : ℕ) where
  mutual
    pub lasts : (x : StTree) → Solid ts x → Lasts (traced ts turns x) (runs ts turns x)
    lasts Skip h = alone_lasts
    lasts (Assign i d false) h = assign_lasts ts i d h
    lasts (Assign i d true) h = shown_lasts ts i d
    lasts (Observe d) h = branches_last unmoved 0 (tried ts d) (λ v. alone) (λ v. stay) (λ v. alone_lasts)
    lasts (If d xs ys) h = guard_lasts (all_traced ts turns xs) (all_traced ts turns ys) (all_runs ts turns xs) (all_runs ts turns ys) (all_last xs h.1) (all_last ys h.2) (tried ts d)
    lasts (While d xs) h = loop_lasts (tried ts d) h.0 turns (place d) (all_traced ts turns xs) (all_runs ts turns xs) (all_full ts turns xs h.1) (all_carry ts turns xs h.1) (all_last xs h.1)

    pub all_last : (xs : StTrees) → AllSolid ts xs → Lasts (all_traced ts turns xs) (all_runs ts turns xs)
    all_last no_sts h = alone_lasts
    all_last (more_sts x xs) h =
        chain_lasts (traced ts turns x) (all_traced ts turns xs) (runs ts turns x) (all_runs ts turns xs) (all_full ts turns xs h.1) (carries ts turns x h.0) (lasts x h.0) (all_last xs h.1)

pub decls_last : (ts : List TypeTree) (i : ℕ) (ds : List DxTree) → DeclsSolid ts ds → Lasts (declared_traced ts i ds) (declared ts i ds)
decls_last ts i [] h = alone_lasts
decls_last ts i (d ∷ ds) h =
    chain_lasts (assign_traced ts i d) (declared_traced ts (suc i) ds) (assigned silent ts i d) (declared ts (suc i) ds) (declared_full ts (suc i) ds h.1)
    (assign_carries ts i d) (assign_lasts ts i d h.0) (decls_last ts (suc i) ds h.1)
