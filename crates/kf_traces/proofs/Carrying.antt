-- That traced states bring all weight to where the runs end: for each form, and so for statements, blocks and declarations.
use Rattle.std.proofs.Common.{◌≡◌, ℕ, zero, suc, ◌+◌, Bool, true, false, List, [], ◌∷◌, refl, sym, subst, ◌∙◌, arith}
use Rattle.std.specs.Prelude.{if◌then◌else◌}
use Rattle.std.specs.List.{AllByRecursion as Each, flat_map}
use Rattle.kf_value.specs.Types.{TypeTree}
use Rattle.kf_value.specs.Values.{ValueTree, truth}
use Rattle.kf_value.proofs.ListLemmas.{each_append}
use Rattle.kf_core.specs.Dxs.{DxTree}
use Rattle.kf_core.specs.Sts.{StTree, StTrees, Skip, Assign, Observe, If, While, no_sts, more_sts}
use Rattle.kf_core.specs.Runs.{Run, Tried, tried, place, replaced, LoopBound, chain, branched, stay, stopped, assigned, guarded, looped, runs, all_runs, declared}
use Rattle.kf_core.proofs.Measures.{Measure, Trace, ahead, Full, chain_runs, stay_within, stay_value}
use Rattle.kf_core.proofs.Filled.{Filled, Solid, AllSolid, DeclsSolid, looped_full, all_full, declared_full}
use Rattle.kf_core.proofs.Sums.{adds, adds_joined}
use Rattle.kf_core.specs.Leaks.{silent, shown}
use Rattle.kf_traces.specs.Traced.{Weights, Traced, Lead, Part, unmoved, into, split, behind, branches, alone, gone, assign_all, assign_traced, guard_traced, loop_traced, traced, all_traced, declared_traced}
use Rattle.kf_traces.specs.Traced as spec
use Rattle.kf_traces.proofs.Measures.{Within, measure}
use Rattle.kf_traces.proofs.Splitting.{PartsWithin, parts_value, onto, moved_onto, shown_to, split_is, moved_at}

abbrev pub StateWithin : (Trace → Measure) → Traced → Type 0
StateWithin M s = Within (M s.trace) s.stores

abbrev pub state_value : (Trace → Measure) → Traced → ℕ
state_value M s = measure (M s.trace) s.stores

abbrev pub StatesWithin : (Trace → Measure) → List Traced → Type 0
StatesWithin M ss = Each (λ s. StateWithin M s) ss

abbrev pub states_value : (Trace → Measure) → List Traced → ℕ
states_value M ss = adds (λ s. state_value M s) ss

abbrev pub Brings : (Trace → Measure) → List Traced → (Trace → Measure) → Traced → Type 0
Brings M ss N s = StatesWithin M ss × (states_value M ss ≡ state_value N s)

-- whatever is measured, the states have what the runs bring
abbrev pub Carries : (Traced → List Traced) → (ℕ → List Run) → Type 1
Carries f from = (M : Trace → Measure) (s : Traced) → StateWithin (ahead M from) s → Brings M (f s) (ahead M from) s

-- ---- measures that agree on stores

module _ (M N : Measure) where
  abbrev pub Turns : Type 0
  Turns = (n v : ℕ) → M.holds n v → N.holds n v × (M.value n v ≡ N.value n v)

  pub turned : Turns → (es : Weights) → Within M es → Within N es × (measure M es ≡ measure N es)
  turned h [] within = (tt, refl)
  turned h (e ∷ es) within =
      let one = h e.0 e.1 within.0 in
      let others = turned h es within.1 in
      ((one.0, others.0), omega (arith, one.1, others.1))

-- ---- states that stay, and states that go on

pub stay_carries : Carries alone stay
stay_carries M s within =
    let h = turned (ahead M stay s.trace) (M s.trace) (λ n v w. (stay_within M s.trace v n w, stay_value M s.trace v n)) s.stores within in
    ((h.0, tt), omega (arith, h.1))

module _ (g : Traced → List Traced) (from : ℕ → List Run) (carries : Carries g from) (M : Trace → Measure) where
  pub each_carries : (ss : List Traced) → StatesWithin (ahead M from) ss → StatesWithin M (flat_map g ss) × (states_value M (flat_map g ss) ≡ states_value (ahead M from) ss)
  each_carries [] h = (tt, refl)
  each_carries (s ∷ ss) h =
      let one = carries M s h.0 in
      let others = each_carries ss h.1 in (
        each_append (λ u. StateWithin M u) (g s) (flat_map g ss) one.0 others.0,
        adds_joined (λ u. state_value M u) (g s) (flat_map g ss) ∙ omega (arith, one.1, others.1),
      )

pub chain_carries : (f g : Traced → List Traced) (a b : ℕ → List Run) → ((n : ℕ) → Full (b n)) → Carries f a → Carries g b → Carries (λ s. flat_map g (f s)) (λ n. chain (a n) b)
chain_carries f g a b full one other M s within =
    let h = turned (ahead M (λ n. chain (a n) b) s.trace) (ahead (ahead M b) a s.trace) (λ n v w. chain_runs M s.trace v b full (a n) w) s.stores within in
    let first = one (ahead M b) s h.0 in
    let second = each_carries g b other M (f s) first.0 in
    (second.0, second.1 ∙ first.1 ∙ sym h.1)

-- ---- branches

module _ (next : ValueTree → Traced → List Traced) (from : ValueTree → ℕ → List Run) (carries : (v : ValueTree) → Carries (next v) (from v)) (M : Trace → Measure) (t : Trace) where
  parts_carry : (go : Lead) (at : ℕ) (tries : ℕ → Tried) (ps : List Part) → PartsWithin (shown_to M t go at tries from) ps
      → StatesWithin M (flat_map (λ p. next p.value (behind t p)) ps) × (states_value M (flat_map (λ p. next p.value (behind t p)) ps) ≡ parts_value (shown_to M t go at tries from) ps)
  parts_carry go at tries [] h = (tt, refl)
  parts_carry go at tries (p ∷ ps) h =
      let one = carries p.value M (behind t p) h.0 in
      let others = parts_carry go at tries ps h.1 in
      let head = next p.value (behind t p) in
      let rest = flat_map (λ (q : Part). next q.value (behind t q)) ps in
      (each_append (λ u. StateWithin M u) head rest one.0 others.0, adds_joined (λ u. state_value M u) head rest ∙ omega (arith, one.1, others.1))

pub branches_carry : (go : Lead) (at : ℕ) (tries : ℕ → Tried) (next : ValueTree → Traced → List Traced) (from : ValueTree → ℕ → List Run)
    → ((v : ValueTree) → Carries (next v) (from v)) → Carries (branches go tries next) (λ n. branched shown n (λ v. onto at (from v) (go n v)) (tries n))
branches_carry go at tries next from carries M s within =
    let h = split_is M s.trace go at tries from [] s.stores tt within in
    let r = parts_carry next from carries M s.trace go at tries (split go tries [] s.stores) h.0 in
    (r.0, r.1 ∙ omega (arith, h.1))

-- ---- assignments

module _ (ts : List TypeTree) (i : ℕ) (d : DxTree) where
  assign_brings : (M : Trace → Measure) (t : Trace) (to es : Weights) → Within (M t) to → Within (ahead M (assigned silent ts i d) t) es
      → Within (M t) (assign_all ts i d to es) × (measure (M t) (assign_all ts i d to es) ≡ measure (M t) to + measure (ahead M (assigned silent ts i d) t) es)
  assign_brings M t to [] within h = (within, omega arith)
  assign_brings M t to (e ∷ es) within h =
      let one = moved_at M t ts i (place d) (tried ts d) e.0 e.1 to (tried ts d e.0) within h.0 in
      let others = assign_brings M t (spec.moved ts i to e.0 e.1 (tried ts d e.0)) es one.0 h.1 in
      (others.0, omega (arith, one.1, others.1))

  pub assign_carries : Carries (assign_traced ts i d) (assigned silent ts i d)
  assign_carries M s within =
      let h = assign_brings M s.trace [] s.stores tt within in
      ((h.0, tt), omega (arith, h.1))

  -- the runs of an assignment that leaks the value
  pub shown_is : (λ n. branched shown n (λ v. onto (place d) stay (into ts i n v)) (tried ts d n)) ≡ assigned shown ts i d
  shown_is = λ j n. branched shown n (λ v. moved_onto (place d) (replaced ts i v n) j) (tried ts d n)

  shown_carries : Carries (branches (into ts i) (tried ts d) (λ v. alone)) (assigned shown ts i d)
  shown_carries = subst (λ (from : ℕ → List Run). Carries (branches (into ts i) (tried ts d) (λ v. alone)) from) shown_is (branches_carry (into ts i) (place d) (tried ts d) (λ v. alone) (λ v. stay) (λ v. stay_carries))

-- ---- guards and loops

module _ (F G : Traced → List Traced) (a b : ℕ → List Run) (one : Carries F a) (other : Carries G b) where
  side_carries : (c : Bool) → Carries (if c then F else G) (λ n. if c then a n else b n)
  side_carries true = one
  side_carries false = other

  pub guard_carries : (guard : ℕ → Tried) → Carries (guard_traced guard F G) (guarded guard a b)
  guard_carries guard = branches_carry unmoved 0 guard (λ v. if truth v then F else G) (λ v n. if truth v then a n else b n) (λ v. side_carries (truth v))

none_left : (at : ℕ) (M : Trace → Measure) (t : Trace) (es : Weights) → Within (ahead M (λ n. stopped LoopBound at) t) es → 0 ≡ measure (ahead M (λ n. stopped LoopBound at) t) es
none_left at M t [] within = refl
none_left at M t (e ∷ es) within = absurd within.0.0.2

stopped_carries : (at : ℕ) → Carries gone (λ n. stopped LoopBound at)
stopped_carries at M s within = (tt, none_left at M s.trace s.stores within)

module _ (guard : ℕ → Tried) (filled : (n : ℕ) → Filled (guard n)) where
  pub loop_carries : (k at : ℕ) (F : Traced → List Traced) (body : ℕ → List Run) → ((n : ℕ) → Full (body n)) → Carries F body → Carries (loop_traced k guard F) (looped k guard at body)
  loop_carries zero at F body full carries = guard_carries gone alone (λ n. stopped LoopBound at) stay (stopped_carries at) stay_carries guard
  loop_carries (suc k) at F body full carries =
      guard_carries (λ s. flat_map (loop_traced k guard F) (F s)) alone (λ n. chain (body n) (looped k guard at body)) stay
      (chain_carries F (loop_traced k guard F) body (looped k guard at body) (looped_full guard filled k at body full) carries (loop_carries k at F body full carries))
      stay_carries guard

-- ---- statements, blocks and declarations

module _ (ts : List TypeTree) (turns : ℕ) where
  mutual
    pub carries : (x : StTree) → Solid ts x → Carries (traced ts turns x) (runs ts turns x)
    carries Skip h = stay_carries
    carries (Assign i d false) h = assign_carries ts i d
    carries (Assign i d true) h = shown_carries ts i d
    carries (Observe d) h = branches_carry unmoved 0 (tried ts d) (λ v. alone) (λ v. stay) (λ v. stay_carries)
    carries (If d xs ys) h =
        guard_carries (all_traced ts turns xs) (all_traced ts turns ys) (all_runs ts turns xs) (all_runs ts turns ys) (all_carry xs h.1) (all_carry ys h.2) (tried ts d)
    carries (While d xs) h = loop_carries (tried ts d) h.0 turns (place d) (all_traced ts turns xs) (all_runs ts turns xs) (all_full ts turns xs h.1) (all_carry xs h.1)

    pub all_carry : (xs : StTrees) → AllSolid ts xs → Carries (all_traced ts turns xs) (all_runs ts turns xs)
    all_carry no_sts h = stay_carries
    all_carry (more_sts x xs) h =
        chain_carries (traced ts turns x) (all_traced ts turns xs) (runs ts turns x) (all_runs ts turns xs) (all_full ts turns xs h.1) (carries x h.0) (all_carry xs h.1)

pub decls_carry : (ts : List TypeTree) (i : ℕ) (ds : List DxTree) → DeclsSolid ts ds → Carries (declared_traced ts i ds) (declared ts i ds)
decls_carry ts i [] h = stay_carries
decls_carry ts i (d ∷ ds) h =
    chain_carries (assign_traced ts i d) (declared_traced ts (suc i) ds) (assigned silent ts i d) (declared ts (suc i) ds) (declared_full ts (suc i) ds h.1) (assign_carries ts i d) (decls_carry ts (suc i) ds h.1)
