-- No weight is lost: the runs from a store carry all of it, where none of them stops.
use Rattle.std.proofs.Common.{◌≡◌, ℕ, zero, suc, ◌+◌, ◌*◌, ◌/◌, Bool, true, false, List, [], ◌∷◌, ◌++◌, Option, Some, None, Result, Ok, Err, refl, sym, ap, ◌∙◌, arith}
use Rattle.std.specs.Prelude.{if◌then◌else◌}
use Rattle.std.specs.List.{AllByRecursion as Each}
use Rattle.std.proofs.Math.Nat.{div-mul_cancel, mul-add, mul-zero}
use Rattle.std.proofs.lemmas.List.Sums.{sum_by-cons}
use Rattle.kf_value.specs.Types.{TypeTree}
use Rattle.kf_value.specs.Values.{ValueTree, truth}
use Rattle.kf_core.specs.Choices.{Weighted, total}
use Rattle.kf_core.specs.Dxs.{DxTree}
use Rattle.kf_core.specs.Sts.{StTree, StTrees, Skip, Assign, Observe, If, While, no_sts, more_sts}
use Rattle.kf_core.specs.Runs.{Run, Halted, Tried, tried, place, LoopBound, chain, branched, stay, stopped, replaced, assigned, guarded, looped, runs, all_runs, declared, leaks}
use Rattle.kf_core.proofs.Sums.{adds, adds_same}
use Rattle.kf_core.proofs.Measures.{Measure, Trace, Ends, end_value, RunsWithin, runs_value, ahead, Full, chain_runs, choices_run, choices_first, ChosenWithin, stay_value}
use Rattle.kf_core.proofs.Filled.{Filled, Solid, AllSolid, DeclsSolid, looped_full, moved_some, side_full, all_full, declared_full, chain_full}
use Rattle.kf_core.specs.Each.{moved}
use Rattle.kf_core.specs.Leaks.{silent, shown}

-- weight itself
abbrev pub all_weight : Trace → Measure
all_weight t = record { holds = λ n w. Unit {0}; value = λ n w. w; closed = λ n a b h k. tt; linear = λ n a b h k. refl }

abbrev pub Keeps : (ℕ → List Run) → Type 0
Keeps from = (t : Trace) (n v : ℕ) → RunsWithin all_weight t v (from n) → runs_value all_weight t v (from n) ≡ v

stay_keeps : Keeps stay
stay_keeps t n v within = stay_value all_weight t v n

module _ (b : ℕ → List Run) (keeps : Keeps b) where
  kept_end : (t : Trace) (x : Result ℕ Halted) (w : ℕ) → Ends (ahead all_weight b t) x w → end_value (ahead all_weight b t) x w ≡ end_value (all_weight t) x w × Ends (all_weight t) x w
  kept_end t (Ok n) w h = (keeps t n w h, tt)
  kept_end t (Err f) w h = absurd h

  kept_runs : (t : Trace) (v : ℕ) (rs : List Run) → RunsWithin (ahead all_weight b) t v rs → RunsWithin all_weight t v rs × (runs_value (ahead all_weight b) t v rs ≡ runs_value all_weight t v rs)
  kept_runs t v [] h = (tt, refl)
  kept_runs t v (r ∷ rs) h =
      let one = kept_end (t ++ r.trace) r.end (v / r.scale * r.weight) h.0.2 in
      let others = kept_runs t v rs h.1 in
      (((h.0.0, h.0.1, one.1), others.0), omega (arith, one.0, others.1))

  pub chain_keeps : (a : ℕ → List Run) → ((n : ℕ) → Full (b n)) → Keeps a → Keeps (λ n. chain (a n) b)
  chain_keeps a full first t n v within =
      let c = chain_runs all_weight t v b full (a n) within in
      let k = kept_runs t v (a n) c.0 in
      c.1 ∙ k.1 ∙ first t n v k.0

shares_sum : (q : ℕ) (cs : List Weighted) → adds (λ c. q * c.weight) cs ≡ q * total cs
shares_sum q [] = sym (mul-zero q)
shares_sum q (c ∷ cs) =
    ap (λ n. q * c.weight + n) (shares_sum q cs) ∙ sym (mul-add q c.weight (total cs)) ∙ ap (λ n. q * n) (sym (sum_by-cons (λ (u : Weighted). u.weight) c cs))

module _ (leak : ValueTree → List ValueTree) (n : ℕ) (next : ValueTree → List Run) (full : (v : ValueTree) → Full (next v))
    (keeps : (u : ValueTree) (t : Trace) (v : ℕ) → RunsWithin all_weight t v (next u) → runs_value all_weight t v (next u) ≡ v) where
  kept_shares : (t : Trace) (v k : ℕ) (cs : List Weighted) → ChosenWithin all_weight t v leak n k next cs → Each (λ c. runs_value all_weight (t ++ leak c.value) (v / k * c.weight) (next c.value) ≡ v / k * c.weight) cs
  kept_shares t v k [] h = tt
  kept_shares t v k (c ∷ cs) h = (keeps c.value (t ++ leak c.value) (v / k * c.weight) h.0, kept_shares t v k cs h.1)

  branched_keeps : (g : Tried) → Filled g → (t : Trace) (v : ℕ) → RunsWithin all_weight t v (branched leak n next g) → runs_value all_weight t v (branched leak n next g) ≡ v
  branched_keeps (Ok cs) filled t v within =
      let k = total cs in
      let c = choices_run all_weight t v leak n k next cs within in
      let d = choices_first all_weight t v leak n k next cs filled full within in
      c.1
      ∙ adds_same (λ c. runs_value all_weight (t ++ leak c.value) (v / k * c.weight) (next c.value)) (λ c. v / k * c.weight) cs (kept_shares t v k cs c.0)
      ∙ shares_sum (v / k) cs
      ∙ div-mul_cancel k d.1
  branched_keeps (Err f) filled t v within = absurd within.0.2

moved_keeps_all : (at : ℕ) (x : Option ℕ) (t : Trace) (v : ℕ) → RunsWithin all_weight t v (moved at x) → runs_value all_weight t v (moved at x) ≡ v
moved_keeps_all at (Some n) t v within = stay_value all_weight t v n
moved_keeps_all at None t v within = absurd within.0.2

stopped_keeps : (at : ℕ) → Keeps (λ n. stopped LoopBound at)
stopped_keeps at t n v within = absurd within.0.2

side_keeps : (c : Bool) (xs ys : List Run) (t : Trace) (v : ℕ) → (RunsWithin all_weight t v xs → runs_value all_weight t v xs ≡ v) → (RunsWithin all_weight t v ys → runs_value all_weight t v ys ≡ v)
    → RunsWithin all_weight t v (if c then xs else ys) → runs_value all_weight t v (if c then xs else ys) ≡ v
side_keeps true xs ys t v h k = h
side_keeps false xs ys t v h k = k

module _ (guard : ℕ → Tried) (filled : (n : ℕ) → Filled (guard n)) where
  guarded_keeps : (a b : ℕ → List Run) → ((n : ℕ) → Full (a n)) → ((n : ℕ) → Full (b n)) → Keeps a → Keeps b → Keeps (guarded guard a b)
  guarded_keeps a b fa fb h k t n v within =
      branched_keeps shown n (λ u. if truth u then a n else b n) (λ u. side_full (truth u) (a n) (b n) (fa n) (fb n)) (λ u t v. side_keeps (truth u) (a n) (b n) t v (h t n v) (k t n v)) (guard n) (filled n) t v within

  looped_keeps : (k at : ℕ) (body : ℕ → List Run) → ((n : ℕ) → Full (body n)) → Keeps body → Keeps (looped k guard at body)
  looped_keeps zero at body full h = guarded_keeps (λ m. stopped LoopBound at) stay (λ m. tt) (λ m. tt) (stopped_keeps at) stay_keeps
  looped_keeps (suc k) at body full h =
      let rest = looped_full guard filled k at body full in
      guarded_keeps (λ m. chain (body m) (looped k guard at body)) stay (λ m. chain_full (looped k guard at body) rest (body m) (full m)) (λ m. tt)
      (chain_keeps (looped k guard at body) (looped_keeps k at body full h) body rest h) stay_keeps

assigned_keeps : (leak : ValueTree → List ValueTree) (ts : List TypeTree) (i : ℕ) (d : DxTree) → ((n : ℕ) → Filled (tried ts d n)) → Keeps (assigned leak ts i d)
assigned_keeps leak ts i d filled t n v within =
    branched_keeps leak n (λ u. moved (place d) (replaced ts i u n)) (λ u. moved_some (place d) (replaced ts i u n)) (λ u. moved_keeps_all (place d) (replaced ts i u n)) (tried ts d n) (filled n) t v within

module _ (ts : List TypeTree) (turns : ℕ) where
  mutual
    pub keeps : (x : StTree) → Solid ts x → Keeps (runs ts turns x)
    keeps Skip h = stay_keeps
    keeps (Assign i d visible) h = assigned_keeps (leaks visible) ts i d h
    keeps (Observe d) h = λ t n v within. branched_keeps shown n (λ u. stay n) (λ u. tt) (λ u t v k. stay_value all_weight t v n) (tried ts d n) (h n) t v within
    keeps (If d xs ys) h =
        guarded_keeps (tried ts d) h.0 (all_runs ts turns xs) (all_runs ts turns ys) (all_full ts turns xs h.1) (all_full ts turns ys h.2) (all_keep xs h.1) (all_keep ys h.2)
    keeps (While d xs) h = looped_keeps (tried ts d) h.0 turns (place d) (all_runs ts turns xs) (all_full ts turns xs h.1) (all_keep xs h.1)

    pub all_keep : (xs : StTrees) → AllSolid ts xs → Keeps (all_runs ts turns xs)
    all_keep no_sts h = stay_keeps
    all_keep (more_sts x xs) h = chain_keeps (all_runs ts turns xs) (all_keep xs h.1) (runs ts turns x) (all_full ts turns xs h.1) (keeps x h.0)

pub decls_keep : (ts : List TypeTree) (i : ℕ) (ds : List DxTree) → DeclsSolid ts ds → Keeps (declared ts i ds)
decls_keep ts i [] h = stay_keeps
decls_keep ts i (d ∷ ds) h =
    chain_keeps (declared ts (suc i) ds) (decls_keep ts (suc i) ds h.1) (assigned silent ts i d) (declared_full ts (suc i) ds h.1) (assigned_keeps silent ts i d h.0)
