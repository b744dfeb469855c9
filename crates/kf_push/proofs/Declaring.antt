-- Declarations as a block of assignments: their runs are chained, and leak nothing.
use Rattle.std.proofs.Common.{◌≡◌, ℕ, suc, false, ◌+◌, ◌≤◌, inl, inr, List, [], ◌∷◌, ◌++◌, map, length, take, drop, slice_get, Some, Option, None, Result, Ok, Err, refl, sym, ap, ◌∙◌, arith}
use Rattle.std.specs.List.{AllByRecursion as Each}
use Rattle.std.proofs.lemmas.List.{length-take-le, take_more, take-append-drop}
use Rattle.std.proofs.lemmas.Option.{slice_get_within, slice_get-get_or}
use Rattle.kf_value.specs.Types.{TypeTree}
use Rattle.kf_value.specs.Values.{ValueTree}
use Rattle.kf_value.proofs.ListLemmas.{each_any, each_map, each_flat_map, each_weaker}
use Rattle.kf_core.specs.Choices.{Weighted, total}
use Rattle.kf_core.specs.Dxs.{DxTree}
use Rattle.kf_core.specs.Runs.{Run, Halted, Tried, tried, place, replaced, joined, chain, choice_run, branched, ended, assigned, declared, all_runs}
use Rattle.kf_core.specs.Sts.{StTree, Assign, sts}
use Rattle.kf_core.specs.SupportLaws.{RunsChain}
use Rattle.kf_core.proofs.OneTable.{in_from_contains}
use Rattle.kf_core.specs.Each.{moved, onward}
use Rattle.kf_core.specs.Leaks.{silent}
use Rattle.kf_column.proofs.AtMostOne.{In}
use Rattle.kf_push.specs.Merging.{SplitsOnce}
use Rattle.kf_push.proofs.Renaming.{chain_same}

-- ---- chained

-- declarations from variable i on, as statements that show nothing
abbrev assignments : ℕ → List DxTree → List StTree
assignments i [] = []
assignments i (d ∷ ds) = Assign i d false ∷ assignments (suc i) ds

module _ (ts : List TypeTree) (turns : ℕ) where
  as_block : (i : ℕ) (ds : List DxTree) (n : ℕ) → declared ts i ds n ≡ all_runs ts turns (sts (assignments i ds)) n
  as_block i [] n = refl
  as_block i (d ∷ ds) n = λ j. chain (assigned silent ts i d n) (λ m. as_block (suc i) ds m j)

assignments_joined : (i : ℕ) (ds es : List DxTree) → assignments i (ds ++ es) ≡ assignments i ds ++ assignments (i + length ds) es
assignments_joined i [] es = ap (λ k. assignments k es) (omega arith)
assignments_joined i (d ∷ ds) es =
    ap (λ xs. Assign i d false ∷ xs) (assignments_joined (suc i) ds es ∙ ap (λ k. assignments (suc i) ds ++ assignments k es) (omega arith))

module _ (sequence : RunsChain) (ts : List TypeTree) where
  declared_joined : (i : ℕ) (ds es : List DxTree) (n : ℕ) → declared ts i (ds ++ es) n ≡ chain (declared ts i ds n) (declared ts (i + length ds) es)
  declared_joined i ds es n =
      as_block ts 0 i (ds ++ es) n
      ∙ (ap (λ xs. all_runs ts 0 (sts xs) n) (assignments_joined i ds es)
      ∙ (sequence ts 0 (assignments i ds) (assignments (i + length ds) es) n
      ∙ (λ j. chain (sym (as_block ts 0 i ds n) j) (λ m. sym (as_block ts 0 (i + length ds) es m) j))))

  module _ (ds : List DxTree) (k : ℕ) (within : k ≤ length ds) where
    long : length (take k ds) ≡ k
    long = length-take-le k ds within

    -- the first declarations, and then the others
    pub declared_parted : (n : ℕ) → declared ts 0 ds n ≡ chain (declared ts 0 (take k ds) n) (declared ts k (drop k ds))
    declared_parted n =
        ap (λ es. declared ts 0 es n) (sym (take-append-drop k ds))
        ∙ (declared_joined 0 (take k ds) (drop k ds) n ∙ ap (λ i. chain (declared ts 0 (take k ds) n) (declared ts i (drop k ds))) (omega (arith, long)))

    -- one declaration more is one assignment more
    pub declared_next : (d : DxTree) → slice_get ds k ≡ Some d → (n : ℕ)
        → declared ts 0 (take (k + 1) ds) n ≡ chain (declared ts 0 (take k ds) n) (assigned silent ts k d)
    declared_next d is n =
        ap (λ es. declared ts 0 es n) (take_more ds k d (slice_get_within ds k d is)
        ∙ ap (λ e. take k ds ++ e ∷ []) (same_some (sym (slice_get-get_or ds k d (slice_get_within ds k d is)) ∙ is)))
        ∙ (declared_joined 0 (take k ds) (d ∷ []) n
        ∙ (ap (λ i. chain (declared ts 0 (take k ds) n) (declared ts i (d ∷ []))) (omega (arith, long))
        ∙ (λ j. chain (declared ts 0 (take k ds) n) (λ m. chain_same (assigned silent ts k d m) j))))
      where
        same_some : {X : Type 0} {x y : X} → Some x ≡ Some y → x ≡ y
        same_some h = cc

-- ---- silent

-- nothing is leaked
abbrev pub Silent : List Run → Type 0
Silent rs = Each (λ r. r.trace ≡ []) rs

ended_silent : (e : Result ℕ Halted) → Silent (ended e)
ended_silent e = (refl, tt)

joined_silent : (r : Run) (qs : List Run) → r.trace ≡ [] → Silent qs → Silent (map (joined r) qs)
joined_silent r qs is h =
    each_map (λ q. q.trace ≡ []) (joined r) qs (each_weaker (λ q. q.trace ≡ []) (λ q. (joined r q).trace ≡ []) (λ q k. (λ i. is i ++ k i)) qs h)

module _ (next : ℕ → List Run) (quiet : (n : ℕ) → Silent (next n)) where
  onward_silent : (r : Run) (x : Result ℕ Halted) → r.trace ≡ [] → Silent (onward next r x)
  onward_silent r (Ok n) is = joined_silent r (next n) is (quiet n)
  onward_silent r (Err f) is = (is, tt)

  pub chain_silent : (rs : List Run) → Silent rs → Silent (chain rs next)
  chain_silent rs h =
      each_flat_map (λ r. r.trace ≡ []) (λ r. onward next r r.end) rs
      (each_weaker (λ r. r.trace ≡ []) (λ r. Silent (onward next r r.end)) (λ r is. onward_silent r r.end is) rs h)

module _ (n : ℕ) (next : ValueTree → List Run) (quiet : (v : ValueTree) → Silent (next v)) where
  branched_silent : (g : Tried) → Silent (branched silent n next g)
  branched_silent (Ok ws) =
      each_flat_map (λ r. r.trace ≡ []) (λ u. map (joined (choice_run silent n (total ws) u)) (next u.value)) ws
      (each_any (λ (u : Weighted). Silent (map (joined (choice_run silent n (total ws) u)) (next u.value)))
      (λ u. joined_silent (choice_run silent n (total ws) u) (next u.value) refl (quiet u.value)) ws)
  branched_silent (Err f) = ended_silent (Err f)

moved_silent : (at : ℕ) (x : Option ℕ) → Silent (moved at x)
moved_silent at (Some n) = ended_silent (Ok n)
moved_silent at None = (refl, tt)

module _ (ts : List TypeTree) where
  assigned_silent : (i : ℕ) (d : DxTree) (n : ℕ) → Silent (assigned silent ts i d n)
  assigned_silent i d n = branched_silent n (λ v. moved (place d) (replaced ts i v n)) (λ v. moved_silent (place d) (replaced ts i v n)) (tried ts d n)

  pub declared_silent : (i : ℕ) (ds : List DxTree) (n : ℕ) → Silent (declared ts i ds n)
  declared_silent i [] n = ended_silent (Ok n)
  declared_silent i (d ∷ ds) n = chain_silent (declared ts (suc i) ds) (declared_silent (suc i) ds) (assigned silent ts i d n) (assigned_silent i d n)

member_silent : (rs : List Run) (r : Run) → Silent rs → In r rs → r.trace ≡ []
member_silent [] r h here = absurd here
member_silent (q ∷ rs) r h (inl is) = ap (λ (p : Run). p.trace) is ∙ h.0
member_silent (q ∷ rs) r h (inr there) = member_silent rs r h.1 there

-- where nothing is leaked no trace goes on
pub silent_splits : (from : ℕ → List Run) → ((n : ℕ) → Silent (from n)) → SplitsOnce from
silent_splits from quiet n m r q u has had ok good is =
    let t = member_silent (from n) r (quiet n) (in_from_contains (from n) r has) in
    let s = member_silent (from m) q (quiet m) (in_from_contains (from m) q had) in
    sym (ap (λ v. v ++ u) t) ∙ (sym is ∙ s)
