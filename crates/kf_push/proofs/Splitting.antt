-- No trace goes on in another: each value that is leaked stands in both, and what follows it depends on that value alone.
use Rattle.std.proofs.Common.{◌≡◌, ℕ, suc, zero, Bool, true, false, List, [], ◌∷◌, ◌++◌, Option, Some, None, Result, Ok, Err, ◌⊎◌, inl, inr, refl, sym, ap, subst, ◌∙◌, append_assoc, append-nil}
use Rattle.std.specs.Prelude.{IsOk, if◌then◌else◌}
use Rattle.std.proofs.lemmas.List.{append_cancel_left}
use Rattle.kf_value.specs.Types.{TypeTree}
use Rattle.kf_value.specs.Values.{ValueTree, truth}
use Rattle.kf_column.proofs.AtMostOne.{In}
use Rattle.kf_core.specs.Dxs.{DxTree}
use Rattle.kf_core.specs.Sts.{StTree, StTrees, Skip, Assign, Observe, If, While, no_sts, more_sts}
use Rattle.kf_core.specs.Runs.{Run, Halted, Tried, LoopBound, chain, branched, ended, stay, stopped, replaced, assigned, guarded, looped, tried, place, runs, all_runs, leaks}
use Rattle.kf_core.proofs.OneTable.{in_from_contains}
use Rattle.kf_core.specs.Each.{moved}
use Rattle.kf_core.specs.Leaks.{silent, shown}
use Rattle.kf_push.specs.Following.{side}
use Rattle.kf_push.specs.Merging.{SplitsOnce}
use Rattle.kf_push.proofs.Members.{Parts, Picks, chain_parts, branched_picks}

-- none of these traces goes on as one of those
abbrev pub Apart : List Run → List Run → Type 0
Apart rs qs = (r q : Run) (u : List ValueTree) → In r rs → In q qs → IsOk r.end → IsOk q.end → q.trace ≡ r.trace ++ u → u ≡ []

-- so it is from any two stores
abbrev pub Splits : (ℕ → List Run) → Type 0
Splits from = (n m : ℕ) → Apart (from n) (from m)

pub splits_once : (from : ℕ → List Run) → Splits from → SplitsOnce from
splits_once from splits n m r q u has is = splits n m r q u (in_from_contains (from n) r has) (in_from_contains (from m) q is)

-- ---- fronts

abbrev OneInOther : List ValueTree → List ValueTree → Type 0
OneInOther s t = ((u : List ValueTree) × (t ≡ s ++ u)) ⊎ ((u : List ValueTree) × (s ≡ t ++ u))

longer : (v w : ValueTree) (s t : List ValueTree) → v ≡ w → OneInOther s t → OneInOther (v ∷ s) (w ∷ t)
longer v w s t same (inl h) = inl (h.0, (let rest = h.1 in λ i. sym same i ∷ rest i))
longer v w s t same (inr h) = inr (h.0, (let rest = h.1 in λ i. same i ∷ rest i))

-- of two fronts of one list one is the front of the other
fronts : (s t a b : List ValueTree) → s ++ a ≡ t ++ b → OneInOther s t
fronts [] t a b same = inl (t, refl)
fronts (v ∷ s) [] a b same = inr (v ∷ s, refl)
fronts (v ∷ s) (w ∷ t) a b same = longer v w s t (cc) (fronts s t a b (cc))

-- ---- chains

module _ (from next : ℕ → List Run) (first : Splits from) (second : Splits next) where
  module _ (n m : ℕ) (u : List ValueTree) (r q : Run) (a : Parts (from n) next r) (b : Parts (from m) next q)
      (ends : IsOk r.end) (stops : IsOk q.end) (goes : q.trace ≡ r.trace ++ u) where
    same_whole : b.first.trace ++ b.second.trace ≡ a.first.trace ++ (a.second.trace ++ u)
    same_whole = sym (ap (λ (p : Run). p.trace) b.is) ∙ goes ∙ ap (λ (p : Run). p.trace ++ u) a.is ∙ append_assoc a.first.trace a.second.trace u

    ended_a : IsOk a.first.end
    ended_a = rw a.ends refl

    ended_b : IsOk b.first.end
    ended_b = rw b.ends refl

    same_first : OneInOther b.first.trace a.first.trace → b.first.trace ≡ a.first.trace
    same_first (inl h) =
        let none = first m n b.first a.first h.0 b.has_first a.has_first ended_b ended_a h.1 in
        sym (h.1 ∙ ap (λ x. b.first.trace ++ x) none ∙ append-nil b.first.trace)
    same_first (inr h) =
        let none = first n m a.first b.first h.0 a.has_first b.has_first ended_a ended_b h.1 in
        h.1 ∙ ap (λ x. a.first.trace ++ x) none ∙ append-nil a.first.trace

    same_second : b.second.trace ≡ a.second.trace ++ u
    same_second =
        append_cancel_left a.first.trace b.second.trace (a.second.trace ++ u)
        (ap (λ x. x ++ b.second.trace) (sym (same_first (fronts b.first.trace a.first.trace b.second.trace (a.second.trace ++ u) same_whole))) ∙ same_whole)

    parts_split : u ≡ []
    parts_split =
        second a.between b.between a.second b.second u a.has_second b.has_second
        (subst IsOk (ap (λ (p : Run). p.end) a.is) ends) (subst IsOk (ap (λ (p : Run). p.end) b.is) stops) same_second

  pub chain_splits : Splits (λ n. chain (from n) next)
  chain_splits n m r q u has is ends stops goes =
      parts_split n m u r q (chain_parts next r (from n) ends has) (chain_parts next q (from m) stops is) ends stops goes

-- ---- what leaks nothing

abbrev IsSilent : List Run → Type 0
IsSilent rs = (r : Run) → IsOk r.end → In r rs → r.trace ≡ []

silent_apart : (rs qs : List Run) → IsSilent qs → Apart rs qs
silent_apart rs qs none r q u has is ends stops goes = no_rest r.trace u (sym goes ∙ none q stops is)
  where
    no_rest : (t u : List ValueTree) → t ++ u ≡ [] → u ≡ []
    no_rest [] u h = h
    no_rest (v ∷ t) u h = absurd (cc)

ended_silent : (end : Result ℕ Halted) → IsSilent (ended end)
ended_silent end r ends (inl is) = ap (λ (p : Run). p.trace) is
ended_silent end r ends (inr h) = absurd h

moved_silent : (at : ℕ) (x : Option ℕ) → IsSilent (moved at x)
moved_silent at (Some n) = ended_silent (Ok n)
moved_silent at None = ended_silent (Err _)

-- ---- choices

module _ (n : ℕ) (next : ValueTree → List Run) (none : (v : ValueTree) → IsSilent (next v)) where
  choices_silent : (g : Tried) → IsSilent (branched silent n next g)
  choices_silent g r ends has =
      let p = branched_picks silent n next g r ends has in
      ap (λ (q : Run). q.trace) p.is ∙ none p.choice.value p.second (subst IsOk (ap (λ (q : Run). q.end) p.is) ends) p.has_second

module _ (guard : ℕ → Tried) (next : ℕ → ValueTree → List Run) (splits : (v : ValueTree) → Splits (λ n. next n v)) where
  module _ (n m : ℕ) (u : List ValueTree) (r q : Run) (a : Picks shown n (next n) (guard n) r) (b : Picks shown m (next m) (guard m) q)
      (ends : IsOk r.end) (stops : IsOk q.end) (goes : q.trace ≡ r.trace ++ u) where
    same_picked : b.choice.value ∷ b.second.trace ≡ a.choice.value ∷ (a.second.trace ++ u)
    same_picked = sym (ap (λ (p : Run). p.trace) b.is) ∙ goes ∙ ap (λ (p : Run). p.trace ++ u) a.is

    picks_split : u ≡ []
    picks_split =
        let value : b.choice.value ≡ a.choice.value = (let whole = same_picked in cc) in
        let rest : b.second.trace ≡ a.second.trace ++ u = (let whole = same_picked in cc) in
        splits a.choice.value n m a.second b.second u a.has_second (subst (λ (v : ValueTree). In b.second (next m v)) value b.has_second)
        (subst IsOk (ap (λ (p : Run). p.end) a.is) ends) (subst IsOk (ap (λ (p : Run). p.end) b.is) stops) rest

  pub shown_splits : Splits (λ n. branched shown n (next n) (guard n))
  shown_splits n m r q u has is ends stops goes =
      picks_split n m u r q (branched_picks shown n (next n) (guard n) r ends has) (branched_picks shown m (next m) (guard m) q stops is) ends stops goes

-- ---- assignments

pub assigned_splits : (ts : List TypeTree) (i : ℕ) (d : DxTree) (visible : Bool) → Splits (assigned (leaks visible) ts i d)
assigned_splits ts i d true =
    shown_splits (tried ts d) (λ n v. moved (place d) (replaced ts i v n))
    (λ v n m. silent_apart (moved (place d) (replaced ts i v n)) (moved (place d) (replaced ts i v m)) (moved_silent (place d) (replaced ts i v m)))
assigned_splits ts i d false = λ n m.
    silent_apart (assigned silent ts i d n) (assigned silent ts i d m)
    (choices_silent m (λ v. moved (place d) (replaced ts i v m)) (λ v. moved_silent (place d) (replaced ts i v m)) (tried ts d m))

-- ---- guards and loops

pub stay_splits : Splits stay
stay_splits n m = silent_apart (stay n) (stay m) (ended_silent (Ok m))

pub stopped_splits : (at : ℕ) → Splits (λ n. stopped LoopBound at)
stopped_splits at n m = silent_apart (stopped LoopBound at) (stopped LoopBound at) (ended_silent (Err _))

pub none_splits : Splits (λ n. [])
none_splits n m r q u has = absurd has

pub if_splits : (b : Bool) (taken left : ℕ → List Run) → Splits taken → Splits left → Splits (λ n. if b then taken n else left n)
if_splits true taken left one other = one
if_splits false taken left one other = other

module _ (guard : ℕ → Tried) where
  pub guarded_splits : (taken left : ℕ → List Run) → Splits taken → Splits left → Splits (guarded guard taken left)
  guarded_splits taken left one other = shown_splits guard (λ n v. if truth v then taken n else left n) (λ v. if_splits (truth v) taken left one other)

  pub looped_splits : (turns at : ℕ) (body : ℕ → List Run) → Splits body → Splits (looped turns guard at body)
  looped_splits zero at body splits = guarded_splits (λ n. stopped LoopBound at) stay (stopped_splits at) stay_splits
  looped_splits (suc k) at body splits =
      guarded_splits (λ n. chain (body n) (looped k guard at body)) stay
      (chain_splits body (looped k guard at body) splits (looped_splits k at body splits)) stay_splits

  pub side_splits : (wanted : Bool) → Splits (side wanted guard)
  side_splits wanted =
      shown_splits guard (λ n v. if truth v then (if wanted then stay n else []) else (if wanted then [] else stay n))
      (λ v. if_splits (truth v) (λ n. if wanted then stay n else []) (λ n. if wanted then [] else stay n)
      (if_splits wanted stay (λ n. []) stay_splits none_splits) (if_splits wanted (λ n. []) stay none_splits stay_splits))

-- ---- statements and blocks

module _ (ts : List TypeTree) (turns : ℕ) where
  mutual
    pub statement_splits : (x : StTree) → Splits (runs ts turns x)
    statement_splits Skip = stay_splits
    statement_splits (Assign i d visible) = assigned_splits ts i d visible
    statement_splits (Observe d) = shown_splits (tried ts d) (λ n v. stay n) (λ v. stay_splits)
    statement_splits (If d xs ys) = guarded_splits (tried ts d) (all_runs ts turns xs) (all_runs ts turns ys) (block_splits xs) (block_splits ys)
    statement_splits (While d xs) = looped_splits (tried ts d) turns (place d) (all_runs ts turns xs) (block_splits xs)

    pub block_splits : (xs : StTrees) → Splits (all_runs ts turns xs)
    block_splits no_sts = stay_splits
    block_splits (more_sts x xs) = chain_splits (runs ts turns x) (all_runs ts turns xs) (statement_splits x) (block_splits xs)
