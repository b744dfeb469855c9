-- Runs that differ in their traces, where what is left of a trace is decided by the whole trace: since no trace goes on in another, the parts of
-- a trace are known, and each guard's value tells which way follows.
use Rattle.std.proofs.Common.{◌≡◌, ℕ, suc, zero, ◌*◌, Bool, true, false, List, [], ◌∷◌, ◌++◌, map, Result, Ok, Err, inl, inr, refl, sym, ap, subst, ◌∙◌, append_assoc, true≢false}
use Rattle.std.specs.Prelude.{is_ok, IsOk, if◌then◌else◌}
use Rattle.std.specs.List.{AllZip, flat_map}
use Rattle.std.proofs.lemmas.List.{append_cancel_left, map-id}
use Rattle.kf_value.specs.Values.{ValueTree, truth}
use Rattle.kf_column.proofs.AtMostOne.{In}
use Rattle.kf_core.specs.Choices.{Weighted, total}
use Rattle.kf_core.specs.Runs.{Run, Halted, Tried, LoopBound, branched, chain, choice_run, guarded, joined, looped, stay, stopped}
use Rattle.kf_core.specs.Leaks.{shown}
use Rattle.kf_core.specs.Each.{onward}
use Rattle.kf_silent.specs.Quiet.{hushed}
use Rattle.kf_push.proofs.Carrying.{Runner}
use Rattle.kf_push.proofs.CellWeights.{Trace}
use Rattle.kf_silent.proofs.QuietRuns.{hushed_splits}
use Rattle.kf_push.proofs.Splitting.{Splits, stay_splits, stopped_splits}
use Rattle.kf_push.proofs.TracesJoined.{same_front}
use Rattle.kf_silent.proofs.Hushing.{SameHushed}

-- a trace, and what is left of it
abbrev pub Left : Type 1
Left = Trace → Trace → Type 0

-- what is left is decided by the trace
abbrev pub Decides : Left → Type 0
Decides P = (t u v : Trace) → P t u → P t v → u ≡ v

-- and none of the traces goes on in another
abbrev pub AreFree : Left → Type 0
AreFree P = (t s u v : Trace) → P t u → P (t ++ s) v → s ≡ []

-- these differ at most in their traces, of which the one is left of the other where they end
pub record IsLike (P : Left) (r q : Run) : Type 0 where
  pub ends : r.end ≡ q.end
  pub weights : r.weight ≡ q.weight
  pub scales : r.scale ≡ q.scale
  pub traces : IsOk r.end → P r.trace q.trace

abbrev pub AreLike : Left → List Run → List Run → Type 0
AreLike P rs qs = AllZip (IsLike P) rs qs

-- the runs are others, with what is left of their traces
pub record Leads (from to : Runner) : Type 1 where
  pub Leaves : Left
  pub decide : Decides Leaves
  pub free : AreFree Leaves
  pub like : (n : ℕ) → AreLike Leaves (from n) (to n)

module _ {X Y : Type 0} (R : X → Y → Type 0) where
  pub zip_append : (xs us : List X) (ys vs : List Y) → AllZip R xs ys → AllZip R us vs → AllZip R (xs ++ us) (ys ++ vs)
  zip_append [] us [] vs h k = k
  zip_append [] us (y ∷ ys) vs h k = absurd h
  zip_append (x ∷ xs) us [] vs h k = absurd h
  zip_append (x ∷ xs) us (y ∷ ys) vs h k = (h.0, zip_append xs us ys vs h.1 k)

-- ---- a function of the trace

-- some run that ends has the trace
abbrev pub TraceOf : Runner → Trace → Type 0
TraceOf from t = (n : ℕ) × (r : Run) × In r (from n) × IsOk r.end × (r.trace ≡ t)

abbrev with_trace : (Trace → Trace) → Run → Run
with_trace h r = record { trace = h r.trace; end = r.end; weight = r.weight; scale = r.scale }

pub runs_as : (from to other : Runner) → ((n : ℕ) → to n ≡ other n) → Leads from to → Leads from other
runs_as from to other same l = record { Leaves = l.Leaves; decide = l.decide; free = l.free; like = λ n. subst (AreLike l.Leaves (from n)) (same n) (l.like n) }

module _ (from : Runner) (splits : Splits from) (h : Trace → Trace) where
  turned_like : (rs : List Run) → ((r : Run) → In r rs → IsOk r.end → TraceOf from r.trace)
      → AreLike (λ t u. TraceOf from t × (u ≡ h t)) rs (map (with_trace h) rs)
  turned_like [] all = tt
  turned_like (r ∷ rs) all =
      (record { ends = refl; weights = refl; scales = refl; traces = λ ok. (all r (inl refl) ok, refl) }, turned_like rs (λ q here. all q (inr here)))

  leads_turned : Leads from (λ n. map (with_trace h) (from n))
  leads_turned = record {
    Leaves = λ t u. TraceOf from t × (u ≡ h t);
    decide = λ t u v a b. a.1 ∙ sym b.1;
    free = λ t s u v a b. parts_free t s a.0 b.0;
    like = λ n. turned_like (from n) (λ r here ok. (n, r, here, ok, refl));
  }
    where
      parts_free : (t s : Trace) → TraceOf from t → TraceOf from (t ++ s) → s ≡ []
      parts_free t s (n, r, here, ok, is) (m, q, there, good, goes) =
          splits n m r q s here there ok good (goes ∙ ap (λ (w : Trace). w ++ s) (sym is))

pub leads_itself : (from : Runner) → Splits from → Leads from from
leads_itself from splits = runs_as from (λ n. map (with_trace (λ t. t)) (from n)) from (λ n. map-id (from n)) (leads_turned from splits (λ t. t))

leads_hushed : (from : Runner) → Splits from → Leads from (λ n. hushed (from n))
leads_hushed from splits = leads_turned from splits (λ t. [])

-- ---- one after the other

record Both (P Q : Left) (t u : Trace) : Type 0 where
  first : Trace
  second : Trace
  of_first : Trace
  of_second : Trace
  one : P first of_first
  other : Q second of_second
  whole : t ≡ first ++ second
  left : u ≡ of_first ++ of_second

module _ (P Q : Left) (free : AreFree P) where
  -- where one trace, or what goes on from it, is the other, both have the same first part, and the second goes on
  same_first : (a b c d s : Trace) (u v : Trace) → P a u → P c v → a ++ (b ++ s) ≡ c ++ d → a ≡ c
  same_first a b c d s u v p q whole =
      same_front a c (b ++ s) d (λ w e. free a w u v p (subst (λ (x : Trace). P x v) e q)) (λ w e. free c w v u q (subst (λ (x : Trace). P x u) e p)) whole

  both_free : AreFree Q → AreFree (Both P Q)
  both_free other t s u v a b =
      let whole : a.first ++ (a.second ++ s) ≡ b.first ++ b.second = sym (append_assoc a.first a.second s) ∙ ap (λ (x : Trace). x ++ s) (sym a.whole) ∙ b.whole in
      let first : a.first ≡ b.first = same_first a.first a.second b.first b.second s a.of_first b.of_first a.one b.one whole in
      let second : a.second ++ s ≡ b.second = append_cancel_left a.first (a.second ++ s) b.second (whole ∙ ap (λ (x : Trace). x ++ b.second) (sym first)) in
      other a.second s a.of_second b.of_second a.other (subst (λ (x : Trace). Q x b.of_second) (sym second) b.other)

  both_decide : Decides P → Decides Q → Decides (Both P Q)
  both_decide one other t u v a b =
      let whole : a.first ++ a.second ≡ b.first ++ b.second = sym a.whole ∙ b.whole in
      let first : a.first ≡ b.first =
      same_front a.first b.first a.second b.second
      (λ w e. free a.first w a.of_first b.of_first a.one (subst (λ (x : Trace). P x b.of_first) e b.one))
      (λ w e. free b.first w b.of_first a.of_first b.one (subst (λ (x : Trace). P x a.of_first) e a.one)) whole in
      let second : a.second ≡ b.second = append_cancel_left a.first a.second b.second (whole ∙ ap (λ (x : Trace). x ++ b.second) (sym first)) in
      let left : a.of_first ≡ b.of_first = one a.first a.of_first b.of_first a.one (subst (λ (x : Trace). P x b.of_first) (sym first) b.one) in
      let right : a.of_second ≡ b.of_second = other a.second a.of_second b.of_second a.other (subst (λ (x : Trace). Q x b.of_second) (sym second) b.other) in
      a.left ∙ (λ i. left i ++ right i) ∙ sym b.left

module _ (P Q : Left) where
  all_joined : (r s : Run) → IsLike P r s → IsOk r.end → (qs ps : List Run) → AreLike Q qs ps → AreLike (Both P Q) (map (joined r) qs) (map (joined s) ps)
  all_joined r s like ends [] [] h = tt
  all_joined r s like ends [] (p ∷ ps) h = absurd h
  all_joined r s like ends (q ∷ qs) [] h = absurd h
  all_joined r s like ends (q ∷ qs) (p ∷ ps) h =
      let weights : r.weight * q.weight ≡ s.weight * p.weight = (let a = like.weights in let b = h.0.weights in λ i. a i * b i) in
      let scales : r.scale * q.scale ≡ s.scale * p.scale = (let a = like.scales in let b = h.0.scales in λ i. a i * b i) in (
        record {
          ends = h.0.ends;
          weights = weights;
          scales = scales;
          traces = λ ok. record {
            first = r.trace;
            second = q.trace;
            of_first = s.trace;
            of_second = p.trace;
            one = like.traces ends;
            other = h.0.traces ok;
            whole = refl;
            left = refl;
          };
        },
        all_joined r s like ends qs ps h.1,
      )

  halted_like : (r s : Run) (f : Halted) → r.end ≡ Err f → IsLike P r s → IsLike (Both P Q) r s
  halted_like r s f is like = record {
    ends = like.ends;
    weights = like.weights;
    scales = like.scales;
    traces = λ ok. absurd (true≢false (sym ok ∙ ap is_ok is));
  }

  module _ (next others : Runner) (each : (n : ℕ) → AreLike Q (next n) (others n)) where
    onward_like : (r s : Run) (x : Result ℕ Halted) → r.end ≡ x → IsLike P r s → AreLike (Both P Q) (onward next r x) (onward others s x)
    onward_like r s (Ok n) is like = all_joined r s like (subst IsOk (sym is) refl) (next n) (others n) (each n)
    onward_like r s (Err f) is like = (halted_like r s f is like, tt)

    chain_like : (rs ss : List Run) → AreLike P rs ss → AreLike (Both P Q) (chain rs next) (chain ss others)
    chain_like [] [] h = tt
    chain_like [] (s ∷ ss) h = absurd h
    chain_like (r ∷ rs) [] h = absurd h
    chain_like (r ∷ rs) (s ∷ ss) h =
        let first : AreLike (Both P Q) (onward next r r.end) (onward others s s.end) =
        subst (λ (x : Result ℕ Halted). AreLike (Both P Q) (onward next r r.end) (onward others s x)) h.0.ends (onward_like r s r.end refl h.0) in
        zip_append (IsLike (Both P Q)) (onward next r r.end) (chain rs next) (onward others s s.end) (chain ss others) first (chain_like rs ss h.1)

pub leads_chain : (from to next others : Runner) → Leads from to → Leads next others → Leads (λ n. chain (from n) next) (λ n. chain (to n) others)
leads_chain from to next others a b = record {
  Leaves = Both a.Leaves b.Leaves;
  decide = both_decide a.Leaves b.Leaves a.free a.decide b.decide;
  free = both_free a.Leaves b.Leaves a.free b.free;
  like = λ n. chain_like a.Leaves b.Leaves next others b.like (from n) (to n) (a.like n);
}

-- ---- a guard, and what follows as its value says

abbrev side : Left → Left → Bool → Left
side P Q true = P
side P Q false = Q

record Chosen (P Q : Left) (t u : Trace) : Type 0 where
  value : ValueTree
  rest : Trace
  of_rest : Trace
  later : side P Q (truth value) rest of_rest
  whole : t ≡ value ∷ rest
  left : u ≡ value ∷ of_rest

module _ (P Q : Left) where
  side_free : AreFree P → AreFree Q → (b : Bool) → AreFree (side P Q b)
  side_free one other true = one
  side_free one other false = other

  side_decide : Decides P → Decides Q → (b : Bool) → Decides (side P Q b)
  side_decide one other true = one
  side_decide one other false = other

  -- as it stands behind another value and another rest, which are the same
  moved_side : (v w : ValueTree) (s t u : Trace) → v ≡ w → s ≡ t → side P Q (truth w) t u → side P Q (truth v) s u
  moved_side v w s t u value rest h = subst (λ (x : Trace). side P Q (truth v) x u) (sym rest) (subst (λ (y : ValueTree). side P Q (truth y) t u) (sym value) h)

  chosen_free : AreFree P → AreFree Q → AreFree (Chosen P Q)
  chosen_free one other t s u v a b =
      let whole : a.value ∷ (a.rest ++ s) ≡ b.value ∷ b.rest = sym (ap (λ (x : Trace). x ++ s) a.whole) ∙ b.whole in
      let value : a.value ≡ b.value = cc in
      let rest : a.rest ++ s ≡ b.rest = cc in
      side_free one other (truth a.value) a.rest s a.of_rest b.of_rest a.later (moved_side a.value b.value (a.rest ++ s) b.rest b.of_rest value rest b.later)

  chosen_decide : Decides P → Decides Q → Decides (Chosen P Q)
  chosen_decide one other t u v a b =
      let whole : a.value ∷ a.rest ≡ b.value ∷ b.rest = sym a.whole ∙ b.whole in
      let value : a.value ≡ b.value = cc in
      let rest : a.rest ≡ b.rest = cc in
      let left = side_decide one other (truth a.value) a.rest a.of_rest b.of_rest a.later (moved_side a.value b.value a.rest b.rest b.of_rest value rest b.later) in
      a.left ∙ (λ i. value i ∷ left i) ∙ sym b.left

  module _ (n k : ℕ) (w : Weighted) where
    all_chosen : (qs ps : List Run) → AreLike (side P Q (truth w.value)) qs ps
        → AreLike (Chosen P Q) (map (joined (choice_run shown n k w)) qs) (map (joined (choice_run shown n k w)) ps)
    all_chosen [] [] h = tt
    all_chosen [] (p ∷ ps) h = absurd h
    all_chosen (q ∷ qs) [] h = absurd h
    all_chosen (q ∷ qs) (p ∷ ps) h = (
      record {
        ends = h.0.ends;
        weights = ap (λ m. w.weight * m) h.0.weights;
        scales = ap (λ m. k * m) h.0.scales;
        traces = λ ok. record { value = w.value; rest = q.trace; of_rest = p.trace; later = h.0.traces ok; whole = refl; left = refl };
      },
      all_chosen qs ps h.1,
    )

  module _ (n : ℕ) (next others : ValueTree → List Run) (each : (v : ValueTree) → AreLike (side P Q (truth v)) (next v) (others v)) where
    abbrev chosen : (ValueTree → List Run) → ℕ → Weighted → List Run
    chosen way k w = map (joined (choice_run shown n k w)) (way w.value)

    choices_like : (k : ℕ) (ws : List Weighted) → AreLike (Chosen P Q) (flat_map (chosen next k) ws) (flat_map (chosen others k) ws)
    choices_like k [] = tt
    choices_like k (w ∷ ws) =
        zip_append (IsLike (Chosen P Q)) (chosen next k w) (flat_map (chosen next k) ws) (chosen others k w) (flat_map (chosen others k) ws)
        (all_chosen n k w (next w.value) (others w.value) (each w.value)) (choices_like k ws)

    branched_like : (g : Tried) → AreLike (Chosen P Q) (branched shown n next g) (branched shown n others g)
    branched_like (Ok ws) = choices_like (total ws) ws
    branched_like (Err f) = (record { ends = refl; weights = refl; scales = refl; traces = λ ok. absurd (true≢false (sym ok)) }, tt)

side_like : (P Q : Left) (b : Bool) (rs qs us vs : List Run) → AreLike P rs us → AreLike Q qs vs
    → AreLike (side P Q b) (if b then rs else qs) (if b then us else vs)
side_like P Q true rs qs us vs h k = h
side_like P Q false rs qs us vs h k = k

module _ (guard : ℕ → Tried) where
  pub leads_guarded : (taken left others rest : Runner) → Leads taken others → Leads left rest → Leads (guarded guard taken left) (guarded guard others rest)
  leads_guarded taken left others rest a b = record {
    Leaves = Chosen a.Leaves b.Leaves;
    decide = chosen_decide a.Leaves b.Leaves a.decide b.decide;
    free = chosen_free a.Leaves b.Leaves a.free b.free;
    like = λ n.
        branched_like a.Leaves b.Leaves n (λ v. if truth v then taken n else left n) (λ v. if truth v then others n else rest n)
        (λ v. side_like a.Leaves b.Leaves (truth v) (taken n) (left n) (others n) (rest n) (a.like n) (b.like n)) (guard n);
  }

  pub leads_looped : (at : ℕ) (body other : Runner) → Leads body other → (k : ℕ) → Leads (looped k guard at body) (looped k guard at other)
  leads_looped at body other l zero =
      leads_guarded (λ n. stopped LoopBound at) stay (λ n. stopped LoopBound at) stay (leads_itself (λ n. stopped LoopBound at) (stopped_splits at))
      (leads_itself stay stay_splits)
  leads_looped at body other l (suc k) =
      leads_guarded (λ n. chain (body n) (looped k guard at body)) stay (λ n. chain (other n) (looped k guard at other)) stay
      (leads_chain body other (looped k guard at body) (looped k guard at other) l (leads_looped at body other l k)) (leads_itself stay stay_splits)

-- ---- where one of two is silent, so is the other

pub if_leads : (a b : Bool) (from to : Runner) → (a ≡ true → b ≡ true) → SameHushed from to → Splits from → (b ≡ false → Leads from to)
    → Leads (λ n. if a then hushed (from n) else from n) (λ n. if b then hushed (to n) else to n)
if_leads true true from to more same splits inner =
    runs_as (λ n. hushed (from n)) (λ n. hushed (from n)) (λ n. hushed (to n)) same (leads_itself (λ n. hushed (from n)) (hushed_splits from))
if_leads true false from to more same splits inner = absurd (true≢false (sym (more refl)))
if_leads false true from to more same splits inner = runs_as from (λ n. hushed (from n)) (λ n. hushed (to n)) same (leads_hushed from splits)
if_leads false false from to more same splits inner = inner refl
