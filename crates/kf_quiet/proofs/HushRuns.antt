-- The joint of a program with a quiet block is the program's own with other traces: what is left of a run's trace is decided by the whole
-- trace. For no trace of a block goes on in another, so each block's part of it is known.
use Rattle.std.proofs.Common.{◌≡◌, ℕ, ◌+◌, ◌*◌, ◌/◌, ◌-◌, ◌≤◌, Bool, true, false, List, [], ◌∷◌, ◌++◌, map, take, drop}
use Rattle.std.proofs.Common.{if◌then◌else◌, Result, Ok, Err, inl, inr, refl, sym, ap, subst, ◌∙◌, arith, true≢false}
use Rattle.std.specs.Prelude.{is_ok, IsOk}
use Rattle.std.specs.Cmp.Lexicographic.{pointwise}
use Rattle.std.specs.List.{AllZip}
use Rattle.std.proofs.lemmas.List.{append_cancel_left, map-id, take-append-drop, drop-drop}
use Rattle.kf_value.specs.Types.{TypeTree}
use Rattle.kf_value.specs.Values.{is_equal}
use Rattle.kf_column.proofs.AtMostOne.{In}
use Rattle.kf_core.specs.Joint.{Cell, cell_of, cells, joint_of, target_number}
use Rattle.kf_core.specs.Programs.{ProgramTree}
use Rattle.kf_core.specs.Runs.{Run, Halted, joined, chain, all_runs, declared, copied, program_runs}
use Rattle.kf_core.specs.Scale.{scale_of}
use Rattle.kf_core.specs.Sts.{StTree, sts}
use Rattle.kf_core.specs.SupportLaws.{RunsChain}
use Rattle.kf_core.proofs.Stores.{lists_decide}
use Rattle.kf_core.specs.Each.{onward}
use Rattle.kf_silent.specs.Quiet.{hushed, quiet_joint}
use Rattle.kf_silent.specs.Paths.{quiet_runs}
use Rattle.kf_push.proofs.CellWeights.{Trace}
use Rattle.kf_push.proofs.CellsFrom.{each_in}
use Rattle.kf_push.proofs.Declaring.{declared_silent}
use Rattle.kf_push.proofs.Members.{ending}
use Rattle.kf_push.proofs.Splitting.{Splits, block_splits}
use Rattle.kf_push.proofs.TracesJoined.{same_front}

-- ---- what is left of a trace

-- what is left is decided by the trace
abbrev pub Decides : (Trace → Trace → Type 0) → Type 0
Decides P = (t u v : Trace) → P t u → P t v → u ≡ v

-- none of the traces goes on in another
abbrev pub AreFree : (Trace → Trace → Type 0) → Type 0
AreFree P = (t s u v : Trace) → P t u → P (t ++ s) v → s ≡ []

-- one trace behind another, of each what is left of it
pub record Both (P Q : Trace → Trace → Type 0) (t u : Trace) : Type 0 where
  pub first : Trace
  pub second : Trace
  pub of_first : Trace
  pub of_second : Trace
  pub one : P first of_first
  pub other : Q second of_second
  pub whole : t ≡ first ++ second
  pub left : u ≡ of_first ++ of_second

module _ (P Q : Trace → Trace → Type 0) (one : Decides P) (free : AreFree P) (other : Decides Q) where
  pub both_decide : Decides (Both P Q)
  both_decide t u v a b =
      let whole : a.first ++ a.second ≡ b.first ++ b.second = sym a.whole ∙ b.whole in
      let first : a.first ≡ b.first =
      same_front a.first b.first a.second b.second
      (λ w e. free a.first w a.of_first b.of_first a.one (subst (λ (s : Trace). P s b.of_first) e b.one))
      (λ w e. free b.first w b.of_first a.of_first b.one (subst (λ (s : Trace). P s a.of_first) e a.one)) whole in
      let second : a.second ≡ b.second =
      append_cancel_left a.first a.second b.second (whole ∙ ap (λ (s : Trace). s ++ b.second) (sym first)) in
      let left : a.of_first ≡ b.of_first = one a.first a.of_first b.of_first a.one (subst (λ (s : Trace). P s b.of_first) (sym first) b.one) in
      let right : a.of_second ≡ b.of_second =
      other a.second a.of_second b.of_second a.other (subst (λ (s : Trace). Q s b.of_second) (sym second) b.other) in
      a.left ∙ (λ i. left i ++ right i) ∙ sym b.left

-- ---- runs that differ in their traces

-- these differ at most in their traces, of which the one is left of the other where they end
pub record IsLike (P : Trace → Trace → Type 0) (r q : Run) : Type 0 where
  pub ends : r.end ≡ q.end
  pub weights : r.weight ≡ q.weight
  pub scales : r.scale ≡ q.scale
  pub traces : IsOk r.end → P r.trace q.trace

abbrev pub AreLike : (Trace → Trace → Type 0) → List Run → List Run → Type 0
AreLike P rs qs = AllZip (IsLike P) rs qs

module _ {X Y : Type 0} (R : X → Y → Type 0) where
  zip_append : (xs us : List X) (ys vs : List Y) → AllZip R xs ys → AllZip R us vs → AllZip R (xs ++ us) (ys ++ vs)
  zip_append [] us [] vs h k = k
  zip_append [] us (y ∷ ys) vs h k = absurd h
  zip_append (x ∷ xs) us [] vs h k = absurd h
  zip_append (x ∷ xs) us (y ∷ ys) vs h k = (h.0, zip_append xs us ys vs h.1 k)

module _ (P Q : Trace → Trace → Type 0) where
  module _ (r s : Run) (like : IsLike P r s) (n : ℕ) (ends : r.end ≡ Ok n) where
    joined_like : (q p : Run) → IsLike Q q p → IsLike (Both P Q) (joined r q) (joined s p)
    joined_like q p h = record {
      ends = h.ends;
      weights = (let a = like.weights in let b = h.weights in λ i. a i * b i);
      scales = (let a = like.scales in let b = h.scales in λ i. a i * b i);
      traces = λ ok. record {
        first = r.trace;
        second = q.trace;
        of_first = s.trace;
        of_second = p.trace;
        one = like.traces (subst IsOk (sym ends) refl);
        other = h.traces ok;
        whole = refl;
        left = refl;
      };
    }

    all_joined_like : (qs ps : List Run) → AreLike Q qs ps → AreLike (Both P Q) (map (joined r) qs) (map (joined s) ps)
    all_joined_like [] [] h = tt
    all_joined_like [] (p ∷ ps) h = absurd h
    all_joined_like (q ∷ qs) [] h = absurd h
    all_joined_like (q ∷ qs) (p ∷ ps) h = (joined_like q p h.0, all_joined_like qs ps h.1)

  halted_like : (r s : Run) (f : Halted) → r.end ≡ Err f → IsLike P r s → IsLike (Both P Q) r s
  halted_like r s f is like = record {
    ends = like.ends;
    weights = like.weights;
    scales = like.scales;
    traces = λ ok. absurd (true≢false (sym ok ∙ ap is_ok is));
  }

  module _ (next others : ℕ → List Run) (each : (n : ℕ) → AreLike Q (next n) (others n)) where
    onward_like : (r s : Run) (x : Result ℕ Halted) → r.end ≡ x → IsLike P r s → AreLike (Both P Q) (onward next r x) (onward others s x)
    onward_like r s (Ok n) is like = all_joined_like r s like n is (next n) (others n) (each n)
    onward_like r s (Err f) is like = (halted_like r s f is like, tt)

    pub chain_like : (rs ss : List Run) → AreLike P rs ss → AreLike (Both P Q) (chain rs next) (chain ss others)
    chain_like [] [] h = tt
    chain_like [] (s ∷ ss) h = absurd h
    chain_like (r ∷ rs) [] h = absurd h
    chain_like (r ∷ rs) (s ∷ ss) h =
        let like = h.0 in
        let first : AreLike (Both P Q) (onward next r r.end) (onward others s s.end) =
        subst (λ (x : Result ℕ Halted). AreLike (Both P Q) (onward next r r.end) (onward others s x)) like.ends (onward_like r s r.end refl like) in
        zip_append (IsLike (Both P Q)) (onward next r r.end) (chain rs next) (onward others s s.end) (chain ss others) first (chain_like rs ss h.1)

-- ---- runs of which what is left is a function of the trace

-- the traces of some runs
abbrev pub TraceOf : (ℕ → List Run) → Trace → Type 0
TraceOf from t = (n : ℕ) × (r : Run) × In r (from n) × IsOk r.end × (r.trace ≡ t)

abbrev pub Turned : (Trace → Type 0) → (Trace → Trace) → Trace → Trace → Type 0
Turned D h t u = D t × (u ≡ h t)

abbrev pub with_trace : (Trace → Trace) → Run → Run
with_trace h r = record { trace = h r.trace; end = r.end; weight = r.weight; scale = r.scale }

module _ (D : Trace → Type 0) (h : Trace → Trace) where
  pub turned_decide : Decides (Turned D h)
  turned_decide t u v a b = a.1 ∙ sym b.1

  turned_like : (rs : List Run) → ((r : Run) → In r rs → IsOk r.end → D r.trace) → AreLike (Turned D h) rs (map (with_trace h) rs)
  turned_like [] all = tt
  turned_like (r ∷ rs) all =
      (record { ends = refl; weights = refl; scales = refl; traces = λ ok. (all r (inl refl) ok, refl) }, turned_like rs (λ q here. all q (inr here)))

module _ (from : ℕ → List Run) (h : Trace → Trace) where
  pub block_like : (n : ℕ) → AreLike (Turned (TraceOf from) h) (from n) (map (with_trace h) (from n))
  block_like n = turned_like (TraceOf from) h (from n) (λ r here ok. (n, r, here, ok, refl))

  pub block_free : Splits from → AreFree (Turned (TraceOf from) h)
  block_free splits t s u v ((n, r, here, ok, is), e) ((m, q, there, good, goes), e') =
      splits n m r q s here there ok good (goes ∙ ap (λ (w : Trace). w ++ s) (sym is))

same_runs : (rs : List Run) → map (with_trace (λ t. t)) rs ≡ rs
same_runs rs = map-id rs

-- ---- the program

module _ (ts : List TypeTree) (turns : ℕ) where
  abbrev block : List StTree → ℕ → List Run
  block xs n = all_runs ts turns (sts xs) n

  abbrev same : Trace → Trace
  same t = t

  abbrev none : Trace → Trace
  none t = []

  abbrev Seen : List StTree → Trace → Trace → Type 0
  Seen xs = Turned (TraceOf (block xs)) same

  abbrev Unseen : List StTree → Trace → Trace → Type 0
  Unseen xs = Turned (TraceOf (block xs)) none

  seen_like : (xs : List StTree) (n : ℕ) → AreLike (Seen xs) (block xs n) (block xs n)
  seen_like xs n = subst (AreLike (Seen xs) (block xs n)) (same_runs (block xs n)) (block_like (block xs) same n)

  -- a part seen, a part that isn't, and the rest
  module _ (xs ys zs : List StTree) where
    abbrev Left : Trace → Trace → Type 0
    Left = Both (Seen xs) (Both (Unseen ys) (Seen zs))

    left_decide : Decides Left
    left_decide =
        both_decide (Seen xs) (Both (Unseen ys) (Seen zs)) (turned_decide (TraceOf (block xs)) same)
        (block_free (block xs) same (block_splits ts turns (sts xs)))
        (both_decide (Unseen ys) (Seen zs) (turned_decide (TraceOf (block ys)) none) (block_free (block ys) none (block_splits ts turns (sts ys)))
        (turned_decide (TraceOf (block zs)) same))

    abbrev parts : ℕ → List Run
    parts n = chain (block xs n) (λ m. chain (block ys m) (block zs))

    abbrev left_parts : ℕ → List Run
    left_parts n = chain (block xs n) (λ m. chain (hushed (block ys m)) (block zs))

    parts_like : (n : ℕ) → AreLike Left (parts n) (left_parts n)
    parts_like n =
        chain_like (Seen xs) (Both (Unseen ys) (Seen zs)) (λ m. chain (block ys m) (block zs)) (λ m. chain (hushed (block ys m)) (block zs))
        (λ m. chain_like (Unseen ys) (Seen zs) (block zs) (block zs) (seen_like zs) (block ys m) (hushed (block ys m)) (block_like (block ys) none m))
        (block xs n) (block xs n) (seen_like xs n)

    parts_are : RunsChain → (n : ℕ) → block (xs ++ (ys ++ zs)) n ≡ parts n
    parts_are sequence n = sequence ts turns xs (ys ++ zs) n ∙ (λ i. chain (block xs n) (λ m. sequence ts turns ys zs m i))

-- ---- cells

-- so do these cells
pub record AreTurned (P : Trace → Trace → Type 0) (c d : Cell) : Type 0 where
  pub values : c.value ≡ d.value
  pub weights : c.weight ≡ d.weight
  pub traces : P c.trace d.trace

module _ (number : ℕ → ℕ) (scale : ℕ) (P : Trace → Trace → Type 0) where
  ended_turned : (r q : Run) → r.weight ≡ q.weight → r.scale ≡ q.scale → (x : Result ℕ Halted) → (IsOk x → P r.trace q.trace)
      → AllZip (AreTurned P) (cell_of number scale (ending r x)) (cell_of number scale (ending q x))
  ended_turned r q weights scales (Ok n) told = (record { values = refl; weights = λ i. weights i * scale / scales i; traces = told refl }, tt)
  ended_turned r q weights scales (Err f) told = tt

  pub cells_turned : (rs qs : List Run) → AreLike P rs qs → AllZip (AreTurned P) (cells number scale rs) (cells number scale qs)
  cells_turned [] [] h = tt
  cells_turned [] (q ∷ qs) h = absurd h
  cells_turned (r ∷ rs) [] h = absurd h
  cells_turned (r ∷ rs) (q ∷ qs) h =
      let like = h.0 in
      let first : AllZip (AreTurned P) (cell_of number scale r) (cell_of number scale q) =
      subst (λ (x : Result ℕ Halted). AllZip (AreTurned P) (cell_of number scale r) (cell_of number scale (ending q x))) like.ends
      (ended_turned r q like.weights like.scales r.end like.traces) in
      zip_append (AreTurned P) (cell_of number scale r) (cells number scale rs) (cell_of number scale q) (cells number scale qs) first
      (cells_turned rs qs h.1)

-- the cells with other traces
abbrev pub turned : (Trace → Trace) → List Cell → List Cell
turned f cs = map (λ c. record { trace = f c.trace; value = c.value; weight = c.weight }) cs

-- the traces of these cells are this function of the traces of those
abbrev Follows : (Trace → Trace) → List Cell → List Cell → Type 0
Follows f cs ds = AllZip (AreTurned (λ t u. u ≡ f t)) cs ds

-- the function, with u at t
abbrev chosen : Trace → Trace → (Trace → Trace) → Trace → Trace
chosen t u f s = if pointwise is_equal s t then u else f s

chosen_here : (t u : Trace) (f : Trace → Trace) (s : Trace) → s ≡ t → chosen t u f s ≡ u
chosen_here t u f s is = ap (λ (b : Bool). if b then u else f s) ((lists_decide s t).1 is)

module _ (t u : Trace) (f : Trace → Trace) (s v : Trace) (is : v ≡ f s) (same : s ≡ t → v ≡ u) where
  by_test : (b : Bool) → (b ≡ true → s ≡ t) → v ≡ (if b then u else f s)
  by_test true told = same (told refl)
  by_test false told = is

  chosen_there : v ≡ chosen t u f s
  chosen_there = by_test (pointwise is_equal s t) (λ h. (lists_decide s t).0 h)

module _ (P : Trace → Trace → Type 0) (decide : Decides P) where
  still_follows : (t u : Trace) (f : Trace → Trace) → P t u → (cs ds : List Cell) → AllZip (AreTurned P) cs ds → Follows f cs ds
      → Follows (chosen t u f) cs ds
  still_follows t u f told [] [] h k = tt
  still_follows t u f told [] (d ∷ ds) h k = absurd h
  still_follows t u f told (c ∷ cs) [] h k = absurd h
  still_follows t u f told (c ∷ cs) (d ∷ ds) h k = (
    record {
      values = k.0.values;
      weights = k.0.weights;
      traces = chosen_there t u f c.trace d.trace k.0.traces
          (λ (e : c.trace ≡ t). decide t d.trace u (subst (λ (s : Trace). P s d.trace) e h.0.traces) told);
    },
    still_follows t u f told cs ds h.1 k.1,
  )

  some_follows : (cs ds : List Cell) → AllZip (AreTurned P) cs ds → (f : Trace → Trace) × Follows f cs ds
  some_follows [] [] h = (λ t. t, tt)
  some_follows [] (d ∷ ds) h = absurd h
  some_follows (c ∷ cs) [] h = absurd h
  some_follows (c ∷ cs) (d ∷ ds) h =
      let rest = some_follows cs ds h.1 in
      let f = chosen c.trace d.trace rest.0 in (
        f,
        (
          record { values = h.0.values; weights = h.0.weights; traces = sym (chosen_here c.trace d.trace rest.0 c.trace refl) },
          still_follows c.trace d.trace rest.0 h.0.traces cs ds h.1 rest.1,
        ),
      )

follows_is : (f : Trace → Trace) (cs ds : List Cell) → Follows f cs ds → ds ≡ turned f cs
follows_is f [] [] h = refl
follows_is f [] (d ∷ ds) h = absurd h
follows_is f (c ∷ cs) [] h = absurd h
follows_is f (c ∷ cs) (d ∷ ds) h =
    let t = h.0.traces in
    let v = h.0.values in
    let w = h.0.weights in
    let rest = follows_is f cs ds h.1 in
    λ i. record { trace = t i; value = sym v i; weight = sym w i } ∷ rest i

-- ---- the joint of a program with a quiet block

abbrev Nothing : Trace → Trace → Type 0
Nothing = Turned (λ t. t ≡ []) (λ t. t)

nothing_free : AreFree Nothing
nothing_free t s u v a b = sym (ap (λ (w : Trace). w ++ s) a.0) ∙ b.0

module _ (sequence : RunsChain) (turns : ℕ) (p : ProgramTree) (from to : ℕ) (order : from ≤ to) where
  abbrev front : List StTree
  front = take (from - 0) (drop 0 p.body)

  abbrev middle : List StTree
  middle = take (to - from) (drop from p.body)

  abbrev rest : List StTree
  rest = drop to p.body

  abbrev AreLeft : Trace → Trace → Type 0
  AreLeft = Both Nothing (Left p.types turns front middle rest)

  are_decided : Decides AreLeft
  are_decided =
      both_decide Nothing (Left p.types turns front middle rest) (turned_decide (λ t. t ≡ []) (λ t. t)) nothing_free
      (left_decide p.types turns front middle rest)

  body_is : p.body ≡ front ++ (middle ++ rest)
  body_is =
      let total : from + (to - from) ≡ to = omega (arith, order) in
      let behind : drop (to - from) (drop from p.body) ≡ rest = drop-drop (to - from) from p.body ∙ ap (λ n. drop n p.body) total in
      let first : take from p.body ≡ front = ap (λ n. take n p.body) (omega arith) in
      sym (take-append-drop from p.body)
      ∙ ap (λ l. l ++ drop from p.body) first
      ∙ ap (λ l. front ++ l) (sym (take-append-drop (to - from) (drop from p.body)) ∙ ap (λ l. middle ++ l) behind)

  declared_like : AreLike Nothing (declared p.types 0 p.decls 0) (declared p.types 0 p.decls 0)
  declared_like =
      subst (AreLike Nothing (declared p.types 0 p.decls 0)) (same_runs (declared p.types 0 p.decls 0))
      (turned_like (λ t. t ≡ []) (λ t. t) (declared p.types 0 p.decls 0)
      (λ r here ok. each_in (λ q. q.trace ≡ []) (declared p.types 0 p.decls 0) r (declared_silent p.types 0 p.decls 0) here))

  runs_are : program_runs turns p
      ≡ chain (declared p.types 0 p.decls 0) (λ n. parts p.types turns front middle rest (copied p n))
  runs_are = λ i. chain (declared p.types 0 p.decls 0) (λ n. run_from (copied p n) i)
    where
      run_from : (n : ℕ) → all_runs p.types turns (sts p.body) n ≡ parts p.types turns front middle rest n
      run_from n = ap (λ l. all_runs p.types turns (sts l) n) body_is ∙ parts_are p.types turns front middle rest sequence n

  runs_like : AreLike AreLeft (program_runs turns p) (quiet_runs turns p from to)
  runs_like =
      subst (λ rs. AreLike AreLeft rs (quiet_runs turns p from to)) (sym runs_are)
      (chain_like Nothing (Left p.types turns front middle rest) (λ n. parts p.types turns front middle rest (copied p n))
      (λ n. left_parts p.types turns front middle rest (copied p n)) (λ n. parts_like p.types turns front middle rest (copied p n))
      (declared p.types 0 p.decls 0) (declared p.types 0 p.decls 0) declared_like)

  -- it is the whole program's, with other traces
  pub quiet_is : (f : Trace → Trace) × (quiet_joint turns p from to ≡ turned f (joint_of turns p))
  quiet_is =
      let zipped = cells_turned (target_number p) (scale_of turns p) AreLeft (program_runs turns p) (quiet_runs turns p from to) runs_like in
      let found = some_follows AreLeft are_decided (joint_of turns p) (quiet_joint turns p from to) zipped in
      (found.0, follows_is found.0 (joint_of turns p) (quiet_joint turns p from to) found.1)
