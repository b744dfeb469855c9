-- That a pass follows runs: it tells how those from the stores of its set end.
use Rattle.std.proofs.Common.{◌≡◌, ℕ, zero, suc, List, [], ◌∷◌, Option, Some, None, Ok, Err, ◌⊎◌, inl, inr, refl, sym, ap, subst, ◌∙◌, ◌↔◌, Bool, true, false, true≢false, ◌&&◌}
use Rattle.std.specs.Prelude.{is_ok, IsTrue}
use Rattle.std.specs.FinSet.{contains, contains-retain}
use Rattle.std.specs.FinMap.{nat_cmp-IsAntisymmetric}
use Rattle.kf_value.specs.Types.{TypeTree}
use Rattle.kf_value.specs.Values.{ValueTree}
use Rattle.kf_core.specs.Dxs.{DxTree}
use Rattle.kf_core.specs.Choices.{Weighted}
use Rattle.kf_core.specs.Runs.{Run, Halted, Tried, LoopBound, tried, place, replaced, stay, stopped, chain, assigned, branched, guarded, looped}
use Rattle.kf_core.specs.Results.{then_ok, each_ok}
use Rattle.kf_core.specs.Support.{StoreSet, Passed, step, same, assign_pass, can_be, where_guard, either_pass, guard_pass, bounded, loop_pass}
use Rattle.kf_core.proofs.Among.{Among, among_weaker, among_map, among_mapped, among_image}
use Rattle.kf_core.proofs.RunEnds.{End, HasEnd, Then, Picked, Side, on_true, on_false, on_fault, side, side_of, chain_ends, ends_chain, branched_ends, ends_branched, picks_true, picks_false}
use Rattle.kf_core.proofs.PassTells.{Tells, From, Lists, Holds, tells_same, then_tells, either_tells, each_tells, step_tells}
use Rattle.kf_core.specs.Each.{moved, moved_pass}
use Rattle.kf_core.specs.Leaks.{shown}

abbrev pub Follows : (StoreSet → Passed StoreSet) → (ℕ → List Run) → Type 0
Follows passed from = (ns : StoreSet) → Tells Holds (passed ns) (From Holds ns (λ n. HasEnd (from n)))

-- ---- ends of one run

value_of : ℕ → End → ℕ
value_of d (Ok n) = n
value_of d (Err f) = d

same_end : (n m : ℕ) → HasEnd (stay n) (Ok m) → n ≡ m
unfolding value_of
same_end n m (inl h) = ap (value_of n) h
same_end n m (inr h) = absurd h

stay_ends : (n m : ℕ) → n ≡ m → HasEnd (stay n) (Ok m)
stay_ends n m h = inl (λ i. Ok (h i))

not_both : (n : ℕ) (f : Halted) → ◌≡◌ {A = End} (Ok n) (Err f) → ⊥
not_both n f h = true≢false (ap is_ok h)

never_halts : (n : ℕ) (f : Halted) → HasEnd (stay n) (Err f) → ⊥
never_halts n f (inl h) = not_both n f h
never_halts n f (inr h) = h

-- ---- what each store leads to, in other words

module _ (T U : ℕ → End → Type 0) where
  pub from_same : ((n : ℕ) (e : End) → T n e → U n e) → (ns : StoreSet) (e : End) → From Holds ns T e → From Holds ns U e
  from_same to ns e r = (r.0, r.1, to r.0 e r.2)

-- ---- staying, and one after the other

pub stay_follows : Follows (λ ns. Ok ns) stay
stay_follows ns = (
  λ f r. never_halts r.0 f r.2,
  λ m. (λ c. (m, c, stay_ends m m refl), λ r. subst (Holds ns) (same_end r.0 m r.2) r.1),
)

module _ (f g : StoreSet → Passed StoreSet) (a b : ℕ → List Run) (first : Follows f a) (next : Follows g b) where
  chained : (ns : StoreSet) (e : End) → Then (From Holds ns (λ n. HasEnd (a n))) (λ n. HasEnd (b n)) e → From Holds ns (λ n. HasEnd (chain (a n) b)) e
  chained ns e r = (r.1.0, r.1.1, ends_chain b e (a r.1.0) (r.0, r.1.2, r.2))

  unchained : (ns : StoreSet) (e : End) → From Holds ns (λ n. HasEnd (chain (a n) b)) e → Then (From Holds ns (λ n. HasEnd (a n))) (λ n. HasEnd (b n)) e
  unchained ns e r = let t = chain_ends b e (a r.0) r.2 in (t.0, (r.0, r.1, t.1), t.2)

  pub chain_follows : Follows (λ ns. then_ok (f ns) g) (λ n. chain (a n) b)
  chain_follows ns =
      tells_same Holds (Then (From Holds ns (λ n. HasEnd (a n))) (λ n. HasEnd (b n))) (From Holds ns (λ n. HasEnd (chain (a n) b)))
      (chained ns) (unchained ns) (then_ok (f ns) g)
      (then_tells Holds Holds (From Holds ns (λ n. HasEnd (a n))) (λ n. HasEnd (b n)) (f ns) g (first ns) next)

-- ---- a choice in each store

module _ (leak : ValueTree → List ValueTree) (next : ℕ → ValueTree → List Run) (choose : ℕ → Tried) (passed : ℕ → Passed (List ℕ))
    (tells : (n : ℕ) → Tells Lists (passed n) (Picked (λ v. HasEnd (next n v)) (choose n))) where
  pub choice_follows : Follows (step passed) (λ n. branched leak n (next n) (choose n))
  choice_follows ns =
      tells_same Holds (From Holds ns (λ n. Picked (λ v. HasEnd (next n v)) (choose n))) (From Holds ns (λ n. HasEnd (branched leak n (next n) (choose n))))
      (from_same (λ n. Picked (λ v. HasEnd (next n v)) (choose n)) (λ n. HasEnd (branched leak n (next n) (choose n))) (λ n e. ends_branched leak n (next n) e (choose n)) ns)
      (from_same (λ n. HasEnd (branched leak n (next n) (choose n))) (λ n. Picked (λ v. HasEnd (next n v)) (choose n)) (λ n e. branched_ends leak n (next n) e (choose n)) ns)
      (step passed ns)
      (step_tells passed (λ n. Picked (λ v. HasEnd (next n v)) (choose n)) tells ns)

-- where some choice stays there
abbrev Stays : ℕ → Tried → End → Type 0
Stays n g e = Picked (λ v. HasEnd (stay n)) g e

same_halts : (n : ℕ) (ws : List Weighted) (f : Halted) → Among (λ w. HasEnd (stay n) (Err f)) ws → ⊥
same_halts n ws f h = never_halts n f (among_image (λ w. HasEnd (stay n) (Err f)) (λ (w : Weighted). w) ws h).2

same_tells : (n : ℕ) (g : Tried) → Tells Lists (same n g) (Stays n g)
same_tells n (Ok ws) = (
  same_halts n ws,
  λ m. (
    λ c. among_weaker (λ w. n ≡ m) (λ w. HasEnd (stay n) (Ok m)) (λ w. stay_ends n m) ws (among_map (λ k. k ≡ m) (λ (w : Weighted). n) ws c),
    λ h. among_mapped (λ k. k ≡ m) (λ (w : Weighted). n) ws (among_weaker (λ w. HasEnd (stay n) (Ok m)) (λ w. n ≡ m) (λ w. same_end n m) ws h),
  ),
)
same_tells n (Err f) = refl

pub observe_follows : (choose : ℕ → Tried) → Follows (step (λ n. same n (choose n))) (λ n. branched shown n (λ v. stay n) (choose n))
observe_follows choose = choice_follows shown (λ n v. stay n) choose (λ n. same n (choose n)) (λ n. same_tells n (choose n))

module _ (m n : ℕ) where
  there : Lists (m ∷ []) n → HasEnd (stay m) (Ok n)
  there (inl same) = stay_ends m n same
  there (inr h) = absurd h

move_tells : (at : ℕ) (found : Option ℕ) → Tells Lists (moved_pass at found) (HasEnd (moved at found))
move_tells at None = inl refl
move_tells at (Some m) = (never_halts m, λ n. (there m n, λ h. inl (same_end m n h)))

assign_tells : (at : ℕ) (go : ValueTree → Option ℕ) (g : Tried)
    → Tells Lists (then_ok g (each_ok (λ w. moved_pass at (go w.value)))) (Picked (λ v. HasEnd (moved at (go v))) g)
assign_tells at go (Ok ws) =
    each_tells (λ (w : Weighted). moved_pass at (go w.value)) (λ w. HasEnd (moved at (go w.value))) (λ w. move_tells at (go w.value)) ws
assign_tells at go (Err f) = refl

pub assign_follows : (leak : ValueTree → List ValueTree) (ts : List TypeTree) (i : ℕ) (d : DxTree) → Follows (assign_pass ts i d) (assigned leak ts i d)
assign_follows leak ts i d =
    choice_follows leak (λ n v. moved (place d) (replaced ts i v n)) (tried ts d)
    (λ n. then_ok (tried ts d n) (each_ok (λ w. moved_pass (place d) (replaced ts i w.value n))))
    (λ n. assign_tells (place d) (λ v. replaced ts i v n) (tried ts d n))

-- ---- guards

and_both : (a b : Bool) → IsTrue (a && b) → IsTrue a × IsTrue b
and_both true b h = (refl, h)
and_both false b h = absurd (true≢false (sym h))

both_and : (a b : Bool) → IsTrue a → IsTrue b → IsTrue (a && b)
both_and true b h k = k
both_and false b h k = absurd (true≢false (sym h))

holds_where : (b : Bool) (guard : ℕ → Tried) (ns : StoreSet) (n : ℕ) → Holds (where_guard b guard ns) n ↔ (Holds ns n × IsTrue (can_be b (guard n)))
holds_where b guard ns n =
    let e = contains-retain ns (λ k. can_be b (guard k)) n (λ x tied. ap (λ k. can_be b (guard k)) (sym (nat_cmp-IsAntisymmetric n x tied))) in (
      λ h. and_both (contains ns n) (can_be b (guard n)) (sym e ∙ h),
      λ h. e ∙ both_and (contains ns n) (can_be b (guard n)) h.0 h.1,
    )

-- the side that the guard's value takes
abbrev Guarded : (ℕ → Tried) → (ℕ → List Run) → (ℕ → List Run) → ℕ → End → Type 0
Guarded guard taken left n e = Picked (λ v. HasEnd (side (taken n) (left n) v)) (guard n) e

module _ (guard : ℕ → Tried) (taken left : ℕ → List Run) (ns : StoreSet) (e : End) where
  pub from_guarded : From Holds ns (Guarded guard taken left) e → From Holds ns (λ n. HasEnd (guarded guard taken left n)) e
  from_guarded = from_same (Guarded guard taken left) (λ n. HasEnd (guarded guard taken left n)) (λ n x. ends_branched shown n (side (taken n) (left n)) x (guard n)) ns e

  pub guarded_from : From Holds ns (λ n. HasEnd (guarded guard taken left n)) e → From Holds ns (Guarded guard taken left) e
  guarded_from = from_same (λ n. HasEnd (guarded guard taken left n)) (Guarded guard taken left) (λ n x. branched_ends shown n (side (taken n) (left n)) x (guard n)) ns e

  abbrev Taken : Type 0
  Taken = From Holds (where_guard true guard ns) (λ n. HasEnd (taken n)) e

  abbrev Left : Type 0
  Left = From Holds (where_guard false guard ns) (λ n. HasEnd (left n)) e

  sides_to : Taken ⊎ Left → From Holds ns (Guarded guard taken left) e
  sides_to (inl r) =
      let at = (holds_where true guard ns r.0).0 r.1 in
      (r.0, at.0, picks_true (taken r.0) (left r.0) e (guard r.0) at.1 r.2)
  sides_to (inr r) =
      let at = (holds_where false guard ns r.0).0 r.1 in
      (r.0, at.0, picks_false (taken r.0) (left r.0) e (guard r.0) at.1 r.2)

  sides_at : ((f : Halted) → From Holds ns (λ n. Stays n (guard n)) (Err f) → ⊥) → (n : ℕ) → Holds ns n → Side (guard n) (taken n) (left n) e → Taken ⊎ Left
  sides_at safe n c (on_true can h) = inl (n, (holds_where true guard ns n).1 (c, can), h)
  sides_at safe n c (on_false can h) = inr (n, (holds_where false guard ns n).1 (c, can), h)
  sides_at safe n c (on_fault f is h) = absurd (safe f (n, c, subst (λ g. Stays n g (Err f)) (sym is) refl))

  to_sides : ((f : Halted) → From Holds ns (λ n. Stays n (guard n)) (Err f) → ⊥) → From Holds ns (Guarded guard taken left) e → Taken ⊎ Left
  to_sides safe r = sides_at safe r.0 r.1 (side_of (taken r.0) (left r.0) e (guard r.0) r.2)

fault_shared : (n : ℕ) (T : ValueTree → End → Type 0) (f : Halted) (g : Tried) → Stays n g (Err f) → Picked T g (Err f)
fault_shared n T f (Ok ws) h = absurd (same_halts n ws f h)
fault_shared n T f (Err other) h = h

module _ (guard : ℕ → Tried) (taken left : ℕ → List Run) (ns : StoreSet) where
  guard_joins : (p a b : Passed StoreSet) → Tells Holds p (From Holds ns (λ n. Stays n (guard n)))
      → Tells Holds a (From Holds (where_guard true guard ns) (λ n. HasEnd (taken n)))
      → Tells Holds b (From Holds (where_guard false guard ns) (λ n. HasEnd (left n)))
      → Tells Holds (then_ok p (λ _. either_pass a b)) (From Holds ns (Guarded guard taken left))
  guard_joins (Ok x) a b h on off =
      tells_same Holds (λ e. Taken guard taken left ns e ⊎ Left guard taken left ns e) (From Holds ns (Guarded guard taken left))
      (sides_to guard taken left ns) (λ e. to_sides guard taken left ns e h.0) (either_pass a b)
      (either_tells (Taken guard taken left ns) (Left guard taken left ns) a b on off)
  guard_joins (Err f) a b h on off = (h.0, h.1, fault_shared h.0 (λ v. HasEnd (side (taken h.0) (left h.0) v)) f (guard h.0) h.2)

module _ (guard : ℕ → Tried) (f g : StoreSet → Passed StoreSet) (a b : ℕ → List Run) (on : Follows f a) (off : Follows g b) where
  pub guard_follows : Follows (guard_pass guard f g) (guarded guard a b)
  guard_follows ns =
      tells_same Holds (From Holds ns (Guarded guard a b)) (From Holds ns (λ n. HasEnd (guarded guard a b n)))
      (from_guarded guard a b ns) (guarded_from guard a b ns) (guard_pass guard f g ns)
      (guard_joins guard a b ns (step (λ n. same n (guard n)) ns) (f (where_guard true guard ns)) (g (where_guard false guard ns))
      (step_tells (λ n. same n (guard n)) (λ n. Stays n (guard n)) (λ n. same_tells n (guard n)) ns)
      (on (where_guard true guard ns)) (off (where_guard false guard ns)))

-- ---- loops

-- behind the last turn
abbrev Last : ℕ → (ℕ → Tried) → ℕ → End → Type 0
Last at guard = Guarded guard (λ n. stopped LoopBound at) stay

-- the store itself, or a fault there
abbrev Bound : ℕ → ℕ → Tried → End → Type 0
Bound at n g (Ok m) = n ≡ m
Bound at n g (Err f) = Picked (λ v. HasEnd (side (stopped LoopBound at) (stay n) v)) g (Err f)

not_chosen : (ws : List Weighted) (f : Halted) → ◌≡◌ {A = Tried} (Ok ws) (Err f) → ⊥
not_chosen ws f h = true≢false (ap is_ok h)

module _ (at n : ℕ) where
  bound_safe : (ws : List Weighted) (f : Halted) → can_be true (Ok ws) ≡ false → Side (Ok ws) (stopped LoopBound at) (stay n) (Err f) → ⊥
  bound_safe ws f is (on_true can h) = true≢false (sym can ∙ is)
  bound_safe ws f is (on_false can h) = never_halts n f h
  bound_safe ws f is (on_fault other same h) = not_chosen ws other same

  -- the stores listed where the guard can be true, and where it can't
  bound_by : (ws : List Weighted) (b : Bool) → can_be true (Ok ws) ≡ b
      → Tells Lists (elim b as (λ _. Passed (List ℕ)) [ true ↦ Err (record { cause = LoopBound; at = at }) | false ↦ Ok (n ∷ []) ]) (Bound at n (Ok ws))
  bound_by ws true is = picks_true (stopped LoopBound at) (stay n) (Err (record { cause = LoopBound; at = at })) (Ok ws) is (inl refl)
  bound_by ws false is = (
    λ f h. bound_safe ws f is (side_of (stopped LoopBound at) (stay n) (Err f) (Ok ws) h),
    λ m. (only m, λ h. inl h),
  )
    where
      only : (m : ℕ) → Lists (n ∷ []) m → n ≡ m
      only m (inl h) = h
      only m (inr h) = absurd h

  bound_tells : (g : Tried) → Tells Lists (bounded at n g) (Bound at n g)
  bound_tells (Ok ws) = bound_by ws (can_be true (Ok ws)) refl
  bound_tells (Err f) = refl

  -- who ends behind the last turn is in the store, where the guard can be false
  last_end : (m : ℕ) (g : Tried) → Side g (stopped LoopBound at) (stay n) (Ok m) → (n ≡ m) × IsTrue (can_be false g)
  last_end m g (on_true can h) = absurd (stopped_end m h)
    where
      stopped_end : (m : ℕ) → HasEnd (stopped LoopBound at) (Ok m) → ⊥
      stopped_end m (inl h) = not_both m (record { cause = LoopBound; at = at }) (sym h)
      stopped_end m (inr h) = h
  last_end m g (on_false can h) = (same_end n m h, can)
  last_end m g (on_fault f is h) = absurd (not_both m f (sym h))

module _ (guard : ℕ → Tried) (at : ℕ) (ns : StoreSet) where
  last_stays : (m : ℕ) → Holds (where_guard false guard ns) m → From Holds ns (Last at guard) (Ok m)
  last_stays m c =
      let r = (holds_where false guard ns m).0 c in
      (m, r.0, picks_false (stopped LoopBound at) (stay m) (Ok m) (guard m) r.1 (stay_ends m m refl))

  last_leaves : (m : ℕ) → From Holds ns (Last at guard) (Ok m) → Holds (where_guard false guard ns) m
  last_leaves m r =
      let l = last_end at r.0 m (guard r.0) (side_of (stopped LoopBound at) (stay r.0) (Ok m) (guard r.0) r.2) in
      subst (Holds (where_guard false guard ns)) l.0 ((holds_where false guard ns r.0).1 (r.1, l.1))

  last_tells : (p : Passed StoreSet) → Tells Holds p (From Holds ns (λ n. Bound at n (guard n)))
      → Tells Holds (then_ok p (λ _. Ok (where_guard false guard ns))) (From Holds ns (Last at guard))
  last_tells (Ok x) h = (λ f r. h.0 f r, λ m. (last_stays m, last_leaves m))
  last_tells (Err f) h = h

module _ (guard : ℕ → Tried) (at : ℕ) (body : StoreSet → Passed StoreSet) (turn : ℕ → List Run) (follows : Follows body turn) where
  pub loop_follows : (k : ℕ) → Follows (loop_pass k guard at body) (looped k guard at turn)
  loop_follows zero ns =
      tells_same Holds (From Holds ns (Last at guard)) (From Holds ns (λ n. HasEnd (guarded guard (λ n. stopped LoopBound at) stay n)))
      (from_guarded guard (λ n. stopped LoopBound at) stay ns) (guarded_from guard (λ n. stopped LoopBound at) stay ns) (loop_pass zero guard at body ns)
      (last_tells guard at ns (step (λ n. bounded at n (guard n)) ns)
      (step_tells (λ n. bounded at n (guard n)) (λ n. Bound at n (guard n)) (λ n. bound_tells at n (guard n)) ns))
  loop_follows (suc k) ns =
      guard_follows guard (λ ns. then_ok (body ns) (loop_pass k guard at body)) (λ ns. Ok ns) (λ n. chain (turn n) (looped k guard at turn)) stay
      (chain_follows body (loop_pass k guard at body) turn (looped k guard at turn) follows (loop_follows k))
      stay_follows ns
