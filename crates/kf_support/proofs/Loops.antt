-- Loops turn by turn, beside the stores that have left them.
use Rattle.std.proofs.Common.{◌≡◌, ℕ, zero, suc, ◌*◌, ◌<◌, List, [], ◌∷◌, Ok, Err, refl, sym, ap, subst, ◌∙◌, ◌↔◌, Bool, true, false, true≢false}
use Rattle.std.specs.List.{AllByRecursion as Each}
use Rattle.std.specs.FinSet.{from_list, union}
use Rattle.std.specs.Map.{keys_of}
use Rattle.kf_core.specs.Choices.{Weighted}
use Rattle.kf_core.specs.Runs.{Run, Tried, LoopBound, stay, stopped, chain, guarded, looped}
use Rattle.kf_core.specs.Results.{then_ok}
use Rattle.kf_core.specs.Support.{StoreSet, Passed, same, can_be, where_guard, either_pass, bounded, loop_pass}
use Rattle.kf_core.proofs.Scales.{Weighty}
use Rattle.kf_core.specs.Each.{each_pass}
use Rattle.kf_support.specs.Carried.{Reached, carry_step, guard_lead, last_lead, carry_loop}
use Rattle.kf_support.proofs.Dividing.{bound}
use Rattle.kf_support.proofs.Placing.{through, back, beside, each_same, each_same_where, Good, Nice, Fits, Led, Works, Positive, Lands, Stepped, stepped, good_positive}
use Rattle.kf_support.proofs.Leading.{Leads, leads_chain, leads_stay, leads_nice, guard_to, leads_guarded, stays_if}
use Rattle.kf_support.proofs.Sets.{set_of, NotAt, not_at_nice, Out, keys_out, union_out, same_sets}
use Rattle.kf_support.proofs.Following.{SameFault, step_faults, Scales, Told, Carries, step_is, alone}
use Rattle.kf_support.proofs.Guards.{guard_positive, guard_out, guard_set, guard_stepped, guard_step_faults, guard_fits}

pub lands_same : (x : Led) (Q R : ℕ → ℕ → Type 0) (v : ℕ) → ((n w : ℕ) → Q n w ↔ R n w) → Lands x Q v ↔ Lands x R v
lands_same (Ok to) Q R v same = each_same (λ n. Q n (v * to.1)) (λ n. R n (v * to.1)) (λ n. same n (v * to.1)) to.0
lands_same (Err f) Q R v same = (λ h. h, λ h. h)

-- ---- behind the last turn

module _ (at n : ℕ) where
  abbrev last_to : Tried → Led
  last_to g = then_ok (bounded at n g) (λ _. guard_to false n g)

  abbrev bounded_by : Bool → Passed (List ℕ)
  bounded_by t = elim t as (λ _. Passed (List ℕ)) [ true ↦ Err (record { cause = LoopBound; at = at }) | false ↦ Ok (n ∷ []) ]

  last_faults_by : (ws : List Weighted) (t : Bool) → SameFault (then_ok (bounded_by t) (λ _. guard_to false n (Ok ws))) (bounded_by t)
  last_faults_by ws true = refl
  last_faults_by ws false = tt

  last_faults : (g : Tried) → SameFault (last_to g) (bounded at n g)
  last_faults (Ok ws) = last_faults_by ws (can_be true (Ok ws))
  last_faults (Err f) = refl

  last_positive_by : (ws : List Weighted) (t : Bool) → Weighty (Ok ws) → Positive (then_ok (bounded_by t) (λ _. guard_to false n (Ok ws)))
  last_positive_by ws true h = tt
  last_positive_by ws false h = guard_positive false n (Ok ws) h

  last_positive : (g : Tried) → Weighty g → Positive (last_to g)
  last_positive (Ok ws) h = last_positive_by ws (can_be true (Ok ws)) h
  last_positive (Err f) h = tt

  last_is_by : (ws : List Weighted) (t : Bool) → Works (then_ok (bounded_by t) (λ _. guard_to false n (Ok ws)))
      → (t ≡ false) × (then_ok (bounded_by t) (λ _. guard_to false n (Ok ws)) ≡ guard_to false n (Ok ws))
  last_is_by ws true h = absurd h
  last_is_by ws false h = (refl, refl)

  -- the guard can't be true, and where it is false the store stays
  last_is : (g : Tried) → Works (last_to g) → Works g × (can_be true g ≡ false) × (last_to g ≡ guard_to false n g)
  last_is (Ok ws) h = let r = last_is_by ws (can_be true (Ok ws)) h in (tt, r.0, r.1)
  last_is (Err f) h = absurd h

  last_none : (g : Tried) → Works g → can_be true g ≡ false → (Q : ℕ → ℕ → Type 0) (v : ℕ) → Lands (guard_to true n g) Q v
  last_none (Ok ws) works is Q v = (stays_if (λ m. Q m _) n (can_be true (Ok ws))).1 (λ e. absurd (true≢false (sym e ∙ is)))
  last_none (Err f) works is Q v = tt

  last_leads : (k : ℕ) (Q : ℕ → ℕ → Type 0) (guard : ℕ → Tried) (v : ℕ) → Works (last_to (guard n))
      → Leads k Q (guarded guard (λ m. stopped LoopBound at) stay n) v ↔ Lands (last_to (guard n)) Q v
  last_leads k Q guard v works =
      let is = last_is (guard n) works in
      let to = leads_guarded k Q (λ m. stopped LoopBound at) stay n v (guard n) is.0 in
      let stays = lands_same (guard_to false n (guard n)) (λ m w. Leads k Q (stay m) w) Q v (λ m w. leads_stay k Q m w) in (
        λ h. subst (λ (x : Led). Lands x Q v) (sym is.2) (stays.0 (to.0 h).1),
        λ h. to.1 (last_none (guard n) is.0 is.1 (λ m w. Leads k Q (stopped LoopBound at) w) v, stays.1 (subst (λ (x : Led). Lands x Q v) is.2 h)),
      )

  last_out : (m v : ℕ) (g : Tried) → Works (last_to g) → Lands (last_to g) (NotAt m) v ↔ Lands (guard_to false n g) (NotAt m) v
  last_out m v g works =
      let is = (last_is g works).2 in
      (λ h. subst (λ (x : Led). Lands x (NotAt m) v) is h, λ h. subst (λ (x : Led). Lands x (NotAt m) v) (sym is) h)

-- ---- turns

-- what a loop tells beside those that have left it
abbrev LoopTold : Passed StoreSet → (ℕ → List Run) → Reached → Reached → Passed Reached → Type 1
LoopTold p from left es (Ok fs) =
    Good fs × ((ns : StoreSet) × (p ≡ Ok ns) × ((m : ℕ) → Fits (NotAt m) fs ↔ (Fits (NotAt m) left × Out m ns)))
    × ((k : ℕ) → 0 < k → k < bound → (Q : ℕ → ℕ → Type 0) → Nice Q → (Fits Q left × Fits (λ n v. Leads k Q (from n) v) es) ↔ Fits Q fs)
LoopTold p from left es (Err f) = (p ≡ Err f) × Unit {1}

-- three facts, the last two in the other order
turned : {A B C : Type 0} → ((A × B) × C) ↔ (A × (C × B))
turned = (λ h. (h.0.0, (h.1, h.0.1)), λ h. ((h.0, h.1.1), h.1.0))

same_as_it : {A : Type 0} → A ↔ A
same_as_it = (λ h. h, λ h. h)

module _ (guard : ℕ → Tried) (weighty : (n : ℕ) → Weighty (guard n)) (at : ℕ) (body : Reached → Passed Reached) (through_body : StoreSet → Passed StoreSet)
    (turn : ℕ → List Run) (carries : Carries body through_body turn) where
  last_told : (left es : Reached) (r : Passed Reached) (q : Passed (List ℕ)) → Stepped (last_lead at guard) left es r → SameFault r q
      → LoopTold (then_ok (then_ok q (λ ms. Ok (from_list ms))) (λ (ns : StoreSet). Ok (where_guard false guard (set_of es)))) (looped zero guard at turn) left es r
  last_told left es (Ok fs) (Ok ms) h s = (
    h.0,
    (
      where_guard false guard (set_of es),
      refl,
      λ m.
          through (h.2 (NotAt m) (not_at_nice m))
          (beside same_as_it
          (through (each_same_where (λ (e : ℕ × ℕ). Works (last_lead at guard e.0)) (λ (e : ℕ × ℕ). Lands (last_lead at guard e.0) (NotAt m) e.1) (λ (e : ℕ × ℕ). Lands (guard_to false e.0 (guard e.0)) (NotAt m) e.1)
          (λ e w. last_out at e.0 m e.1 (guard e.0) w) es h.1)
          (guard_out false guard m es))),
    ),
    λ k p low Q nice.
        through (beside same_as_it (each_same_where (λ (e : ℕ × ℕ). Works (last_lead at guard e.0)) (λ (e : ℕ × ℕ). Leads k Q (looped zero guard at turn e.0) e.1) (λ (e : ℕ × ℕ). Lands (last_lead at guard e.0) Q e.1)
        (λ e w. last_leads at e.0 k Q guard e.1 w) es h.1))
        (back (h.2 Q nice)),
  )
  last_told left es (Ok fs) (Err e) h s = absurd s
  last_told left es (Err f) (Ok ms) h s = absurd s
  last_told left es (Err f) (Err e) h s = (λ i. Err (sym s i), tt)

  module _ (k : ℕ) (left es on gone : Reached) (h : Stepped (guard_lead true guard) [] es (Ok on)) (h' : Stepped (guard_lead false guard) left es (Ok gone)) where
    abbrev Stay : StoreSet
    Stay = where_guard false guard (set_of es)

    more_told : (next : Reached) (p q : Passed StoreSet) (r : Passed Reached) → p ≡ q → Scales turn on next → LoopTold q (looped k guard at turn) gone next r
        → LoopTold (either_pass p (Ok Stay)) (looped (suc k) guard at turn) left es r
    more_told next p q (Ok fs) is scales t = (
      t.0,
      (
        union t.1.0 Stay,
        ap (λ (x : Passed StoreSet). either_pass x (Ok Stay)) (is ∙ t.1.1),
        λ m.
            through (t.1.2 m)
            (through (beside (through (h'.2 (NotAt m) (not_at_nice m)) (beside same_as_it (guard_out false guard m es))) same_as_it)
            (through turned (beside same_as_it (back (union_out m t.1.0 Stay))))),
      ),
      λ j p low Q nice.
          through (beside same_as_it (through (guard_fits guard weighty (λ n. chain (turn n) (looped k guard at turn)) stay j Q es h.1) (beside (sides j p low Q nice) (stays j Q))))
          (through (back turned) (through (beside (back (h'.2 Q nice)) same_as_it) (t.2 j p low Q nice))),
    )
      where
        stays : (j : ℕ) (Q : ℕ → ℕ → Type 0) → Each (λ e. Lands (guard_lead false guard e.0) (λ n v. Leads j Q (stay n) v) e.1) es ↔ Each (λ e. Lands (guard_lead false guard e.0) Q e.1) es
        stays j Q =
            each_same (λ (e : ℕ × ℕ). Lands (guard_lead false guard e.0) (λ n v. Leads j Q (stay n) v) e.1) (λ (e : ℕ × ℕ). Lands (guard_lead false guard e.0) Q e.1)
            (λ e. lands_same (guard_lead false guard e.0) (λ n v. Leads j Q (stay n) v) Q e.1 (λ n v. leads_stay j Q n v)) es

        sides : (j : ℕ) → 0 < j → j < bound → (Q : ℕ → ℕ → Type 0) → Nice Q
            → Each (λ e. Lands (guard_lead true guard e.0) (λ n v. Leads j Q (chain (turn n) (looped k guard at turn)) v) e.1) es ↔ Fits (λ n v. Leads j Q (looped k guard at turn n) v) next
        sides j p low Q nice =
            through (each_same (λ (e : ℕ × ℕ). Lands (guard_lead true guard e.0) (λ n v. Leads j Q (chain (turn n) (looped k guard at turn)) v) e.1)
            (λ (e : ℕ × ℕ). Lands (guard_lead true guard e.0) (λ n v. Leads j (λ m w. Leads j Q (looped k guard at turn m) w) (turn n) v) e.1)
            (λ e. lands_same (guard_lead true guard e.0) (λ n v. Leads j Q (chain (turn n) (looped k guard at turn)) v) (λ n v. Leads j (λ m w. Leads j Q (looped k guard at turn m) w) (turn n) v) e.1
            (λ n v. leads_chain j Q (looped k guard at turn) v (turn n))) es)
            (through (back (through (h.2 (λ n v. Leads j (λ m w. Leads j Q (looped k guard at turn m) w) (turn n) v)
            (leads_nice j p low (λ m w. Leads j Q (looped k guard at turn m) w) (leads_nice j p low Q nice (looped k guard at turn)) turn)) alone))
            (scales j p low (λ m w. Leads j Q (looped k guard at turn m) w) (leads_nice j p low Q nice (looped k guard at turn))))
    more_told next p q (Err f) is scales t = (ap (λ (x : Passed StoreSet). either_pass x (Ok Stay)) (is ∙ t.0), tt)

  module _ (k : ℕ) (later : (left es : Reached) → Good left → Good es → LoopTold (loop_pass k guard at through_body (set_of es)) (looped k guard at turn) left es (carry_loop k guard at body left es)) where
    turn_told : (left es on gone : Reached) (h : Stepped (guard_lead true guard) [] es (Ok on)) (h' : Stepped (guard_lead false guard) left es (Ok gone)) (x : Passed Reached) (p : Passed StoreSet)
        → Told p turn on x
        → LoopTold (either_pass (then_ok p (loop_pass k guard at through_body)) (Ok (where_guard false guard (set_of es)))) (looped (suc k) guard at turn) left es (then_ok x (carry_loop k guard at body gone))
    turn_told left es on gone h h' (Ok next) p t =
        more_told k left es on gone h h' next (then_ok p (loop_pass k guard at through_body)) (loop_pass k guard at through_body (set_of next)) (carry_loop k guard at body gone next)
        (ap (λ (x : Passed StoreSet). then_ok x (loop_pass k guard at through_body)) t.1) t.2 (later gone next h'.0 t.0)
    turn_told left es on gone h h' (Err f) p t = (ap (λ (x : Passed StoreSet). either_pass (then_ok x (loop_pass k guard at through_body)) (Ok (where_guard false guard (set_of es)))) t.0, tt)

    abbrev Next : Reached → Passed StoreSet
    Next es = either_pass (then_ok (through_body (where_guard true guard (set_of es))) (loop_pass k guard at through_body)) (Ok (where_guard false guard (set_of es)))

    told_turn : (left es : Reached) (x y : Passed Reached) (q : Passed (List ℕ)) → Stepped (guard_lead true guard) [] es x → Stepped (guard_lead false guard) left es y → SameFault x q → SameFault y q
        → LoopTold (then_ok (then_ok q (λ ms. Ok (from_list ms))) (λ (ns : StoreSet). Next es)) (looped (suc k) guard at turn) left es
        (then_ok x (λ on. then_ok y (λ gone. then_ok (body on) (carry_loop k guard at body gone))))
    told_turn left es (Ok on) (Ok gone) (Ok ms) h h' s s' =
        turn_told left es on gone h h' (body on) (through_body (where_guard true guard (set_of es)))
        (subst (λ (ns : StoreSet). Told (through_body ns) turn on (body on)) (guard_set true guard es on h) (carries on h.0))
    told_turn left es (Ok on) (Err e) (Ok ms) h h' s s' = absurd s'
    told_turn left es (Ok on) y (Err e) h h' s s' = absurd s
    told_turn left es (Err e) y (Ok ms) h h' s s' = absurd s
    told_turn left es (Err e) y (Err e') h h' s s' = (λ i. Err (sym s i), tt)

  loop_told : (k : ℕ) (left es : Reached) → Good left → Good es → LoopTold (loop_pass k guard at through_body (set_of es)) (looped k guard at turn) left es (carry_loop k guard at body left es)
  loop_told zero left es gone good =
      subst (λ (p : Passed StoreSet). LoopTold (then_ok p (λ (ns : StoreSet). Ok (where_guard false guard (set_of es)))) (looped zero guard at turn) left es (carry_step (last_lead at guard) left es))
      (sym (step_is (λ n. bounded at n (guard n)) es good))
      (last_told left es (carry_step (last_lead at guard) left es) (each_pass (λ n. bounded at n (guard n)) (keys_of es))
      (stepped (last_lead at guard) (λ n. last_positive at n (guard n) (weighty n)) left es gone (good_positive es good))
      (step_faults (last_lead at guard) (λ n. bounded at n (guard n)) (λ n. last_faults at n (guard n)) left es))
  loop_told (suc k) left es gone good =
      subst (λ (p : Passed StoreSet). LoopTold (then_ok p (λ (ns : StoreSet). Next k (loop_told k) es)) (looped (suc k) guard at turn) left es (carry_loop (suc k) guard at body left es))
      (sym (step_is (λ n. same n (guard n)) es good))
      (told_turn k (loop_told k) left es (carry_step (guard_lead true guard) [] es) (carry_step (guard_lead false guard) left es) (each_pass (λ n. same n (guard n)) (keys_of es))
      (guard_stepped guard weighty true [] es tt good) (guard_stepped guard weighty false left es gone good) (guard_step_faults guard weighty true [] es) (guard_step_faults guard weighty false left es))

  loop_only : (p : Passed StoreSet) (from : ℕ → List Run) (es : Reached) (r : Passed Reached) → LoopTold p from [] es r → Told p from es r
  loop_only p from es (Ok fs) t =
      let e = same_sets t.1.0 (set_of fs) (λ m. back (through (keys_out m fs) (through (t.1.2 m) alone))) in
      (t.0, t.1.1 ∙ (λ i. Ok (e i)), λ k low high Q nice. through (back alone) (t.2 k low high Q nice))
  loop_only p from es (Err f) t = t

  pub loop_carries : (k : ℕ) → Carries (carry_loop k guard at body []) (loop_pass k guard at through_body) (looped k guard at turn)
  loop_carries k es good = loop_only (loop_pass k guard at through_body (set_of es)) (looped k guard at turn) es (carry_loop k guard at body [] es) (loop_told k [] es tt good)
