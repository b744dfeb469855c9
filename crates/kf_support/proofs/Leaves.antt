-- Assignments, observations and carried copies, of one store each.
use Rattle.std.proofs.Common.{◌≡◌, ℕ, ◌*◌, ◌<◌, List, [], ◌∷◌, ◌++◌, map, Option, Some, None, Ok, Err, inl, inr, refl, sym, ap, subst, ◌∙◌, arith, ◌↔◌, false, nat_eq}
use Rattle.std.specs.List.{AllByRecursion as Each}
use Rattle.std.specs.FinSet.{from_list, items}
use Rattle.std.specs.Map.{keys_of}
use Rattle.std.proofs.lemmas.List.Sums.{sum_by-cons}
use Rattle.kf_value.proofs.ListLemmas.{each_any}
use Rattle.kf_value.specs.Types.{TypeTree}
use Rattle.kf_value.specs.Values.{ValueTree}
use Rattle.kf_core.specs.Choices.{Weighted, total}
use Rattle.kf_core.specs.Dxs.{DxTree}
use Rattle.kf_core.specs.Runs.{Run, Tried, tried, place, replaced, stay, branched, assigned, chain}
use Rattle.kf_core.specs.Results.{then_ok, each_ok}
use Rattle.kf_core.specs.Support.{StoreSet, Passed, step, same, assign_pass}
use Rattle.kf_core.proofs.PassTells.{Lists, holds_listed, items_hold}
use Rattle.kf_core.proofs.Scales.{Weighty}
use Rattle.kf_core.specs.Each.{moved, moved_pass, each_pass, each_moved}
use Rattle.kf_core.specs.Leaks.{shown}
use Rattle.kf_support.specs.Carried.{Reached, Lead, carry_step, assign_lead, observe_lead, staying}
use Rattle.kf_support.proofs.Placing.{through, back, beside, each_same, Good, Led, Works, Positive, Lands}
use Rattle.kf_support.proofs.Leading.{Leads, each_mapped, leads_stay, leads_chain, leads_branched}
use Rattle.kf_support.proofs.Sets.{set_of, in_order, listed_out, same_sets}
use Rattle.kf_support.proofs.Following.{SameFault, Alike, Told, Carries, step_carries, chain_carries}

some_total : (w : Weighted) (ws : List Weighted) → 0 < w.weight → 0 < total (w ∷ ws)
some_total w ws head = omega (arith, head, sum_by-cons (λ (u : Weighted). u.weight) w ws)

-- ---- assignments

module _ (at : ℕ) (go : ValueTree → Option ℕ) where
  moves_each : (ws : List Weighted) → each_moved at (map (λ w. go w.value) ws) ≡ each_ok (λ (w : Weighted). moved_pass at (go w.value)) ws
  moves_each [] = refl
  moves_each (w ∷ ws) = ap (λ r. then_ok (moved_pass at (go w.value)) (λ ns. then_ok r (λ others. Ok (ns ++ others)))) (moves_each ws)

module _ (at : ℕ) (go : ValueTree → Option ℕ) where
  abbrev assign_to : Tried → Led
  assign_to g = then_ok g (λ ws. then_ok (each_moved at (map (λ w. go w.value) ws)) (λ ms. Ok (ms, total ws)))

  abbrev move_to : Tried → Passed (List ℕ)
  move_to g = then_ok g (each_ok (λ w. moved_pass at (go w.value)))

  positive_any : (s : ℕ) → 0 < s → (r : Passed (List ℕ)) → Positive (then_ok r (λ ms. Ok (ms, s)))
  positive_any s p (Ok ms) = each_any (λ n. 0 < s) (λ n. p) ms
  positive_any s p (Err f) = tt

  assign_positive : (g : Tried) → Weighty g → Positive (assign_to g)
  assign_positive (Ok []) h = tt
  assign_positive (Ok (w ∷ ws)) h = positive_any (total (w ∷ ws)) (some_total w ws h.0) (each_moved at (map (λ u. go u.value) (w ∷ ws)))
  assign_positive (Err f) h = tt

  faults_any : (s : ℕ) (r : Passed (List ℕ)) → SameFault {A = List ℕ × ℕ} (then_ok r (λ ms. Ok (ms, s))) r
  faults_any s (Ok ms) = tt
  faults_any s (Err f) = refl

  assign_faults : (g : Tried) → SameFault (assign_to g) (move_to g)
  assign_faults (Ok ws) =
      let moves = each_moved at (map (λ (w : Weighted). go w.value) ws) in
      subst (SameFault {A = List ℕ × ℕ} (then_ok moves (λ ms. Ok (ms, total ws)))) (moves_each at go ws) (faults_any (total ws) moves)
  assign_faults (Err f) = refl

  alike_any : (m s : ℕ) (r : Passed (List ℕ)) → Alike m (then_ok r (λ ms. Ok (ms, s))) r
  alike_any m s (Ok ms) = (λ h. h, λ h. h)
  alike_any m s (Err f) = tt

  assign_alike : (m : ℕ) (g : Tried) → Alike m (assign_to g) (move_to g)
  assign_alike m (Ok ws) =
      let moves = each_moved at (map (λ (w : Weighted). go w.value) ws) in
      subst (Alike m (then_ok moves (λ ms. Ok (ms, total ws)))) (moves_each at go ws) (alike_any m (total ws) moves)
  assign_alike m (Err f) = tt

  module _ (k : ℕ) (Q : ℕ → ℕ → Type 0) (s : ℕ) where
    abbrev MovesLand : List (Option ℕ) → Passed (List ℕ) → Type 0
    MovesLand os (Ok ms) = Each (λ o. Leads k Q (moved at o) s) os ↔ Each (λ m. Q m s) ms
    MovesLand os (Err f) = Unit {0}

    move_lands : (j : ℕ) (os : List (Option ℕ)) (r : Passed (List ℕ)) → MovesLand os r → MovesLand (Some j ∷ os) (then_ok r (λ others. Ok (j ∷ others)))
    move_lands j os (Ok ms) later = beside (leads_stay k Q j s) later
    move_lands j os (Err f) later = tt

    moves_land : (os : List (Option ℕ)) → MovesLand os (each_moved at os)
    moves_land [] = (λ h. tt, λ h. tt)
    moves_land (None ∷ os) = tt
    moves_land (Some j ∷ os) = move_lands j os (each_moved at os) (moves_land os)

  lands_by : (k : ℕ) (Q : ℕ → ℕ → Type 0) (v s : ℕ) (os : List (Option ℕ)) (r : Passed (List ℕ)) → MovesLand k Q (v * s) os r → Works {A = List ℕ × ℕ} (then_ok r (λ ms. Ok (ms, s)))
      → Each (λ o. Leads k Q (moved at o) (v * s)) os ↔ Lands (then_ok r (λ ms. Ok (ms, s))) Q v
  lands_by k Q v s os (Ok ms) h works = h
  lands_by k Q v s os (Err f) h works = absurd works

  assign_leads : (leak : ValueTree → List ValueTree) (k : ℕ) (Q : ℕ → ℕ → Type 0) (n v : ℕ) (g : Tried) → Works (assign_to g) → Leads k Q (branched leak n (λ u. moved at (go u)) g) v ↔ Lands (assign_to g) Q v
  assign_leads leak k Q n v (Ok ws) works =
      through (leads_branched k Q leak n (λ u. moved at (go u)) ws v)
      (through (back (each_mapped (λ (o : Option ℕ). Leads k Q (moved at o) (v * total ws)) (λ (w : Weighted). go w.value) ws))
      (lands_by k Q v (total ws) (map (λ w. go w.value) ws) (each_moved at (map (λ w. go w.value) ws)) (moves_land k Q (v * total ws) (map (λ w. go w.value) ws)) works))
  assign_leads leak k Q n v (Err f) works = absurd works

pub assign_carries : (leak : ValueTree → List ValueTree) (ts : List TypeTree) (i : ℕ) (d : DxTree) → ((n : ℕ) → Weighty (tried ts d n))
    → Carries (carry_step (assign_lead ts i d) []) (assign_pass ts i d) (assigned leak ts i d)
assign_carries leak ts i d weighty =
    step_carries (assign_lead ts i d) (λ n. move_to (place d) (λ v. replaced ts i v n) (tried ts d n)) (assigned leak ts i d)
    (λ n. assign_positive (place d) (λ v. replaced ts i v n) (tried ts d n) (weighty n))
    (λ n. assign_faults (place d) (λ v. replaced ts i v n) (tried ts d n))
    (λ n m. assign_alike (place d) (λ v. replaced ts i v n) m (tried ts d n))
    (λ k Q n v w. assign_leads (place d) (λ v. replaced ts i v n) leak k Q n v (tried ts d n) w)

-- ---- observations

module _ (n : ℕ) where
  abbrev observe_to : Tried → Led
  observe_to g = then_ok g (λ ws. Ok (staying n ws, total ws))

  observe_positive : (g : Tried) → Weighty g → Positive (observe_to g)
  observe_positive (Ok []) h = tt
  observe_positive (Ok (w ∷ ws)) h = (some_total w ws h.0, tt)
  observe_positive (Err f) h = tt

  observe_faults : (g : Tried) → SameFault (observe_to g) (same n g)
  observe_faults (Ok ws) = tt
  observe_faults (Err f) = refl

  stays_all : (P : ℕ → Type 0) (ws : List Weighted) → Each P (staying n ws) ↔ Each (λ w. P n) ws
  stays_all P [] = (λ h. h, λ h. h)
  stays_all P (w ∷ ws) = (λ h. (h.0, each_any (λ u. P n) (λ u. h.0) ws), λ h. (h.0, tt))

  observe_alike : (m : ℕ) (g : Tried) → Alike m (observe_to g) (same n g)
  observe_alike m (Ok ws) = through (stays_all (λ k. nat_eq k m ≡ false) ws) (back (each_mapped (λ k. nat_eq k m ≡ false) (λ (w : Weighted). n) ws))
  observe_alike m (Err f) = tt

  observe_leads : (k : ℕ) (Q : ℕ → ℕ → Type 0) (v : ℕ) (g : Tried) → Works (observe_to g) → Leads k Q (branched shown n (λ u. stay n) g) v ↔ Lands (observe_to g) Q v
  observe_leads k Q v (Ok ws) works =
      through (leads_branched k Q shown n (λ u. stay n) ws v)
      (through (each_same (λ (w : Weighted). Leads k Q (stay n) (v * total ws)) (λ (w : Weighted). Q n (v * total ws)) (λ w. leads_stay k Q n (v * total ws)) ws)
      (back (stays_all (λ m. Q m (v * total ws)) ws)))
  observe_leads k Q v (Err f) works = absurd works

pub observe_carries : (ts : List TypeTree) (d : DxTree) → ((n : ℕ) → Weighty (tried ts d n))
    → Carries (carry_step (observe_lead ts d) []) (step (λ n. same n (tried ts d n))) (λ n. branched shown n (λ u. stay n) (tried ts d n))
observe_carries ts d weighty =
    step_carries (observe_lead ts d) (λ n. same n (tried ts d n)) (λ n. branched shown n (λ u. stay n) (tried ts d n))
    (λ n. observe_positive n (tried ts d n) (weighty n))
    (λ n. observe_faults n (tried ts d n))
    (λ n m. observe_alike n m (tried ts d n))
    (λ k Q n v w. observe_leads n k Q v (tried ts d n) w)

-- ---- each store to one other

module _ (P : ℕ → Type 0) where
  of_listed : (ns : List ℕ) → Each P ns → (m : ℕ) → Lists ns m → P m
  of_listed [] h m l = absurd l
  of_listed (n ∷ ns) h m (inl is) = subst P is h.0
  of_listed (n ∷ ns) h m (inr l) = of_listed ns h.1 m l

  listed_of : (ns : List ℕ) → ((m : ℕ) → Lists ns m → P m) → Each P ns
  listed_of [] h = tt
  listed_of (n ∷ ns) h = (h n (inl refl), listed_of ns (λ m l. h m (inr l)))

  items_same : (es : Reached) → Each P (keys_of es) ↔ Each P (items (set_of es))
  items_same es = (
    λ h. listed_of (items (set_of es)) (λ m l. of_listed (keys_of es) h m ((holds_listed (keys_of es) m).0 ((items_hold (set_of es) m).1 l))),
    λ h. listed_of (keys_of es) (λ m l. of_listed (items (set_of es)) h m ((items_hold (set_of es) m).0 ((holds_listed (keys_of es) m).1 l))),
  )

each_goes : (go : ℕ → ℕ) (ns : List ℕ) → each_pass (λ n. Ok (go n ∷ [])) ns ≡ Ok (map go ns)
each_goes go [] = refl
each_goes go (n ∷ ns) = ap (λ (r : Passed (List ℕ)). then_ok r (λ others. Ok (go n ∷ others))) (each_goes go ns)

module _ (go : ℕ → ℕ) where
  abbrev go_lead : Lead
  go_lead n = Ok (go n ∷ [], 1)

  gone_set : (es : Reached) → ◌≡◌ {A = StoreSet} (from_list (map go (keys_of es))) (from_list (map go (items (set_of es))))
  gone_set es =
      same_sets (from_list (map go (keys_of es))) (from_list (map go (items (set_of es))))
      (λ m. through (listed_out m (map go (keys_of es)))
      (through (through (each_mapped (λ n. nat_eq n m ≡ false) go (keys_of es)) (through (items_same (λ n. nat_eq (go n) m ≡ false) es) (back (each_mapped (λ n. nat_eq n m ≡ false) go (items (set_of es))))))
      (back (listed_out m (map go (items (set_of es)))))))

  go_step : (es : Reached) → Good es → step (λ n. Ok (go n ∷ [])) (set_of es) ≡ Ok (from_list (map go (items (set_of es))))
  go_step es good =
      (let e = in_order es good in λ i. then_ok (each_pass (λ n. Ok (go n ∷ [])) (e i)) (λ ms. Ok (from_list ms)))
      ∙ ap (λ (r : Passed (List ℕ)). then_ok r (λ ms. Ok (from_list ms))) (each_goes go (keys_of es))
      ∙ (let e = gone_set es in λ i. Ok (e i))

  go_carries : Carries (carry_step go_lead []) (step (λ n. Ok (go n ∷ []))) (λ n. stay (go n))
  go_carries =
      step_carries go_lead (λ n. Ok (go n ∷ [])) (λ n. stay (go n))
      (λ n. (omega arith, tt)) (λ n. tt) (λ n m. (λ h. h, λ h. h))
      (λ k Q n v w. (λ h. h, λ h. h))

  module _ (f : Reached → Passed Reached) (g : StoreSet → Passed StoreSet) (from : ℕ → List Run) (carries : Carries f g from) where
    told_gone : (es : Reached) (p q : Passed StoreSet) (r : Passed Reached) → p ≡ q → Told p (λ n. chain (stay (go n)) from) es r → Told q (λ n. from (go n)) es r
    told_gone es p q (Ok fs) is h = (
      h.0,
      sym is ∙ h.1,
      λ k low high Q nice.
          through (each_same (λ (e : ℕ × ℕ). Leads k Q (from (go e.0)) e.1) (λ (e : ℕ × ℕ). Leads k Q (chain (stay (go e.0)) from) e.1)
          (λ e. back (through (leads_chain k Q from e.1 (stay (go e.0))) (leads_stay k (λ n v. Leads k Q (from n) v) (go e.0) e.1))) es)
          (h.2 k low high Q nice),
    )
    told_gone es p q (Err x) is h = (sym is ∙ h.0, tt)

    pub gone_carries : Carries (λ es. then_ok (carry_step go_lead [] es) f) (λ ns. g (from_list (map go (items ns)))) (λ n. from (go n))
    gone_carries es good =
        told_gone es (then_ok (step (λ n. Ok (go n ∷ [])) (set_of es)) g) (g (from_list (map go (items (set_of es))))) (then_ok (carry_step go_lead [] es) f)
        (ap (λ (p : Passed StoreSet). then_ok p g) (go_step es good))
        (chain_carries (carry_step go_lead []) f (step (λ n. Ok (go n ∷ []))) g (λ n. stay (go n)) from go_carries carries es good)
