-- Stores split by the values that they leak, and stores that an assignment moves.
use Rattle.std.proofs.Common.{◌≡◌, ℕ, ◌+◌, ◌*◌, ◌/◌, List, [], ◌∷◌, ◌++◌, Option, Some, None, Ok, Err, refl, sym, ap, subst, ◌∙◌, arith, append-nil}
use Rattle.std.specs.Ordering.{match_ordering}
use Rattle.std.specs.declared.cmp.Ordering.{Ordering}
use Rattle.std.specs.declared.cmp.Ordering.TheVariants.{Less, Equal, Greater}
use Rattle.std.specs.List.{AllByRecursion as Each}
use Rattle.kf_value.specs.Types.{TypeTree}
use Rattle.kf_value.specs.Values.{ValueTree, order}
use Rattle.kf_value.proofs.Orders.{same}
use Rattle.kf_core.specs.Choices.{Weighted, total}
use Rattle.kf_core.specs.Runs.{Run, OutOfRange, Tried, branched, replaced, stay, stopped}
use Rattle.kf_core.proofs.Measures.{Measure, Trace, RunsWithin, runs_value, ahead, choices_run, stay_within, stay_value}
use Rattle.kf_core.proofs.Sums.{adds}
use Rattle.kf_core.specs.Each.{moved}
use Rattle.kf_core.specs.Leaks.{silent, shown}
use Rattle.kf_traces.specs.Traced.{Weights, Lead, Part, with_weight, with_part, with_share, with_shares, parted, split, with_move, with_moves}
use Rattle.kf_traces.specs.Traced as spec
use Rattle.kf_traces.proofs.Measures.{Within, measure, grown}

-- ---- parts

module _ (N : ValueTree → Measure) where
  abbrev pub PartsWithin : List Part → Type 0
  PartsWithin ps = Each (λ p. Within (N p.value) p.stores) ps

  abbrev pub parts_value : List Part → ℕ
  parts_value ps = adds (λ p. measure (N p.value) p.stores) ps

  module _ (v : ValueTree) (n w : ℕ) (h : (N v).holds n w) where
    abbrev Joined : List Part → List Part → Type 0
    Joined ps qs = PartsWithin qs × (parts_value qs ≡ parts_value ps + (N v).value n w)

    part_at : (p : Part) (ps : List Part) (r : Ordering) → r ≡ order v p.value → PartsWithin (p ∷ ps) → Joined ps (with_part ps v n w)
        → Joined (p ∷ ps)
        (match_ordering r (record { value = v; stores = (n, w) ∷ [] } ∷ p ∷ ps) (record { value = p.value; stores = with_weight p.stores n w } ∷ ps) (p ∷ with_part ps v n w))
    part_at p ps Less is within later = (((h, tt), within), omega arith)
    part_at p ps Equal is within later =
        let e : v ≡ p.value = same v p.value (sym is) in
        let g = grown (N p.value) n w (subst (λ (u : ValueTree). (N u).holds n w) e h) p.stores within.0 in
        let one : (N p.value).value n w ≡ (N v).value n w = ap (λ u. (N u).value n w) (sym e) in
        ((g.0, within.1), omega (arith, g.1, one))
    part_at p ps Greater is within later = ((within.0, later.0), omega (arith, later.1))

    pub part_joined : (ps : List Part) → PartsWithin ps → Joined ps (with_part ps v n w)
    part_joined [] within = (((h, tt), tt), omega arith)
    part_joined (p ∷ ps) within = part_at p ps (order v p.value) refl within (part_joined ps within.1)

  -- a share of a value holds at the store behind it; one that leads nowhere holds
  abbrev pub Led : ValueTree → ℕ → Option ℕ → Type 0
  Led v w (Some n) = (N v).holds n w
  Led v w None = Unit {0}

  abbrev pub led_value : ValueTree → ℕ → Option ℕ → ℕ
  led_value v w (Some n) = (N v).value n w
  led_value v w None = 0

  share_joined : (v : ValueTree) (x : Option ℕ) (w : ℕ) → Led v w x → (ps : List Part) → PartsWithin ps
      → PartsWithin (with_share ps v x w) × (parts_value (with_share ps v x w) ≡ parts_value ps + led_value v w x)
  share_joined v (Some n) w h ps within = part_joined v n w h ps within
  share_joined v None w h ps within = (within, omega arith)

  module _ (go : Lead) where
    -- the shares of one store
    pub shares_joined : (n share : ℕ) (ps : List Part) (cs : List Weighted) → PartsWithin ps → Each (λ c. Led c.value (share * c.weight) (go n c.value)) cs
        → PartsWithin (with_shares go ps n share cs)
        × (parts_value (with_shares go ps n share cs) ≡ parts_value ps + adds (λ c. led_value c.value (share * c.weight) (go n c.value)) cs)
    shares_joined n share ps [] within h = (within, omega arith)
    shares_joined n share ps (c ∷ cs) within h =
        let one = share_joined c.value (go n c.value) (share * c.weight) h.0 ps within in
        let others = shares_joined n share (with_share ps c.value (go n c.value) (share * c.weight)) cs one.0 h.1 in
        (others.0, omega (arith, one.1, others.1))

-- ---- a split, against the runs behind the values

-- the runs from the store behind a choice, if there is one
abbrev pub onto : ℕ → (ℕ → List Run) → Option ℕ → List Run
onto at from (Some n) = from n
onto at from None = stopped OutOfRange at

pub moved_onto : (at : ℕ) (x : Option ℕ) → onto at stay x ≡ moved at x
moved_onto at (Some n) = refl
moved_onto at None = refl

module _ (M : Trace → Measure) (t : Trace) (go : Lead) (at : ℕ) (tries : ℕ → Tried) (from : ValueTree → ℕ → List Run) where
  abbrev pub shown_to : ValueTree → Measure
  shown_to v = ahead M (from v) (t ++ v ∷ [])

  abbrev pub shown_runs : ℕ → List Run
  shown_runs n = branched shown n (λ v. onto at (from v) (go n v)) (tries n)

  abbrev pub Split : ℕ → ℕ → List Run → List Part → List Part → Type 0
  Split n w rs ps qs = PartsWithin shown_to qs × (parts_value shown_to qs ≡ parts_value shown_to ps + runs_value M t w rs)

  led_at : (v : ValueTree) (w : ℕ) (x : Option ℕ) → RunsWithin M (t ++ v ∷ []) w (onto at (from v) x)
      → Led shown_to v w x × (runs_value M (t ++ v ∷ []) w (onto at (from v) x) ≡ led_value shown_to v w x)
  led_at v w (Some n) h = (h, refl)
  led_at v w None h = absurd h.0.2

  each_led : (n share : ℕ) (cs : List Weighted) → Each (λ c. RunsWithin M (t ++ c.value ∷ []) (share * c.weight) (onto at (from c.value) (go n c.value))) cs
      → Each (λ c. Led shown_to c.value (share * c.weight) (go n c.value)) cs
      × (adds (λ c. runs_value M (t ++ c.value ∷ []) (share * c.weight) (onto at (from c.value) (go n c.value))) cs ≡ adds (λ c. led_value shown_to c.value (share * c.weight) (go n c.value)) cs)
  each_led n share [] h = (tt, refl)
  each_led n share (c ∷ cs) h =
      let one = led_at c.value (share * c.weight) (go n c.value) h.0 in
      let others = each_led n share cs h.1 in
      ((one.0, others.0), omega (arith, one.1, others.1))

  parted_at : (n w : ℕ) (ps : List Part) (g : Tried) → PartsWithin shown_to ps → RunsWithin M t w (branched shown n (λ v. onto at (from v) (go n v)) g)
      → Split n w (branched shown n (λ v. onto at (from v) (go n v)) g) ps (parted go ps n w g)
  parted_at n w ps (Ok cs) within h =
      let c = choices_run M t w shown n (total cs) (λ v. onto at (from v) (go n v)) cs h in
      let l = each_led n (w / total cs) cs c.0 in
      let s = shares_joined shown_to go n (w / total cs) ps cs within l.0 in
      (s.0, omega (arith, s.1, l.1, c.1))
  parted_at n w ps (Err f) within h = absurd h.0.2

  pub split_is : (ps : List Part) (es : Weights) → PartsWithin shown_to ps → Within (ahead M shown_runs t) es
      → PartsWithin shown_to (split go tries ps es) × (parts_value shown_to (split go tries ps es) ≡ parts_value shown_to ps + measure (ahead M shown_runs t) es)
  split_is ps [] within h = (within, omega arith)
  split_is ps (e ∷ es) within h =
      let one = parted_at e.0 e.1 ps (tries e.0) within h.0 in
      let others = split_is (parted go ps e.0 e.1 (tries e.0)) es one.0 h.1 in
      (others.0, omega (arith, one.1, others.1))

-- ---- an assignment

module _ (M : Trace → Measure) (t : Trace) (ts : List TypeTree) (i at : ℕ) where
  module _ (n share : ℕ) where
    abbrev moved_runs : Weighted → List Run
    moved_runs c = moved at (replaced ts i c.value n)

    move_at : (es : Weights) (w : ℕ) (x : Option ℕ) → Within (M t) es → RunsWithin M (t ++ []) w (moved at x)
        → Within (M t) (with_move es x w) × (measure (M t) (with_move es x w) ≡ measure (M t) es + runs_value M (t ++ []) w (moved at x))
    move_at es w (Some m) within h =
        let there : (M t).holds m w = subst (λ (u : Trace). (M u).holds m w) (append-nil t) (stay_within M (t ++ []) w m h) in
        let g = grown (M t) m w there es within in
        let is : runs_value M (t ++ []) w (stay m) ≡ (M t).value m w = stay_value M (t ++ []) w m ∙ ap (λ (u : Trace). (M u).value m w) (append-nil t) in
        (g.0, omega (arith, g.1, is))
    move_at es w None within h = absurd h.0.2

    pub moves_are : (es : Weights) (cs : List Weighted) → Within (M t) es → Each (λ c. RunsWithin M (t ++ []) (share * c.weight) (moved_runs c)) cs
        → Within (M t) (with_moves ts i n es share cs)
        × (measure (M t) (with_moves ts i n es share cs) ≡ measure (M t) es + adds (λ c. runs_value M (t ++ []) (share * c.weight) (moved_runs c)) cs)
    moves_are es [] within h = (within, omega arith)
    moves_are es (c ∷ cs) within h =
        let x = replaced ts i c.value n in
        let one = move_at es (share * c.weight) x within h.0 in
        let others = moves_are (with_move es x (share * c.weight)) cs one.0 h.1 in
        (others.0, omega (arith, one.1, others.1))

  module _ (tries : ℕ → Tried) where
    abbrev pub silent_runs : ℕ → List Run
    silent_runs n = branched silent n (λ v. moved at (replaced ts i v n)) (tries n)

    pub moved_at : (n w : ℕ) (es : Weights) (g : Tried) → Within (M t) es → RunsWithin M t w (branched silent n (λ v. moved at (replaced ts i v n)) g)
        → Within (M t) (spec.moved ts i es n w g)
        × (measure (M t) (spec.moved ts i es n w g) ≡ measure (M t) es + runs_value M t w (branched silent n (λ v. moved at (replaced ts i v n)) g))
    moved_at n w es (Ok cs) within h =
        let c = choices_run M t w silent n (total cs) (λ v. moved at (replaced ts i v n)) cs h in
        let s = moves_are n (w / total cs) es cs within c.0 in
        (s.0, omega (arith, s.1, c.1))
    moved_at n w es (Err f) within h = absurd h.0.2
