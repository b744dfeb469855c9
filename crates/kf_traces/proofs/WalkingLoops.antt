-- What states come to in branches and in loops, and how many visits a loop's guard has.
use Rattle.std.proofs.Common.{◌≡◌, ℕ, zero, suc, ◌+◌, ◌-◌, ◌<◌, Bool, true, false, List, [], ◌∷◌, ◌++◌, All, map, reverse, refl, sym, ap, subst, ◌∙◌, arith}
use Rattle.std.specs.Prelude.{flat_map, if◌then◌else◌}
use Rattle.std.proofs.lemmas.List.{append-nil, append_assoc, reverse-append}
use Rattle.std.proofs.lemmas.List.Elements.{All-append, All-cons, All-head, All-nil, All-push, All-same, All-tail, All-from_recursion, recursion_from_All}
use Rattle.kf_value.proofs.ListLemmas.{each_reverse}
use Rattle.kf_value.specs.Values.{truth}
use Rattle.kf_core.specs.Runs.{Tried}
use Rattle.kf_core.proofs.Sums.{adds, adds_joined, adds_mapped}
use Rattle.kf_traces.specs.Traced.{Lead, Part, Traced, unmoved, split, behind, branches, alone, gone, guard_traced, loop_traced}
use Rattle.kf_traces.specs.Visits.{VisitTree, Left, Asks, leaked, last_true, side, visitor, asks_again, visits_next}
use Rattle.kf_traces.proofs.Walking.{InSize, flat_flat, flat_mapped, flat_same, last_behind}

-- ---- branches

-- where a value is leaked and nothing else is done, each state stays
pub all_leaked : (go : Lead) (tries : ℕ → Tried) (s : Traced) → branches go tries (λ v. alone) s ≡ leaked go tries s
all_leaked go tries s = each (split go tries [] s.stores)
  where
    each : (ps : List Part) → flat_map (λ p. alone (behind s.trace p)) ps ≡ map (behind s.trace) ps
    each [] = refl
    each (p ∷ ps) = ap (λ ss. behind s.trace p ∷ ss) (each ps)

-- the same of states
pub each_leaked : (go : Lead) (tries : ℕ → Tried) (ss : List Traced) → flat_map (leaked go tries) ss ≡ flat_map (branches go tries (λ v. alone)) ss
each_leaked go tries ss = flat_same (leaked go tries) (branches go tries (λ v. alone)) (λ s. sym (all_leaked go tries s)) ss

-- a choice between two ways, and between where they lead
one_side : (taken left : Traced → List Traced) (s : Traced) (b c : Bool) → b ≡ c → (if b then taken else left) s ≡ (if c then taken s else left s)
one_side taken left s true true same = refl
one_side taken left s true false same = (cc)
one_side taken left s false true same = (cc)
one_side taken left s false false same = refl

-- a guard's states go on as their last value says
pub guard_sides : (tries : ℕ → Tried) (taken left : Traced → List Traced) (s : Traced) → flat_map (side taken left) (leaked unmoved tries s) ≡ guard_traced tries taken left s
guard_sides tries taken left s =
    let ps = split unmoved tries [] s.stores in
    flat_mapped (behind s.trace) (side taken left) ps
    ∙ flat_same (λ p. side taken left (behind s.trace p)) (λ p. (if truth p.value then taken else left) (behind s.trace p))
    (λ p. sym (one_side taken left (behind s.trace p) (truth p.value) (last_true (s.trace ++ p.value ∷ [])) (sym (last_behind p.value s.trace)))) ps

-- the side of a state whose last value is known
pub side_is : (taken left : Traced → List Traced) (s : Traced) (b : Bool) → b ≡ last_true s.trace → (if b then taken s else left s) ≡ side taken left s
side_is taken left s b is = ap (λ c. if c then taken s else left s) is

-- the next visits of a state whose last value is known
pub next_is : (body : Traced → List Traced) (k : ℕ) (s : Traced) (b : Bool) → b ≡ last_true s.trace → (if b then asks_again body k s else (Left s ∷ [])) ≡ visits_next body k s
next_is body k s b is = ap (λ c. if c then asks_again body k s else (Left s ∷ [])) is

-- those of a state whose last value is true ask again
pub asked_next : (body : Traced → List Traced) (k : ℕ) (s : Traced) (made : List VisitTree) → made ≡ asks_again body k s → true ≡ last_true s.trace → made ≡ visits_next body k s
asked_next body k s made is truly = is ∙ next_is body k s true truly

-- those of a state that went through the body, where a turn is to come
pub asks_are : (body : Traced → List Traced) (k : ℕ) (s : Traced) (walked : List Traced) (made : List VisitTree) → 0 < k → walked ≡ body s → made ≡ map (λ u. Asks u (k - 1)) walked → made ≡ asks_again body k s
asks_are body zero s walked made some went is = absurd (omega (arith, some))
asks_are body (suc k) s walked made some went is = let less : suc k - 1 ≡ k = omega arith in is ∙ (λ i. map (λ u. Asks u (less i)) (went i))

-- ---- visits of a loop

module _ (guard : ℕ → Tried) (body : Traced → List Traced) where
  -- what a visit comes to
  abbrev pub comes_to : VisitTree → List Traced
  comes_to (Left s) = alone s
  comes_to (Asks s k) = loop_traced k guard body s

  -- what a stack of visits comes to, whose last one is the first to go on
  abbrev pub all_come_to : List VisitTree → List Traced
  all_come_to [] = []
  all_come_to (v ∷ vs) = all_come_to vs ++ comes_to v

  -- what lies above in a stack goes on first
  stack_joined : (us vs : List VisitTree) → all_come_to (us ++ vs) ≡ all_come_to vs ++ all_come_to us
  stack_joined [] vs = sym (append-nil (all_come_to vs))
  stack_joined (u ∷ us) vs = ap (λ ss. ss ++ comes_to u) (stack_joined us vs) ∙ append_assoc (all_come_to vs) (all_come_to us) (comes_to u)

  -- turned round, the first one goes on first
  stack_reversed : (vs : List VisitTree) → all_come_to (reverse vs) ≡ flat_map comes_to vs
  stack_reversed [] = refl
  stack_reversed (v ∷ vs) =
      ap all_come_to (reverse-append (v ∷ []) vs) ∙ (stack_joined (reverse vs) (v ∷ []) ∙ ap (λ ss. comes_to v ++ ss) (stack_reversed vs))

  -- next visits lead on where the value is true, and end where it is not
  side_comes : (b : Bool) (k : ℕ) (s : Traced) → flat_map comes_to (if b then asks_again body k s else (Left s ∷ [])) ≡ (if b then flat_map comes_to (asks_again body k s) else alone s)
  side_comes true k s = refl
  side_comes false k s = refl

  -- what the next visits of a state come to
  next_come : (k : ℕ) (s : Traced) → flat_map comes_to (visits_next body k s) ≡ side (λ u. flat_map comes_to (asks_again body k u)) alone s
  next_come k s = side_comes (last_true s.trace) k s

  -- states that ask again come to what the loop makes of them
  again : (k : ℕ) (s : Traced) → flat_map comes_to (asks_again body (suc k) s) ≡ flat_map (loop_traced k guard body) (body s)
  again k s = flat_mapped (λ u. Asks u k) comes_to (body s)

  -- the same where the value is true, and an end where it is not
  side_again : (b : Bool) (k : ℕ) (s : Traced) → (if b then flat_map comes_to (asks_again body (suc k) s) else alone s) ≡ (if b then flat_map (loop_traced k guard body) (body s) else alone s)
  side_again true k s = again k s
  side_again false k s = refl

  -- what a state in a loop comes to is what its next visits come to
  pub visits_come : (k : ℕ) (s : Traced) → flat_map comes_to (flat_map (visits_next body k) (leaked unmoved guard s)) ≡ loop_traced k guard body s
  visits_come zero s =
      flat_flat (visits_next body zero) comes_to (leaked unmoved guard s)
      ∙ (flat_same (λ u. flat_map comes_to (visits_next body zero u)) (side gone alone) (next_come zero) (leaked unmoved guard s) ∙ guard_sides guard gone alone s)
  visits_come (suc k) s =
      flat_flat (visits_next body (suc k)) comes_to (leaked unmoved guard s)
      ∙ (flat_same (λ u. flat_map comes_to (visits_next body (suc k) u)) (side (λ u. flat_map (loop_traced k guard body) (body u)) alone) (λ u. next_come (suc k) u ∙ side_again (last_true u.trace) k u) (leaked unmoved guard s)
      ∙ guard_sides guard (λ u. flat_map (loop_traced k guard body) (body u)) alone s)

  -- ---- how many visits are to come

  -- as many visits as there are again, or one that ends
  abbrev count_side : (Traced → ℕ) → Traced → ℕ
  count_side again s = if last_true s.trace then again s else 1

  -- the visits of a state that asks the guard, with so many turns to come
  abbrev pub asked : ℕ → Traced → ℕ
  asked zero s = suc (adds (count_side (λ u. 0)) (leaked unmoved guard s))
  asked (suc k) s = suc (adds (count_side (λ u. adds (asked k) (body u))) (leaked unmoved guard s))

  -- how many visits one leads to, with itself
  abbrev pub visits_of : VisitTree → ℕ
  visits_of (Left s) = 1
  visits_of (Asks s k) = asked k s

  -- the visits of a stack
  abbrev pub all_visits : List VisitTree → ℕ
  all_visits vs = adds visits_of vs

  -- turned round, a stack has as many visits
  count_reversed : (vs : List VisitTree) → all_visits (reverse vs) ≡ all_visits vs
  count_reversed [] = refl
  count_reversed (v ∷ vs) =
      let turned : all_visits (reverse (v ∷ vs)) ≡ all_visits (reverse vs ++ v ∷ []) = ap all_visits (reverse-append (v ∷ []) vs) in
      let joined = adds_joined visits_of (reverse vs) (v ∷ []) in
      let others = count_reversed vs in
      omega (arith, turned, joined, others)

  -- how many next visits a state has, by its value
  side_counts : (b : Bool) (again : Traced → ℕ) (k : ℕ) (s : Traced) → all_visits (asks_again body k s) ≡ again s → all_visits (if b then asks_again body k s else (Left s ∷ [])) ≡ (if b then again s else 1)
  side_counts true again k s h = h
  side_counts false again k s h = omega arith

  -- how many next visits states have
  next_count : (k : ℕ) (again : Traced → ℕ) → ((s : Traced) → all_visits (asks_again body k s) ≡ again s) → (ss : List Traced) → all_visits (flat_map (visits_next body k) ss) ≡ adds (count_side again) ss
  next_count k again h [] = refl
  next_count k again h (s ∷ ss) =
      let joined = adds_joined visits_of (visits_next body k s) (flat_map (visits_next body k) ss) in
      let one : all_visits (visits_next body k s) ≡ count_side again s = side_counts (last_true s.trace) again k s (h s) in
      let others = next_count k again h ss in
      joined ∙ (λ i. one i + others i)

  -- a visit is one more than its next ones
  pub visits_fall : (k : ℕ) (s : Traced) → suc (all_visits (flat_map (visits_next body k) (leaked unmoved guard s))) ≡ asked k s
  visits_fall zero s = ap suc (next_count zero (λ u. 0) (λ u. refl) (leaked unmoved guard s))
  visits_fall (suc k) s = ap suc (next_count (suc k) (λ u. adds (asked k) (body u)) (λ u. adds_mapped visits_of (λ v. Asks v k) (body u)) (leaked unmoved guard s))

  -- ---- a stack of visits

  module _ (size : ℕ) where
    -- stores of a shape of so many
    abbrev Fit : Traced → Type 0
    Fit s = InSize size s

    -- the stores of a visit fit
    abbrev pub VisitFits : VisitTree → Type 0
    VisitFits v = Fit (visitor v)

    -- what has ended and what the stack comes to are the whole
    pub record StackOn (whole ended : List Traced) (visits : List VisitTree) : Type 0 where
      pub same : ended ++ all_come_to visits ≡ whole
      pub fits : All Fit ended
      pub visits_fit : All VisitFits visits

    -- at the start one state asks
    pub stack_start : (k : ℕ) (s : Traced) (ended : List Traced) (none visits : List VisitTree) → ended ≡ [] → none ≡ [] → visits ≡ none ++ Asks s k ∷ [] → Fit s → StackOn (loop_traced k guard body s) ended visits
    stack_start k s ended none visits empty clear is fit =
        let alone_is : visits ≡ Asks s k ∷ [] = is ∙ ap (λ vs. vs ++ Asks s k ∷ []) clear in
        record {
          same = λ i. empty i ++ all_come_to (alone_is i);
          fits = All-same Fit ended [] empty (All-nil Fit);
          visits_fit = All-same VisitFits visits (Asks s k ∷ []) alone_is (All-cons VisitFits (Asks s k) [] fit (All-nil VisitFits));
        }

    -- where all fit, the last one and the others fit
    last_fits : (v : VisitTree) (rest : List VisitTree) → All VisitFits (rest ++ v ∷ []) → VisitFits v × All VisitFits rest
    last_fits v [] h = (All-head VisitFits v [] h, All-nil VisitFits)
    last_fits v (u ∷ us) h =
        let others = last_fits v us (All-tail VisitFits u (us ++ v ∷ []) h) in
        (others.0, All-cons VisitFits u us (All-head VisitFits u (us ++ v ∷ []) h) others.1)

    module _ (whole ended : List Traced) (visits rest : List VisitTree) (v : VisitTree) (is : visits ≡ rest ++ v ∷ []) (before : StackOn whole ended visits) where
      -- the visit that goes on fits, and so do the others
      parts_fit : VisitFits v × All VisitFits rest
      parts_fit = last_fits v rest (subst (All VisitFits) is before.visits_fit)

      -- the visit that goes on fits
      pub stack_fits : VisitFits v
      stack_fits = parts_fit.0

      -- what has ended, then what the visit comes to, then what the others come to
      opened : ended ++ (comes_to v ++ all_come_to rest) ≡ whole
      opened = ap (λ ss. ended ++ ss) (sym (stack_joined rest (v ∷ [])) ∙ ap all_come_to (sym is)) ∙ before.same

      -- the visits of the others and of this one
      counted : all_visits visits ≡ all_visits rest + (visits_of v + 0)
      counted = ap all_visits is ∙ adds_joined visits_of rest (v ∷ [])

      -- a state that has left the loop has ended
      pub stack_left : (s : Traced) (after : List Traced) → v ≡ Left s → after ≡ ended ++ s ∷ [] → StackOn whole after rest
      stack_left s after left put = record {
        same = ap (λ ss. ss ++ all_come_to rest) put ∙ (append_assoc ended (s ∷ []) (all_come_to rest) ∙ (ap (λ u. ended ++ (comes_to u ++ all_come_to rest)) (sym left) ∙ opened));
        fits = All-same Fit after (ended ++ s ∷ []) put (All-push Fit ended s before.fits (subst VisitFits left stack_fits));
        visits_fit = parts_fit.1;
      }

      -- and there is one visit less
      pub left_falls : (s : Traced) → v ≡ Left s → all_visits rest < all_visits visits
      left_falls s left = let one : visits_of v ≡ 1 = ap visits_of left in omega (arith, one, counted)

      module _ (s : Traced) (k : ℕ) (asks : v ≡ Asks s k) (states : List Traced) (next turned after : List VisitTree) (leaks : states ≡ leaked unmoved guard s) (made : next ≡ flat_map (visits_next body k) states)
          (turn : turned ≡ reverse next) (put : after ≡ rest ++ turned) where
        -- the stack with the next visits, turned round
        put_is : after ≡ rest ++ reverse next
        put_is = put ∙ ap (λ vs. rest ++ vs) turn

        -- the next visits, from the state itself
        made_is : next ≡ flat_map (visits_next body k) (leaked unmoved guard s)
        made_is = made ∙ ap (flat_map (visits_next body k)) leaks

        -- the next visits come to what the visit comes to
        next_comes : flat_map comes_to next ≡ comes_to v
        next_comes = ap (flat_map comes_to) made_is ∙ (visits_come k s ∙ ap comes_to (sym asks))

        -- a state that asks makes way for its next visits
        pub stack_asked : All VisitFits next → StackOn whole ended after
        stack_asked fit = record {
          same = ap (λ vs. ended ++ all_come_to vs) put_is ∙ (ap (λ ss. ended ++ ss) (stack_joined rest (reverse next) ∙ ap (λ ss. ss ++ all_come_to rest) (stack_reversed next ∙ next_comes)) ∙ opened);
          fits = before.fits;
          visits_fit = All-same VisitFits after (rest ++ reverse next) put_is (All-append VisitFits rest (reverse next) parts_fit.1 (All-from_recursion VisitFits (reverse next) (each_reverse VisitFits next (recursion_from_All VisitFits next fit))));
        }

        -- and there is one visit less
        pub asked_falls : all_visits after < all_visits visits
        asked_falls =
            let one : visits_of v ≡ asked k s = ap visits_of asks in
            let fall = visits_fall k s in
            let next_are : all_visits next ≡ all_visits (flat_map (visits_next body k) (leaked unmoved guard s)) = ap all_visits made_is in
            let afters : all_visits after ≡ all_visits rest + all_visits (reverse next) = ap all_visits put_is ∙ adds_joined visits_of rest (reverse next) in
            let turned_are = count_reversed next in
            omega (arith, one, fall, next_are, afters, turned_are, counted)

    -- at the end nothing asks
    pub stack_end : (whole ended : List Traced) (visits : List VisitTree) → visits ≡ [] → StackOn whole ended visits → ended ≡ whole
    stack_end whole ended visits none before = sym (append-nil ended) ∙ (ap (λ vs. ended ++ all_come_to vs) (sym none) ∙ before.same)
