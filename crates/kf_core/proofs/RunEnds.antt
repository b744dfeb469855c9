-- How runs end: those of a chain by their first part's, and those of a choice by what is chosen.
use Rattle.std.proofs.Common.{◌≡◌, ℕ, List, map, Result, Ok, Err, inl, inr, refl, sym, ap, subst, ◌∙◌, Bool, true, false, not, true≢false, get_or}
use Rattle.std.specs.Prelude.{is_ok, IsOk, if◌then◌else◌, Any}
use Rattle.std.specs.List.{list_any}
use Rattle.std.proofs.lemmas.List.Folds.{Any-from_list_any, list_any-from_Any}
use Rattle.kf_value.specs.Values.{ValueTree, truth}
use Rattle.kf_core.specs.Choices.{Weighted, total}
use Rattle.kf_core.specs.Runs.{Run, Halted, Tried, joined, chain, choice_run, branched}
use Rattle.kf_core.specs.Support.{can_be}
use Rattle.kf_core.specs.SupportLaws.{AllEnd}
use Rattle.kf_core.proofs.Among.{Among, among_weaker, among_map, among_mapped, among_image, among_of_image, among_flat, flat_among, among_at, any_from_among, among_from_any}
use Rattle.kf_core.specs.Each.{onward}

abbrev pub End : Type 0
End = Result ℕ Halted

-- some run ends so
abbrev pub HasEnd : List Run → End → Type 0
HasEnd rs e = Among (λ r. r.end ≡ e) rs

-- ---- in the words of contracts

ok_unless : (x : End) → ((f : Halted) → x ≡ Err f → ⊥) → IsOk x
ok_unless (Ok n) none = refl
ok_unless (Err f) none = absurd (none f refl)

pub all_end : (rs : List Run) → ((f : Halted) → HasEnd rs (Err f) → ⊥) → AllEnd rs
all_end rs none k d within = ok_unless (get_or rs k d).end (λ f same. none f (among_at (λ r. r.end ≡ Err f) rs k d within same))

pub none_halts : (rs : List Run) → AllEnd rs → (f : Halted) → HasEnd rs (Err f) → ⊥
none_halts rs all f h =
    let a : Any (λ r. r.end ≡ Err f) rs = any_from_among (λ r. r.end ≡ Err f) rs h in
    true≢false (sym (all a.0 a.1 a.2) ∙ ap (λ (r : Run). is_ok r.end) a.3 ∙ ap is_ok a.4)

-- ---- chains

-- a run that ends so has gone on to end so
abbrev pub Goes : (ℕ → End → Type 0) → End → End → Type 0
Goes T (Ok n) e = T n e
Goes T (Err f) e = Err f ≡ e

-- first one, and from where it ends the other
abbrev pub Then : (End → Type 0) → (ℕ → End → Type 0) → End → Type 0
Then S T e = (x : End) × S x × Goes T x e

module _ (next : ℕ → List Run) (e : End) where
  onward_ends : (r : Run) (x : End) → r.end ≡ x → HasEnd (onward next r x) e → Goes (λ n. HasEnd (next n)) x e
  onward_ends r (Ok n) same h = among_map (λ q. q.end ≡ e) (joined r) (next n) h
  onward_ends r (Err f) same (inl p) = sym same ∙ p
  onward_ends r (Err f) same (inr h) = absurd h

  ends_onward : (r : Run) (x : End) → r.end ≡ x → Goes (λ n. HasEnd (next n)) x e → HasEnd (onward next r x) e
  ends_onward r (Ok n) same h = among_mapped (λ q. q.end ≡ e) (joined r) (next n) h
  ends_onward r (Err f) same h = inl (same ∙ h)

  pub chain_ends : (rs : List Run) → HasEnd (chain rs next) e → Then (HasEnd rs) (λ n. HasEnd (next n)) e
  chain_ends rs h =
      among_image (λ x. Goes (λ n. HasEnd (next n)) x e) (λ (r : Run). r.end) rs
      (among_weaker (λ r. HasEnd (onward next r r.end) e) (λ r. Goes (λ n. HasEnd (next n)) r.end e) (λ r. onward_ends r r.end refl) rs
      (flat_among (λ r. r.end ≡ e) (λ r. onward next r r.end) rs h))

  pub ends_chain : (rs : List Run) → Then (HasEnd rs) (λ n. HasEnd (next n)) e → HasEnd (chain rs next) e
  ends_chain rs h =
      among_flat (λ r. r.end ≡ e) (λ r. onward next r r.end) rs
      (among_weaker (λ r. Goes (λ n. HasEnd (next n)) r.end e) (λ r. HasEnd (onward next r r.end) e) (λ r. ends_onward r r.end refl) rs
      (among_of_image (λ x. Goes (λ n. HasEnd (next n)) x e) (λ (r : Run). r.end) rs h.0 h.2 h.1))

-- ---- choices

-- some choice ends so, or there is the fault
abbrev pub Picked : (ValueTree → End → Type 0) → Tried → End → Type 0
Picked T (Ok ws) e = Among (λ w. T w.value e) ws
Picked T (Err f) e = Err f ≡ e

module _ (leak : ValueTree → List ValueTree) (n : ℕ) (next : ValueTree → List Run) (e : End) where
  pub branched_ends : (g : Tried) → HasEnd (branched leak n next g) e → Picked (λ v. HasEnd (next v)) g e
  branched_ends (Ok ws) h =
      among_weaker (λ w. HasEnd (map (joined (choice_run leak n (total ws) w)) (next w.value)) e) (λ w. HasEnd (next w.value) e)
      (λ w. among_map (λ q. q.end ≡ e) (joined (choice_run leak n (total ws) w)) (next w.value)) ws
      (flat_among (λ r. r.end ≡ e) (λ w. map (joined (choice_run leak n (total ws) w)) (next w.value)) ws h)
  branched_ends (Err f) (inl p) = p
  branched_ends (Err f) (inr h) = absurd h

  pub ends_branched : (g : Tried) → Picked (λ v. HasEnd (next v)) g e → HasEnd (branched leak n next g) e
  ends_branched (Ok ws) h =
      among_flat (λ r. r.end ≡ e) (λ w. map (joined (choice_run leak n (total ws) w)) (next w.value)) ws
      (among_weaker (λ w. HasEnd (next w.value) e) (λ w. HasEnd (map (joined (choice_run leak n (total ws) w)) (next w.value)) e)
      (λ w. among_mapped (λ q. q.end ≡ e) (joined (choice_run leak n (total ws) w)) (next w.value)) ws h)
  ends_branched (Err f) h = inl h

-- ---- guards

module _ {X : Type 0} (test : X → Bool) (xs : List X) where
  pub among_from_test : list_any test xs ≡ true → Among (λ x. test x ≡ true) xs
  among_from_test h = among_from_any (λ x. test x ≡ true) xs (Any-from_list_any test xs h)

  pub test_from_among : Among (λ x. test x ≡ true) xs → list_any test xs ≡ true
  test_from_among h = list_any-from_Any test xs (any_from_among (λ x. test x ≡ true) xs h)

-- the runs of the side that the value takes
abbrev pub side : List Run → List Run → ValueTree → List Run
side xs ys v = if truth v then xs else ys

-- which side ends so, or that the guard has the fault
pub data Side (g : Tried) (xs ys : List Run) (e : End) : Type 0 where
  on_true : can_be true g ≡ true → HasEnd xs e → Side g xs ys e
  on_false : can_be false g ≡ true → HasEnd ys e → Side g xs ys e
  on_fault : (f : Halted) → g ≡ Err f → Err f ≡ e → Side g xs ys e

module _ (xs ys : List Run) (e : End) where
  true_side : (v : ValueTree) → HasEnd xs e → truth v ≡ true → HasEnd (side xs ys v) e
  true_side v h is = subst (λ (b : Bool). HasEnd (if b then xs else ys) e) (sym is) h

  false_side : (b : Bool) → HasEnd ys e → not b ≡ true → HasEnd (if b then xs else ys) e
  false_side true h is = absurd (true≢false (sym is))
  false_side false h is = h

  pub picks_true : (g : Tried) → can_be true g ≡ true → HasEnd xs e → Picked (λ v. HasEnd (side xs ys v)) g e
  picks_true (Ok ws) can h =
      among_weaker (λ w. truth w.value ≡ true) (λ w. HasEnd (side xs ys w.value) e) (λ w. true_side w.value h) ws (among_from_test (λ w. truth w.value) ws can)
  picks_true (Err f) can h = absurd (true≢false (sym can))

  pub picks_false : (g : Tried) → can_be false g ≡ true → HasEnd ys e → Picked (λ v. HasEnd (side xs ys v)) g e
  picks_false (Ok ws) can h =
      among_weaker (λ w. not (truth w.value) ≡ true) (λ w. HasEnd (side xs ys w.value) e) (λ w. false_side (truth w.value) h) ws
      (among_from_test (λ w. not (truth w.value)) ws can)
  picks_false (Err f) can h = absurd (true≢false (sym can))

  side_by : (ws : List Weighted) (w : Weighted) (b : Bool) → Among (λ u. u ≡ w) ws → truth w.value ≡ b → HasEnd (if b then xs else ys) e → Side (Ok ws) xs ys e
  side_by ws w true at is h =
      on_true (test_from_among (λ u. truth u.value) ws (among_of_image (λ u. truth u.value ≡ true) (λ (u : Weighted). u) ws w is at)) h
  side_by ws w false at is h =
      on_false (test_from_among (λ u. not (truth u.value)) ws (among_of_image (λ u. not (truth u.value) ≡ true) (λ (u : Weighted). u) ws w (ap not is) at)) h

  pub side_of : (g : Tried) → Picked (λ v. HasEnd (side xs ys v)) g e → Side g xs ys e
  side_of (Ok ws) h =
      let r = among_image (λ w. HasEnd (side xs ys w.value) e) (λ (w : Weighted). w) ws h in
      side_by ws r.0 (truth r.0.value) r.1 refl r.2
  side_of (Err f) h = on_fault f refl h
