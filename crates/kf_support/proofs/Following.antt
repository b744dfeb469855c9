-- That the pass with scales follows the pass and the runs: the same faults, the same stores, and scales that tell those of the runs.
use Rattle.std.proofs.Common.{◌≡◌, ℕ, ◌*◌, ◌<◌, List, [], ◌∷◌, ◌++◌, Ok, Err, refl, sym, ap, subst, ◌↔◌, false, nat_eq}
use Rattle.std.specs.List.{AllByRecursion as Each}
use Rattle.std.specs.FinSet.{from_list}
use Rattle.std.specs.Map.{keys_of}
use Rattle.kf_core.specs.Runs.{Run, stay, chain}
use Rattle.kf_core.specs.Results.{then_ok}
use Rattle.kf_core.specs.Support.{StoreSet, Passed, step}
use Rattle.kf_core.specs.Each.{each_pass}
use Rattle.kf_support.specs.Carried.{Reached, Lead, capped, with_ways, carry_step}
use Rattle.kf_support.proofs.Dividing.{bound}
use Rattle.kf_support.proofs.Placing.{through, back, beside, each_same, each_same_where, Good, Nice, Fits, Led, Works, Positive, Lands, Stepped, stepped, good_positive}
use Rattle.kf_support.proofs.Leading.{Leads, each_joined, leads_chain, leads_stay, leads_nice}
use Rattle.kf_support.proofs.Sets.{set_of, in_order, Missing, NotAt, not_at_nice, listed_out, keys_out, same_sets}

-- ---- the same faults

abbrev pub SameFault : {A B : Type 0} → Passed A → Passed B → Type 0
SameFault (Ok x) (Ok y) = Unit {0}
SameFault (Ok x) (Err g) = ⊥
SameFault (Err f) (Ok y) = ⊥
SameFault (Err f) (Err g) = f ≡ g

module _ {A B C : Type 0} (turn : B → C) where
  fault_kept : (p : Passed A) (q : Passed B) → SameFault p q → SameFault p (then_ok q (λ x. Ok (turn x)))
  fault_kept (Ok x) (Ok y) h = tt
  fault_kept (Ok x) (Err g) h = h
  fault_kept (Err f) (Ok y) h = h
  fault_kept (Err f) (Err g) h = h

module _ (lead : Lead) (next : ℕ → Passed (List ℕ)) (same : (n : ℕ) → SameFault (lead n) (next n)) where
  faults_past : (acc es : Reached) (e : ℕ × ℕ) (x : Led) (y : Passed (List ℕ)) → SameFault x y → ((acc : Reached) → SameFault (carry_step lead acc es) (each_pass next (keys_of es)))
      → SameFault (then_ok x (λ to. carry_step lead (with_ways acc to.0 (capped (e.1 * to.1))) es)) (then_ok y (λ ms. then_ok (each_pass next (keys_of es)) (λ others. Ok (ms ++ others))))
  faults_past acc es e (Ok to) (Ok ms) h later =
      let further = with_ways acc to.0 (capped (e.1 * to.1)) in
      fault_kept (λ others. ms ++ others) (carry_step lead further es) (each_pass next (keys_of es)) (later further)
  faults_past acc es e (Ok to) (Err g) h later = absurd h
  faults_past acc es e (Err f) (Ok ms) h later = absurd h
  faults_past acc es e (Err f) (Err g) h later = h

  pub step_faults : (acc es : Reached) → SameFault (carry_step lead acc es) (each_pass next (keys_of es))
  step_faults acc [] = tt
  step_faults acc (e ∷ es) = faults_past acc es e (lead e.0) (next e.0) (same e.0) (λ acc. step_faults acc es)

-- ---- the same stores

abbrev pub Alike : ℕ → Led → Passed (List ℕ) → Type 0
Alike m (Ok to) (Ok ms) = Missing m to.0 ↔ Missing m ms
Alike m (Ok to) (Err g) = Unit {0}
Alike m (Err f) y = Unit {0}

module _ (lead : Lead) (next : ℕ → Passed (List ℕ)) (same : (n : ℕ) → SameFault (lead n) (next n)) (m : ℕ) (alike : (n : ℕ) → Alike m (lead n) (next n)) where
  abbrev Gone : Reached → Type 0
  Gone es = Each (λ e. Lands (lead e.0) (NotAt m) e.1) es

  abbrev pub Spared : Reached → Passed (List ℕ) → Type 0
  Spared es (Ok ms) = Each (λ e. Works (lead e.0)) es → Missing m ms ↔ Gone es
  Spared es (Err f) = Unit {0}

  abbrev SparedPast : Led → ℕ → Reached → Passed (List ℕ) → Type 0
  SparedPast x v es (Ok ms) = Works x × Each (λ e. Works (lead e.0)) es → Missing m ms ↔ (Lands x (NotAt m) v × Gone es)
  SparedPast x v es (Err f) = Unit {0}

  spared_past : (es : Reached) (v : ℕ) (x : Led) (y q : Passed (List ℕ)) → SameFault x y → Alike m x y → Spared es q
      → SparedPast x v es (then_ok y (λ ms. then_ok q (λ others. Ok (ms ++ others))))
  spared_past es v (Ok to) (Ok ms) (Ok others) h like later = λ w. through (each_joined (λ n. nat_eq n m ≡ false) ms others) (beside (back like) (later w.1))
  spared_past es v (Ok to) (Ok ms) (Err f) h like later = tt
  spared_past es v (Ok to) (Err g) q h like later = tt
  spared_past es v (Err f) (Ok ms) q h like later = absurd h
  spared_past es v (Err f) (Err g) q h like later = tt

  abbrev spared_more : (es : Reached) (e : ℕ × ℕ) (q : Passed (List ℕ)) → SparedPast (lead e.0) e.1 es q → Spared (e ∷ es) q
  spared_more es e (Ok ms) h = h
  spared_more es e (Err f) h = h

  pub spared : (es : Reached) → Spared es (each_pass next (keys_of es))
  spared [] = λ w. (λ h. tt, λ h. tt)
  spared (e ∷ es) =
      spared_more es e (then_ok (next e.0) (λ ms. then_ok (each_pass next (keys_of es)) (λ others. Ok (ms ++ others))))
      (spared_past es e.1 (lead e.0) (next e.0) (each_pass next (keys_of es)) (same e.0) (alike e.0) (spared es))

-- ---- following

abbrev pub Scales : (ℕ → List Run) → Reached → Reached → Type 1
Scales from es fs = (k : ℕ) → 0 < k → k < bound → (Q : ℕ → ℕ → Type 0) → Nice Q → Fits (λ n v. Leads k Q (from n) v) es ↔ Fits Q fs

abbrev pub Told : Passed StoreSet → (ℕ → List Run) → Reached → Passed Reached → Type 1
Told p from es (Ok fs) = Good fs × (p ≡ Ok (set_of fs)) × Scales from es fs
Told p from es (Err f) = (p ≡ Err f) × Unit {1}

abbrev pub Carries : (Reached → Passed Reached) → (StoreSet → Passed StoreSet) → (ℕ → List Run) → Type 1
Carries f g from = (es : Reached) → Good es → Told (g (set_of es)) from es (f es)

pub stay_carries : Carries (λ es. Ok es) (λ ns. Ok ns) stay
stay_carries es good = (good, refl, λ k p low Q nice. each_same (λ (e : ℕ × ℕ). Leads k Q (stay e.0) e.1) (λ (e : ℕ × ℕ). Q e.0 e.1) (λ e. leads_stay k Q e.0 e.1) es)

-- one after the other
module _ (g : StoreSet → Passed StoreSet) (a b : ℕ → List Run) (es fs : Reached) (first : Scales a es fs) where
  told_behind : (r : Passed Reached) → Told (g (set_of fs)) b fs r → Told (g (set_of fs)) (λ n. chain (a n) b) es r
  told_behind (Ok gs) h = (
    h.0,
    h.1,
    λ k p low Q nice.
        through (each_same (λ (e : ℕ × ℕ). Leads k Q (chain (a e.0) b) e.1) (λ (e : ℕ × ℕ). Leads k (λ n v. Leads k Q (b n) v) (a e.0) e.1) (λ e. leads_chain k Q b e.1 (a e.0)) es)
        (through (first k p low (λ n v. Leads k Q (b n) v) (leads_nice k p low Q nice b)) (h.2 k p low Q nice)),
  )
  told_behind (Err f) h = h

module _ (f f' : Reached → Passed Reached) (g g' : StoreSet → Passed StoreSet) (a b : ℕ → List Run) (one : Carries f g a) (other : Carries f' g' b) where
  told_chain : (es : Reached) (r : Passed Reached) (p : Passed StoreSet) → Told p a es r → Told (then_ok p g') (λ n. chain (a n) b) es (then_ok r f')
  told_chain es (Ok fs) p h =
      subst (λ (p : Passed StoreSet). Told (then_ok p g') (λ n. chain (a n) b) es (f' fs)) (sym h.1)
      (told_behind g' a b es fs h.2 (f' fs) (other fs h.0))
  told_chain es (Err x) p h = (ap (λ (p : Passed StoreSet). then_ok p g') h.0, tt)

  pub chain_carries : Carries (λ es. then_ok (f es) f') (λ ns. then_ok (g ns) g') (λ n. chain (a n) b)
  chain_carries es good = told_chain es (f es) (g (set_of es)) (one es good)

-- ---- steps

pub step_is : (next : ℕ → Passed (List ℕ)) (es : Reached) → Good es → step next (set_of es) ≡ then_ok (each_pass next (keys_of es)) (λ ms. Ok (from_list ms))
step_is next es good = let e = in_order es good in λ i. then_ok (each_pass next (e i)) (λ ms. Ok (from_list ms))

pub alone : {A : Type 0} → (Unit {0} × A) ↔ A
alone = (λ h. h.1, λ h. (tt, h))

module _ (lead : Lead) (next : ℕ → Passed (List ℕ)) (from : ℕ → List Run)
    (positive : (n : ℕ) → Positive (lead n)) (same : (n : ℕ) → SameFault (lead n) (next n)) (alike : (n m : ℕ) → Alike m (lead n) (next n))
    (leads : (k : ℕ) (Q : ℕ → ℕ → Type 0) (n v : ℕ) → Works (lead n) → Leads k Q (from n) v ↔ Lands (lead n) Q v) where
  told_step : (es : Reached) (r : Passed Reached) (q : Passed (List ℕ)) → Stepped lead [] es r → SameFault r q → ((m : ℕ) → Spared lead next same m (λ n. alike n m) es q)
      → Told (then_ok q (λ ms. Ok (from_list ms))) from es r
  told_step es (Ok fs) (Ok ms) h faults spares = (
    h.0,
    (let e = same_stores in λ i. Ok (e i)),
    λ k p low Q nice.
        through (each_same_where (λ (e : ℕ × ℕ). Works (lead e.0)) (λ (e : ℕ × ℕ). Leads k Q (from e.0) e.1) (λ (e : ℕ × ℕ). Lands (lead e.0) Q e.1) (λ e w. leads k Q e.0 e.1 w) es h.1)
        (back (through (h.2 Q nice) alone)),
  )
    where
      same_stores : from_list ms ≡ set_of fs
      same_stores =
          same_sets (from_list ms) (set_of fs)
          (λ m. through (listed_out m ms) (through (spares m h.1) (back (through (keys_out m fs) (through (h.2 (NotAt m) (not_at_nice m)) alone)))))
  told_step es (Ok fs) (Err g) h faults spares = absurd faults
  told_step es (Err f) (Ok ms) h faults spares = absurd faults
  told_step es (Err f) (Err g) h faults spares = (λ i. Err (sym faults i), tt)

  pub step_carries : Carries (carry_step lead []) (step next) from
  step_carries es good =
      subst (λ (p : Passed StoreSet). Told p from es (carry_step lead [] es)) (sym (step_is next es good))
      (told_step es (carry_step lead [] es) (each_pass next (keys_of es)) (stepped lead positive [] es tt (good_positive es good)) (step_faults lead next same [] es)
      (λ m. spared lead next same m (λ n. alike n m) es))
