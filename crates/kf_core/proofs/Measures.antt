-- Measures of weight on stores, and what runs carry them.
use Rattle.std.proofs.Common.{◌≡◌, ℕ, ◌+◌, ◌*◌, ◌/◌, ◌<◌, List, [], ◌∷◌, ◌++◌, map, Result, Ok, Err, refl, sym, ap, subst, ◌∙◌, arith, append_assoc, append-nil}
use Rattle.std.specs.List.{AllByRecursion as Each, flat_map}
use Rattle.std.specs.Int.{◌∣◌}
use Rattle.std.proofs.Math.Nat.{dvd-add, dvd-mul_right, mul-one, div-one}
use Rattle.std.proofs.lemmas.Nat.Gcd.{dvd_trans}
use Rattle.kf_value.specs.Values.{ValueTree}
use Rattle.kf_core.specs.Choices.{Weighted}
use Rattle.kf_core.specs.Runs.{Run, Halted, joined, chain, choice_run, stay}
use Rattle.kf_core.proofs.Sums.{adds, adds_joined, share_divides, share_of_share, share_of_sum, first_positive, second_positive}
use Rattle.kf_core.specs.Each.{onward}

-- a value for weight on a store, additive where the weight is of some form
pub record Measure : Type 1 where
  pub holds : ℕ → ℕ → Type 0
  pub value : ℕ → ℕ → ℕ
  pub closed : (n a b : ℕ) → holds n a → holds n b → holds n (a + b)
  pub linear : (n a b : ℕ) → holds n a → holds n b → value n (a + b) ≡ value n a + value n b

abbrev pub Trace : Type 0
Trace = List ValueTree

-- ---- runs

abbrev pub Ends : Measure → Result ℕ Halted → ℕ → Type 0
Ends M (Ok n) w = M.holds n w
Ends M (Err f) w = ⊥

abbrev pub end_value : Measure → Result ℕ Halted → ℕ → ℕ
end_value M (Ok n) w = M.value n w
end_value M (Err f) w = 0

-- a run behind a trace, of a store with this weight, brings its share of it to its end
abbrev pub RunWithin : (Trace → Measure) → Trace → ℕ → Run → Type 0
RunWithin M t v r = (0 < r.scale) × (r.scale ∣ v) × Ends (M (t ++ r.trace)) r.end (v / r.scale * r.weight)

abbrev pub run_value : (Trace → Measure) → Trace → ℕ → Run → ℕ
run_value M t v r = end_value (M (t ++ r.trace)) r.end (v / r.scale * r.weight)

abbrev pub RunsWithin : (Trace → Measure) → Trace → ℕ → List Run → Type 0
RunsWithin M t v rs = Each (λ r. RunWithin M t v r) rs

abbrev pub runs_value : (Trace → Measure) → Trace → ℕ → List Run → ℕ
runs_value M t v rs = adds (λ r. run_value M t v r) rs

module _ (M : Measure) where
  ends_sum : (x : Result ℕ Halted) (a b c : ℕ) → c ≡ a + b → Ends M x a → Ends M x b → Ends M x c × (end_value M x c ≡ end_value M x a + end_value M x b)
  ends_sum (Ok n) a b c is h k = (subst (M.holds n) (sym is) (M.closed n a b h k), ap (M.value n) is ∙ M.linear n a b h k)
  ends_sum (Err f) a b c is h k = absurd h

module _ (M : Trace → Measure) (t : Trace) (a b : ℕ) where
  run_sum : (r : Run) → RunWithin M t a r → RunWithin M t b r → RunWithin M t (a + b) r × (run_value M t (a + b) r ≡ run_value M t a r + run_value M t b r)
  run_sum r h k =
      let s = ends_sum (M (t ++ r.trace)) r.end (a / r.scale * r.weight) (b / r.scale * r.weight) ((a + b) / r.scale * r.weight) (share_of_sum r.scale a b r.weight h.0 h.1 k.1) h.2 k.2 in
      ((h.0, dvd-add r.scale h.1 k.1, s.0), s.1)

  pub runs_sum : (rs : List Run) → RunsWithin M t a rs → RunsWithin M t b rs → RunsWithin M t (a + b) rs × (runs_value M t (a + b) rs ≡ runs_value M t a rs + runs_value M t b rs)
  runs_sum [] h k = (tt, refl)
  runs_sum (r ∷ rs) h k =
      let one = run_sum r h.0 k.0 in
      let others = runs_sum rs h.1 k.1 in
      ((one.0, others.0), omega (arith, one.1, others.1))

-- what the runs from each store bring
abbrev pub ahead : (Trace → Measure) → (ℕ → List Run) → Trace → Measure
ahead M from t = record {
  holds = λ n v. RunsWithin M t v (from n);
  value = λ n v. runs_value M t v (from n);
  closed = λ n a b h k. (runs_sum M t a b (from n) h k).0;
  linear = λ n a b h k. (runs_sum M t a b (from n) h k).1;
}

-- ---- one run and others behind it

abbrev pub Full : {X : Type 0} → List X → Type 0
Full [] = ⊥
Full (x ∷ xs) = Unit {0}

module _ {X : Type 0} (P : X → Type 0) where
  pub each_left : (xs ys : List X) → Each P (xs ++ ys) → Each P xs
  each_left [] ys h = tt
  each_left (x ∷ xs) ys h = (h.0, each_left xs ys h.1)

  pub each_right : (xs ys : List X) → Each P (xs ++ ys) → Each P ys
  each_right [] ys h = h
  each_right (x ∷ xs) ys h = each_right xs ys h.1

module _ (M : Trace → Measure) (t : Trace) (v : ℕ) (r : Run) where
  module _ (q : Run) (h : RunWithin M t v (joined r q)) where
    joined_divides : r.scale ∣ v
    joined_divides = subst (λ (n : ℕ). r.scale ∣ n) refl (dvd_trans r.scale (dvd-mul_right r.scale q.scale) h.1)

    joined_positive : 0 < r.scale
    joined_positive = first_positive r.scale q.scale h.0

    joined_end : (x : Result ℕ Halted) (u : Trace) (w : ℕ) → t ++ (r.trace ++ q.trace) ≡ u → v / (r.scale * q.scale) * (r.weight * q.weight) ≡ w
        → Ends (M (t ++ (r.trace ++ q.trace))) x (v / (r.scale * q.scale) * (r.weight * q.weight)) → Ends (M u) x w
    joined_end x u w et ew k = subst (λ (z : ℕ). Ends (M u) x z) ew (subst (λ (z : Trace). Ends (M z) x (v / (r.scale * q.scale) * (r.weight * q.weight))) et k)

    joined_run : RunWithin M (t ++ r.trace) (v / r.scale * r.weight) q × (run_value M t v (joined r q) ≡ run_value M (t ++ r.trace) (v / r.scale * r.weight) q)
    joined_run =
        let et : t ++ (r.trace ++ q.trace) ≡ t ++ r.trace ++ q.trace = sym (append_assoc t r.trace q.trace) in
        let ew : v / (r.scale * q.scale) * (r.weight * q.weight) ≡ v / r.scale * r.weight / q.scale * q.weight = share_of_share v r.scale q.scale r.weight joined_positive h.1 q.weight in (
          (second_positive r.scale q.scale h.0, share_divides v r.scale q.scale r.weight joined_positive h.1, joined_end q.end (t ++ r.trace ++ q.trace) (v / r.scale * r.weight / q.scale * q.weight) et ew h.2),
          λ i. end_value (M (et i)) q.end (ew i),
        )

  pub joined_runs : (qs : List Run) → RunsWithin M t v (map (joined r) qs)
      → RunsWithin M (t ++ r.trace) (v / r.scale * r.weight) qs × (runs_value M t v (map (joined r) qs) ≡ runs_value M (t ++ r.trace) (v / r.scale * r.weight) qs)
  joined_runs [] h = (tt, refl)
  joined_runs (q ∷ qs) h =
      let one = joined_run q h.0 in
      let others = joined_runs qs h.1 in
      ((one.0, others.0), omega (arith, one.1, others.1))

  pub joined_first : (qs : List Run) → Full qs → RunsWithin M t v (map (joined r) qs) → (0 < r.scale) × (r.scale ∣ v)
  joined_first [] full h = absurd full
  joined_first (q ∷ qs) full h = (joined_positive q h.0, joined_divides q h.0)

-- ---- runs that go on from where others end

module _ (M : Trace → Measure) (t : Trace) (v : ℕ) (next : ℕ → List Run) (full : (n : ℕ) → Full (next n)) where
  onward_run : (r : Run) (x : Result ℕ Halted) → r.end ≡ x → RunsWithin M t v (onward next r x)
      → ((0 < r.scale) × (r.scale ∣ v) × Ends (ahead M next (t ++ r.trace)) x (v / r.scale * r.weight))
      × (runs_value M t v (onward next r x) ≡ end_value (ahead M next (t ++ r.trace)) x (v / r.scale * r.weight))
  onward_run r (Ok n) is h =
      let j = joined_runs M t v r (next n) h in
      let f = joined_first M t v r (next n) (full n) h in
      ((f.0, f.1, j.0), j.1)
  onward_run r (Err f) is h = absurd (subst (λ (x : Result ℕ Halted). Ends (M (t ++ r.trace)) x (v / r.scale * r.weight)) is h.0.2)

  pub chain_runs : (rs : List Run) → RunsWithin M t v (chain rs next) → RunsWithin (ahead M next) t v rs × (runs_value M t v (chain rs next) ≡ runs_value (ahead M next) t v rs)
  chain_runs [] h = (tt, refl)
  chain_runs (r ∷ rs) h =
      let head = onward next r r.end in
      let one = onward_run r r.end refl (each_left (λ r. RunWithin M t v r) head (chain rs next) h) in
      let others = chain_runs rs (each_right (λ r. RunWithin M t v r) head (chain rs next) h) in
      ((one.0, others.0), adds_joined (λ r. run_value M t v r) head (chain rs next) ∙ omega (arith, one.1, others.1))

-- ---- runs behind choices

module _ (M : Trace → Measure) (t : Trace) (v : ℕ) (leak : ValueTree → List ValueTree) (n k : ℕ) (next : ValueTree → List Run) where
  abbrev pub chosen_runs : List Weighted → List Run
  chosen_runs cs = flat_map (λ c. map (joined (choice_run leak n k c)) (next c.value)) cs

  abbrev pub ChosenWithin : List Weighted → Type 0
  ChosenWithin cs = Each (λ c. RunsWithin M (t ++ leak c.value) (v / k * c.weight) (next c.value)) cs

  abbrev pub chosen_value : List Weighted → ℕ
  chosen_value cs = adds (λ c. runs_value M (t ++ leak c.value) (v / k * c.weight) (next c.value)) cs

  pub choices_run : (cs : List Weighted) → RunsWithin M t v (chosen_runs cs) → ChosenWithin cs × (runs_value M t v (chosen_runs cs) ≡ chosen_value cs)
  choices_run [] h = (tt, refl)
  choices_run (c ∷ cs) h =
      let head = map (joined (choice_run leak n k c)) (next c.value) in
      let one = joined_runs M t v (choice_run leak n k c) (next c.value) (each_left (λ r. RunWithin M t v r) head (chosen_runs cs) h) in
      let others = choices_run cs (each_right (λ r. RunWithin M t v r) head (chosen_runs cs) h) in
      ((one.0, others.0), adds_joined (λ r. run_value M t v r) head (chosen_runs cs) ∙ omega (arith, one.1, others.1))

  pub choices_first : (cs : List Weighted) → Full cs → ((u : ValueTree) → Full (next u)) → RunsWithin M t v (chosen_runs cs) → (0 < k) × (k ∣ v)
  choices_first [] full fulls h = absurd full
  choices_first (c ∷ cs) full fulls h =
      joined_first M t v (choice_run leak n k c) (next c.value) (fulls c.value) (each_left (λ r. RunWithin M t v r) (map (joined (choice_run leak n k c)) (next c.value)) (chosen_runs cs) h)

-- ---- the run that stays

module _ (M : Trace → Measure) (t : Trace) (v n : ℕ) where
  whole_share : v / 1 * 1 ≡ v
  whole_share = mul-one (v / 1) ∙ div-one v

  pub stay_within : RunsWithin M t v (stay n) → (M t).holds n v
  stay_within h = subst (λ (z : ℕ). (M t).holds n z) whole_share (subst (λ (u : Trace). (M u).holds n (v / 1 * 1)) (append-nil t) h.0.2)

  pub stay_value : runs_value M t v (stay n) ≡ (M t).value n v
  stay_value =
      let e : (M (t ++ [])).value n (v / 1 * 1) ≡ (M t).value n v = (let et = append-nil t in let ew = whole_share in λ i. (M (et i)).value n (ew i)) in
      omega (arith, e)
