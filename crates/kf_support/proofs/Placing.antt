-- Reached stores with their scales: what ways more to them change.
use Rattle.std.proofs.Common.{◌≡◌, ℕ, ◌*◌, ◌<◌, List, [], ◌∷◌, Option, Some, None, Ok, Err, refl, sym, ap, subst, ◌∙◌, arith, ◌↔◌, cond}
use Rattle.std.specs.List.{AllByRecursion as Each}
use Rattle.std.specs.Ordering.{nat_cmp, match_ordering, is_eq}
use Rattle.std.specs.declared.cmp.Ordering.{Ordering}
use Rattle.std.specs.declared.cmp.Ordering.TheVariants.{Less, Equal, Greater}
use Rattle.std.specs.Map.{lookup}
use Rattle.std.specs.BTreeMap.{insert_entry, is_at}
use Rattle.std.specs.Cmp.{nat_cmp_is}
use Rattle.std.proofs.Math.Nat.{mul-one}
use Rattle.std.proofs.lemmas.Cmp.{ranked}
use Rattle.kf_frac.specs.Divisors.{lcm_of}
use Rattle.kf_frac.proofs.CommonMultiples.{product_positive}
use Rattle.kf_value.proofs.ListLemmas.{each_weaker}
use Rattle.kf_core.specs.Results.{then_ok}
use Rattle.kf_core.specs.Support.{Passed}
use Rattle.kf_support.specs.Carried.{Reached, Lead, capped, met, with_way, with_ways, with_all, carry_step}
use Rattle.kf_support.proofs.Dividing.{capped_positive, lcm_positive}

-- ---- what is the same

pub through : {A B C : Type 0} → A ↔ B → B ↔ C → A ↔ C
through f g = (λ a. g.0 (f.0 a), λ c. f.1 (g.1 c))

pub back : {A B : Type 0} → A ↔ B → B ↔ A
back f = (f.1, f.0)

pub beside : {A B C D : Type 0} → A ↔ C → B ↔ D → (A × B) ↔ (C × D)
beside f g = (λ h. (f.0 h.0, g.0 h.1), λ h. (f.1 h.0, g.1 h.1))

module _ {X : Type 0} (P Q : X → Type 0) where
  pub each_same : ((x : X) → P x ↔ Q x) → (xs : List X) → Each P xs ↔ Each Q xs
  each_same same xs = (each_weaker P Q (λ x. (same x).0) xs, each_weaker Q P (λ x. (same x).1) xs)

  pub each_pair : (xs : List X) → Each (λ x. P x × Q x) xs ↔ (Each P xs × Each Q xs)
  each_pair [] = (λ h. (tt, tt), λ h. tt)
  each_pair (x ∷ xs) = let l = each_pair xs in (λ h. let r = l.0 h.1 in ((h.0.0, r.0), (h.0.1, r.1)), λ h. ((h.0.0, h.1.0), l.1 (h.0.1, h.1.1)))

-- what is the same where a third fact holds
module _ {X : Type 0} (W P Q : X → Type 0) (same : (x : X) → W x → P x ↔ Q x) where
  pub each_same_where : (xs : List X) → Each W xs → Each P xs ↔ Each Q xs
  each_same_where [] w = (λ h. tt, λ h. tt)
  each_same_where (x ∷ xs) w = beside (same x w.0) (each_same_where xs w.1)

-- ---- stores in ascending number, with positive scales

abbrev pub Good : Reached → Type 0
Good [] = Unit {0}
Good (e ∷ es) = 0 < e.1 × Each (λ f. e.0 < f.0) es × Good es

abbrev pub Post : Type 1
Post = ℕ → ℕ → Type 0

-- what holds of each store with its scale
abbrev pub Fits : Post → Reached → Type 0
Fits Q es = Each (λ e. Q e.0 e.1) es

pub good_positive : (es : Reached) → Good es → Each (λ e. 0 < e.1) es
good_positive [] h = tt
good_positive (e ∷ es) h = (h.0, good_positive es h.2)

-- it holds of a common multiple where it holds of both, and of a capped scale where it holds of the scale
pub record Nice (Q : ℕ → ℕ → Type 0) : Type 0 where
  pub joins : (n a b s : ℕ) → Q n (lcm_of a b * s) ↔ (Q n (a * s) × Q n (b * s))
  pub caps : (n a s : ℕ) → Q n (capped a * s) ↔ Q n (a * s)

pub at_one : (P : ℕ → Type 0) (x : ℕ) → P (x * 1) ↔ P x
at_one P x = (λ h. subst P (mul-one x) h, λ h. subst P (sym (mul-one x)) h)

module _ (Q : ℕ → ℕ → Type 0) (nice : Nice Q) where
  pub cap_alone : (n a : ℕ) → Q n (capped a) ↔ Q n a
  cap_alone n a = through (back (at_one (Q n) (capped a))) (through (nice.caps n a 1) (at_one (Q n) a))

  pub join_alone : (n a b : ℕ) → Q n (capped (lcm_of a b)) ↔ (Q n a × Q n b)
  join_alone n a b =
      through (cap_alone n (lcm_of a b))
      (through (back (at_one (Q n) (lcm_of a b))) (through (nice.joins n a b 1) (beside (at_one (Q n) a) (at_one (Q n) b))))

-- ---- one way more

pub data Adds (n s : ℕ) : Reached → Reached → Type 0 where
  fresh : (es : Reached) → Each (λ f. n < f.0) es → Adds n s es ((n, s) ∷ es)
  again : (e : ℕ × ℕ) (es : Reached) → n ≡ e.0 → Adds n s (e ∷ es) ((e.0, capped (lcm_of e.1 s)) ∷ es)
  past : (e : ℕ × ℕ) (es fs : Reached) → e.0 < n → Adds n s es fs → Adds n s (e ∷ es) (e ∷ fs)

module _ (n s : ℕ) where
  abbrev old : Reached → Option ℕ
  old es = lookup (is_at (nat_cmp n)) es

  none_above : (es : Reached) → Each (λ f. n < f.0) es → old es ≡ None
  none_above [] h = refl
  none_above (e ∷ es) h = ap (λ (r : Ordering). cond (is_eq r) (Some e.1) (old es)) (sym (nat_cmp_is n e.0 Less h.0)) ∙ none_above es h.1

  abbrev value : Ordering → ℕ × ℕ → Reached → ℕ
  value r e es = met (cond (is_eq r) (Some e.1) (old es)) s

  adds_at : (e : ℕ × ℕ) (es : Reached) → Good (e ∷ es) → (r : Ordering) → r ≡ nat_cmp n e.0 → Adds n s es (with_way es n s)
      → Adds n s (e ∷ es) (match_ordering r ((n, value r e es) ∷ e ∷ es) ((e.0, value r e es) ∷ es) (e ∷ insert_entry nat_cmp es n (value r e es)))
  adds_at e es good Less is later =
      let low : n < e.0 = ranked n e.0 Less is in
      let above : Each (λ (f : ℕ × ℕ). n < f.0) es = each_weaker (λ (f : ℕ × ℕ). e.0 < f.0) (λ (f : ℕ × ℕ). n < f.0) (λ f h. omega (arith, low, h)) es good.1 in
      subst (λ (o : Option ℕ). Adds n s (e ∷ es) ((n, met o s) ∷ e ∷ es)) (sym (none_above es above)) (fresh (e ∷ es) (low, above))
  adds_at e es good Equal is later = again e es (ranked n e.0 Equal is)
  adds_at e es good Greater is later = past e es (with_way es n s) (ranked n e.0 Greater is) later

  pub adds : (es : Reached) → Good es → Adds n s es (with_way es n s)
  adds [] good = fresh [] tt
  adds (e ∷ es) good = adds_at e es good (nat_cmp n e.0) refl (adds es good.2)

  module _ (P : ℕ → Type 0) (here : P n) where
    pub each_adds : {es fs : Reached} → Adds n s es fs → Each (λ f. P f.0) es → Each (λ f. P f.0) fs
    each_adds (fresh es above) h = (here, h)
    each_adds (again e es is) h = h
    each_adds (past e es fs low later) h = (h.0, each_adds later h.1)

  good_adds : 0 < s → {es fs : Reached} → Adds n s es fs → Good es → Good fs
  good_adds p (fresh es above) h = (p, above, h)
  good_adds p (again e es is) h = (capped_positive (lcm_of e.1 s) (lcm_positive e.1 s h.0 p), h.1, h.2)
  good_adds p (past e es fs low later) h = (h.0, each_adds (λ k. e.0 < k) low later h.1, good_adds p later h.2)

  pub way_good : 0 < s → (es : Reached) → Good es → Good (with_way es n s)
  way_good p es good = good_adds p (adds es good) good

  module _ (Q : ℕ → ℕ → Type 0) (nice : Nice Q) where
    fits_adds : {es fs : Reached} → Adds n s es fs → Fits Q fs ↔ (Fits Q es × Q n s)
    fits_adds (fresh es above) = (λ h. (h.1, h.0), λ h. (h.1, h.0))
    fits_adds (again e es is) =
        let j = join_alone Q nice e.0 e.1 s in (
          λ h. let b = j.0 h.0 in ((b.0, h.1), subst (λ (m : ℕ). Q m s) (sym is) b.1),
          λ h. (j.1 (h.0.0, subst (λ (m : ℕ). Q m s) is h.1), h.0.1),
        )
    fits_adds (past e es fs low later) = let l = fits_adds later in (λ h. let r = l.0 h.1 in ((h.0, r.0), r.1), λ h. (h.0.0, l.1 (h.0.1, h.1)))

    pub way_fits : (es : Reached) → Good es → Fits Q (with_way es n s) ↔ (Fits Q es × Q n s)
    way_fits es good = fits_adds (adds es good)

-- ---- many ways more

pub ways_good : (s : ℕ) (es : Reached) (ns : List ℕ) → Good es → Each (λ n. 0 < s) ns → Good (with_ways es ns s)
ways_good s es [] good p = good
ways_good s es (n ∷ ns) good p = ways_good s (with_way es n s) ns (way_good n s p.0 es good) p.1

pub all_good : (es fs : Reached) → Good es → Each (λ f. 0 < f.1) fs → Good (with_all es fs)
all_good es [] good p = good
all_good es (f ∷ fs) good p = all_good (with_way es f.0 f.1) fs (way_good f.0 f.1 p.0 es good) p.1

module _ (Q : ℕ → ℕ → Type 0) (nice : Nice Q) where
  pub ways_fit : (s : ℕ) (es : Reached) (ns : List ℕ) → Good es → Each (λ n. 0 < s) ns → Fits Q (with_ways es ns s) ↔ (Fits Q es × Each (λ n. Q n s) ns)
  ways_fit s es [] good p = (λ h. (h, tt), λ h. h.0)
  ways_fit s es (n ∷ ns) good p =
      let l = ways_fit s (with_way es n s) ns (way_good n s p.0 es good) p.1 in
      let w = way_fits n s Q nice es good in
      (λ h. let r = l.0 h in let q = w.0 r.0 in (q.0, (q.1, r.1)), λ h. l.1 (w.1 (h.0, h.1.0), h.1.1))

  pub all_fit : (es fs : Reached) → Good es → Each (λ f. 0 < f.1) fs → Fits Q (with_all es fs) ↔ (Fits Q es × Fits Q fs)
  all_fit es [] good p = (λ h. (h, tt), λ h. h.0)
  all_fit es (f ∷ fs) good p =
      let l = all_fit (with_way es f.0 f.1) fs (way_good f.0 f.1 p.0 es good) p.1 in
      let w = way_fits f.0 f.1 Q nice es good in
      (λ h. let r = l.0 h in let q = w.0 r.0 in (q.0, (q.1, r.1)), λ h. l.1 (w.1 (h.0, h.1.0), h.1.1))

-- ---- the stores to which others lead

abbrev pub Led : Type 0
Led = Passed (List ℕ × ℕ)

-- the ways multiply by a positive scale
abbrev pub Positive : Led → Type 0
Positive (Ok to) = Each (λ n. 0 < to.1) to.0
Positive (Err f) = Unit {0}

abbrev pub Works : {A : Type 0} → Passed A → Type 0
Works (Ok x) = Unit {0}
Works (Err f) = ⊥

-- what holds where it leads
abbrev pub Lands : Led → Post → ℕ → Type 0
Lands (Ok to) Q v = Each (λ n. Q n (v * to.1)) to.0
Lands (Err f) Q v = Unit {0}

abbrev pub Stepped : Lead → Reached → Reached → Passed Reached → Type 1
Stepped lead acc es (Ok gs) = Good gs × Each (λ e. Works (lead e.0)) es × ((Q : ℕ → ℕ → Type 0) → Nice Q → Fits Q gs ↔ (Fits Q acc × Each (λ e. Lands (lead e.0) Q e.1) es))
Stepped lead acc es (Err f) = Unit {1}

module _ (lead : Lead) (positive : (n : ℕ) → Positive (lead n)) where
  scaled : (v : ℕ) → 0 < v → (s : ℕ) (ns : List ℕ) → Each (λ n. 0 < s) ns → Each (λ n. 0 < capped (v * s)) ns
  scaled v p s ns h = each_weaker (λ n. 0 < s) (λ n. 0 < capped (v * s)) (λ n q. capped_positive (v * s) (product_positive v s p q)) ns h

  stepped_past : (acc es : Reached) (e : ℕ × ℕ) (x : Led) → lead e.0 ≡ x → Good acc → 0 < e.1 → Positive x
      → ((acc : Reached) → Good acc → Stepped lead acc es (carry_step lead acc es))
      → Stepped lead acc (e ∷ es) (then_ok x (λ to. carry_step lead (with_ways acc to.0 (capped (e.1 * to.1))) es))
  stepped_past acc es e (Err f) is good p q later = tt
  stepped_past acc es e (Ok to) is good p q later =
      at (carry_step lead (with_ways acc to.0 s) es) (later (with_ways acc to.0 s) (ways_good s acc to.0 good high))
    where
      s : ℕ
      s = capped (e.1 * to.1)

      high : Each (λ n. 0 < s) to.0
      high = scaled e.1 p to.1 to.0 q

      at : (r : Passed Reached) → Stepped lead (with_ways acc to.0 s) es r → Stepped lead acc (e ∷ es) r
      at (Err f) h = tt
      at (Ok gs) h = (
        h.0,
        (subst (λ (y : Led). Works y) (sym is) tt, h.1),
        λ Q nice.
            let ways = ways_fit Q nice s acc to.0 good high in
            let lands = each_same (λ n. Q n s) (λ n. Q n (e.1 * to.1)) (λ n. cap_alone Q nice n (e.1 * to.1)) to.0 in
            let rest = h.2 Q nice in (
              λ f. let r = rest.0 f in let w = ways.0 r.0 in (w.0, (subst (λ (y : Led). Lands y Q e.1) (sym is) (lands.0 w.1), r.1)),
              λ f. rest.1 (ways.1 (f.0, lands.1 (subst (λ (y : Led). Lands y Q e.1) is f.1.0)), f.1.1),
            ),
      )

  pub stepped : (acc es : Reached) → Good acc → Each (λ e. 0 < e.1) es → Stepped lead acc es (carry_step lead acc es)
  stepped acc [] good p = (good, tt, λ Q nice. (λ h. (h, tt), λ h. h.0))
  stepped acc (e ∷ es) good p = stepped_past acc es e (lead e.0) refl good p.0 (positive e.0) (λ acc good. stepped acc es good p.1)
