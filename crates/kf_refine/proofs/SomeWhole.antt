-- The weights of kept values are whole numbers without common factor, once they are divided by their greatest common divisor.
use Rattle.std.proofs.Common.{◌≡◌, ℕ, zero, suc, ◌+◌, ◌*◌, ◌/◌, ◌<◌, ◌≤◌, refl, sym, ap, ◌∙◌, subst, arith, ◌⊎◌, ⊎_elim, inl, inr, List, [], ◌∷◌, length, All, Contains, get_or, sum_by}
use Rattle.std.specs.Int.{◌∣◌}
use Rattle.std.proofs.Math.Nat.{mul-dvd-mul_left, dvd_of_mul-dvd-mul_left, mul-div_cancel', pos_of_dvd_of_pos, eq-one_of_dvd-one}
use Rattle.std.proofs.lemmas.Nat.Gcd.{dvd_refl, dvd_trans, dvd-zero}
use Rattle.std.proofs.lemmas.Bool.{cases_lt}
use Rattle.std.proofs.lemmas.List.Elements.{All-head}
use Rattle.std.proofs.lemmas.List.Sums.{sum_by-cons}
use Rattle.kf_frac.specs.Divisors.{gcd_of}
use Rattle.kf_frac.proofs.CommonDivisors.{gcd_is}
use Rattle.kf_frac.proofs.CommonMultiples.{product_positive}
use Rattle.kf_column.specs.declared.entry.Entry.{Entry}
use Rattle.kf_column.specs.Columns.{weight_at, total}
use Rattle.kf_column.specs.Hypers.{Inner, IsInner}
use Rattle.kf_column.specs.Averages.{joint_weight, average_weight}
use Rattle.kf_column.proofs.AtMostOne.{In}
use Rattle.kf_column.proofs.Weights.{weight_at_head}
use Rattle.kf_refine.specs.Refinements.{HyperTree, count, joint}
use Rattle.kf_refine.specs.Equations.{HasWeight, AreKept, AreWhole}
use Rattle.kf_refine.specs.Views.{IsProper}
use Rattle.kf_refine.proofs.OneSystem.{in_list, has_member}
use Rattle.kf_refine.proofs.SomeKept.{has_weight, weight_below, bound}
use Rattle.kf_refine.proofs.SomeTargets.{Decided}

-- ---- common divisors of families

-- the greatest number of which a fact holds that says "it divides all of a family"
pub record Greatest (D : ℕ → Type 0) : Type 0 where
  pub divisor : ℕ
  pub divides : D divisor
  pub greatest : (d : ℕ) → D d → d ∣ divisor

-- of what holds a divisor has it too
abbrev pub IsClosed : (ℕ → Type 0) → Type 0
IsClosed D = (d e : ℕ) → d ∣ e → D e → D d

pub both_greatest : (D E : ℕ → Type 0) → IsClosed D → IsClosed E → Greatest D → Greatest E → Greatest (λ d. D d × E d)
both_greatest D E closed closed' g h =
    let is = gcd_is g.divisor h.divisor in
    record {
      divisor = gcd_of g.divisor h.divisor;
      divides = (closed (gcd_of g.divisor h.divisor) g.divisor is.0 g.divides, closed' (gcd_of g.divisor h.divisor) h.divisor is.1 h.divides);
      greatest = λ d both. is.2 d (g.greatest d both.0) (h.greatest d both.1);
    }

pub greatest_of : (n : ℕ) → Greatest (λ d. d ∣ n)
greatest_of n = record { divisor = n; divides = dvd_refl n; greatest = λ d h. h }

-- it divides the numbers of n places
abbrev pub DividesBelow : ℕ → (ℕ → ℕ) → ℕ → Type 0
DividesBelow n f d = (i : ℕ) → i < n → d ∣ f i

pub closed_below : (n : ℕ) (f : ℕ → ℕ) → IsClosed (DividesBelow n f)
closed_below n f d e h all i l = dvd_trans d h (all i l)

pub carried : (D E : ℕ → Type 0) → ((d : ℕ) → D d → E d) → ((d : ℕ) → E d → D d) → Greatest D → Greatest E
carried D E to back g = record { divisor = g.divisor; divides = to g.divisor g.divides; greatest = λ d h. g.greatest d (back d h) }

pub greatest_below : (n : ℕ) (f : ℕ → ℕ) → Greatest (DividesBelow n f)
greatest_below zero f = record { divisor = 0; divides = λ i l. absurd (omega arith); greatest = λ d h. dvd-zero d }
greatest_below (suc n) f =
    carried (λ d. DividesBelow n f d × (d ∣ f n)) (DividesBelow (suc n) f)
    (λ d both. λ (i : ℕ) (l : i < suc n). ⊎_elim (λ (m : i < n). both.0 i m) (λ (m : n ≤ i). let e : n ≡ i = omega arith in subst (λ (k : ℕ). d ∣ f k) e both.1) (cases_lt i n))
    (λ d all. ((λ i l. all i (omega arith)), all n (omega arith)))
    (both_greatest (DividesBelow n f) (λ d. d ∣ f n) (closed_below n f) (λ d e h k. dvd_trans d h k) (greatest_below n f) (greatest_of (f n)))

-- it divides the numbers of each member
abbrev pub DividesAlong : (ℕ → ℕ → Type 0) → List ℕ → ℕ → Type 0
DividesAlong D xs d = (x : ℕ) → In x xs → D x d

greatest_along : (D : ℕ → ℕ → Type 0) (xs : List ℕ) → ((x : ℕ) → IsClosed (D x)) → ((x : ℕ) → Greatest (D x)) → Greatest (DividesAlong D xs)
greatest_along D [] closed each = record { divisor = 0; divides = λ x here. absurd here; greatest = λ d h. dvd-zero d }
greatest_along D (y ∷ ys) closed each =
    carried (λ d. D y d × DividesAlong D ys d) (DividesAlong D (y ∷ ys))
    (λ d both. λ (x : ℕ) (here : In x (y ∷ ys)). ⊎_elim (λ (e : x ≡ y). subst (λ (z : ℕ). D z d) (sym e) both.0) (λ (h : In x ys). both.1 x h) here)
    (λ d all. (all y (inl refl), (λ x here. all x (inr here))))
    (both_greatest (D y) (DividesAlong D ys) (closed y) (λ d e h all x here. closed x d e h (all x here)) (each y) (greatest_along D ys closed each))

-- nothing but 1 divides all quotients
pub only_one : (g d : ℕ) → 0 < g → (g * d) ∣ g → d ≡ 1
only_one g d some h = eq-one_of_dvd-one (dvd_of_mul-dvd-mul_left {k = g} d {n = 1} some (subst (λ (n : ℕ). (g * d) ∣ n) (whole g) h))
  where
    whole : (g : ℕ) → g ≡ g * 1
    whole g = omega arith

pub back_times : (g d n : ℕ) → g ∣ n → d ∣ (n / g) → (g * d) ∣ n
back_times g d n divides h = subst (λ (k : ℕ). (g * d) ∣ k) (mul-div_cancel' g divides) (mul-dvd-mul_left d g h)

-- ---- some weight is above 0

record SomeInner (inners : List Inner) (x : ℕ) : Type 0 where
  i : ℕ
  inside : i < length inners
  above : 0 < joint_weight x (get_or inners i (record { entries = []; total = 0 }))

some_inner : (inners : List Inner) (x : ℕ) → 0 < average_weight inners x → SomeInner inners x
some_inner [] x h = absurd (omega (arith, h))
some_inner (i ∷ inners) x h =
    ⊎_elim
    (λ (first : 0 < joint_weight x i). record { i = 0; inside = omega arith; above = first })
    (λ (none : joint_weight x i ≤ 0).
    let rest = some_inner inners x (omega (arith, sum_by-cons (joint_weight x) i inners, none, h)) in
    record { i = suc rest.i; inside = omega (arith, rest.inside); above = rest.above })
    (cases_lt 0 (joint_weight x i))

quotient_positive : (g n : ℕ) → g ∣ n → 0 < n → 0 < n / g
quotient_positive g n divides some = by (n / g) (mul-div_cancel' g divides)
  where
    by : (q : ℕ) → g * q ≡ n → 0 < q
    by zero e = absurd (omega (arith, e, some))
    by (suc q) e = omega arith

-- the first entry of a proper inner has weight
some_entry : (i : Inner) → IsInner i.entries → 0 < i.total → total i.entries ∣ i.total → (x : ℕ) × (0 < joint_weight x i)
some_entry i is used divides = of i.entries is refl
  where
    of : (entries : List Entry) → IsInner entries → entries ≡ i.entries → (x : ℕ) × (0 < joint_weight x i)
    of [] is e = absurd (is.column.some refl)
    of (f ∷ fs) is e =
        let here : 0 < weight_at (f ∷ fs) f.value = omega (arith, weight_at_head f fs f.value refl, All-head (λ (f : Entry). 0 < f.weight) f fs is.column.positive) in (
          f.value,
          product_positive (weight_at i.entries f.value) (i.total / total i.entries)
              (subst (λ (l : List Entry). 0 < weight_at l f.value) e here) (quotient_positive (total i.entries) i.total divides used),
        )

-- a hyper's weights aren't all 0
some_weight : (inners : List Inner) → All (λ (i : Inner). IsInner i.entries) inners → All (λ (i : Inner). 0 < i.total) inners
    → All (λ (i : Inner). total i.entries ∣ i.total) inners → 0 < sum_by (λ (i : Inner). i.total) inners → (x : ℕ) × (0 < average_weight inners x)
some_weight [] is used divides some = absurd (omega (arith, some))
some_weight (i ∷ inners) is used divides some =
    let here = some_entry i (All-head (λ (i : Inner). IsInner i.entries) i inners is) (All-head (λ (i : Inner). 0 < i.total) i inners used)
    (All-head (λ (i : Inner). total i.entries ∣ i.total) i inners divides) in
    (here.0, omega (arith, sum_by-cons (joint_weight here.0) i inners, here.1))

-- so it has an inner
pub some_inners : (a : HyperTree) → IsProper a → 0 < count a
some_inners a p = of a.inners (subst (λ (n : ℕ). 0 < n) (sym p.whole) p.some)
  where
    of : (inners : List Inner) → 0 < sum_by (λ (i : Inner). i.total) inners → 0 < length inners
    of [] some = absurd (omega (arith, some))
    of (i ∷ inners) some = omega arith

-- the least number of which a decided fact holds
least : (P : ℕ → Type 0) → ((k : ℕ) → Decided (P k)) → (n : ℕ) → ((m : ℕ) × P m × ((k : ℕ) → k < m → P k → ⊥)) ⊎ ((k : ℕ) → k < n → P k → ⊥)
least P decide zero = inr (λ k l. absurd (omega arith))
least P decide (suc n) =
    ⊎_elim
    (λ (found : (m : ℕ) × P m × ((k : ℕ) → k < m → P k → ⊥)). inl found)
    (λ (none : (k : ℕ) → k < n → P k → ⊥). ⊎_elim
    (λ (h : P n). inl (n, h, none))
    (λ (no' : P n → ⊥). inr (λ (k : ℕ) (l : k < suc n) (h : P k).
    ⊎_elim (λ (m : k < n). none k m h) (λ (m : n ≤ k). let e : k ≡ n = omega arith in no' (subst P e h)) (cases_lt k n)))
    (decide n))
    (least P decide n)

-- some value is kept
some_member : (a b : HyperTree) (xs : List ℕ) → IsProper a → IsProper b → AreKept a b xs → (x : ℕ) × Contains xs x × HasWeight a b x
some_member a b xs p q h =
    let some = some_weight a.inners p.inner p.used p.multiple (subst (λ (n : ℕ). 0 < n) (sym p.whole) p.some) in
    let has : HasWeight a b some.0 = omega (arith, some.1) in
    ⊎_elim
    (λ (found : (x : ℕ) × HasWeight a b x × ((k : ℕ) → k < x → HasWeight a b k → ⊥)).
    (found.0, (h.kept found.0).1 (found.1, (λ y l w _. found.2 y l w)), found.1))
    (λ (none : (k : ℕ) → k < bound a b → HasWeight a b k → ⊥). absurd (none some.0 (weight_below a b some.0 p q has) has))
    (least (HasWeight a b) (has_weight a b) (bound a b))

-- ---- the whole weights

module _ (a b : HyperTree) (xs : List ℕ) (p : IsProper a) (q : IsProper b) (h : AreKept a b xs) where
  -- the weights over both scales
  abbrev with_a : ℕ → ℕ → ℕ
  with_a x i = b.scale * joint a x i

  abbrev with_b : ℕ → ℕ → ℕ
  with_b x j = a.scale * joint b x j

  abbrev DividesAt : ℕ → ℕ → Type 0
  DividesAt x d = DividesBelow (count a) (with_a x) d × DividesBelow (count b) (with_b x) d

  closed_at : (x : ℕ) → IsClosed (DividesAt x)
  closed_at x d e k both = (closed_below (count a) (with_a x) d e k both.0, closed_below (count b) (with_b x) d e k both.1)

  pub common : Greatest (DividesAlong DividesAt xs)
  common =
      greatest_along DividesAt xs closed_at
      (λ x. both_greatest (DividesBelow (count a) (with_a x)) (DividesBelow (count b) (with_b x)) (closed_below (count a) (with_a x)) (closed_below (count b) (with_b x))
      (greatest_below (count a) (with_a x)) (greatest_below (count b) (with_b x)))

  divides_a : (x i : ℕ) → Contains xs x → i < count a → common.divisor ∣ with_a x i
  divides_a x i has l = (common.divides x (in_list xs x has)).0 i l

  divides_b : (x j : ℕ) → Contains xs x → j < count b → common.divisor ∣ with_b x j
  divides_b x j has l = (common.divides x (in_list xs x has)).1 j l

  some_common : 0 < common.divisor
  some_common =
      let x = some_member a b xs p q h in
      let some : 0 < average_weight a.inners x.0 + average_weight b.inners x.0 = x.2 in
      ⊎_elim
      (λ (of_a : 0 < average_weight a.inners x.0).
      let i = some_inner a.inners x.0 of_a in
      pos_of_dvd_of_pos (divides_a x.0 i.i x.1 i.inside) (product_positive b.scale (joint a x.0 i.i) q.some i.above))
      (λ (none : average_weight a.inners x.0 ≤ 0).
      let j = some_inner b.inners x.0 (omega (arith, some, none)) in
      pos_of_dvd_of_pos (divides_b x.0 j.i x.1 j.inside) (product_positive a.scale (joint b x.0 j.i) p.some j.above))
      (cases_lt 0 (average_weight a.inners x.0))

  abbrev pub whole_a : ℕ → ℕ → ℕ
  whole_a x i = with_a x i / common.divisor

  abbrev pub whole_b : ℕ → ℕ → ℕ
  whole_b x j = with_b x j / common.divisor

  -- a quotient over its own scale, times the other's
  over_scale : (g s t w k : ℕ) → g * k ≡ t * w → g * s * k ≡ (s * t) * w
  over_scale g s t w k e = turn g s k ∙ ap (λ (n : ℕ). s * n) e ∙ regroup s t w
    where
      turn : (g s k : ℕ) → g * s * k ≡ s * (g * k)
      turn g s k = omega arith

      regroup : (s t w : ℕ) → s * (t * w) ≡ (s * t) * w
      regroup s t w = omega arith

  over_other : (g s t w k : ℕ) → g * k ≡ s * w → g * t * k ≡ (s * t) * w
  over_other g s t w k e = over_scale g t s w k e ∙ ap (λ (n : ℕ). n * w) (turn t s)
    where
      turn : (t s : ℕ) → t * s ≡ s * t
      turn t s = omega arith

  pub some_whole : AreWhole a b xs whole_a whole_b
  some_whole = record {
    factor = a.scale * b.scale;
    over = common.divisor;
    some_factor = product_positive a.scale b.scale p.some q.some;
    some_over = some_common;
    of_a = λ x i has l. over_scale common.divisor a.scale b.scale (joint a x i) (whole_a x i) (mul-div_cancel' common.divisor (divides_a x i has l));
    of_b = λ x j has l. over_other common.divisor a.scale b.scale (joint b x j) (whole_b x j) (mul-div_cancel' common.divisor (divides_b x j has l));
    no_common_factor = λ d of_a of_b.
        only_one common.divisor d some_common (common.greatest (common.divisor * d) (λ x here.
        let has = has_member xs x here in (
          (λ i l. back_times common.divisor d (with_a x i) (divides_a x i has l) (of_a x i has l)),
          (λ j l. back_times common.divisor d (with_b x j) (divides_b x j has l) (of_b x j has l)),
        )));
  }
