-- Weights over their greatest common divisor, times factors without common divisor, are whole numbers without one.
use Rattle.std.proofs.Common.{◌≡◌, ℕ, zero, suc, ◌+◌, ◌-◌, ◌*◌, ◌/◌, ◌<◌, ◌≤◌, ◌⊎◌, inl, inr, ⊎_elim, refl, sym, ap, ◌∙◌, subst, arith, List, [], ◌∷◌, Contains, length, get_or}
use Rattle.std.specs.Int.{IsGcd, ◌∣◌}
use Rattle.std.proofs.Math.Nat.{mul-dvd-mul_left, dvd_of_mul-dvd-mul_left, mul-div_cancel', one-dvd, eq-one_of_dvd-one, pos_of_dvd_of_pos, dvd-mul_left}
use Rattle.std.proofs.lemmas.Bool.{cases_lt}
use Rattle.std.proofs.lemmas.Bool.Decides.{nat_tests}
use Rattle.std.proofs.lemmas.Nat.Gcd.{dvd_trans}
use Rattle.std.proofs.lemmas.List.{get_or_default}
use Rattle.std.proofs.lemmas.List.Elements.{All-head, Contains-get_or}
use Rattle.std.proofs.lemmas.List.Sums.{sum_by-cons}
use Rattle.kf_frac.specs.Divisors.{gcd_of}
use Rattle.kf_frac.proofs.CommonDivisors.{gcd_is, gcd_swap, gcd_quotients, divides_other, coprime_part, coprime_product}
use Rattle.kf_column.specs.declared.entry.Entry.{Entry}
use Rattle.kf_column.specs.Columns.{IsColumn, weight_at, total}
use Rattle.kf_column.specs.Hypers.{Inner, IsInner}
use Rattle.kf_column.specs.Averages.{joint_weight, average_weight}
use Rattle.kf_column.specs.Shapes.{IsShape}
use Rattle.kf_column.proofs.Weights.{weight_at_head}
use Rattle.kf_refine.specs.Refinements.{HyperTree, count, joint}
use Rattle.kf_refine.specs.Equations.{HasWeight, weight_in, AreKept, AreWhole}
use Rattle.kf_refine.specs.Views.{IsProper}
use Rattle.kf_refine.specs.Built.{IsDivisor, IsDivisorOf, InLowest, AreFactors}

-- ---- a greatest common divisor, one number after the other

pub divisor_more : (f : ℕ → ℕ) (k g now : ℕ) → IsDivisor f k g → now ≡ gcd_of g (f k) → IsDivisor f (k + 1) now
divisor_more f k g now had is =
    let gcd : IsGcd g (f k) now = subst (IsGcd g (f k)) (sym is) (gcd_is g (f k)) in
    record {
      divides = λ i l. ⊎_elim
          (λ (m : i < k). dvd_trans now gcd.0 (had.divides i m))
          (λ (m : k ≤ i). let e : k ≡ i = omega arith in subst (λ (n : ℕ). now ∣ f n) e gcd.1)
          (cases_lt i k);
      greatest = λ d all. gcd.2 d (had.greatest d (λ i l. all i (omega arith))) (all k (omega arith));
    }

pub divisors_more : (h : HyperTree) (xs : List ℕ) (k g here now : ℕ) → IsDivisorOf h xs k g → IsDivisor (joint h (get_or xs k 0)) (count h) here
    → now ≡ gcd_of g here → IsDivisorOf h xs (k + 1) now
divisors_more h xs k g here now had at is =
    let gcd : IsGcd g here now = subst (IsGcd g here) (sym is) (gcd_is g here) in
    record {
      divides = λ q i l m. ⊎_elim
          (λ (n : q < k). dvd_trans now gcd.0 (had.divides q i n m))
          (λ (n : k ≤ q). let e : k ≡ q = omega arith in
          subst (λ (p : ℕ). now ∣ joint h (get_or xs p 0) i) e (dvd_trans now gcd.1 (at.divides i m)))
          (cases_lt q k);
      greatest = λ d all. gcd.2 d (had.greatest d (λ q i l m. all q i (omega arith) m)) (at.greatest d (λ i m. all k i (omega arith) m));
    }

-- ---- some kept value has weight in each hyper

-- an element is what is read at its index
pub read_at : (xs : List ℕ) (x : ℕ) → (inside : Contains xs x) → get_or xs inside.0 0 ≡ x
read_at xs x inside = get_or_default xs inside.0 0 x inside.1 ∙ inside.2

product_some : (s t : ℕ) → 0 < s → 0 < t → 0 < s * t
product_some zero t p q = absurd (omega arith)
product_some (suc s) zero p q = absurd (omega arith)
product_some (suc s) (suc t) p q = omega arith

pub quotient_some : (g w : ℕ) → g ∣ w → 0 < w → 0 < w / g
quotient_some g w divides some = by (w / g) (mul-div_cancel' g divides)
  where
    by : (q : ℕ) → g * q ≡ w → 0 < q
    by zero e = omega arith
    by (suc q) e = omega arith

column_some : (entries : List Entry) → IsColumn entries → (x : ℕ) × (0 < weight_at entries x)
column_some [] is = absurd (is.some refl)
column_some (e ∷ es) is =
    let some : 0 < e.weight = All-head (λ (e : Entry). 0 < e.weight) e es is.positive in
    (e.value, omega (arith, weight_at_head e es e.value refl))

-- an inner that gives weight to nothing
abbrev nothing : Inner
nothing = record { entries = []; total = 0 }

inner_some : (size scale : ℕ) (inners : List Inner) → IsShape size scale inners → (x : ℕ) × (0 < length inners) × (0 < joint_weight x (get_or inners 0 nothing))
inner_some size scale [] is = absurd (let some = is.some in let whole = is.whole in omega arith)
inner_some size scale (i ∷ inners) is =
    let column = column_some i.entries ((All-head (λ (i : Inner). IsInner i.entries) i inners is.inner).column) in
    let used : 0 < i.total = All-head (λ (i : Inner). 0 < i.total) i inners is.used in
    let multiple : total i.entries ∣ i.total = All-head (λ (i : Inner). total i.entries ∣ i.total) i inners is.multiple in
    (column.0, omega arith, product_some (weight_at i.entries column.0) (i.total / total i.entries) column.1 (quotient_some (total i.entries) i.total multiple used))

-- a hyper has an inner
pub count_some : (size scale : ℕ) (inners : List Inner) → IsShape size scale inners → 0 < length inners
count_some size scale inners is = (inner_some size scale inners is).1

average_more : (inners : List Inner) (x i : ℕ) → joint_weight x (get_or inners i nothing) ≤ average_weight inners x
average_more [] x i = omega arith
average_more (n ∷ inners) x zero = omega (arith, sum_by-cons (joint_weight x) n inners)
average_more (n ∷ inners) x (suc i) = omega (arith, sum_by-cons (joint_weight x) n inners, average_more inners x i)

average_some : (inners : List Inner) (x : ℕ) → 0 < average_weight inners x → (i : ℕ) × (i < length inners) × (0 < joint_weight x (get_or inners i nothing))
average_some [] x p = absurd (omega arith)
average_some (n ∷ inners) x p = ⊎_elim
    (λ (l : 0 < joint_weight x n). (0, omega arith, l))
    (λ (l : joint_weight x n ≤ 0). let later = average_some inners x (omega (arith, sum_by-cons (joint_weight x) n inners)) in
    let m = later.1 in (suc later.0, omega arith, later.2))
    (cases_lt 0 (joint_weight x n))

module _ (a b : HyperTree) where
  weight_first : (x k : ℕ) → k < count a → weight_in a b x k ≡ joint a x k
  weight_first x k l = grind (arith, nat_tests)

  weight_second : (x k : ℕ) → count a ≤ k → weight_in a b x k ≡ joint b x (k - count a)
  weight_second x k l = grind (arith, nat_tests)

  weight_behind : (x j : ℕ) → weight_in a b x (count a + j) ≡ joint b x j
  weight_behind x j = weight_second x (count a + j) (omega arith) ∙ ap (joint b x) (omega arith)

  has_weight : (x k : ℕ) → 0 < weight_in a b x k → HasWeight a b x
  has_weight x k p = ⊎_elim
      (λ (l : k < count a). omega (arith, weight_first x k l, average_more a.inners x k))
      (λ (l : count a ≤ k). omega (arith, weight_second x k l, average_more b.inners x (k - count a)))
      (cases_lt k (count a))

  weight_some : (x : ℕ) → HasWeight a b x → (k : ℕ) × (0 < weight_in a b x k)
  weight_some x p = ⊎_elim
      (λ (l : 0 < average_weight a.inners x). let part = average_some a.inners x l in (part.0, omega (arith, weight_first x part.0 part.1, part.2)))
      (λ (l : average_weight a.inners x ≤ 0). let part = average_some b.inners x (omega arith) in (count a + part.0, omega (arith, weight_behind x part.0, part.2)))
      (cases_lt 0 (average_weight a.inners x))

  carried : (s t r w : ℕ) → s * t ≡ r * w → 0 < s → 0 < t → 0 < w
  carried s t r zero e p q = let some = product_some s t p q in omega arith
  carried s t r (suc w) e p q = omega arith

  module _ (xs : List ℕ) (is : AreKept a b xs) (k : ℕ) where
    none_left : ((x : ℕ) → Contains xs x → weight_in a b x k ≡ 0) → (fuel y : ℕ) → y < fuel → 0 < weight_in a b y k → ⊥
    none_left none zero y l p = omega arith
    none_left none (suc fuel) y l p =
        let inside : Contains xs y = (is.kept y).1 (
          has_weight y k p,
          λ x less weighs ratio.
              let other = weight_some x weighs in
              none_left none fuel x (omega arith) (carried (weight_in a b y k) (weight_in a b x other.0) (weight_in a b y other.0) (weight_in a b x k) (ratio k other.0) p other.1),
        ) in
        let zero' = none y inside in omega arith

    search_kept : (n : ℕ) → ((q : ℕ) × (q < n) × (0 < weight_in a b (get_or xs q 0) k)) ⊎ ((q : ℕ) → q < n → weight_in a b (get_or xs q 0) k ≡ 0)
    search_kept zero = inr (λ q l. absurd (omega arith))
    search_kept (suc n) = ⊎_elim
        (λ (found : (q : ℕ) × (q < n) × (0 < weight_in a b (get_or xs q 0) k)). let l = found.1 in inl (found.0, omega arith, found.2))
        (λ (none : (q : ℕ) → q < n → weight_in a b (get_or xs q 0) k ≡ 0). ⊎_elim
        (λ (some : 0 < weight_in a b (get_or xs n 0) k). inl (n, omega arith, some))
        (λ (some : weight_in a b (get_or xs n 0) k ≤ 0). inr (λ (q : ℕ) (l : q < suc n). ⊎_elim
        (λ (m : q < n). none q m)
        (λ (m : n ≤ q). let e : n ≡ q = omega arith in subst (λ (p : ℕ). weight_in a b (get_or xs p 0) k ≡ 0) e (omega arith))
        (cases_lt q n)))
        (cases_lt 0 (weight_in a b (get_or xs n 0) k)))
        (search_kept n)

    -- a weight that some value has, some kept value has too
    kept_some : (y : ℕ) → 0 < weight_in a b y k → (q : ℕ) × (q < length xs) × (0 < weight_in a b (get_or xs q 0) k)
    kept_some y p = ⊎_elim
        (λ (found : (q : ℕ) × (q < length xs) × (0 < weight_in a b (get_or xs q 0) k)). found)
        (λ (none : (q : ℕ) → q < length xs → weight_in a b (get_or xs q 0) k ≡ 0).
        absurd (none_left (λ x inside. ap (λ (z : ℕ). weight_in a b z k) (sym (read_at xs x inside)) ∙ none inside.0 inside.1) (suc y) y (omega arith) p))
        (search_kept (length xs))

  pub kept_of_a : (xs : List ℕ) → AreKept a b xs → IsProper a → (q : ℕ) × (q < length xs) × (0 < count a) × (0 < joint a (get_or xs q 0) 0)
  kept_of_a xs is proper =
      let some = inner_some _ a.scale a.inners proper in
      let found = kept_some xs is 0 some.0 (rw (weight_first some.0 0 some.1) some.2) in
      (found.0, found.1, some.1, rw (sym (weight_first (get_or xs found.0 0) 0 some.1)) found.2)

  pub kept_of_b : (xs : List ℕ) → AreKept a b xs → IsProper b → (q : ℕ) × (q < length xs) × (0 < count b) × (0 < joint b (get_or xs q 0) 0)
  kept_of_b xs is proper =
      let some = inner_some _ b.scale b.inners proper in
      let found = kept_some xs is (count a + 0) some.0 (rw (weight_behind some.0 0) some.2) in
      (found.0, found.1, some.1, rw (sym (weight_behind (get_or xs found.0 0) 0)) found.2)

-- ---- factors in lowest terms

pub in_lowest : (g t : ℕ) → 0 < t → InLowest g t (g / gcd_of g t) (t / gcd_of g t)
in_lowest g t p = record {
  common = gcd_of g t;
  top = mul-div_cancel' (gcd_of g t) (gcd_is g t).0;
  bottom = mul-div_cancel' (gcd_of g t) (gcd_is g t).1;
  coprime = gcd_quotients g t p;
}

part_some : (c g g' : ℕ) → c * g' ≡ g → 0 < g → 0 < g'
part_some c g zero e p = omega arith
part_some c g (suc g') e p = omega arith

coprime_swap : (a b : ℕ) → gcd_of a b ≡ 1 → gcd_of b a ≡ 1
coprime_swap a b h = gcd_swap b a ∙ h

whole_ratio : (g t h u c1 g1 t1 c2 h1 u1 c3 g2 h2 c4 t2 u2 : ℕ) → c1 * g1 ≡ g → c1 * t1 ≡ t → c2 * h1 ≡ h → c2 * u1 ≡ u
    → c3 * g2 ≡ g1 → c3 * h2 ≡ h1 → c4 * t2 ≡ t1 → c4 * u2 ≡ u1 → g2 * u2 * (h * t) ≡ h2 * t2 * (g * u)
whole_ratio g t h u c1 g1 t1 c2 h1 u1 c3 g2 h2 c4 t2 u2 eg et eh eu eg1 eh1 et1 eu1 =
    rw (sym eg, sym et, sym eh, sym eu, sym eg1, sym eh1, sym et1, sym eu1) (omega arith)

-- the ratio of two fractions in lowest terms
pub factors_are : (g t h u g1 t1 h1 u1 g2 h2 t2 u2 : ℕ) → 0 < g → 0 < t → 0 < h → 0 < u
    → InLowest g t g1 t1 → InLowest h u h1 u1 → InLowest g1 h1 g2 h2 → InLowest t1 u1 t2 u2
    → AreFactors g t h u (g2 * u2) (h2 * t2)
factors_are g t h u g1 t1 h1 u1 g2 h2 t2 u2 pg pt ph pu gt hu gh tu =
    let pg1 = part_some gt.common g g1 gt.top pg in
    let pt1 = part_some gt.common t t1 gt.bottom pt in
    let ph1 = part_some hu.common h h1 hu.top ph in
    let pu1 = part_some hu.common u u1 hu.bottom pu in
    let dg : g2 ∣ g1 = subst (λ (n : ℕ). g2 ∣ n) gh.top (dvd-mul_left g2 gh.common) in
    let dh : h2 ∣ h1 = subst (λ (n : ℕ). h2 ∣ n) gh.bottom (dvd-mul_left h2 gh.common) in
    let dt : t2 ∣ t1 = subst (λ (n : ℕ). t2 ∣ n) tu.top (dvd-mul_left t2 tu.common) in
    let du : u2 ∣ u1 = subst (λ (n : ℕ). u2 ∣ n) tu.bottom (dvd-mul_left u2 tu.common) in
    let g_t : gcd_of g2 t2 ≡ 1 = coprime_part g2 t1 t2 (coprime_swap t1 g2 (coprime_part t1 g1 g2 (coprime_swap g1 t1 gt.coprime) dg)) dt in
    let h_u : gcd_of h2 u2 ≡ 1 = coprime_part h2 u1 u2 (coprime_swap u1 h2 (coprime_part u1 h1 h2 (coprime_swap h1 u1 hu.coprime) dh)) du in
    let g_all : gcd_of (h2 * t2) g2 ≡ 1 = coprime_product h2 t2 g2 (coprime_swap g2 h2 gh.coprime) (coprime_swap g2 t2 g_t) in
    let u_all : gcd_of (h2 * t2) u2 ≡ 1 = coprime_product h2 t2 u2 h_u tu.coprime in
    record {
      some_p = product_some g2 u2 (part_some gh.common g1 g2 gh.top pg1) (part_some tu.common u1 u2 tu.bottom pu1);
      some_q = product_some h2 t2 (part_some gh.common h1 h2 gh.bottom ph1) (part_some tu.common t1 t2 tu.top pt1);
      ratio = whole_ratio g t h u gt.common g1 t1 hu.common h1 u1 gh.common g2 h2 tu.common t2 u2 gt.top gt.bottom hu.top hu.bottom gh.top gh.bottom tu.top tu.bottom;
      coprime = coprime_product g2 u2 (h2 * t2) (coprime_swap (h2 * t2) g2 g_all) (coprime_swap (h2 * t2) u2 u_all);
    }

-- ---- the whole numbers

whole_a : (ga gb t p c w : ℕ) → ga * c ≡ w → ga * gb * t * (c * p) ≡ p * (gb * t) * w
whole_a ga gb t p c w e = rw (sym e) (omega arith)

whole_b : (ga gb u q c w f : ℕ) → gb * c ≡ w → f ≡ q * (ga * u) → ga * gb * u * (c * q) ≡ f * w
whole_b ga gb u q c w f e r = rw (sym e, r) (omega arith)

common_some : (c p p' : ℕ) → c * p' ≡ p → 0 < p → 0 < c
common_some zero p p' e l = omega arith
common_some (suc c) p p' e l = omega arith

spread : (n c p' p : ℕ) → c * p' ≡ p → n * p ≡ c * (n * p')
spread n c p' p f = rw (sym f) (omega arith)

-- what divides a multiple, both over a common divisor
shorten : (n c d d' p p' : ℕ) → 0 < c → c * d' ≡ d → c * p' ≡ p → d ∣ n * p → d' ∣ n * p'
shorten n c d d' p p' some e f divides =
    dvd_of_mul-dvd-mul_left {k = c} d' {n = n * p'} some
    (subst (λ (m : ℕ). m ∣ c * (n * p')) (sym e) (subst (λ (m : ℕ). d ∣ m) (spread n c p' p f) divides))

-- what divides all weights over g, times p, divides p
module _ (h : HyperTree) (xs : List ℕ) (g p d d' p' : ℕ) (sg : 0 < g) (sp : 0 < p) (is : IsDivisorOf h xs (length xs) g) (low : InLowest d p d' p')
    (all : (q i : ℕ) → q < length xs → i < count h → d ∣ joint h (get_or xs q 0) i / g * p) where
  divides_each : (q i : ℕ) → q < length xs → i < count h → g * d' ∣ joint h (get_or xs q 0) i
  divides_each q i l m =
      let shared : d' ∣ joint h (get_or xs q 0) i / g * p' =
      shorten (joint h (get_or xs q 0) i / g) low.common d d' p p' (common_some low.common p p' low.bottom sp) low.top low.bottom (all q i l m) in
      let here : d' ∣ joint h (get_or xs q 0) i / g = divides_other d' p' (joint h (get_or xs q 0) i / g) (coprime_swap d' p' low.coprime) shared in
      subst (λ (n : ℕ). g * d' ∣ n) (mul-div_cancel' g (is.divides q i l m)) (mul-dvd-mul_left d' g here)

  divides_factor : d ∣ p
  divides_factor =
      let one : d' ∣ 1 = dvd_of_mul-dvd-mul_left {k = g} d' {n = 1} sg (subst (λ (n : ℕ). g * d' ∣ n) (omega arith) (is.greatest (g * d') divides_each)) in
      subst (λ (m : ℕ). m ∣ p) low.top (subst (λ (m : ℕ). low.common * d' ∣ m) low.bottom
      (mul-dvd-mul_left d' low.common (dvd_trans d' one (one-dvd p'))))

left_over : (h : HyperTree) (xs : List ℕ) (g p d : ℕ) → 0 < g → 0 < p → IsDivisorOf h xs (length xs) g
    → ((q i : ℕ) → q < length xs → i < count h → d ∣ joint h (get_or xs q 0) i / g * p) → d ∣ p
left_over h xs g p d sg sp is all = divides_factor h xs g p d (d / gcd_of d p) (p / gcd_of d p) sg sp is (in_lowest d p sp) all

-- the weights of a over ga times p, and those of b over gb times q
abbrev pub over : HyperTree → ℕ → ℕ → ℕ → ℕ → ℕ
over h g p x i = joint h x i / g * p

-- a fact on what is read at each index is one on each element
each_read : (xs : List ℕ) (P : ℕ → Type 0) → ((q : ℕ) → q < length xs → P (get_or xs q 0)) → (x : ℕ) → Contains xs x → P x
each_read xs P all x inside = subst P (read_at xs x inside) (all inside.0 inside.1)

module _ (a b : HyperTree) (xs : List ℕ) (ga gb p q : ℕ) (of_a : IsDivisorOf a xs (length xs) ga) (of_b : IsDivisorOf b xs (length xs) gb)
    (sa : 0 < ga) (sb : 0 < gb) (ta : 0 < a.scale) (tb : 0 < b.scale) (are : AreFactors ga a.scale gb b.scale p q) where
  pub are_whole : AreWhole a b xs (over a ga p) (over b gb q)
  are_whole = record {
    factor = p * (gb * a.scale);
    over = ga * gb;
    some_factor = product_some p (gb * a.scale) are.some_p (product_some gb a.scale sb ta);
    some_over = product_some ga gb sa sb;
    of_a = λ x i inside l. each_read xs (λ x. ga * gb * a.scale * over a ga p x i ≡ p * (gb * a.scale) * joint a x i)
        (λ k m.
        whole_a ga gb a.scale p (joint a (get_or xs k 0) i / ga) (joint a (get_or xs k 0) i) (mul-div_cancel' ga (of_a.divides k i m l))) x inside;
    of_b = λ x j inside l. each_read xs (λ x. ga * gb * b.scale * over b gb q x j ≡ p * (gb * a.scale) * joint b x j)
        (λ k m. whole_b ga gb b.scale q (joint b (get_or xs k 0) j / gb) (joint b (get_or xs k 0) j) (p * (gb * a.scale))
        (mul-div_cancel' gb (of_b.divides k j m l)) are.ratio) x inside;
    no_common_factor = λ d all_a all_b.
        let dp : d ∣ p = left_over a xs ga p d sa are.some_p of_a (λ k i l m. all_a (get_or xs k 0) i (Contains-get_or xs k 0 l) m) in
        let dq : d ∣ q = left_over b xs gb q d sb are.some_q of_b (λ k j l m. all_b (get_or xs k 0) j (Contains-get_or xs k 0 l) m) in
        eq-one_of_dvd-one (subst (λ (n : ℕ). d ∣ n) are.coprime ((gcd_is p q).2 d dp dq));
  }

-- a weight is at least its factor
over_most : (h : HyperTree) (xs : List ℕ) (g p k i most : ℕ) → IsDivisorOf h xs (length xs) g → k < length xs → i < count h → 0 < joint h (get_or xs k 0) i
    → most < p → most < over h g p (get_or xs k 0) i
over_most h xs g p k i most is l m some passes = times (joint h (get_or xs k 0) i / g) (quotient_some g (joint h (get_or xs k 0) i) (is.divides k i l m) some)
  where
    times : (n : ℕ) → 0 < n → most < n * p
    times zero s = absurd (omega arith)
    times (suc n) s = omega arith

-- where a factor passes a bound, some whole number does
pub passing : (a b : HyperTree) (xs : List ℕ) (ga gb p q most : ℕ) → AreKept a b xs → IsProper a → IsProper b
    → IsDivisorOf a xs (length xs) ga → IsDivisorOf b xs (length xs) gb → (most < p) ⊎ (most < q)
    → (x : ℕ) × Contains xs x × (((i : ℕ) × (i < count a) × (most < over a ga p x i)) ⊎ ((j : ℕ) × (j < count b) × (most < over b gb q x j)))
passing a b xs ga gb p q most kept proper_a proper_b of_a of_b passes = ⊎_elim
    (λ (h : most < p). let k = kept_of_a a b xs kept proper_a in
    (get_or xs k.0 0, Contains-get_or xs k.0 0 k.1, inl (0, k.2, over_most a xs ga p k.0 0 most of_a k.1 k.2 k.3 h)))
    (λ (h : most < q). let k = kept_of_b a b xs kept proper_b in
    (get_or xs k.0 0, Contains-get_or xs k.0 0 k.1, inr (0, k.2, over_most b xs gb q k.0 0 most of_b k.1 k.2 k.3 h)))
    passes

-- the divisor of weights of which some is above 0
pub divisor_some : (h : HyperTree) (xs : List ℕ) (g : ℕ) → IsDivisorOf h xs (length xs) g → (k : ℕ) × (k < length xs) × (0 < count h) × (0 < joint h (get_or xs k 0) 0) → 0 < g
divisor_some h xs g is k = pos_of_dvd_of_pos (is.divides k.0 0 k.1 k.2) k.3

pub factors_along : (g t h u g' t' h' u' p q p' q' : ℕ) → g ≡ g' → t ≡ t' → h ≡ h' → u ≡ u' → p ≡ p' → q ≡ q' → AreFactors g' t' h' u' p' q' → AreFactors g t h u p q
factors_along g t h u g' t' h' u' p q p' q' e1 e2 e3 e4 e5 e6 are = rw (e1, e2, e3, e4, e5, e6) are

module _ (a b : HyperTree) (xs : List ℕ) (ga gb : ℕ) where
  pub scaled : (p q t u : ℕ) → AreKept a b xs → IsProper a → IsProper b → IsDivisorOf a xs (length xs) ga → IsDivisorOf b xs (length xs) gb
      → t ≡ a.scale → u ≡ b.scale → AreFactors ga t gb u p q → AreWhole a b xs (over a ga p) (over b gb q)
  scaled p q t u kept proper_a proper_b of_a of_b et eu are =
      are_whole a b xs ga gb p q of_a of_b
      (divisor_some a xs ga of_a (kept_of_a a b xs kept proper_a)) (divisor_some b xs gb of_b (kept_of_b a b xs kept proper_b))
      proper_a.some proper_b.some
      (factors_along ga a.scale gb b.scale ga t gb u p q p q refl (sym et) refl (sym eu) refl refl are)

  -- factors past a bound still make whole numbers
  pub unscaled : (most t u : ℕ) → AreKept a b xs → IsProper a → IsProper b → IsDivisorOf a xs (length xs) ga → IsDivisorOf b xs (length xs) gb
      → t ≡ a.scale → u ≡ b.scale → (p : ℕ) × (q : ℕ) × AreFactors ga t gb u p q × ((most < p) ⊎ (most < q))
      → (v : ℕ → ℕ → ℕ) × (w : ℕ → ℕ → ℕ) × AreWhole a b xs v w
      × (x : ℕ) × Contains xs x × (((i : ℕ) × (i < count a) × (most < v x i)) ⊎ ((j : ℕ) × (j < count b) × (most < w x j)))
  unscaled most t u kept proper_a proper_b of_a of_b et eu found =
      let passes = passing a b xs ga gb found.0 found.1 most kept proper_a proper_b of_a of_b found.3 in
      (over a ga found.0, over b gb found.1, scaled found.0 found.1 t u kept proper_a proper_b of_a of_b et eu found.2, passes.0, passes.1, passes.2)
