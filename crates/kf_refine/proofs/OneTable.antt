-- A solution has one matrix, and multipliers have one gain table.
use Rattle.std.proofs.Common.{◌≡◌, ℕ, suc, ◌*◌, ◌/◌, ◌<◌, refl, sym, ap, ◌∙◌, subst, arith, List, [], ◌∷◌, length, map, get_or, unsigned_abs}
use Rattle.std.specs.Int.{◌∣◌}
use Rattle.std.proofs.Math.IntN.{ℤ, pos, ◌+ℤ◌, ◌*ℤ◌}
use Rattle.std.proofs.Math.Nat.{dvd-mul_right, mul-dvd-mul_left, mul-div_cancel'}
use Rattle.std.proofs.lemmas.Int.{ints, unsigned_abs-mul}
use Rattle.std.proofs.lemmas.List.{ext_get_or, length-map}
use lib.Signed.{◌<ℤ◌}
use Rattle.kf_frac.specs.declared.frac.Frac.{Frac}
use Rattle.kf_frac.specs.Divisors.{gcd_of}
use Rattle.kf_frac.proofs.CommonDivisors.{gcd_is, gcd_swap}
use Rattle.kf_gain.specs.declared.table.Action.{Action}
use Rattle.kf_gain.specs.declared.table.GainEntry.{GainEntry}
use Rattle.kf_gain.specs.Gains.{TableTree}
use Rattle.kf_simplex.specs.Base.{at}
use Rattle.kf_simplex.proofs.Signs.{cancel}
use Rattle.kf_refine.specs.Refinements.{Fraction, IsShaped, entry}
use Rattle.kf_refine.specs.Verdicts.{IsMatrixOf, IsShift, IsActionOf, IsTableOf}
use Rattle.kf_refine.specs.Views.{action_at}
use Rattle.kf_refine.proofs.OneSystem.{shared, all_of}
use Rattle.kf_refine.specs.Built.{multiplier}

-- ---- matrices

same_row : (rows others : List (List Fraction)) (m n i : ℕ) → IsShaped m n rows → IsShaped m n others → i < m
    → ((j : ℕ) → j < n → entry rows i j ≡ entry others i j) → get_or rows i [] ≡ get_or others i []
same_row rows others m n i h k l same =
    let first : length (get_or rows i []) ≡ n = h.each i [] (subst (λ (x : ℕ). i < x) (sym h.many) l) in
    let second : length (get_or others i []) ≡ n = k.each i [] (subst (λ (x : ℕ). i < x) (sym k.many) l) in
    ext_get_or (record { num = pos 0; den = 1 }) (get_or rows i []) (get_or others i []) (first ∙ sym second)
    (λ j within. same j (subst (λ (x : ℕ). j < x) first within))

pub one_matrix : (m n : ℕ) (solution : List Frac) (rows others : List (List Fraction)) → IsMatrixOf m n solution rows → IsMatrixOf m n solution others
    → rows ≡ others
one_matrix m n solution rows others h k =
    ext_get_or [] rows others (h.shape.many ∙ sym k.shape.many)
    (λ i within.
    let l : i < m = subst (λ (x : ℕ). i < x) h.shape.many within in
    same_row rows others m n i h.shape k.shape l (λ j inside. h.entries i j l inside ∙ sym (k.entries i j l inside)))

-- ---- factors

-- what two numbers divide, the one times its share's rest divides
both_divide : (f g n : ℕ) → 0 < f → f ∣ n → g ∣ n → ((g / gcd_of g f) * f) ∣ n
both_divide f g n some by_f by_g =
    let of_f : f * (n / f) ≡ n = mul-div_cancel' f by_f in
    let of_g : g * (n / g) ≡ n = mul-div_cancel' g by_g in
    let share : (g / gcd_of g f) ∣ (n / f) = shared g f (n / g) (n / f) some (of_g ∙ sym of_f) in
    subst (λ (x : ℕ). ((g / gcd_of g f) * f) ∣ x) of_f
    (subst (λ (x : ℕ). x ∣ (f * (n / f))) (turn f (g / gcd_of g f)) (mul-dvd-mul_left (g / gcd_of g f) f share))
  where
    turn : (x y : ℕ) → x * y ≡ y * x
    turn x y = omega arith

-- a positive number divides a family, and no multiple of it does
pub record IsGreatest (kept n : ℕ) (shift : ℕ) (of : ℕ → ℕ → ℕ) (f : ℕ) : Type 0 where
  pub positive : 0 < f
  pub of_shift : f ∣ shift
  pub of_each : (q j : ℕ) → q < kept → j < n → f ∣ of q j
  pub greatest : (d : ℕ) → (d * f) ∣ shift → ((q j : ℕ) → q < kept → j < n → (d * f) ∣ of q j) → d ≡ 1

one_greatest : (kept n shift : ℕ) (of : ℕ → ℕ → ℕ) (f g : ℕ) → IsGreatest kept n shift of f → IsGreatest kept n shift of g → f ≡ g
one_greatest kept n shift of f g h k =
    all_of f (gcd_of f g) (gcd_is f g).0 (share g f k h) ∙ gcd_swap f g ∙ sym (all_of g (gcd_of g f) (gcd_is g f).0 (share f g h k))
  where
    share : (f g : ℕ) → IsGreatest kept n shift of f → IsGreatest kept n shift of g → g / gcd_of g f ≡ 1
    share f g h k =
        h.greatest (g / gcd_of g f) (both_divide f g shift h.positive h.of_shift k.of_shift)
        (λ q j l m. both_divide f g (of q j) h.positive (h.of_each q j l m) (k.of_each q j l m))

-- ---- tables

one_shift : (kept n : ℕ) (multipliers : List ℤ) (s t : ℕ) → IsShift kept n multipliers s → IsShift kept n multipliers t → s ≡ t
one_shift kept n multipliers s t h k = omega (arith, h.least t k.enough, k.least s h.enough)

-- the gains of an action, by their values and their numbers
same_gains : (gs hs : List GainEntry) → map (λ (e : GainEntry). e.value) gs ≡ map (λ (e : GainEntry). e.value) hs
    → ((q : ℕ) → q < length gs → at (map (λ (e : GainEntry). e.gain) gs) q ≡ at (map (λ (e : GainEntry). e.gain) hs) q) → gs ≡ hs
same_gains [] [] values gains = refl
same_gains [] (h ∷ hs) values gains = absurd (cc)
same_gains (g ∷ gs) [] values gains = absurd (cc)
same_gains (g ∷ gs) (h ∷ hs) values gains =
    let value : g.value ≡ h.value = cc in
    let others : map (λ (e : GainEntry). e.value) gs ≡ map (λ (e : GainEntry). e.value) hs = cc in
    let gain : g.gain ≡ h.gain = gains 0 (omega arith) in
    let rest = same_gains gs hs others (λ q l. gains (suc q) (omega (arith, l))) in
    λ i. record { value = value i; gain = gain i } ∷ rest i

positive_factor : (f : ℕ) → 0 < f → pos 0 <ℤ pos f
positive_factor f l = omega (arith, ints)

module _ (kept : List ℕ) (n : ℕ) (multipliers : List ℤ) (shift factor j : ℕ) (some : 0 < factor) where
  one_action : (a c : Action) → IsActionOf kept n multipliers shift factor j a → IsActionOf kept n multipliers shift factor j c → a ≡ c
  one_action a c h k =
      let name : a.name ≡ c.name = h.name ∙ sym k.name in
      let many : length a.gains ≡ length kept = sym (length-map a.gains (λ (e : GainEntry). e.value)) ∙ ap length h.values in
      let gains : a.gains ≡ c.gains = same_gains a.gains c.gains (h.values ∙ sym k.values)
      (λ q l.
      let within : q < length kept = subst (λ (x : ℕ). q < x) many l in
      cancel (at (map (λ (e : GainEntry). e.gain) a.gains) q) (at (map (λ (e : GainEntry). e.gain) c.gains) q) (pos factor) (positive_factor factor some)
      (h.gains q within ∙ sym (k.gains q within))) in
      λ i. record { name = name i; gains = gains i }

divides_of : (f : ℕ) (x y : ℤ) → pos f *ℤ x ≡ y → f ∣ unsigned_abs y
divides_of f x y e = subst (λ (z : ℤ). f ∣ unsigned_abs z) e (subst (λ (k : ℕ). f ∣ k) (sym (unsigned_abs-mul (pos f) x)) (dvd-mul_right f (unsigned_abs x)))

module _ (values : List ℕ) (n : ℕ) (multipliers : List ℤ) where
  abbrev size : ℕ → ℕ → ℕ → ℕ
  size shift q j = unsigned_abs (multiplier n multipliers q j +ℤ pos shift)

  greatest : (t : TableTree) (h : IsTableOf values n multipliers t) → IsGreatest (length values) n h.shift (size h.shift) h.factor
  greatest t h = record {
    positive = h.some_factor;
    of_shift = divides_of h.factor t.rest (pos h.shift) h.rest;
    of_each = λ q j l m.
        divides_of h.factor (at (map (λ (e : GainEntry). e.gain) (action_at t.actions j).gains) q) (multiplier n multipliers q j +ℤ pos h.shift)
        ((h.actions j m).gains q l);
    greatest = h.no_common_factor;
  }

  pub one_table : (t u : TableTree) → IsTableOf values n multipliers t → IsTableOf values n multipliers u → t ≡ u
  one_table t u h k =
      let shift : h.shift ≡ k.shift = one_shift (length values) n multipliers h.shift k.shift h.is_shift k.is_shift in
      let factor : h.factor ≡ k.factor = one_greatest (length values) n h.shift (size h.shift) h.factor k.factor (greatest t h)
      (subst (λ (s : ℕ). IsGreatest (length values) n s (size s) k.factor) (sym shift) (greatest u k)) in
      let over : t.over ≡ u.over = h.over ∙ sym k.over in
      let rest : t.rest ≡ u.rest = cancel t.rest u.rest (pos h.factor) (positive_factor h.factor h.some_factor)
      (h.rest ∙ ap pos shift ∙ sym k.rest ∙ ap (λ (f : ℕ). pos f *ℤ u.rest) (sym factor)) in
      let actions : t.actions ≡ u.actions = ext_get_or (record { name = []; gains = [] }) t.actions u.actions (h.many ∙ sym k.many)
      (λ j within.
      let l : j < n = subst (λ (x : ℕ). j < x) h.many within in
      one_action values n multipliers h.shift h.factor j h.some_factor (action_at t.actions j) (action_at u.actions j) (h.actions j l)
      (subst (λ (s : ℕ). IsActionOf values n multipliers s h.factor j (action_at u.actions j)) (sym shift)
      (subst (λ (f : ℕ). IsActionOf values n multipliers k.shift f j (action_at u.actions j)) (sym factor) (k.actions j l)))) in
      λ i. record { over = over i; rest = rest i; actions = actions i }
