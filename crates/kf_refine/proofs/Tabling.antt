-- A gain table of multipliers, action by action.
use Rattle.std.proofs.Common.{◌≡◌, ◌≢◌, ℕ, zero, suc, ◌+◌, ◌*◌, ◌/◌, ◌%◌, ◌^◌, ◌<◌, ◌≤◌, max, refl, sym, ap, ◌∙◌, subst, arith, rules, ⊎_elim, unsigned_abs, All, List, [], ◌∷◌, ◌++◌, length, take, get_or, length-append, length-take-le, flat_map, map, codes, decimal}
use Rattle.std.proofs.Math.IntN.{ℤ, pos, negsuc, ◌+ℤ◌, ◌*ℤ◌}
use Rattle.std.proofs.Math.Nat.{mul-le-mul_right, mul-div_cancel', eq-zero_of_zero-dvd, mod-lt, div-lt_iff_lt-mul}
use Rattle.std.proofs.lemmas.Nat.{div-add-mod'}
use Rattle.std.proofs.lemmas.Int.{ints}
use Rattle.std.proofs.lemmas.Bool.{cases_lt, cases_eq}
use Rattle.std.proofs.lemmas.List.{length-map, map-append, take_all, take_more, get_or-take}
use Rattle.std.proofs.lemmas.List.Elements.{All-append, All-cons, All-from_get_or, All-map, All-nil}
use Rattle.std.proofs.lemmas.Nat.Gcd.{dvd_trans, dvd_refl, le_of_dvd}
use Rattle.std.specs.Int.{IsGcd, ◌∣◌}
use Rattle.std.specs.List.Sorted.{IsStrictlyIncreasing}
use lib.Signed.{◌<ℤ◌, ◌≤ℤ◌}
use Rattle.kf_frac.proofs.CommonDivisors.{gcd_is}
use Rattle.kf_frac.specs.Divisors.{gcd_of}
use Rattle.kf_frac.specs.Fractions.{limit}
use Rattle.kf_gain.specs.declared.table.Action.{Action}
use Rattle.kf_gain.specs.declared.table.GainEntry.{GainEntry}
use Rattle.kf_gain.specs.Gains.{TableTree}
use Rattle.kf_gain.specs.Shapes.{IsTableShape}
use Rattle.kf_simplex.specs.Base.{at}
use Rattle.kf_refine.specs.Verdicts.{IsActionOf, IsTableOf}
use Rattle.kf_refine.specs.Views.{action_at}
use Rattle.kf_refine.specs.Built.{multiplier}

-- ---- the shift

-- the least number that makes none of the first i numbers negative once it is added
pub record IsLeastShift (numbers : List ℤ) (i shift : ℕ) : Type 0 where
  pub enough : (k : ℕ) → k < i → pos 0 ≤ℤ (at numbers k +ℤ pos shift)
  pub least : (n : ℕ) → ((k : ℕ) → k < i → pos 0 ≤ℤ (at numbers k +ℤ pos n)) → shift ≤ n

pub shift_none : (numbers : List ℤ) → IsLeastShift numbers 0 0
shift_none numbers = record { enough = λ k l. absurd (omega arith); least = λ n all. omega arith }

pub shift_keeps : (numbers : List ℤ) (i shift : ℕ) (x : ℤ) → x ≡ at numbers i → pos 0 ≤ℤ x → IsLeastShift numbers i shift
    → IsLeastShift numbers (i + 1) shift
shift_keeps numbers i shift x is up h = record {
  enough = λ k l. ⊎_elim
      (λ (m : k < i). h.enough k m)
      (λ (m : i ≤ k). let e : i ≡ k = omega arith in
      subst (λ (z : ℕ). pos 0 ≤ℤ (at numbers z +ℤ pos shift)) e (subst (λ (z : ℤ). pos 0 ≤ℤ (z +ℤ pos shift)) is (omega (arith, ints))))
      (cases_lt k i);
  least = λ n all. h.least n (λ k l. all k (omega arith));
}

covers : (z : ℤ) (n : ℕ) → unsigned_abs z ≤ n → pos 0 ≤ℤ (z +ℤ pos n)
covers (pos m) n l = omega (arith, ints)
covers (negsuc m) n l = omega (arith, ints)

needs : (z : ℤ) (n : ℕ) → z <ℤ pos 0 → pos 0 ≤ℤ (z +ℤ pos n) → unsigned_abs z ≤ n
needs (pos m) n l h = absurd (omega (arith, ints))
needs (negsuc m) n l h = omega (arith, ints)

pub shift_grows : (numbers : List ℤ) (i shift new : ℕ) (x : ℤ) → x ≡ at numbers i → x <ℤ pos 0 → new ≡ max (unsigned_abs x) shift
    → IsLeastShift numbers i shift → IsLeastShift numbers (i + 1) new
shift_grows numbers i shift new x is down e h = record {
  enough = λ k l. ⊎_elim
      (λ (m : k < i). let o = h.enough k m in let g : shift ≤ new = omega arith in omega (arith, ints))
      (λ (m : i ≤ k). let q : i ≡ k = omega arith in
      subst (λ (z : ℕ). pos 0 ≤ℤ (at numbers z +ℤ pos new)) q (subst (λ (z : ℤ). pos 0 ≤ℤ (z +ℤ pos new)) is (covers x new (omega arith))))
      (cases_lt k i);
  least = λ n all.
      let before : shift ≤ n = h.least n (λ k l. all k (omega arith)) in
      let now : unsigned_abs x ≤ n = needs x n down (subst (λ (z : ℤ). pos 0 ≤ℤ (z +ℤ pos n)) (sym is) (all i (omega arith))) in
      omega arith;
}

-- ---- the common factor

-- the greatest common divisor of the shift and of the first i numbers with it
pub record IsCommonFactor (numbers : List ℤ) (shift i factor : ℕ) : Type 0 where
  pub of_shift : factor ∣ shift
  pub of_numbers : (k : ℕ) → k < i → factor ∣ unsigned_abs (at numbers k +ℤ pos shift)
  pub greatest : (d : ℕ) → d ∣ shift → ((k : ℕ) → k < i → d ∣ unsigned_abs (at numbers k +ℤ pos shift)) → d ∣ factor

pub factor_start : (numbers : List ℤ) (shift : ℕ) → IsCommonFactor numbers shift 0 shift
factor_start numbers shift = record {
  of_shift = dvd_refl shift;
  of_numbers = λ k l. absurd (omega arith);
  greatest = λ d s all. s;
}

pub factor_more : (numbers : List ℤ) (shift i old number new : ℕ) → pos number ≡ at numbers i +ℤ pos shift → new ≡ gcd_of old number
    → IsCommonFactor numbers shift i old → IsCommonFactor numbers shift (i + 1) new
factor_more numbers shift i old number new is e h =
    let same : number ≡ unsigned_abs (at numbers i +ℤ pos shift) = ap unsigned_abs is in
    let g : IsGcd old (unsigned_abs (at numbers i +ℤ pos shift)) new =
    subst (λ (z : ℕ). IsGcd old z new) same (subst (λ (z : ℕ). IsGcd old number z) (sym e) (gcd_is old number)) in
    record {
      of_shift = dvd_trans new g.0 h.of_shift;
      of_numbers = λ k l. ⊎_elim
          (λ (m : k < i). dvd_trans new g.0 (h.of_numbers k m))
          (λ (m : i ≤ k). let q : i ≡ k = omega arith in
          subst (λ (z : ℕ). new ∣ unsigned_abs (at numbers z +ℤ pos shift)) q g.1)
          (cases_lt k i);
      greatest = λ d s all. g.2 d (h.greatest d s (λ k l. all k (omega arith))) (all i (omega arith));
    }

pub share_is : (d n : ℕ) (z : ℤ) → z ≡ pos (n / d) → d ∣ n → pos d *ℤ z ≡ pos n
share_is d n z e v = rw e (omega (arith, ints, mul-div_cancel' d v))

-- ---- one action

pub shifted_abs : (x y : ℤ) (shift r : ℕ) → y ≡ x → pos r ≡ y +ℤ pos shift → r ≡ unsigned_abs (x +ℤ pos shift)
shifted_abs x y shift r e is = ap (λ (z : ℤ). unsigned_abs z) (is ∙ ap (λ (z : ℤ). z +ℤ pos shift) e)

at_last : (xs : List ℤ) (z : ℤ) → at (xs ++ z ∷ []) (length xs) ≡ z
at_last [] z = refl
at_last (x ∷ xs) z = at_last xs z

at_before : (xs : List ℤ) (z : ℤ) (k : ℕ) → k < length xs → at (xs ++ z ∷ []) k ≡ at xs k
at_before [] z k l = absurd (omega arith)
at_before (x ∷ xs) z zero l = refl
at_before (x ∷ xs) z (suc k) l = at_before xs z k (omega arith)

-- the gains of the first q kept values
pub record HasGains (kept : List ℕ) (n : ℕ) (multipliers : List ℤ) (shift factor j q : ℕ) (entries : List GainEntry) : Type 0 where
  pub values : map (λ e. e.value) entries ≡ take q kept
  pub many : length entries ≡ q
  pub gains : (p : ℕ) → p < q → pos factor *ℤ at (map (λ e. e.gain) entries) p ≡ multiplier n multipliers p j +ℤ pos shift
  pub narrow : All (λ e. unsigned_abs e.gain ≤ 2 ^ 65) entries

pub gains_none : (kept : List ℕ) (n : ℕ) (multipliers : List ℤ) (shift factor j : ℕ) → HasGains kept n multipliers shift factor j 0 []
gains_none kept n multipliers shift factor j = record {
  values = refl;
  many = refl;
  gains = λ p l. absurd (omega arith);
  narrow = search rules;
}

pub gains_more : (kept : List ℕ) (n : ℕ) (multipliers : List ℤ) (shift factor j q : ℕ) (entries : List GainEntry) (e : GainEntry) → q < length kept
    → e.value ≡ get_or kept q 0 → pos factor *ℤ e.gain ≡ multiplier n multipliers q j +ℤ pos shift → unsigned_abs e.gain ≤ 2 ^ 65
    → HasGains kept n multipliers shift factor j q entries → HasGains kept n multipliers shift factor j (q + 1) (entries ++ e ∷ [])
gains_more kept n multipliers shift factor j q entries e l value gain small h =
    let g : map (λ e. e.gain) (entries ++ e ∷ []) ≡ map (λ e. e.gain) entries ++ e.gain ∷ [] = map-append (λ e. e.gain) entries (e ∷ []) in
    let len : length (map (λ e. e.gain) entries) ≡ q = length-map entries (λ e. e.gain) ∙ h.many in
    record {
      values = map-append (λ e. e.value) entries (e ∷ []) ∙ ap (λ (xs : List ℕ). xs ++ e.value ∷ []) h.values ∙ ap (λ (v : ℕ). take q kept ++ v ∷ []) value ∙ sym (take_more kept q 0 l);
      many = simp length-append (let m = h.many in omega arith);
      gains = λ p u. ⊎_elim
          (λ (m : p < q). ap (λ (z : ℤ). pos factor *ℤ z)
          (ap (λ (xs : List ℤ). at xs p) g ∙ at_before (map (λ e. e.gain) entries) e.gain p (omega arith)) ∙ h.gains p m)
          (λ (m : q ≤ p). let here : p ≡ length (map (λ e. e.gain) entries) = omega arith in let same : q ≡ p = omega arith in
          ap (λ (z : ℤ). pos factor *ℤ z)
          (ap (λ (xs : List ℤ). at xs p) g ∙ ap (λ (k : ℕ). at (map (λ e. e.gain) entries ++ e.gain ∷ []) k) here ∙ at_last (map (λ e. e.gain) entries) e.gain)
          ∙ gain ∙ ap (λ (k : ℕ). multiplier n multipliers k j +ℤ pos shift) same)
          (cases_lt p q);
      narrow = All-append (λ e. unsigned_abs e.gain ≤ 2 ^ 65) entries (e ∷ []) h.narrow (All-cons (λ e. unsigned_abs e.gain ≤ 2 ^ 65) e [] small (λ k d u. absurd (omega arith)));
    }

-- all of them are an action's
pub action_made : (kept : List ℕ) (n : ℕ) (multipliers : List ℤ) (shift factor j q : ℕ) (entries gains : List GainEntry) (name : List ℕ)
    → name ≡ codes "b" ++ decimal j → gains ≡ entries → length kept ≤ q → HasGains kept n multipliers shift factor j q entries
    → IsActionOf kept n multipliers shift factor j (record { name = name; gains = gains })
action_made kept n multipliers shift factor j q entries gains name named same past h = record {
  name = named;
  values = ap (λ (es : List GainEntry). map (λ e. e.value) es) same ∙ h.values ∙ take_all q kept past;
  gains = λ p l. ap (λ (es : List GainEntry). pos factor *ℤ at (map (λ e. e.gain) es) p) same ∙ h.gains p (omega arith);
}

-- ---- all actions

action_last : (actions : List Action) (a : Action) → action_at (actions ++ a ∷ []) (length actions) ≡ a
action_last [] a = refl
action_last (b ∷ actions) a = action_last actions a

action_before : (actions : List Action) (a : Action) (k : ℕ) → k < length actions → action_at (actions ++ a ∷ []) k ≡ action_at actions k
action_before [] a k l = absurd (omega arith)
action_before (b ∷ actions) a zero l = refl
action_before (b ∷ actions) a (suc k) l = action_before actions a k (omega arith)

abbrev pub IsNarrowAction : Action → Type 0
IsNarrowAction a = All (λ e. unsigned_abs e.gain ≤ 2 ^ 65) a.gains

-- the actions of the first j inners
pub record HasActions (kept : List ℕ) (n : ℕ) (multipliers : List ℤ) (shift factor j : ℕ) (actions : List Action) : Type 0 where
  pub many : length actions ≡ j
  pub are : (k : ℕ) → k < j → IsActionOf kept n multipliers shift factor k (action_at actions k)
  pub narrow : (k : ℕ) → k < j → IsNarrowAction (action_at actions k)

pub actions_none : (kept : List ℕ) (n : ℕ) (multipliers : List ℤ) (shift factor : ℕ) → HasActions kept n multipliers shift factor 0 []
actions_none kept n multipliers shift factor = record { many = refl; are = λ k l. absurd (omega arith); narrow = λ k l. absurd (omega arith) }

pub actions_more : (kept : List ℕ) (n : ℕ) (multipliers : List ℤ) (shift factor j : ℕ) (actions : List Action) (a : Action)
    → IsActionOf kept n multipliers shift factor j a → IsNarrowAction a
    → HasActions kept n multipliers shift factor j actions → HasActions kept n multipliers shift factor (j + 1) (actions ++ a ∷ [])
actions_more kept n multipliers shift factor j actions a is small h = record {
  many = simp length-append (let m = h.many in omega arith);
  are = each (λ k b. IsActionOf kept n multipliers shift factor k b) h.are is;
  narrow = each (λ k b. IsNarrowAction b) h.narrow small;
}
  where
    each : (P : ℕ → Action → Type 0) → ((k : ℕ) → k < j → P k (action_at actions k)) → P j a
        → (k : ℕ) → k < j + 1 → P k (action_at (actions ++ a ∷ []) k)
    each P old new k l = ⊎_elim
        (λ (m : k < j). let b : k < length actions = let z = h.many in omega arith in
        subst (λ (b : Action). P k b) (sym (action_before actions a k b)) (old k m))
        (λ (m : j ≤ k). let e : j ≡ k = omega arith in
        subst (λ (i : ℕ). P i (action_at (actions ++ a ∷ []) i)) e
        (subst (λ (i : ℕ). P j (action_at (actions ++ a ∷ []) i)) h.many (subst (λ (b : Action). P j b) (sym (action_last actions a)) new)))
        (cases_lt k j)

-- ---- the table

pub place_below : (kept n q j : ℕ) → q < kept → j < n → q * n + j < kept * n
place_below kept n q j l m = let b : q + 1 ≤ kept = omega arith in omega (arith, mul-le-mul_right n b)

-- a fact on the number of each value and inner is one on each number
by_place : (kept n : ℕ) (P : ℤ → Type 0) (numbers : List ℤ) → ((q j : ℕ) → q < kept → j < n → P (multiplier n numbers q j))
    → (k : ℕ) → k < kept * n → P (at numbers k)
by_place kept n P numbers h k l =
    let some : 0 < n = ⊎_elim (λ (z : n ≡ 0). let none : k < kept * 0 = subst (λ (m : ℕ). k < kept * m) z l in absurd (omega arith)) (λ (d : n ≢ 0). omega arith) (cases_eq n 0) in
    let low : k % n < n = mod-lt k some in
    let whole : (k / n) * n + k % n ≡ k = div-add-mod' k n in
    let within : k / n < kept = (div-lt_iff_lt-mul some).1 l in
    subst (λ (z : ℕ). P (at numbers z)) whole (h (k / n) (k % n) within low)

flat_narrow : (actions : List Action) → ((k : ℕ) → k < length actions → IsNarrowAction (action_at actions k))
    → All (λ z. unsigned_abs z ≤ limit) (flat_map (λ a. map (λ e. e.gain) a.gains) actions)
flat_narrow [] h = All-nil (λ z. unsigned_abs z ≤ limit)
flat_narrow (a ∷ actions) h =
    All-append (λ z. unsigned_abs z ≤ limit) (map (λ e. e.gain) a.gains) (flat_map (λ b. map (λ e. e.gain) b.gains) actions)
    (All-map (λ z. unsigned_abs z ≤ limit) (λ e. e.gain) a.gains (λ k d l. let n = h 0 (omega arith) k d l in omega arith))
    (flat_narrow actions (λ k l. h (suc k) (omega arith)))

-- what a gain table keeps
pub table_shape : (kept : List ℕ) (n : ℕ) (numbers : List ℤ) (shift factor j : ℕ) (t : TableTree) → n ≤ j → j ≤ n → 0 < n → t.over ≡ 1
    → unsigned_abs t.rest ≤ 2 ^ 65 → IsStrictlyIncreasing kept → HasActions kept n numbers shift factor j t.actions → IsTableShape t
table_shape kept n numbers shift factor j t all most some over small up h = record {
  positive = omega arith;
  narrow = omega arith;
  some = λ e. let none : length t.actions ≡ 0 = ap (λ (xs : List Action). length xs) e in let m = h.many in omega arith;
  ascending = All-from_get_or (λ a. IsStrictlyIncreasing (map (λ e. e.value) a.gains)) t.actions (record { name = []; gains = [] })
      (λ k l. subst (λ (xs : List ℕ). IsStrictlyIncreasing xs) (sym (h.are k (let m = h.many in omega arith)).values) up);
  within = All-cons (λ z. unsigned_abs z ≤ limit) t.rest (flat_map (λ a. map (λ e. e.gain) a.gains) t.actions) (omega arith)
      (flat_narrow t.actions (λ k l. h.narrow k (let m = h.many in omega arith)));
}

zero_sum : (x : ℤ) (shift : ℕ) → unsigned_abs (x +ℤ pos shift) ≡ 0 → shift ≡ 0 → x ≡ pos 0
zero_sum (pos n) shift h e = let k : unsigned_abs (pos n +ℤ pos 0) ≡ 0 = subst (λ (m : ℕ). unsigned_abs (pos n +ℤ pos m) ≡ 0) e h in omega (arith, ints)
zero_sum (negsuc n) shift h e = let k : unsigned_abs (negsuc n +ℤ pos 0) ≡ 0 = subst (λ (m : ℕ). unsigned_abs (negsuc n +ℤ pos m) ≡ 0) e h in absurd (omega (arith, ints))

-- a number that isn't 0 makes a factor
pub factor_positive : (kept n : ℕ) (numbers : List ℤ) (shift factor q j : ℕ) (x : ℤ) → q < kept → j < n → at numbers (q * n + j) ≡ x → x ≢ pos 0
    → IsCommonFactor numbers shift (kept * n) factor → 0 < factor
factor_positive kept n numbers shift factor q j x l m same other h =
    ⊎_elim
    (λ (e : factor ≡ 0).
    let none : shift ≡ 0 = eq-zero_of_zero-dvd (subst (λ (d : ℕ). d ∣ shift) e h.of_shift) in
    let each = h.of_numbers (q * n + j) (place_below kept n q j l m) in
    let z : unsigned_abs (at numbers (q * n + j) +ℤ pos shift) ≡ 0 =
    eq-zero_of_zero-dvd (subst (λ (d : ℕ). d ∣ unsigned_abs (at numbers (q * n + j) +ℤ pos shift)) e each) in
    absurd (other (zero_sum x shift (subst (λ (y : ℤ). unsigned_abs (y +ℤ pos shift) ≡ 0) same z) none)))
    (λ (d : factor ≢ 0). omega arith)
    (cases_eq factor 0)

only_one : (d factor : ℕ) → 0 < factor → (d * factor) ∣ factor → d ≡ 1
only_one d factor some v =
    let most : d * factor ≤ factor = le_of_dvd some v in
    ⊎_elim
    (λ (e : d ≡ 0). let z : factor ≡ 0 = eq-zero_of_zero-dvd (subst (λ (k : ℕ). k ∣ factor) (ap (λ (k : ℕ). k * factor) e ∙ omega arith) v) in omega arith)
    (λ (other : d ≢ 0). ⊎_elim
    (λ (e : d < 2). omega arith)
    (λ (l : 2 ≤ d). absurd (omega (arith, mul-le-mul_right factor l)))
    (cases_lt d 2))
    (cases_eq d 0)

pub front : (xs ys : List ℤ) (m : ℕ) → xs ≡ ys → (k : ℕ) → k < m → at (take m xs) k ≡ at ys k
front xs ys m e k l = get_or-take m xs k (pos 0) l ∙ ap (λ (zs : List ℤ). at zs k) e

front_length : (xs ys : List ℤ) (m : ℕ) → xs ≡ ys → m ≤ length ys → length (take m xs) ≡ m
front_length xs ys m e l = length-take-le m xs (subst (λ (zs : List ℤ). m ≤ length zs) (sym e) l)

-- the shift of the front
pub front_shift : (xs ys : List ℤ) (m shift : ℕ) → xs ≡ ys → m ≤ length ys
    → ((k : ℕ) → k < length (take m xs) → pos 0 ≤ℤ (at (take m xs) k +ℤ pos shift))
    → ((n : ℕ) → ((k : ℕ) → k < length (take m xs) → pos 0 ≤ℤ (at (take m xs) k +ℤ pos n)) → shift ≤ n)
    → IsLeastShift (take m xs) m shift
front_shift xs ys m shift e l enough least = let len = front_length xs ys m e l in record {
  enough = λ k b. enough k (omega arith);
  least = λ n all. least n (λ k b. all k (omega arith));
}

-- its common factor
pub front_factor : (xs ys : List ℤ) (m shift factor : ℕ) → xs ≡ ys → m ≤ length ys → factor ∣ shift
    → ((k : ℕ) → k < length (take m xs) → factor ∣ unsigned_abs (at (take m xs) k +ℤ pos shift))
    → ((d : ℕ) → d ∣ shift → ((k : ℕ) → k < length (take m xs) → d ∣ unsigned_abs (at (take m xs) k +ℤ pos shift)) → d ∣ factor)
    → IsCommonFactor (take m xs) shift m factor
front_factor xs ys m shift factor e l of_shift of_numbers greatest = let len = front_length xs ys m e l in record {
  of_shift = of_shift;
  of_numbers = λ k b. of_numbers k (omega arith);
  greatest = λ d s all. greatest d s (λ k b. all k (omega arith));
}

-- it is positive where some multiplier isn't 0
pub front_some : (kept n : ℕ) (xs ys : List ℤ) (shift factor : ℕ) → xs ≡ ys
    → (q : ℕ) × (j : ℕ) × (q < kept) × (j < n) × (multiplier n ys q j ≢ pos 0) → IsCommonFactor (take (kept * n) xs) shift (kept * n) factor → 0 < factor
front_some kept n xs ys shift factor e w f =
    factor_positive kept n (take (kept * n) xs) shift factor w.0 w.1 (multiplier n ys w.0 w.1) w.2 w.3
    (front xs ys (kept * n) e (w.0 * n + w.1) (place_below kept n w.0 w.1 w.2 w.3)) w.4 f

-- the table of the first multipliers is that of all
pub is_table : (kept : List ℕ) (n : ℕ) (multipliers numbers : List ℤ) (shift factor j : ℕ) (t : TableTree) → n ≤ j → j ≤ n
    → ((k : ℕ) → k < length kept * n → at numbers k ≡ at multipliers k)
    → IsLeastShift numbers (length kept * n) shift → IsCommonFactor numbers shift (length kept * n) factor → 0 < factor
    → t.over ≡ 1 → pos factor *ℤ t.rest ≡ pos shift → HasActions kept n numbers shift factor j t.actions → IsTableOf kept n multipliers t
is_table kept n multipliers numbers shift factor j t all most same s f some over rest h =
    let place : (q i : ℕ) → q < length kept → i < n → at numbers (q * n + i) ≡ multiplier n multipliers q i =
    λ q i l m. same (q * n + i) (place_below (length kept) n q i l m) in
    record {
      shift = shift;
      is_shift = record {
        enough = λ q i l m. subst (λ (z : ℤ). pos 0 ≤ℤ (z +ℤ pos shift)) (place q i l m) (s.enough (q * n + i) (place_below (length kept) n q i l m));
        least = λ k each. s.least k (by_place (length kept) n (λ z. pos 0 ≤ℤ (z +ℤ pos k)) numbers
            (λ q i l m. subst (λ (z : ℤ). pos 0 ≤ℤ (z +ℤ pos k)) (sym (place q i l m)) (each q i l m)));
      };
      factor = factor;
      some_factor = some;
      over = over;
      rest = rest;
      many = h.many ∙ omega arith;
      actions = λ i m. let a = h.are i (omega arith) in record {
        name = a.name;
        values = a.values;
        gains = λ q l. a.gains q l ∙ ap (λ (z : ℤ). z +ℤ pos shift) (place q i l m);
      };
      no_common_factor = λ d ds each. only_one d factor some (f.greatest (d * factor) ds
          (by_place (length kept) n (λ z. (d * factor) ∣ unsigned_abs (z +ℤ pos shift)) numbers
          (λ q i l m. subst (λ (z : ℤ). (d * factor) ∣ unsigned_abs (z +ℤ pos shift)) (sym (place q i l m)) (each q i l m))));
    }
