-- Numbers in mixed radix: digits, weights, and the change of one digit.
use Rattle.std.proofs.Common.{◌≡◌, ℕ, zero, suc, ◌+◌, ◌-◌, ◌*◌, ◌/◌, ◌%◌, ◌<◌, ◌≤◌, List, [], ◌∷◌, length, map, slice_get, get_or, set, Some, None, refl, sym, ap, ◌∙◌, subst, arith}
use Rattle.std.proofs.Math.Nat.{mul_assoc, mul-le-mul_right, mul-le-mul_left}
use Rattle.std.proofs.lemmas.Nat.{div-mul-add, mod-mul-add, div-add-mod', div_below, mod_below}
use Rattle.std.proofs.lemmas.Option.{slice_get_within, get_or_from_slice_get}
use Rattle.std.specs.List.{All}
use Rattle.std.proofs.lemmas.List.Elements.{All-head, All-tail}
use Rattle.kf_value.proofs.Sizing.{some_values, few_values}
use Rattle.std.proofs.lemmas.List.{length-map}
use Rattle.kf_value.specs.Values.{ValueTree}
use Rattle.kf_value.specs.Types.{TypeTree, values, combinations, product, count}
use Rattle.kf_value.specs.Sizes.{fault_of, HasSize, HasNumber}
use Rattle.kf_value.specs.Stores.{stores}
use Rattle.kf_value.specs.Numbers.{IsStore, HasDigit, weights, digits, mixed_radix, AreDigits}
use Rattle.kf_value.proofs.Parts.{total, length-choices}
use Rattle.kf_value.proofs.ListLemmas.{mapped_read}
use Rattle.kf_value.proofs.Places.{combination_at, combination_split}

-- each size is at least 1
abbrev pub Positive : List ℕ → Type 0
Positive [] = Unit {0}
Positive (s ∷ ss) = (0 < s) × Positive ss

pub positive_product : (ss : List ℕ) → Positive ss → 0 < product ss
positive_product [] h = omega arith
positive_product (s ∷ ss) h = let rest = positive_product ss h.1 in let grown : s * 1 ≤ s * product ss = mul-le-mul_left s rest in let first = h.0 in omega arith

-- ---- reading a digit

-- the later sizes divide the product
split_product : (ss : List ℕ) (i : ℕ) → i < length ss → (x : ℕ) × (product ss ≡ x * (get_or ss i 0 * get_or (weights ss) i 0))
split_product [] i within = absurd (omega arith)
split_product (s ∷ ss) zero within = let one : s * product ss ≡ 1 * (s * product ss) = omega arith in (1, one)
split_product (s ∷ ss) (suc i) within =
    let inner = split_product ss i (omega arith) in
    let m = get_or ss i 0 * get_or (weights ss) i 0 in
    (s * inner.0, ap (λ p. s * p) inner.1 ∙ sym (mul_assoc s inner.0 m))

regroup : (q x s w c d b : ℕ) → q * (x * (s * w)) + ((c * s + d) * w + b) ≡ ((q * x + c) * s + d) * w + b
regroup q x s w c d b = omega arith

-- a multiple of size and weight above does not change the digit
digit_above : (q x s w r : ℕ) → 0 < w → 0 < s → (q * (x * (s * w)) + r) / w % s ≡ r / w % s
digit_above q x s w r some_w some_s =
    let a = r / w in
    let b = r % w in
    let b_below : b < w = mod_below r w some_w in
    let part : r ≡ a * w + b = sym (div-add-mod' r w) in
    let c = a / s in
    let d = a % s in
    let d_below : d < s = mod_below a s some_s in
    let digit : a ≡ c * s + d = sym (div-add-mod' a s) in
    let whole : q * (x * (s * w)) + r ≡ ((q * x + c) * s + d) * w + b =
    ap (λ z. q * (x * (s * w)) + z) part ∙ (ap (λ z. q * (x * (s * w)) + (z * w + b)) digit ∙ regroup q x s w c d b) in
    ap (λ z. z / w % s) whole ∙ (ap (λ z. z % s) (div-mul-add ((q * x + c) * s + d) w b b_below) ∙ mod-mul-add (q * x + c) s d d_below)

pub positive_weight : (ss : List ℕ) (i : ℕ) → Positive ss → i < length ss → (0 < get_or ss i 0) × (0 < get_or (weights ss) i 0)
positive_weight [] i h within = absurd (omega arith)
positive_weight (s ∷ ss) zero h within = (h.0, positive_product ss h.1)
positive_weight (s ∷ ss) (suc i) h within = positive_weight ss i h.1 (omega arith)

pub digit_read : (ss : List ℕ) (n i : ℕ) → Positive ss → n < product ss → i < length ss → n / get_or (weights ss) i 0 % get_or ss i 0 ≡ get_or (digits ss n) i 0
digit_read [] n i h below within = absurd (omega arith)
digit_read (s ∷ ss) n zero h below within =
    let first : n / product ss < s = div_below n (product ss) s (positive_product ss h.1) below in
    let start : n / product ss ≡ 0 * s + n / product ss = omega arith in
    ap (λ z. z % s) start ∙ mod-mul-add 0 s (n / product ss) first
digit_read (s ∷ ss) n (suc i) h below within =
    let p = product ss in
    let some = positive_product ss h.1 in
    let inside : i < length ss = omega arith in
    let split = split_product ss i inside in
    let positive = positive_weight ss i h.1 inside in
    let size = get_or ss i 0 in
    let weight = get_or (weights ss) i 0 in
    let number : n ≡ n / p * (split.0 * (size * weight)) + n % p = sym (div-add-mod' n p) ∙ ap (λ z. n / p * z + n % p) split.1 in
    ap (λ z. z / weight % size) number
    ∙ (digit_above (n / p) split.0 size weight (n % p) positive.1 positive.0 ∙ digit_read ss (n % p) i h.1 (mod_below n p some) inside)

pub digit_below : (ss : List ℕ) (n i : ℕ) → Positive ss → n < product ss → i < length ss → get_or (digits ss n) i 0 < get_or ss i 0
digit_below [] n i h below within = absurd (omega arith)
digit_below (s ∷ ss) n zero h below within = div_below n (product ss) s (positive_product ss h.1) below
digit_below (s ∷ ss) n (suc i) h below within = digit_below ss (n % product ss) i h.1 (mod_below n (product ss) (positive_product ss h.1)) (omega arith)

-- ---- changing a digit

pub record Changed (ss : List ℕ) (n i new : ℕ) : Type 0 where
  pub held : get_or (digits ss n) i 0 * get_or (weights ss) i 0 ≤ n
  pub below : n - get_or (digits ss n) i 0 * get_or (weights ss) i 0 + new * get_or (weights ss) i 0 < product ss
  pub now : digits ss (n - get_or (digits ss n) i 0 * get_or (weights ss) i 0 + new * get_or (weights ss) i 0) ≡ set (digits ss n) i new

pub change_digit : (ss : List ℕ) (n i new : ℕ) → Positive ss → n < product ss → i < length ss → new < get_or ss i 0 → Changed ss n i new
change_digit [] n i new h below within small = absurd (omega arith)
change_digit (s ∷ ss) n zero new h below within small =
    let p = product ss in
    let some = positive_product ss h.1 in
    let rest : n % p < p = mod_below n p some in
    let number = div-add-mod' n p in
    let left : n - n / p * p ≡ n % p = omega arith in
    let turned : n - n / p * p + new * p ≡ new * p + n % p = omega arith in
    let grown : (new + 1) * p ≤ s * p = mul-le-mul_right p (omega arith) in
    record {
      held = omega arith;
      below = omega arith;
      now = ap (digits (s ∷ ss)) turned
          ∙ (ap (λ z. z ∷ digits ss ((new * p + n % p) % p)) (div-mul-add new p (n % p) rest) ∙ ap (λ z. new ∷ digits ss z) (mod-mul-add new p (n % p) rest));
    }
change_digit (s ∷ ss) n (suc i) new h below within small =
    let p = product ss in
    let some = positive_product ss h.1 in
    let rest : n % p < p = mod_below n p some in
    let inner = change_digit ss (n % p) i new h.1 rest (omega arith) small in
    let number = div-add-mod' n p in
    let taken = get_or (digits ss (n % p)) i 0 * get_or (weights ss) i 0 in
    let given = new * get_or (weights ss) i 0 in
    let after = n % p - taken + given in
    let held = inner.held in
    let inside : after < p = inner.below in
    let turned : n - taken + given ≡ n / p * p + after = omega arith in
    let first : n / p < s = div_below n p s some below in
    let grown : (n / p + 1) * p ≤ s * p = mul-le-mul_right p (omega arith) in
    record {
      held = omega arith;
      below = omega arith;
      now = ap (digits (s ∷ ss)) turned
          ∙ (ap (λ z. z ∷ digits ss ((n / p * p + after) % p)) (div-mul-add (n / p) p after inside)
          ∙ (ap (λ z. n / p ∷ digits ss z) (mod-mul-add (n / p) p after inside) ∙ ap (λ ds. n / p ∷ ds) inner.now));
    }

-- ---- stores as values

-- the values stand at these places among those of the types
abbrev pub Stored : List TypeTree → List ℕ → List ValueTree → Type 0
Stored [] ds s = (ds ≡ []) × (s ≡ [])
Stored (t ∷ ts) [] s = ⊥
Stored (t ∷ ts) (d ∷ ds) [] = ⊥
Stored (t ∷ ts) (d ∷ ds) (v ∷ s) = HasNumber t v d × Stored ts ds s

abbrev pub sizes : List TypeTree → List ℕ
sizes ts = map count ts

some_below : (a b n : ℕ) → n < a * b → 0 < b
some_below a zero n h = absurd (omega arith)
some_below a (suc b) n h = omega arith

pub choices_stored : (ts : List TypeTree) (n : ℕ) (s : List ValueTree) → slice_get (combinations (map values ts)) n ≡ Some s → Stored ts (digits (sizes ts) n) s
choices_stored [] zero s h = let same : s ≡ [] = (cc) in (refl, same)
choices_stored [] (suc n) s h = (cc)
choices_stored (t ∷ ts) n s h =
    let found = combination_split (values t) (map values ts) n s h in
    let size = length-choices ts in
    let first : HasNumber t found.0 (n / total ts) = ap (λ l. slice_get (values t) (n / l)) (sym size) ∙ found.2 in
    let later = choices_stored ts (n % total ts) found.1 (ap (λ l. slice_get (combinations (map values ts)) (n % l)) (sym size) ∙ found.3) in
    subst (λ vs. Stored (t ∷ ts) (n / total ts ∷ digits (sizes ts) (n % total ts)) vs) (sym found.4) (first, later)

pub stored_choices : (ts : List TypeTree) (n : ℕ) (s : List ValueTree) → n < total ts → Stored ts (digits (sizes ts) n) s
    → slice_get (combinations (map values ts)) n ≡ Some s
stored_choices [] n s below h = let first : n ≡ 0 = omega arith in ap (slice_get ([] ∷ [])) first ∙ ap (λ vs. Some vs) (sym h.1)
stored_choices (t ∷ ts) n [] below h = elim h [ ]
stored_choices (t ∷ ts) n (v ∷ s) below h =
    let some = some_below (count t) (total ts) n below in
    let later = stored_choices ts (n % total ts) s (mod_below n (total ts) some) h.1 in
    let size = length-choices ts in
    let place : n ≡ n / total ts * length (combinations (map values ts)) + n % total ts =
    sym (div-add-mod' n (total ts)) ∙ ap (λ l. n / total ts * l + n % total ts) (sym size) in
    combination_at (values t) (map values ts) (n / total ts) (n % total ts) n v s place h.0 later

stored_set : (ts : List TypeTree) (ds : List ℕ) (s : List ValueTree) (i k : ℕ) (t : TypeTree) (v : ValueTree) → slice_get ts i ≡ Some t → HasNumber t v k
    → Stored ts ds s → Stored ts (set ds i k) (set s i v)
stored_set [] ds s i k t v at has h = (cc)
stored_set (u ∷ ts) [] s i k t v at has h = elim h [ ]
stored_set (u ∷ ts) (d ∷ ds) [] i k t v at has h = elim h [ ]
stored_set (u ∷ ts) (d ∷ ds) (w ∷ s) zero k t v at has h = let same : t ≡ u = (cc) in (subst (λ x. HasNumber x v k) same has, h.1)
stored_set (u ∷ ts) (d ∷ ds) (w ∷ s) (suc i) k t v at has h = (h.0, stored_set ts ds s i k t v at has h.1)

stored_at : (ts : List TypeTree) (ds : List ℕ) (s : List ValueTree) (i : ℕ) (t : TypeTree) → slice_get ts i ≡ Some t → Stored ts ds s
    → slice_get s i ≡ slice_get (values t) (get_or ds i 0)
stored_at [] ds s i t at h = (cc)
stored_at (u ∷ ts) [] s i t at h = elim h [ ]
stored_at (u ∷ ts) (d ∷ ds) [] i t at h = elim h [ ]
stored_at (u ∷ ts) (d ∷ ds) (v ∷ s) zero t at h = let same : u ≡ t = (cc) in sym h.0 ∙ ap (λ x. slice_get (values x) d) same
stored_at (u ∷ ts) (d ∷ ds) (v ∷ s) (suc i) t at h = stored_at ts ds s i t at h.1

pub digit_value : (ts : List TypeTree) (n i : ℕ) → HasDigit ts n i (get_or (digits (sizes ts) n) i 0)
unfolding stores
digit_value ts n i t s at store = stored_at ts (digits (sizes ts) n) s i t at (choices_stored ts n s store)

pub store_changed : (ts : List TypeTree) (n after i k : ℕ) (t : TypeTree) (v : ValueTree) → slice_get ts i ≡ Some t → HasNumber t v k → after < total ts
    → digits (sizes ts) after ≡ set (digits (sizes ts) n) i k → (s : List ValueTree) → IsStore ts n s → IsStore ts after (set s i v)
unfolding stores
store_changed ts n after i k t v at has below changed s store =
    stored_choices ts after (set s i v) below
    (subst (λ ds. Stored ts ds (set s i v)) (sym changed) (stored_set ts (digits (sizes ts) n) s i k t v at has (choices_stored ts n s store)))

-- ---- types with a size

pub positive_sizes : (ts : List TypeTree) → All (λ t. fault_of t ≡ None) ts → Positive (sizes ts)
positive_sizes [] h = tt
positive_sizes (t ∷ ts) h =
    (some_values 65536 t (All-head (λ u. fault_of u ≡ None) t ts h), positive_sizes ts (All-tail (λ u. fault_of u ≡ None) t ts h))

pub sized_at : (ts : List TypeTree) (i : ℕ) (t : TypeTree) → All (λ u. fault_of u ≡ None) ts → slice_get ts i ≡ Some t → HasSize t
sized_at ts i t h at = rw (get_or_from_slice_get ts i t t at) at (h i t (slice_get_within ts i t at))

pub size_at : (ts : List TypeTree) (i : ℕ) (t : TypeTree) → slice_get ts i ≡ Some t → get_or (sizes ts) i 0 ≡ count t
size_at [] i t h = (cc)
size_at (u ∷ ts) zero t h = let same : u ≡ t = (cc) in ap count same
size_at (u ∷ ts) (suc i) t h = size_at ts i t h

pub length-weights : (ss : List ℕ) → length (weights ss) ≡ length ss
length-weights [] = refl
length-weights (s ∷ ss) = ap suc (length-weights ss)

-- what a read of a list tells of a list of numbers of its elements
pub entry : {X : Type 0} (f : X → ℕ) (xs : List X) (ys : List ℕ) (i : ℕ) (x : X) → map f xs ≡ ys → i < length ys → x ≡ get_or xs i x → f x ≡ get_or ys i 0
entry f xs ys i x same within read =
    let long = length-map xs f in
    let as_long = ap length same in
    sym (get_or_from_slice_get ys i (f x) 0 (rw (← same) (mapped_read f xs i x (omega arith) read)))

pub size_small : (ts : List TypeTree) (i : ℕ) → All (λ t. fault_of t ≡ None) ts → i < length ts → get_or (sizes ts) i 0 ≤ 65536
size_small [] i h within = absurd (omega arith)
size_small (t ∷ ts) zero h within = few_values 65536 t (All-head (λ u. fault_of u ≡ None) t ts h)
size_small (t ∷ ts) (suc i) h within = size_small ts i (All-tail (λ u. fault_of u ≡ None) t ts h) (omega arith)

-- ---- digits and numbers undo each other

pub digits_fit : (ss : List ℕ) (n : ℕ) → n < product ss → AreDigits ss (digits ss n)
digits_fit [] n h = tt
digits_fit (s ∷ ss) n h =
    let some = some_below s (product ss) n h in
    (div_below n (product ss) s some h, digits_fit ss (n % product ss) (mod_below n (product ss) some))

pub from_digits : (ss : List ℕ) (n : ℕ) → n < product ss → mixed_radix ss (digits ss n) ≡ n
from_digits [] n h = omega arith
from_digits (s ∷ ss) n h =
    let some = some_below s (product ss) n h in
    ap (λ z. n / product ss * product ss + z) (from_digits ss (n % product ss) (mod_below n (product ss) some)) ∙ div-add-mod' n (product ss)

pub radix_below : (ss ds : List ℕ) → AreDigits ss ds → mixed_radix ss ds < product ss
radix_below [] [] h = omega arith
radix_below [] (d ∷ ds) h = elim h [ ]
radix_below (s ∷ ss) [] h = elim h [ ]
radix_below (s ∷ ss) (d ∷ ds) h =
    let later = radix_below ss ds h.1 in
    let first = h.0 in
    let grown : (d + 1) * product ss ≤ s * product ss = mul-le-mul_right (product ss) (omega arith) in
    omega arith

pub to_digits : (ss ds : List ℕ) → AreDigits ss ds → digits ss (mixed_radix ss ds) ≡ ds
to_digits [] [] h = refl
to_digits [] (d ∷ ds) h = elim h [ ]
to_digits (s ∷ ss) [] h = elim h [ ]
to_digits (s ∷ ss) (d ∷ ds) h =
    let p = product ss in
    let r = mixed_radix ss ds in
    let later = radix_below ss ds h.1 in
    ap (λ z. z ∷ digits ss ((d * p + r) % p)) (div-mul-add d p r later)
    ∙ (ap (λ z. d ∷ digits ss z) (mod-mul-add d p r later) ∙ ap (λ zs. d ∷ zs) (to_digits ss ds h.1))

pub stores_counted : (ts : List TypeTree) → length (stores ts) ≡ product (map count ts)
unfolding stores
stores_counted ts = length-choices ts
