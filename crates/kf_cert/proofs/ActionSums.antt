-- Sums of what actions gain beyond `rest`, kept in a map by action.
use Rattle.std.proofs.Common.{◌≡◌, ℕ, ◌+◌, ◌*◌, ◌<◌, ◌≤◌, ◌==◌, List, [], ◌∷◌, Bool, true, false, sum_by, refl, sym, ◌∙◌, ap, arith, suc, length, get_or, drop, drop-cons, add-one, negsuc, if◌then◌else◌}
use Rattle.std.specs.Prelude.{ℤ, pos, ◌+ℤ◌, ◌-ℤ◌, ◌*ℤ◌, unsigned_abs}
use Rattle.std.proofs.lemmas.Int.{ints, unsigned_abs-mul}
use Rattle.std.proofs.lemmas.List.Sums.{sum_by-cons}
use Rattle.std.proofs.Math.Nat.{mul-add}
use Rattle.kf_frac.proofs.Ring.{mul_add}
use Rattle.kf_cert.specs.declared.gain_rules.excess.Excess.{Excess}
use Rattle.kf_cert.specs.NamedGains.{of_action, amount_at, size_at}

-- ---- what excesses come to, by two sums of whole numbers

-- how far a number is above 0, and how far below
abbrev pub above : ℤ → ℕ
above (pos n) = n
above (negsuc n) = 0

abbrev pub under : ℤ → ℕ
under (pos n) = 0
under (negsuc n) = suc n

pub parts : (z : ℤ) → pos (above z) -ℤ pos (under z) ≡ z
parts (pos n) = omega (arith, ints)
parts (negsuc n) = omega (arith, ints)

chosen : (b : Bool) (z : ℤ) → pos (if b then above z else 0) -ℤ pos (if b then under z else 0) ≡ (if b then z else pos 0)
chosen true z = parts z
chosen false z = refl

pub amount_parts : (es : List Excess) (k : ℕ) → amount_at es k ≡ pos (sum_by (of_action above k) es) -ℤ pos (sum_by (of_action under k) es)
amount_parts [] k = refl
amount_parts (e ∷ es) k =
    omega (
      arith,
      ints,
      chosen (e.action == k) e.amount,
      amount_parts es k,
      sum_by-cons (of_action above k) e es,
      sum_by-cons (of_action under k) e es,
    )

-- ---- one more

times_if : (w : ℤ) (b : Bool) (z : ℤ) → (if b then w *ℤ z else pos 0) ≡ w *ℤ (if b then z else pos 0)
times_if w true z = refl
times_if w false z = none w
  where
    none : (w : ℤ) → pos 0 ≡ w *ℤ pos 0
    none w = omega (arith, ints)

size_if : (w : ℕ) (b : Bool) (z : ℤ) → unsigned_abs (if b then pos w *ℤ z else pos 0) ≡ w * (if b then unsigned_abs z else 0)
size_if w true z = unsigned_abs-mul (pos w) z
size_if w false z = omega arith

module _ (es : List Excess) (weight i : ℕ) (d : Excess) (inside : i < length es) where
  left : drop i es ≡ get_or es i d ∷ drop (i + 1) es
  left = rw add-one (drop-cons es i d inside)

  abbrev step : ℕ → ℤ
  step k = if (get_or es i d).action == k then pos weight *ℤ (get_or es i d).amount else pos 0

  amount_left : (k : ℕ) → pos weight *ℤ amount_at (drop i es) k ≡ step k +ℤ pos weight *ℤ amount_at (drop (i + 1) es) k
  amount_left k =
      ap (λ (l : List Excess). pos weight *ℤ amount_at l k) left
      ∙ mul_add (pos weight) (if (get_or es i d).action == k then (get_or es i d).amount else pos 0) (amount_at (drop (i + 1) es) k)
      ∙ ap (λ (z : ℤ). z +ℤ pos weight *ℤ amount_at (drop (i + 1) es) k) (sym (times_if (pos weight) ((get_or es i d).action == k) (get_or es i d).amount))

  size_left : (k : ℕ) → weight * size_at (drop i es) k ≡ unsigned_abs (step k) + weight * size_at (drop (i + 1) es) k
  size_left k =
      ap (λ (l : List Excess). weight * size_at l k) left
      ∙ ap (λ (n : ℕ). weight * n) (sum_by-cons (of_action unsigned_abs k) (get_or es i d) (drop (i + 1) es))
      ∙ mul-add weight (of_action unsigned_abs k (get_or es i d)) (size_at (drop (i + 1) es) k)
      ∙ ap (λ (n : ℕ). n + weight * size_at (drop (i + 1) es) k) (sym (size_if weight ((get_or es i d).action == k) (get_or es i d).amount))

  pub next_amount : (k : ℕ) (old mid new : ℤ) → mid +ℤ pos weight *ℤ amount_at (drop i es) k ≡ old +ℤ pos weight *ℤ amount_at es k → new ≡ mid +ℤ step k
      → new +ℤ pos weight *ℤ amount_at (drop (i + 1) es) k ≡ old +ℤ pos weight *ℤ amount_at es k
  next_amount k old mid new had is = omega (arith, ints, had, is, amount_left k)

  pub next_size : (k limit : ℕ) (mid new : ℤ) → unsigned_abs mid + weight * size_at (drop i es) k ≤ limit → new ≡ mid +ℤ step k
      → unsigned_abs new + weight * size_at (drop (i + 1) es) k ≤ limit
  next_size k limit mid new had is = omega (arith, ints, had, is, size_left k)

  -- the next product fits beside the sum of its action
  same_action : (k : ℕ) → (if k == k then unsigned_abs (get_or es i d).amount else 0) ≡ unsigned_abs (get_or es i d).amount
  same_action k = ap (λ (b : Bool). if b then unsigned_abs (get_or es i d).amount else 0) (same k)
    where
      same : (k : ℕ) → (k == k) ≡ true
      same k = grind arith

  pub product_fits : (limit : ℕ) (mid : ℤ) → unsigned_abs mid + weight * size_at (drop i es) (get_or es i d).action ≤ limit
      → unsigned_abs mid + weight * unsigned_abs (get_or es i d).amount ≤ limit
  product_fits limit mid had =
      let k = (get_or es i d).action in
      omega (
        arith,
        had,
        ap (λ (l : List Excess). weight * size_at l k) left,
        ap (λ (n : ℕ). weight * n) (sum_by-cons (of_action unsigned_abs k) (get_or es i d) (drop (i + 1) es)),
        mul-add weight (of_action unsigned_abs k (get_or es i d)) (size_at (drop (i + 1) es) k),
        ap (λ (n : ℕ). weight * n) (same_action k),
      )

pub all_added : (es : List Excess) (weight i k : ℕ) (old new : ℤ) → drop i es ≡ [] → new +ℤ pos weight *ℤ amount_at (drop i es) k ≡ old +ℤ pos weight *ℤ amount_at es k
    → new ≡ old +ℤ pos weight *ℤ amount_at es k
all_added es weight i k old new none had =
    let last : pos weight *ℤ amount_at (drop i es) k ≡ pos weight *ℤ pos 0 = ap (λ (l : List Excess). pos weight *ℤ amount_at l k) none in
    omega (arith, ints, had, last)
