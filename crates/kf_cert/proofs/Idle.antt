-- Fewer sums than actions: some action has none; as many: each has one.
use Rattle.std.proofs.Common.{◌≡◌, ◌≢◌, true≢false, is_some, get_or, suc, zero, ℕ, ◌+◌, ◌<◌, ◌≤◌, List, [], ◌∷◌, Bool, true, false, refl, sym, ◌∙◌, ap, arith, length, ⊎_elim, Option, None, Some, cond}
use Rattle.std.specs.Prelude.{ℤ}
use Rattle.std.specs.Ordering.{nat_cmp}
use Rattle.std.specs.declared.cmp.Ordering.TheVariants.{Less}
use Rattle.std.specs.BTreeMap.{is_at}
use Rattle.std.specs.Map.{lookup, keys_of}
use Rattle.std.specs.List.{AllByRecursion}
use Rattle.std.specs.List.Sorted.{IsStrictlySortedBy}
use Rattle.std.proofs.lemmas.Bool.{cases_lt}
use Rattle.std.proofs.lemmas.Bool.Decides.{nat_tests}

abbrev Sums : Type 0
Sums = List (ℕ × ℤ)

abbrev find : ℕ → Sums → Option ℤ
find k es = lookup (is_at (nat_cmp k)) es

-- the actions ascend from `low` on
abbrev Rise : ℕ → Sums → Type 0
Rise low [] = Unit {0}
Rise low (e ∷ es) = (low ≤ e.0) × Rise (e.0 + 1) es

nat_less : (x y : ℕ) → nat_cmp x y ≡ Less → x < y
nat_less x y e = grind (arith, nat_tests)

later : (x : ℕ) (es : Sums) → AllByRecursion (λ (k : ℕ). nat_cmp x k ≡ Less) (keys_of es) → AllByRecursion (λ (k : ℕ). x + 1 ≤ k) (keys_of es)
later x [] all = tt
later x (e ∷ es) all = (omega (arith, nat_less x e.0 all.0), later x es all.1)

from_zero : (es : Sums) → AllByRecursion (λ (k : ℕ). 0 ≤ k) (keys_of es)
from_zero [] = tt
from_zero (e ∷ es) = (omega arith, from_zero es)

rise : (low : ℕ) (es : Sums) → AllByRecursion (λ (k : ℕ). low ≤ k) (keys_of es) → IsStrictlySortedBy nat_cmp (keys_of es) → Rise low es
unfolding IsStrictlySortedBy
rise low [] from sorted = tt
rise low (e ∷ es) from sorted = (from.0, rise (e.0 + 1) es (later e.0 es sorted.0) sorted.1)

apart : (k x : ℕ) → (k ≡ x → ⊥) → is_at (nat_cmp k) x ≡ false
apart k x different = grind (arith, nat_tests)

at : (k x : ℕ) → k ≡ x → is_at (nat_cmp k) x ≡ true
at k x same = grind (arith, nat_tests)

past : (k : ℕ) (e : ℕ × ℤ) (es : Sums) → (k ≡ e.0 → ⊥) → find k (e ∷ es) ≡ find k es
past k e es different = ap (λ (b : Bool). cond b (Some e.1) (find k es)) (apart k e.0 different)

found : (k : ℕ) (e : ℕ × ℤ) (es : Sums) → k ≡ e.0 → find k (e ∷ es) ≡ Some e.1
found k e es same = ap (λ (b : Bool). cond b (Some e.1) (find k es)) (at k e.0 same)

-- none below the first
before : (low k : ℕ) (es : Sums) → Rise low es → k < low → find k es ≡ None
before low k [] up below = refl
before low k (e ∷ es) (from, up) below =
    past k e es (λ same. omega (arith, same, from, below)) ∙ before (e.0 + 1) k es up (omega (arith, from, below))

-- fewer sums than actions from `low` on
free : (low count : ℕ) (es : Sums) → Rise low es → low + length es < count → (k : ℕ) × (low ≤ k) × (k < count) × (find k es ≡ None)
free low count [] up few = (low, omega arith, omega (arith, few), refl)
free low count (e ∷ es) (from, up) few =
    ⊎_elim
    (λ (gap : low < e.0). (low, omega arith, omega (arith, few), past low e es (λ same. omega (arith, same, gap)) ∙ before (e.0 + 1) low es up (omega (arith, gap))))
    (λ (none : e.0 ≤ low).
    let r : (k : ℕ) × (e.0 + 1 ≤ k) × (k < count) × (find k es ≡ None) = free (e.0 + 1) count es up (omega (arith, few, none)) in
    (r.0, omega (arith, r.1, from), r.2, past r.0 e es (λ same. omega (arith, same, r.1)) ∙ r.3))
    (cases_lt low e.0)

-- ---- sums of actions below `count` alone

clash : (z : ℤ) → Some z ≢ None
clash z same = true≢false (ap is_some same)

module _ (count : ℕ) where
  abbrev Below : Sums → Type 0
  Below es = (k : ℕ) → count ≤ k → find k es ≡ None

  first_below : (e : ℕ × ℤ) (es : Sums) → Below (e ∷ es) → e.0 < count
  first_below e es below =
      ⊎_elim (λ (h : e.0 < count). h) (λ (h : count ≤ e.0). absurd (clash e.1 (sym (found e.0 e es refl) ∙ below e.0 h))) (cases_lt e.0 count)

  rest_below : (e : ℕ × ℤ) (es : Sums) → Below (e ∷ es) → Below es
  rest_below e es below k h = sym (past k e es (λ same. omega (arith, same, h, first_below e es below))) ∙ below k h

  -- they are no more than the actions from `low` on
  at_most : (low : ℕ) (es : Sums) → Rise low es → low ≤ count → Below es → low + length es ≤ count
  at_most low [] up within below = omega (arith, within)
  at_most low (e ∷ es) (from, up) within below =
      let here : e.0 < count = first_below e es below in
      omega (arith, at_most (e.0 + 1) es up (omega (arith, here)) (rest_below e es below), from)

  -- where there are as many, each action has one
  full : (low k : ℕ) (es : Sums) → Rise low es → Below es → count ≤ low + length es → low ≤ k → k < count → find k es ≢ None
  full low k [] up below many from under none = omega (arith, many, from, under)
  full low k (e ∷ es) (first, up) below many from under none =
      let here : e.0 < count = first_below e es below in
      let most : e.0 + 1 + length es ≤ count = at_most (e.0 + 1) es up (omega (arith, here)) (rest_below e es below) in
      ⊎_elim
      (λ (h : e.0 < k).
      full (e.0 + 1) k es up (rest_below e es below) (omega (arith, many, first)) (omega (arith, h)) under (sym (past k e es (λ same. omega (arith, same, h))) ∙ none))
      (λ (h : k ≤ e.0). clash e.1 (sym (found k e es (omega (arith, h, most, many, from))) ∙ none))
      (cases_lt e.0 k)

-- each entry is the sum of its action
from_low : (low : ℕ) (es : Sums) → Rise low es → (i : ℕ) (d : ℕ × ℤ) → i < length es → low ≤ (get_or es i d).0
from_low low [] up i d inside = absurd (omega (arith, inside))
from_low low (e ∷ es) (from, up) zero d inside = from
from_low low (e ∷ es) (from, up) (suc i) d inside = omega (arith, from, from_low (e.0 + 1) es up i d (omega (arith, inside)))

held : (low : ℕ) (es : Sums) → Rise low es → (i : ℕ) (d : ℕ × ℤ) → i < length es → find (get_or es i d).0 es ≡ Some (get_or es i d).1
held low [] up i d inside = absurd (omega (arith, inside))
held low (e ∷ es) up zero d inside = found e.0 e es refl
held low (e ∷ es) (from, up) (suc i) d inside =
    let far : e.0 + 1 ≤ (get_or es i d).0 = from_low (e.0 + 1) es up i d (omega (arith, inside)) in
    past (get_or es i d).0 e es (λ same. omega (arith, same, far)) ∙ held (e.0 + 1) es up i d (omega (arith, inside))

-- ---- the entries of a map

module _ (count : ℕ) (es : Sums) (sorted : IsStrictlySortedBy nat_cmp (keys_of es)) where
  ascend : Rise 0 es
  ascend = rise 0 es (from_zero es) sorted

  pub some_idle : length es < count → (k : ℕ) × (k < count) × (find k es ≡ None)
  some_idle few = let r = free 0 count es ascend (omega (arith, few)) in (r.0, r.2, r.3)

  pub none_idle : Below count es → count ≤ length es → (k : ℕ) → k < count → find k es ≢ None
  none_idle below many k under = full count 0 k es ascend below (omega (arith, many)) (omega arith) under

  -- each entry is the sum of its action, which is below `count`
  pub entry_found : (i : ℕ) (d : ℕ × ℤ) → i < length es → find (get_or es i d).0 es ≡ Some (get_or es i d).1
  entry_found i d inside = held 0 es ascend i d inside

  pub entry_below : Below count es → (i : ℕ) (d : ℕ × ℤ) → i < length es → (get_or es i d).0 < count
  entry_below below i d inside =
      ⊎_elim (λ (h : (get_or es i d).0 < count). h)
      (λ (h : count ≤ (get_or es i d).0). absurd (clash (get_or es i d).1 (sym (entry_found i d inside) ∙ below (get_or es i d).0 h)))
      (cases_lt (get_or es i d).0 count)
