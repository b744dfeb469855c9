-- Columns by recursion: what they give to a value, and that this is all there is to a column.
use Rattle.std.proofs.Common.{◌≡◌, ℕ, ◌+◌, ◌<◌, ◌≤◌, ◌==◌, List, [], ◌∷◌, Bool, map, All, refl, sym, ◌∙◌, ap, subst, arith, add-one, suc, zero, zero-add, ⊎_elim, eq-eqb, if◌then◌else◌, length, get_or}
use Rattle.std.proofs.lemmas.List.Sums.{sum_by-cons}
use Rattle.std.proofs.lemmas.List.Elements.{All-head, All-tail, All-nil, All-cons}
use Rattle.std.proofs.lemmas.Bool.{ne_eqb, cases_order, cases_eq}
use Rattle.std.specs.List.Sorted.{IsStrictlyIncreasing}
use Rattle.kf_column.specs.declared.entry.Entry.{Entry}
use Rattle.kf_column.specs.Columns.{weight_at, IsColumn}

-- the values ascend from `low` on, and each weight is above 0
abbrev pub Above : ℕ → List Entry → Type 0
Above low [] = Unit {0}
Above low (e ∷ es) = (low ≤ e.value) × (0 < e.weight) × Above (e.value + 1) es

pub weight_at-cons : (e : Entry) (es : List Entry) (x : ℕ) → weight_at (e ∷ es) x ≡ (if e.value == x then e.weight else 0) + weight_at es x
weight_at-cons e es x = sum_by-cons (λ (e : Entry). if e.value == x then e.weight else 0) e es

pub weight_at_head : (e : Entry) (es : List Entry) (x : ℕ) → e.value ≡ x → weight_at (e ∷ es) x ≡ e.weight + weight_at es x
weight_at_head e es x same = weight_at-cons e es x ∙ ap (λ (b : Bool). (if b then e.weight else 0) + weight_at es x) (eq-eqb e.value x same)

pub weight_at_other : (e : Entry) (es : List Entry) (x : ℕ) → (e.value ≡ x → ⊥) → weight_at (e ∷ es) x ≡ weight_at es x
weight_at_other e es x apart = weight_at-cons e es x ∙ ap (λ (b : Bool). (if b then e.weight else 0) + weight_at es x) (ne_eqb e.value x apart) ∙ zero-add (weight_at es x)

-- a value below all of a column's has no weight
pub weight_below : (low : ℕ) (column : List Entry) (x : ℕ) → Above low column → x < low → weight_at column x ≡ 0
weight_below low [] x above below = refl
weight_below low (e ∷ es) x (from, some, rest) below =
    weight_at_other e es x (λ same. omega arith) ∙ weight_below (e.value + 1) es x rest (omega arith)

same_entry : (a b : Entry) → a.value ≡ b.value → a.weight ≡ b.weight → a ≡ b
same_entry a b p q = λ i. record { value = p i; weight = q i }

module _ (a b : Entry) (as' bs : List Entry) (some : 0 < a.weight) (rest : Above (a.value + 1) as') (some' : 0 < b.weight) (rest' : Above (b.value + 1) bs)
    (same : (x : ℕ) → weight_at (a ∷ as') x ≡ weight_at (b ∷ bs) x) where
  same_value : a.value ≡ b.value
  same_value =
      ⊎_elim (λ (e : a.value ≡ b.value). e)
      (⊎_elim
      (λ (h : a.value < b.value). absurd (omega (arith, same a.value, weight_at_head a as' a.value refl, weight_below b.value (b ∷ bs) a.value (omega arith, some', rest') h)))
      (λ (h : b.value < a.value). absurd (omega (arith, same b.value, weight_at_head b bs b.value refl, weight_below a.value (a ∷ as') b.value (omega arith, some, rest) h))))
      (cases_order a.value b.value)

  same_weight : a.weight ≡ b.weight
  same_weight =
      omega (
        arith,
        same a.value,
        weight_at_head a as' a.value refl,
        weight_at_head b bs a.value (sym same_value),
        weight_below (a.value + 1) as' a.value rest (omega arith),
        weight_below (b.value + 1) bs a.value rest' (let e = same_value in omega arith),
      )

  same_tails : (x : ℕ) → weight_at as' x ≡ weight_at bs x
  same_tails x =
      let e = same_value in
      ⊎_elim
      (λ (h : x ≡ a.value). weight_below (a.value + 1) as' x rest (omega arith) ∙ sym (weight_below (b.value + 1) bs x rest' (omega arith)))
      (λ (h : x ≡ a.value → ⊥). sym (weight_at_other a as' x (λ p. h (sym p))) ∙ same x ∙ weight_at_other b bs x (λ p. h (sym p ∙ sym e)))
      (cases_eq x a.value)

-- columns that give the same weight to each value are the same
pub same_column : (low : ℕ) (u v : List Entry) → Above low u → Above low v → ((x : ℕ) → weight_at u x ≡ weight_at v x) → u ≡ v
same_column low [] [] p q same = refl
same_column low [] (b ∷ bs) p (from, some, rest) same =
    absurd (omega (arith, same b.value, weight_at_head b bs b.value refl))
same_column low (a ∷ as') [] (from, some, rest) q same =
    absurd (omega (arith, same a.value, weight_at_head a as' a.value refl))
same_column low (a ∷ as') (b ∷ bs) (from, some, rest) (from', some', rest') same =
    let e = same_value a b as' bs some rest some' rest' same in
    let w = same_weight a b as' bs some rest some' rest' same in
    let more : Above (a.value + 1) bs = subst (λ (n : ℕ). Above (n + 1) bs) (sym e) rest' in
    let tails = same_column (a.value + 1) as' bs rest more (same_tails a b as' bs some rest some' rest' same) in
    λ i. same_entry a b e w i ∷ tails i

pub ascending_tail : (x : ℕ) (xs : List ℕ) → IsStrictlyIncreasing (x ∷ xs) → IsStrictlyIncreasing xs
ascending_tail x xs h k below = rw add-one (rw add-one at (h (suc k) (omega arith)))

ascending_step : (x : ℕ) (xs : List ℕ) (n : ℕ) → IsStrictlyIncreasing (n ∷ x ∷ xs) → n < x
ascending_step x xs n h = h 0 (omega arith)

pub above_from : (low : ℕ) (column : List Entry) → (0 < length column → low ≤ get_or (map (λ (e : Entry). e.value) column) 0 0) → IsStrictlyIncreasing (map (λ (e : Entry). e.value) column) → All (λ (e : Entry). 0 < e.weight) column → Above low column
above_from low [] from ascending positive = tt
above_from low (e ∷ []) from ascending positive = (from (omega arith), All-head (λ (e : Entry). 0 < e.weight) e [] positive, tt)
above_from low (e ∷ f ∷ es) from ascending positive = (
  from (omega arith),
  All-head (λ (e : Entry). 0 < e.weight) e (f ∷ es) positive,
  above_from (e.value + 1) (f ∷ es) (λ _. omega (arith, ascending_step f.value (map (λ (e : Entry). e.value) es) e.value ascending))
      (ascending_tail e.value (map (λ (e : Entry). e.value) (f ∷ es)) ascending) (All-tail (λ (e : Entry). 0 < e.weight) e (f ∷ es) positive),
)

-- a column of the definition, by recursion
pub above_column : (column : List Entry) → IsColumn column → Above 0 column
above_column column is = above_from 0 column (λ _. omega arith) is.ascending is.positive

pub ascending_above : (low : ℕ) (column : List Entry) → Above low column → IsStrictlyIncreasing (map (λ (e : Entry). e.value) column)
ascending_above low [] above k below = absurd (omega arith)
ascending_above low (e ∷ []) above k below = absurd (omega arith)
ascending_above low (e ∷ f ∷ es) (from, some, rest) zero below = omega (arith, rest.0)
ascending_above low (e ∷ f ∷ es) (from, some, rest) (suc k) below = rw add-one (rw add-one at (ascending_above (e.value + 1) (f ∷ es) rest k (omega arith)))

pub positive_above : (low : ℕ) (column : List Entry) → Above low column → All (λ (e : Entry). 0 < e.weight) column
positive_above low [] above = All-nil (λ (e : Entry). 0 < e.weight)
positive_above low (e ∷ es) (from, some, rest) = All-cons (λ (e : Entry). 0 < e.weight) e es some (positive_above (e.value + 1) es rest)

pub column_above : (low : ℕ) (column : List Entry) → Above low column → (column ≡ [] → ⊥) → IsColumn column
column_above low column above some = record { some = some; ascending = ascending_above low column above; positive = positive_above low column above }
