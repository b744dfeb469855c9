-- A column that is a multiple of an inner: its weights, its total, and what it is proportional to.
use Rattle.std.proofs.Common.{◌≡◌, ℕ, ◌+◌, ◌*◌, ◌/◌, ◌<◌, ◌==◌, List, [], ◌∷◌, Bool, true, false, map, refl, sym, ◌∙◌, ap, arith, if◌then◌else◌, suc, zero}
use Rattle.std.proofs.Math.Nat.{mul_assoc, mul_comm, mul-add, mul-zero, mul-div_cancel_left, one-mul}
use Rattle.std.proofs.lemmas.List.Sums.{sum_by-cons}
use Rattle.kf_column.specs.declared.entry.Entry.{Entry}
use Rattle.kf_column.specs.Columns.{weight_at, total, IsColumn, proportional}
use Rattle.kf_column.specs.Classes.{IsReduced}
use Rattle.kf_column.specs.Averages.{scaled}
use Rattle.kf_column.proofs.Weights.{weight_at-cons, above_column}
use Rattle.kf_column.proofs.Proportions.{proportional_all, all_proportional}

pub product_positive : (a b : ℕ) → 0 < a → 0 < b → 0 < a * b
product_positive (suc a) (suc b) p q = omega arith
product_positive zero b p q = absurd (omega arith)
product_positive (suc a) zero p q = absurd (omega arith)

pub total-cons : (e : Entry) (es : List Entry) → total (e ∷ es) ≡ e.weight + total es
total-cons e es = sum_by-cons (λ (e : Entry). e.weight) e es

pub total-scaled : (factor : ℕ) (column : List Entry) → total (map (scaled factor) column) ≡ factor * total column
total-scaled factor [] = sym (mul-zero factor)
total-scaled factor (e ∷ es) =
    total-cons (scaled factor e) (map (scaled factor) es) ∙ ap (λ (n : ℕ). factor * e.weight + n) (total-scaled factor es)
    ∙ sym (ap (λ (n : ℕ). factor * n) (total-cons e es) ∙ mul-add factor e.weight (total es))

pub times_if : (factor w : ℕ) (b : Bool) → (if b then factor * w else 0) ≡ factor * (if b then w else 0)
times_if factor w true = refl
times_if factor w false = sym (mul-zero factor)

pub weight_at-scaled : (factor : ℕ) (column : List Entry) (x : ℕ) → weight_at (map (scaled factor) column) x ≡ factor * weight_at column x
weight_at-scaled factor [] x = sym (mul-zero factor)
weight_at-scaled factor (e ∷ es) x =
    weight_at-cons (scaled factor e) (map (scaled factor) es) x
    ∙ (λ i. times_if factor e.weight (e.value == x) i + weight_at-scaled factor es x i)
    ∙ sym (ap (λ (n : ℕ). factor * n) (weight_at-cons e es x) ∙ mul-add factor (if e.value == x then e.weight else 0) (weight_at es x))

pub total_positive : (column : List Entry) → IsColumn column → 0 < total column
total_positive [] is = absurd (is.some refl)
total_positive (e ∷ es) is = let above = above_column (e ∷ es) is in omega (arith, total-cons e es, above.1)

pub two_ways : (s t : Bool) → (s ≡ true → t ≡ true) → (t ≡ true → s ≡ true) → s ≡ t
two_ways true t f g = sym (f refl)
two_ways false true f g = g refl
two_ways false false f g = refl

regroup : (f a b : ℕ) → (f * a) * b ≡ f * (a * b)
regroup f a b = mul_assoc f a b

cancel : (f a b : ℕ) → 0 < f → f * a ≡ f * b → a ≡ b
cancel f a b some e = sym (mul-div_cancel_left a some) ∙ ap (λ (n : ℕ). n / f) e ∙ mul-div_cancel_left b some

-- a multiple is proportional to what the inner is proportional to
pub proportional-scaled : (factor : ℕ) (inner other : List Entry) → 0 < factor → proportional (map (scaled factor) inner) other ≡ proportional inner other
proportional-scaled factor inner other some =
    two_ways (proportional (map (scaled factor) inner) other) (proportional inner other)
    (λ h. all_proportional inner other (λ x y.
    cancel factor (weight_at inner x * weight_at other y) (weight_at inner y * weight_at other x) some
    (sym (grown x y) ∙ proportional_all (map (scaled factor) inner) other h x y ∙ grown y x)))
    (λ h. all_proportional (map (scaled factor) inner) other (λ x y.
    grown x y ∙ ap (λ (n : ℕ). factor * n) (proportional_all inner other h x y) ∙ sym (grown y x)))
  where
    grown : (x y : ℕ) → weight_at (map (scaled factor) inner) x * weight_at other y ≡ factor * (weight_at inner x * weight_at other y)
    grown x y = ap (λ (n : ℕ). n * weight_at other y) (weight_at-scaled factor inner x) ∙ regroup factor (weight_at inner x) (weight_at other y)

pub proportional_reduced : (column inner other : List Entry) → IsReduced column inner → proportional column other ≡ proportional inner other
proportional_reduced column inner other is = ap (λ (c : List Entry). proportional c other) is.multiple ∙ proportional-scaled is.factor inner other is.some

pub proportional_itself : (column : List Entry) → proportional column column ≡ true
proportional_itself column = all_proportional column column (λ x y. mul_comm (weight_at column x) (weight_at column y))

pub total_reduced : (column inner : List Entry) (is : IsReduced column inner) → total column ≡ is.factor * total inner
total_reduced column inner is = ap total is.multiple ∙ total-scaled is.factor inner

pub scaled_one : (column : List Entry) → map (scaled 1) column ≡ column
scaled_one [] = refl
scaled_one (e ∷ es) = λ i. record { value = e.value; weight = one-mul e.weight i } ∷ scaled_one es i
