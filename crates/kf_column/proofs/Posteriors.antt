-- A posterior is written by one inner: proportional lists without common factor are the same.
use Rattle.std.proofs.Common.{◌≡◌, ℕ, ◌+◌, ◌*◌, ◌/◌, ◌<◌, List, [], ◌∷◌, All, refl, sym, ◌∙◌, ap, subst, arith, suc, zero}
use Rattle.std.proofs.Math.Nat.{mul_comm, dvd_of_mul-dvd-mul_left, dvd-mul_right, dvd-mul_left, mul-div_cancel', mul-div_cancel_left}
use Rattle.std.proofs.lemmas.Nat.Gcd.{dvd_antisymm}
use Rattle.std.proofs.lemmas.List.Elements.{All-nil, All-cons, All-weaker}
use Rattle.std.specs.Int.{IsGcd, ◌∣◌}
use Rattle.kf_frac.specs.Divisors.{gcd_of}
use Rattle.kf_frac.proofs.CommonDivisors.{gcd_is, gcd_multiples, gcd_positive}
use Rattle.kf_column.specs.declared.entry.Entry.{Entry}
use Rattle.kf_column.specs.Columns.{weight_at}
use Rattle.kf_column.specs.Hypers.{IsInner}
use Rattle.kf_column.proofs.Weights.{Above, weight_at_head, weight_at_other, weight_below, same_column, above_column}
use Rattle.kf_column.proofs.Proportions.{AreProportional}
use Rattle.kf_column.specs.Shapes.{HasNoCommonFactor}

pub weight_of_head : (low : ℕ) (e : Entry) (es : List Entry) → Above low (e ∷ es) → weight_at (e ∷ es) e.value ≡ e.weight
weight_of_head low e es (from, some, rest) = omega (arith, weight_at_head e es e.value refl, weight_below (e.value + 1) es e.value rest (omega arith))

-- what holds of each weight above 0 holds of each entry
pub each_entry : (P : ℕ → Type 0) (low : ℕ) (column : List Entry) → Above low column → ((x : ℕ) → 0 < weight_at column x → P (weight_at column x)) → All (λ (e : Entry). P e.weight) column
each_entry P low [] above holds = All-nil (λ (e : Entry). P e.weight)
each_entry P low (e ∷ es) (from, some, rest) holds =
    let here : weight_at (e ∷ es) e.value ≡ e.weight = weight_of_head low e es (from, some, rest) in
    All-cons (λ (e : Entry). P e.weight) e es (subst P here (holds e.value (omega arith)))
    (each_entry P (e.value + 1) es rest (λ x positive.
    let apart : e.value ≡ x → ⊥ = λ same. omega (arith, weight_below (e.value + 1) es x rest (omega arith)) in
    let other : weight_at (e ∷ es) x ≡ weight_at es x = weight_at_other e es x apart in
    subst P other (holds x (omega arith))))

-- b divides what it divides at both multiples
common : (a b w : ℕ) → b ∣ w * a → b ∣ w * gcd_of a b
common a b w h = rw (← gcd_multiples w a b) ((gcd_is (w * a) (w * b)).2 b h (dvd-mul_left b w))

-- where multiples of a column's weights are multiples of b, and no number but 1 divides all of its weights, b divides a
divides : (a b : ℕ) (column : List Entry) → 0 < a → 0 < b → HasNoCommonFactor column → All (λ (e : Entry). b ∣ e.weight * a) column → b ∣ a
divides a b column pa pb reduced all =
    let g : ℕ = gcd_of a b in
    let is : IsGcd a b g = gcd_is a b in
    let some : 0 < g = gcd_positive a b pb in
    let e : g * (b / g) ≡ b = mul-div_cancel' g is.1 in
    let one : b / g ≡ 1 = reduced (b / g) (All-weaker (λ (f : Entry). b ∣ f.weight * a) (λ (f : Entry). (b / g) ∣ f.weight)
    (λ f h. dvd_of_mul-dvd-mul_left {k = g} (b / g) {n = f.weight} some (subst (λ (n : ℕ). n ∣ g * f.weight) (sym e) (subst (λ (n : ℕ). b ∣ n) (mul_comm f.weight g) (common a b f.weight h)))) column all) in
    subst (λ (n : ℕ). n ∣ a) (let same : g ≡ b = sym (ap (λ (n : ℕ). g * n) one ∙ omega arith) ∙ e in same) is.0

positive_factor : (a b c d : ℕ) → 0 < a → 0 < c → a * c ≡ b * d → 0 < b
positive_factor a (suc b) c d pa pc e = omega arith
positive_factor (suc a) zero (suc c) d pa pc e = absurd (omega arith)
positive_factor zero zero c d pa pc e = absurd (omega arith)
positive_factor (suc a) zero zero d pa pc e = absurd (omega arith)

-- one list is a multiple of the other by two numbers above 0
record AreMultiples (k r : List Entry) : Type 0 where
  a : ℕ
  b : ℕ
  some_a : 0 < a
  some_b : 0 < b
  each : (y : ℕ) → a * weight_at r y ≡ b * weight_at k y

factors : (k r : List Entry) → (k ≡ [] → ⊥) → (r ≡ [] → ⊥) → Above 0 k → Above 0 r → AreProportional k r → AreMultiples k r
factors [] r some some' above above' each = absurd (some refl)
factors (e ∷ es) [] some some' above above' each = absurd (some' refl)
factors (e ∷ es) (f ∷ fs) some some' above above' each =
    let a : ℕ = weight_at (e ∷ es) e.value in
    let b : ℕ = weight_at (f ∷ fs) e.value in
    let turned : (y : ℕ) → a * weight_at (f ∷ fs) y ≡ b * weight_at (e ∷ es) y = λ y. each e.value y ∙ mul_comm (weight_at (e ∷ es) y) b in
    let pa : 0 < a = omega (arith, weight_of_head 0 e es above, above.1) in
    let pc : 0 < weight_at (f ∷ fs) f.value = omega (arith, weight_of_head 0 f fs above', above'.1) in
    record { a = a; b = b; some_a = pa; some_b = positive_factor a b (weight_at (f ∷ fs) f.value) (weight_at (e ∷ es) f.value) pa pc (turned f.value); each = turned }

multiple : (a b w z : ℕ) → a * w ≡ b * z → b ∣ w * a
multiple a b w z e = subst (λ (n : ℕ). b ∣ n) (sym e ∙ mul_comm a w) (dvd-mul_right b z)

cancelled : (a b w z : ℕ) → 0 < a → b ≡ a → a * w ≡ b * z → z ≡ w
cancelled a b w z p same e =
    sym (mul-div_cancel_left z p) ∙ ap (λ (n : ℕ). n / a) (sym (e ∙ ap (λ (n : ℕ). n * z) same)) ∙ mul-div_cancel_left w p

-- proportional inners are the same
pub same_inner : (k r : List Entry) → IsInner k → IsInner r → AreProportional k r → k ≡ r
same_inner k r is is' each =
    let above = above_column k is.column in
    let above' = above_column r is'.column in
    let m : AreMultiples k r = factors k r is.column.some is'.column.some above above' each in
    let ba : m.b ∣ m.a = divides m.a m.b r m.some_a m.some_b is'.reduced
    (each_entry (λ w. m.b ∣ w * m.a) 0 r above' (λ x _. multiple m.a m.b (weight_at r x) (weight_at k x) (m.each x))) in
    let ab : m.a ∣ m.b = divides m.b m.a k m.some_b m.some_a is.reduced
    (each_entry (λ w. m.a ∣ w * m.b) 0 k above (λ x _. multiple m.b m.a (weight_at k x) (weight_at r x) (sym (m.each x)))) in
    let e : m.b ≡ m.a = dvd_antisymm ba ab in
    same_column 0 k r above above' (λ x. cancelled m.a m.b (weight_at r x) (weight_at k x) m.some_a e (m.each x))
