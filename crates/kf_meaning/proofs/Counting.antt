-- How many inners columns have, by counting the pairs of a column and an inner that are in proportion.
use Rattle.std.proofs.Common.{◌≡◌, ℕ, ◌+◌, ◌*◌, ◌/◌, ◌<◌, ◌≤◌, Bool, true, false, List, [], ◌∷◌, All, length, sum_by, count_by, if◌then◌else◌, refl, sym, ap, ◌∙◌, arith, true≢false}
use Rattle.std.specs.List.{IsDistinct, AllByRecursion as Each}
use Rattle.std.proofs.Math.Nat.{mul-div_cancel_left}
use Rattle.std.proofs.lemmas.List.Elements.{All-head, All-tail}
use Rattle.std.proofs.lemmas.List.Sums.{sum_by-cons}
use Rattle.kf_column.specs.declared.entry.Entry.{Entry}
use Rattle.kf_column.specs.Columns.{IsColumn, proportional, total, weight_at}
use Rattle.kf_column.specs.Hypers.{Inner, IsHyper, IsInner, class_total}
use Rattle.kf_column.proofs.Proportions.{all_proportional, proportional_all}
use Rattle.kf_column.proofs.Scaling.{total_positive}
use Rattle.kf_column.proofs.Weights.{weight_at_head}

-- ---- sums over two lists

none_summed : {X : Type 0} (xs : List X) → sum_by (λ x. 0) xs ≡ 0
none_summed [] = refl
none_summed (x ∷ xs) = omega (arith, sum_by-cons (λ x. 0) x xs, none_summed xs)

both_summed : {X : Type 0} (f g : X → ℕ) (xs : List X) → sum_by (λ x. f x + g x) xs ≡ sum_by f xs + sum_by g xs
both_summed f g [] = refl
both_summed f g (x ∷ xs) = omega (arith, sum_by-cons f x xs, sum_by-cons g x xs, sum_by-cons (λ x. f x + g x) x xs, both_summed f g xs)

same_summed : {X : Type 0} (f g : X → ℕ) (xs : List X) → ((x : X) → f x ≡ g x) → sum_by f xs ≡ sum_by g xs
same_summed f g [] same = refl
same_summed f g (x ∷ xs) same = omega (arith, sum_by-cons f x xs, sum_by-cons g x xs, same x, same_summed f g xs same)

turned : {X Y : Type 0} (f : X → Y → ℕ) (xs : List X) (ys : List Y)
    → sum_by (λ x. sum_by (f x) ys) xs ≡ sum_by (λ y. sum_by (λ x. f x y) xs) ys
turned f [] ys = sym (none_summed ys)
turned f (x ∷ xs) ys =
    omega (
      arith,
      sum_by-cons (λ x. sum_by (f x) ys) x xs,
      turned f xs ys,
      both_summed (f x) (λ y. sum_by (λ x. f x y) xs) ys,
      same_summed (λ y. sum_by (λ x. f x y) (x ∷ xs)) (λ y. f x y + sum_by (λ x. f x y) xs) ys (λ y. sum_by-cons (λ x. f x y) x xs),
    )

-- where a sum over some is above 0 there are some
some_by : {X : Type 0} (p : X → Bool) (f : X → ℕ) (x : X) (xs : List X) (b : Bool) → p x ≡ b → 0 < sum_by (λ x. if p x then f x else 0) (x ∷ xs)
    → (0 < sum_by (λ x. if p x then f x else 0) xs → 0 < count_by p xs) → 0 < count_by p (x ∷ xs)
some_by p f x xs true is h later = omega (arith, sum_by-cons (λ x. if p x then 1 else 0) x xs, ap {B = ℕ} (λ b. if b then 1 else 0) is)
some_by p f x xs false is h later =
    let none : (if p x then f x else 0) ≡ 0 = ap (λ b. if b then f x else 0) is in
    let rest = later (omega (arith, h, sum_by-cons (λ x. if p x then f x else 0) x xs, none)) in
    omega (arith, sum_by-cons (λ x. if p x then 1 else 0) x xs, rest)

some_of : {X : Type 0} (p : X → Bool) (f : X → ℕ) (xs : List X) → 0 < sum_by (λ x. if p x then f x else 0) xs → 0 < count_by p xs
some_of p f [] h = absurd (omega (arith, h))
some_of p f (x ∷ xs) h = some_by p f x xs (p x) refl h (some_of p f xs)

-- ---- columns and inners

abbrev pair : List Entry → Inner → ℕ
pair c i = if proportional c i.entries then 1 else 0

module _ (inners : List Inner) where
  abbrev Once : List Entry → Type 0
  Once c = 0 < total c → count_by (λ (i : Inner). proportional c i.entries) inners ≡ 1

  -- each column is in proportion to one inner
  pub each_once : (columns : List (List Entry)) → All IsColumn columns → All Once columns
      → sum_by (λ c. sum_by (pair c) inners) columns ≡ length columns
  each_once [] are once = refl
  each_once (c ∷ cs) are once =
      let here : sum_by (pair c) inners ≡ 1 = All-head Once c cs once (total_positive c (All-head IsColumn c cs are)) in
      omega (arith, sum_by-cons (λ c. sum_by (pair c) inners) c cs, here, each_once cs (All-tail IsColumn c cs are) (All-tail Once c cs once))

module _ (columns : List (List Entry)) where
  abbrev Totals : Inner → Type 0
  Totals i = i.total ≡ class_total columns i.entries

  abbrev Used : Inner → Type 0
  Used i = 0 < i.total

  -- each inner has a column
  each_used : (inners : List Inner) → All Totals inners → All Used inners → length inners ≤ sum_by (λ i. sum_by (λ c. pair c i) columns) inners
  each_used [] totals used = omega arith
  each_used (i ∷ is) totals used =
      let whole : i.total ≡ class_total columns i.entries = All-head Totals i is totals in
      let above : 0 < i.total = All-head Used i is used in
      let here = some_of (λ c. proportional c i.entries) total columns (omega (arith, whole, above)) in
      omega (arith, here, sum_by-cons (λ i. sum_by (λ c. pair c i) columns) i is, each_used is (All-tail Totals i is totals) (All-tail Used i is used))

-- there are no more inners than columns
pub at_most_columns : (columns : List (List Entry)) (inners : List Inner) → All IsColumn columns → IsHyper columns inners → length inners ≤ length columns
at_most_columns columns inners are is =
    omega (arith, each_used columns inners is.totals is.used, turned (λ (i : Inner) c. pair c i) inners columns, each_once inners columns are is.covered)

-- ---- columns of which no two are in proportion

cancelled : (g a b : ℕ) → 0 < g → g * a ≡ g * b → a ≡ b
cancelled g a b some e = sym (mul-div_cancel_left a some) ∙ ap (λ n. n / g) e ∙ mul-div_cancel_left b some

grouped : (z a b : ℕ) → (a * z) * (b * z) ≡ z * (z * (a * b))
grouped z a b = omega arith

swapped : (a b p q : ℕ) → (a * p) * (b * q) ≡ (a * q) * (b * p)
swapped a b p q = omega arith

crossed : (z cx cy cz dx dy dz ix iy : ℕ) → 0 < z → cx * z ≡ cz * ix → cy * z ≡ cz * iy → dx * z ≡ dz * ix → dy * z ≡ dz * iy → cx * dy ≡ cy * dx
crossed z cx cy cz dx dy dz ix iy some p q r s =
    cancelled z (cx * dy) (cy * dx) some (cancelled z (z * (cx * dy)) (z * (cy * dx)) some
    (sym (grouped z cx dy) ∙ (λ i. p i * s i) ∙ swapped cz dz ix iy ∙ sym (λ i. q i * r i) ∙ grouped z cy dx))

some_value : (column : List Entry) → IsColumn column → (x : ℕ) × (0 < weight_at column x)
some_value [] is = absurd (is.some refl)
some_value (e ∷ es) is =
    let above : 0 < e.weight = All-head (λ (e : Entry). 0 < e.weight) e es is.positive in
    (e.value, omega (arith, weight_at_head e es e.value refl, above))

-- two columns in proportion to one inner are in proportion
through_inner : (c d i : List Entry) → IsColumn i → proportional c i ≡ true → proportional d i ≡ true → proportional c d ≡ true
through_inner c d i is one other =
    let z = some_value i is in
    let p = proportional_all c i one in
    let q = proportional_all d i other in
    all_proportional c d (λ x y.
    crossed (weight_at i z.0) (weight_at c x) (weight_at c y) (weight_at c z.0) (weight_at d x) (weight_at d y) (weight_at d z.0) (weight_at i x) (weight_at i y) z.1
    (p x z.0) (p y z.0) (q x z.0) (q y z.0))

module _ (i : Inner) (is : IsInner i.entries) where
  none_by : (b : Bool) (c d : List Entry) → proportional c i.entries ≡ true → proportional c d ≡ false → proportional d i.entries ≡ b → pair d i ≡ 0
  none_by true c d one apart other = absurd (true≢false (sym (through_inner c d i.entries is.column one other) ∙ apart))
  none_by false c d one apart other = ap {B = ℕ} (λ b. if b then 1 else 0) other

  none_more : (c : List Entry) (ds : List (List Entry)) → proportional c i.entries ≡ true → Each (λ d. proportional c d ≡ false) ds → sum_by (λ d. pair d i) ds ≡ 0
  none_more c [] one apart = refl
  none_more c (d ∷ ds) one apart =
      omega (arith, sum_by-cons (λ d. pair d i) d ds, none_by (proportional d i.entries) c d one apart.0 refl, none_more c ds one apart.1)

  once_by : (b : Bool) (c : List Entry) (cs : List (List Entry)) → proportional c i.entries ≡ b → Each (λ d. proportional c d ≡ false) cs
      → sum_by (λ d. pair d i) cs ≤ 1 → sum_by (λ d. pair d i) (c ∷ cs) ≤ 1
  once_by true c cs one apart rest =
      let here : pair c i ≡ 1 = ap {B = ℕ} (λ b. if b then 1 else 0) one in
      omega (arith, sum_by-cons (λ d. pair d i) c cs, here, none_more c cs one apart)
  once_by false c cs one apart rest =
      let here : pair c i ≡ 0 = ap {B = ℕ} (λ b. if b then 1 else 0) one in
      omega (arith, sum_by-cons (λ d. pair d i) c cs, here, rest)

  at_most_once : (columns : List (List Entry)) → IsDistinct proportional columns → sum_by (λ c. pair c i) columns ≤ 1
  unfolding IsDistinct
  at_most_once [] apart = omega arith
  at_most_once (c ∷ cs) apart = once_by (proportional c i.entries) c cs refl apart.0 (at_most_once cs apart.1)

each_at_most_once : (columns : List (List Entry)) → IsDistinct proportional columns → (inners : List Inner) → All (λ i. IsInner i.entries) inners
    → sum_by (λ i. sum_by (λ c. pair c i) columns) inners ≤ length inners
each_at_most_once columns apart [] are = omega arith
each_at_most_once columns apart (i ∷ is) are =
    omega (
      arith,
      sum_by-cons (λ i. sum_by (λ c. pair c i) columns) i is,
      at_most_once i (All-head (λ (i : Inner). IsInner i.entries) i is are) columns apart,
      each_at_most_once columns apart is (All-tail (λ (i : Inner). IsInner i.entries) i is are),
    )

-- there are as many inners as such columns
pub at_least_columns : (columns : List (List Entry)) (inners : List Inner) → All IsColumn columns → IsDistinct proportional columns → IsHyper columns inners
    → length columns ≤ length inners
at_least_columns columns inners are apart is =
    omega (arith, each_at_most_once columns apart inners is.inner, turned (λ (i : Inner) c. pair c i) inners columns, each_once inners columns are is.covered)
