-- What is a sum over all columns is one over the inners of their hyper, where a multiple of a column counts as many times as much.
use Rattle.std.proofs.Common.{◌≡◌, ℕ, ◌+◌, ◌*◌, ◌/◌, List, [], ◌∷◌, Bool, true, false, All, sum_by, count_by, get_or, sym, ◌∙◌, ap, arith, zero-add, if◌then◌else◌, ⊎_elim}
use Rattle.std.proofs.Math.Nat.{mul_comm, mul-div_cancel_left}
use Rattle.std.proofs.lemmas.List.Elements.{All-head, All-tail}
use Rattle.std.proofs.lemmas.List.Sums.{sum_by-cons}
use Rattle.kf_column.specs.declared.entry.Entry.{Entry}
use Rattle.kf_column.specs.Columns.{IsColumn, weight_at, total, proportional}
use Rattle.kf_column.specs.Hypers.{Inner, IsInner, IsHyper, class_total}
use Rattle.kf_column.specs.Averages.{joint_column}
use Rattle.kf_column.proofs.Proportions.{bool_cases}
use Rattle.kf_column.proofs.Scaling.{weight_at-scaled, total_positive}
use Rattle.kf_column.proofs.Weighing.{IsTimes, times_inner}
use Rattle.kf_capacity.proofs.Sums.{sum_none, sum_same, sum_both}

-- the order of two sums doesn't matter
pub sums_swapped : {X Y : Type 0} (f : X → Y → ℕ) (xs : List X) (ys : List Y)
    → sum_by (λ x. sum_by (f x) ys) xs ≡ sum_by (λ y. sum_by (λ x. f x y) xs) ys
sums_swapped f [] ys = sym (sum_none ys)
sums_swapped {X} {Y} f (x ∷ xs) ys =
    let others : Y → ℕ = λ y. sum_by (λ (z : X). f z y) xs in
    sum_by-cons (λ (z : X). sum_by (f z) ys) x xs
    ∙ ap (λ (n : ℕ). sum_by (f x) ys + n) (sums_swapped f xs ys)
    ∙ sym (sum_both (f x) others ys)
    ∙ sym (sum_same (λ (y : Y). sum_by (λ (z : X). f z y) (x ∷ xs)) (λ (y : Y). f x y + others y) ys (λ k d below. sum_by-cons (λ (z : X). f z (get_or ys k d)) x xs))

-- the same number for each that passes a test
if_times : (b : Bool) (w n : ℕ) → (if b then w else 0) + w * n ≡ w * ((if b then 1 else 0) + n)
if_times true w n = omega arith
if_times false w n = omega arith

sum_if : {X : Type 0} (p : X → Bool) (w : ℕ) (xs : List X) → sum_by (λ x. if p x then w else 0) xs ≡ w * count_by p xs
sum_if p w [] = omega arith
sum_if {X} p w (x ∷ xs) =
    sum_by-cons (λ (x : X). if p x then w else 0) x xs
    ∙ ap (λ (n : ℕ). (if p x then w else 0) + n) (sum_if p w xs)
    ∙ if_times (p x) w (count_by p xs)
    ∙ sym (ap (λ (n : ℕ). w * n) (sum_by-cons (λ (x : X). if p x then 1 else 0) x xs))

joined : (s a b f t n : ℕ) → s ≡ a + b → a ≡ f * n → b ≡ t * n → s ≡ (f + t) * n
joined s a b f t n e p q = omega (arith, e, p, q)

module _ (f : List Entry → ℕ) (linear : (k : ℕ) (c d : List Entry) → ((x : ℕ) → weight_at c x ≡ k * weight_at d x) → f c ≡ k * f d) where
  -- what a column counts in the class of an inner
  abbrev in_class : List Entry → List Entry → ℕ
  in_class inner c = if proportional c inner then f c else 0

  -- ---- a class of columns

  record IsClass (columns : List (List Entry)) (inner : List Entry) : Type 0 where
    times : ℕ
    total_is : class_total columns inner ≡ times * total inner
    sum_is : sum_by (in_class inner) columns ≡ times * f inner

  one_more : (g : List Entry → ℕ) (b : Bool) (c : List Entry) (cs : List (List Entry)) (inner : List Entry) → proportional c inner ≡ b
      → sum_by (λ c. if proportional c inner then g c else 0) (c ∷ cs) ≡ (if b then g c else 0) + sum_by (λ c. if proportional c inner then g c else 0) cs
  one_more g b c cs inner e =
      let part : List Entry → ℕ = λ c. if proportional c inner then g c else 0 in
      sum_by-cons part c cs ∙ ap (λ (b : Bool). (if b then g c else 0) + sum_by part cs) e

  class_of : (columns : List (List Entry)) (inner : List Entry) → IsInner inner → All IsColumn columns → IsClass columns inner
  class_of [] inner is all = record { times = 0; total_is = omega arith; sum_is = omega arith }
  class_of (c ∷ cs) inner is all =
      let rest : IsClass cs inner = class_of cs inner is (All-tail IsColumn c cs all) in
      ⊎_elim
      (λ (h : proportional c inner ≡ true).
      let here : IsTimes c inner = times_inner c inner (All-head IsColumn c cs all) is h in
      record {
        times = here.factor + rest.times;
        total_is = joined (class_total (c ∷ cs) inner) (total c) (class_total cs inner) here.factor rest.times (total inner)
            (one_more total true c cs inner h) here.total_is rest.total_is;
        sum_is = joined (sum_by (in_class inner) (c ∷ cs)) (f c) (sum_by (in_class inner) cs) here.factor rest.times (f inner)
            (one_more f true c cs inner h) (linear here.factor c inner here.weight_is) rest.sum_is;
      })
      (λ (h : proportional c inner ≡ false).
      record {
        times = rest.times;
        total_is = one_more total false c cs inner h ∙ zero-add (class_total cs inner) ∙ rest.total_is;
        sum_is = one_more f false c cs inner h ∙ zero-add (sum_by (in_class inner) cs) ∙ rest.sum_is;
      })
      (bool_cases (proportional c inner))

  -- an inner's joint column counts what the columns of its class count together
  class_sum : (columns : List (List Entry)) (i : Inner) → IsInner i.entries → All IsColumn columns → i.total ≡ class_total columns i.entries
      → f (joint_column i) ≡ sum_by (in_class i.entries) columns
  class_sum columns i is all sum =
      let m : IsClass columns i.entries = class_of columns i.entries is all in
      let whole : ℕ = total i.entries in
      let quotient : i.total / whole ≡ m.times =
      ap (λ (n : ℕ). n / whole) (sum ∙ m.total_is ∙ mul_comm m.times whole) ∙ mul-div_cancel_left m.times (total_positive i.entries is.column) in
      linear (i.total / whole) (joint_column i) i.entries (weight_at-scaled (i.total / whole) i.entries)
      ∙ ap (λ (n : ℕ). n * f i.entries) quotient ∙ sym m.sum_is

  -- ---- all classes together

  -- each column is in one class
  pub hyper_sum : (columns : List (List Entry)) (inners : List Inner) → All IsColumn columns → IsHyper columns inners
      → sum_by (λ i. f (joint_column i)) inners ≡ sum_by f columns
  hyper_sum columns inners all is =
      let whole : Inner → ℕ = λ i. sum_by (in_class i.entries) columns in
      let shares : List Entry → ℕ = λ c. sum_by (λ (i : Inner). in_class i.entries c) inners in
      sum_same (λ (i : Inner). f (joint_column i)) whole inners
      (λ k d below. class_sum columns (get_or inners k d) (is.inner k d below) all (is.totals k d below))
      ∙ sums_swapped (λ (i : Inner) (c : List Entry). in_class i.entries c) inners columns
      ∙ sum_same shares f columns
      (λ k d below.
      let c : List Entry = get_or columns k d in
      let one : count_by (λ (i : Inner). proportional c i.entries) inners ≡ 1 = is.covered k d below (total_positive c (all k d below)) in
      sum_if (λ (i : Inner). proportional c i.entries) (f c) inners ∙ ap (λ (n : ℕ). f c * n) one ∙ omega arith)
