-- What a hyper's shape says of one of its classes.
use Rattle.std.proofs.Common.{◌≡◌, ℕ, ◌*◌, ◌/◌, ◌<◌, ◌≤◌, ◌==◌, List, Bool, true, false, if◌then◌else◌, map, sum_by, sym, ◌∙◌, ap, subst, arith, length, get_or, ⊎_elim}
use Rattle.std.proofs.Math.Nat.{div-mul_cancel, eq-zero-or-pos, zero-mul, mul-le-mul_left, mul_comm}
use Rattle.std.proofs.lemmas.List.{get_or-map, length-map}
use Rattle.std.proofs.lemmas.List.Sums.{get_or-le-sum_by, sum_by-le-sum_by}
use Rattle.std.proofs.lemmas.Nat.Gcd.{le_of_dvd}
use Rattle.std.specs.Int.{◌∣◌}
use Rattle.kf_frac.specs.Fractions.{limit}
use Rattle.kf_column.specs.declared.entry.Entry.{Entry}
use Rattle.kf_hyper.specs.declared.class.Class.{Class}
use Rattle.kf_column.specs.Columns.{weight_at, total}
use Rattle.kf_column.specs.Shapes.{IsBelow, IsShape}
use Rattle.kf_hyper.specs.ClassViews.{inner_of}
use Rattle.kf_column.specs.Hypers.{Inner, IsInner}
use Rattle.kf_column.specs.Averages.{joint_weight}
use Rattle.kf_column.proofs.Scaling.{total_positive}

-- what a value weighs is at most the sum
pub weight_within : (entries : List Entry) (x : ℕ) → weight_at entries x ≤ total entries
weight_within entries x = sum_by-le-sum_by (λ (e : Entry). if e.value == x then e.weight else 0) (λ (e : Entry). e.weight) entries (λ e. if_le (e.value == x) e.weight)
  where
    if_le : (b : Bool) (n : ℕ) → (if b then n else 0) ≤ n
    if_le true n = omega arith
    if_le false n = omega arith

module _ (classes : List Class) (i : ℕ) (c : Class) (size scale : ℕ) (shape : IsShape size scale (map inner_of classes)) (inside : i < length (map inner_of classes)) (is : c ≡ get_or classes i c) where
  within : i < length classes
  within = simp length-map at inside

  here : get_or (map inner_of classes) i (inner_of c) ≡ inner_of c
  here = get_or-map inner_of classes i c (inner_of c) within ∙ sym (ap inner_of is)

  pub total_within : c.total ≤ scale
  total_within =
      let part : (get_or (map inner_of classes) i (inner_of c)).total ≤ sum_by (λ (j : Inner). j.total) (map inner_of classes) = get_or-le-sum_by (λ (j : Inner). j.total) (map inner_of classes) i (inner_of c) inside in
      omega (arith, part, ap (λ (j : Inner). j.total) here, shape.whole)

  is_inner : IsInner c.inner
  is_inner = subst (λ (j : Inner). IsInner j.entries) here (shape.inner i (inner_of c) inside)

  pub values_within : IsBelow size c.inner
  values_within = subst (λ (j : Inner). IsBelow size j.entries) here (shape.within i (inner_of c) inside)

  pub whole_some : c.whole ≡ total c.inner → 0 < c.whole
  whole_some summed = omega (arith, summed, total_positive c.inner is_inner.column)

  pub whole_narrow : c.whole ≡ total c.inner → c.whole ≤ limit
  whole_narrow summed =
      let used : 0 < c.total = subst (λ (j : Inner). 0 < j.total) here (shape.used i (inner_of c) inside) in
      let divides : total c.inner ∣ c.total = subst (λ (j : Inner). total j.entries ∣ j.total) here (shape.multiple i (inner_of c) inside) in
      omega (arith, summed, le_of_dvd used divides, total_within, shape.narrow)

  -- the inner that readers show is the class's
  pub shown_here : (d : Inner) → get_or (map inner_of classes) i d ≡ inner_of c
  shown_here d = get_or-map inner_of classes i c d within ∙ sym (ap inner_of is)

  pub weighs : c.whole ≡ total c.inner → (x : ℕ) (d : Inner) → weight_at c.inner x * (c.total / c.whole) ≡ joint_weight x (get_or (map inner_of classes) i d)
  weighs summed x d = ap (λ (n : ℕ). weight_at c.inner x * (c.total / n)) summed ∙ sym (ap (joint_weight x) (shown_here d))

  -- the inner goes whole into the total of its class
  pub times_whole : c.whole ≡ total c.inner → (c.total / c.whole) * total c.inner ≡ c.total
  times_whole summed =
      let divides : total c.inner ∣ c.total = subst (λ (j : Inner). total j.entries ∣ j.total) here (shape.multiple i (inner_of c) inside) in
      ap (λ (n : ℕ). (c.total / n) * total c.inner) summed ∙ div-mul_cancel (total c.inner) divides

  pub times_some : c.whole ≡ total c.inner → 0 < c.total / c.whole
  times_some summed =
      let used : 0 < c.total = subst (λ (j : Inner). 0 < j.total) here (shape.used i (inner_of c) inside) in
      ⊎_elim (λ (h : c.total / c.whole ≡ 0). absurd (omega (arith, used, times_whole summed, ap (λ (n : ℕ). n * total c.inner) h, zero-mul (total c.inner)))) (λ (h : 0 < c.total / c.whole). h) (eq-zero-or-pos (c.total / c.whole))

  -- a value's share of the total of its class
  pub weighs_within : c.whole ≡ total c.inner → (x : ℕ) → weight_at c.inner x * (c.total / c.whole) ≤ c.total
  weighs_within summed x =
      let part : (c.total / c.whole) * weight_at c.inner x ≤ (c.total / c.whole) * total c.inner = mul-le-mul_left (c.total / c.whole) (weight_within c.inner x) in
      omega (arith, part, times_whole summed, mul_comm (weight_at c.inner x) (c.total / c.whole))

-- an entry's weight is at most the sum
pub entry_within : (entries : List Entry) (k : ℕ) (d : Entry) → k < length entries → (get_or entries k d).weight ≤ total entries
entry_within entries k d within = get_or-le-sum_by (λ (e : Entry). e.weight) entries k d within
