-- What a hyper's shape says of one of its inners.
use Rattle.std.proofs.Common.{◌≡◌, ℕ, ◌*◌, ◌/◌, ◌<◌, ◌≤◌, List, ap, arith, length, get_or, ⊎_elim}
use Rattle.std.specs.Int.{◌∣◌}
use Rattle.std.proofs.Math.Nat.{div-mul_cancel, eq-zero-or-pos, zero-mul, mul-le-mul_left}
use Rattle.std.proofs.lemmas.List.Sums.{get_or-le-sum_by}
use Rattle.std.proofs.lemmas.Nat.Gcd.{le_of_dvd}
use Rattle.kf_frac.specs.Fractions.{limit}
use Rattle.kf_column.specs.Columns.{total}
use Rattle.kf_column.specs.declared.entry.Entry.{Entry}
use Rattle.kf_column.specs.Hypers.{Inner, IsInner}
use Rattle.kf_column.specs.Shapes.{IsShape}
use Rattle.kf_hyper.proofs.Reading.{entry_within}
use Rattle.kf_column.proofs.Scaling.{total_positive}

module _ (inners : List Inner) (size scale : ℕ) (shape : IsShape size scale inners) (i : ℕ) (none : Inner) (inside : i < length inners) where
  abbrev here : Inner
  here = get_or inners i none

  -- how often its weights go into its joint weights
  abbrev times : ℕ
  times = here.total / total here.entries

  pub is_inner : IsInner here.entries
  is_inner = shape.inner i none inside

  pub sum_some : 0 < total here.entries
  sum_some = total_positive here.entries is_inner.column

  divides : total here.entries ∣ here.total
  divides = shape.multiple i none inside

  pub total_within : here.total ≤ scale
  total_within = omega (arith, get_or-le-sum_by (λ (j : Inner). j.total) inners i none inside, shape.whole)

  pub sum_narrow : total here.entries ≤ limit
  sum_narrow = omega (arith, le_of_dvd (shape.used i none inside) divides, total_within, shape.narrow)

  -- the inner goes whole into its total
  pub times_whole : times * total here.entries ≡ here.total
  times_whole = div-mul_cancel (total here.entries) divides

  pub times_some : 0 < times
  times_some =
      ⊎_elim
      (λ (h : times ≡ 0). absurd (omega (arith, shape.used i none inside, times_whole, ap (λ (n : ℕ). n * total here.entries) h, zero-mul (total here.entries))))
      (λ (h : 0 < times). h)
      (eq-zero-or-pos times)

  -- no joint weight passes the scale
  pub joint_within : (k : ℕ) (d : Entry) → k < length here.entries → times * (get_or here.entries k d).weight ≤ scale
  joint_within k d within =
      omega (arith, mul-le-mul_left times (entry_within here.entries k d within), times_whole, total_within)
