-- What shares make of joint weights, gathered in a map.
use Rattle.std.proofs.Common.{◌≡◌, ℕ, ◌+◌, ◌*◌, ◌/◌, ◌<◌, ◌≤◌, List, [], ◌∷◌, All, sum_by, take, length, get_or, sym, ◌∙◌, ap, subst, arith}
use Rattle.std.proofs.Math.Nat.{mul-le-mul_left}
use Rattle.std.proofs.lemmas.List.Sums.{sum_by_more, sum_by_more_le}
use Rattle.std.specs.Ordering.{nat_cmp}
use Rattle.std.specs.Map.{keys_of}
use Rattle.std.specs.List.Sorted.{IsStrictlySortedBy}
use Rattle.kf_column.specs.declared.entry.Entry.{Entry}
use Rattle.kf_column.specs.Averages.{joint_weight}
use Rattle.kf_column.specs.Columns.{IsColumn, weight_at, total}
use Rattle.kf_column.specs.Hypers.{Inner}
use Rattle.kf_hyper.specs.Sums.{summed, ArePositive, Gains}
use Rattle.kf_column.proofs.Scaling.{total-cons}
use Rattle.kf_hyper.proofs.Summing.{summed_column}
use Rattle.kf_refine.specs.Refinements.{HyperTree, joint}
use Rattle.kf_cert.specs.Cells.{AreAscending, share_total, share_weight, total_at}
use Rattle.kf_cert.specs.declared.matrix_rules.shares.Share.{Share}
use Rattle.std.proofs.lemmas.List.Elements.{All-head}

pub summed_ascending : (es : List (ℕ × ℕ)) → IsStrictlySortedBy nat_cmp (keys_of es) → ArePositive (summed es) → AreAscending (summed es)
summed_ascending [] sorted positive = (λ k below. absurd (omega arith), positive)
summed_ascending (e ∷ es) sorted positive =
    let some : 0 < total (summed (e ∷ es)) =
    omega (arith, total-cons (record { value = e.0; weight = e.1 }) (summed es), All-head (λ e. 0 < e.weight) (record { value = e.0; weight = e.1 }) (summed es) positive) in
    let column : IsColumn (summed (e ∷ es)) = summed_column (e ∷ es) sorted positive some in (column.ascending, column.positive)

-- ---- an inner's joint weights, so many times

module _ (times sum whole part old bound : ℕ) (is : times * sum ≡ whole) where
  product : times * part * sum ≡ whole * part
  product = omega (arith, ap (λ (n : ℕ). n * part) is)

  pub all_fits : old + whole * part < bound → old + times * part * sum < bound
  all_fits fits = omega (arith, fits, product)

  pub part_fits : 0 < sum → old + whole * part < bound → times * part < bound
  part_fits some fits = omega (arith, fits, product, mul-le-mul_left (times * part) some)

module _ (inner : Inner) (part times : ℕ) (entries old new : List Entry) where
  pub part_gains : times ≡ inner.total / total inner.entries → entries ≡ inner.entries → (inner.total / total inner.entries) * total inner.entries ≡ inner.total
      → Gains (λ x. times * part * weight_at entries x) (times * part * total entries) old new → Gains (λ x. joint_weight x inner * part) (inner.total * part) old new
  part_gains is same whole had = record {
    weights = λ x.
        let joint : weight_at entries x * times ≡ joint_weight x inner = λ i. weight_at (same i) x * is i in
        let gained : times * part * weight_at entries x ≡ joint_weight x inner * part = omega (arith, ap (λ (n : ℕ). n * part) joint) in
        had.weights x ∙ ap (λ (n : ℕ). weight_at old x + n) gained;
    total =
        let all : times * total entries ≡ inner.total = (λ i. is i * total (same i)) ∙ whole in
        had.total ∙ ap (λ (n : ℕ). total old + n) (product times (total entries) inner.total part 0 0 all);
  }

-- ---- one share after the other

module _ (a : HyperTree) (column : List Share) (k : ℕ) (s : Share) (within : k < length column) (is : s ≡ get_or column k s) where
  one_more : (f : Share → ℕ) → sum_by f (take (k + 1) column) ≡ sum_by f (take k column) + f s
  one_more f = sum_by_more f column k s within ∙ ap (λ (t : Share). sum_by f (take k column) + f t) (sym is)

  pub weight_more : (x before after : ℕ) → before ≡ share_weight a (take k column) x → after ≡ before + joint a x s.row * s.amount
      → after ≡ share_weight a (take (k + 1) column) x
  weight_more x before after had more = omega (arith, had, more, one_more (λ s. joint a x s.row * s.amount))

  pub total_more : (before after : ℕ) → before ≡ share_total a (take k column) → after ≡ before + total_at a s.row * s.amount
      → after ≡ share_total a (take (k + 1) column)
  total_more before after had more = omega (arith, had, more, one_more (λ s. total_at a s.row * s.amount))

  pub more_fits : (before most : ℕ) → before ≡ share_total a (take k column) → share_total a column ≤ most → before + total_at a s.row * s.amount ≤ most
  more_fits before most had fits =
      let least = sum_by_more_le (λ s. total_at a s.row * s.amount) column k s within in
      omega (arith, had, fits, least, ap (λ (t : Share). total_at a t.row * t.amount) is)

  pub row_inside : (count : ℕ) → All (λ s. s.row < count) column → s.row < count
  row_inside count all = subst (λ (t : Share). t.row < count) (sym is) (all k s within)
