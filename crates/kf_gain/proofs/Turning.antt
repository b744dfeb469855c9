-- One inner after the other: what each adds to the posterior, and that every sum stays within the width.
use Rattle.std.proofs.Common.{◌≡◌, ℕ, ◌+◌, ◌*◌, ◌/◌, ◌<◌, ◌≤◌, List, [], ◌∷◌, sum_by, refl, sym, ◌∙◌, ap, subst, arith, suc, zero, length, get_or, take, drop, drop-cons, add-one}
use Rattle.std.specs.Prelude.{ℤ, pos, ◌+ℤ◌, ◌*ℤ◌, unsigned_abs}
use Rattle.std.specs.Int.{◌∣◌}
use Rattle.std.proofs.Math.Nat.{div-mul_cancel}
use Rattle.std.proofs.lemmas.Int.{ints, unsigned_abs-mul}
use Rattle.std.proofs.lemmas.List.Sums.{get_or-le-sum_by, sum_by_more, sum_by-take-le}
use Rattle.std.proofs.lemmas.Nat.Gcd.{le_of_dvd}
use Rattle.kf_column.specs.declared.entry.Entry.{Entry}
use Rattle.kf_column.specs.Columns.{total}
use Rattle.kf_column.specs.Hypers.{Inner, IsInner}
use Rattle.kf_column.specs.Shapes.{IsShape}
use Rattle.kf_column.specs.Averages.{joint_column}
use Rattle.kf_column.proofs.Weights.{above_column}
use Rattle.kf_column.proofs.Scaling.{total_positive}
use Rattle.kf_gain.specs.Gains.{GainOf, TableTree}
use Rattle.kf_gain.specs.Worth.{IsVulnerability}
use Rattle.kf_gain.specs.Vulnerabilities.{IsAverage, IsPosterior, IsPrior, IsWidth, width}
use Rattle.kf_gain.proofs.Acting.{abs_sum}
use Rattle.kf_gain.proofs.Adding.{ArePairs, AreShorter, averaged, the_average, above_average, pairs, shorter}
use Rattle.kf_gain.proofs.Measures.{scales, within_width, wider, longer_total, reach, reach_width}
use Rattle.kf_gain.proofs.Reports.{posterior_within}

-- the width of a gain on these inners
abbrev pub width_on : GainOf TableTree → List Inner → ℕ
width_on g inners = width g (length (averaged inners).sum)

pub width_is : (g : GainOf TableTree) (inners : List Inner) (m : ℕ) → IsWidth g inners m → m ≡ width_on g inners
width_is g inners m w = w.is ∙ ap (λ (c : List Entry). width g (length c)) (the_average inners w.average w.is_average)

pub room : (g : GainOf TableTree) (inners : List Inner) (scale most : ℕ) → (m : ℕ) × IsWidth g inners m × (scale * m ≤ most) → scale * width_on g inners ≤ most
room g inners scale most (m, w, fits) = omega (arith, fits, ap (λ (n : ℕ). scale * n) (width_is g inners m w))

shorter_at : (n : ℕ) (inners : List Inner) (i : ℕ) (d : Inner) → AreShorter n inners → i < length inners → length (get_or inners i d).entries ≤ n
shorter_at n [] i d all inside = absurd (omega (arith, inside))
shorter_at n (j ∷ inners) zero d all inside = all.0
shorter_at n (j ∷ inners) (suc i) d all inside = shorter_at n inners i d all.1 (omega (arith, inside))

both : (a b s t : ℕ) → a ≤ s → b ≤ t → a * b ≤ s * t
both a b s t p q = grind arith

module _ (size scale : ℕ) (g : GainOf TableTree) (inners : List Inner) (shape : IsShape size scale inners) (i : ℕ) (d : Inner) (inside : i < length inners) where
  pub is_inner : IsInner (get_or inners i d).entries
  is_inner = shape.inner i d inside

  used : 0 < (get_or inners i d).total
  used = shape.used i d inside

  divides : total (get_or inners i d).entries ∣ (get_or inners i d).total
  divides = shape.multiple i d inside

  pub some_total : 0 < total (get_or inners i d).entries
  some_total = total_positive (get_or inners i d).entries is_inner.column

  total_within : (get_or inners i d).total ≤ scale
  total_within = omega (arith, get_or-le-sum_by (λ (j : Inner). j.total) inners i d inside, shape.whole)

  pub inner_within : total (get_or inners i d).entries ≤ scale
  inner_within = omega (arith, le_of_dvd used divides, total_within)

  short : length (get_or inners i d).entries ≤ length (averaged inners).sum
  short = shorter_at (length (averaged inners).sum) inners i d (shorter inners (pairs size scale inners shape)) inside

  -- the vulnerability of the inner fits
  pub inner_fits : (most : ℕ) → scale * width_on g inners ≤ most → total (get_or inners i d).entries * width g (length (get_or inners i d).entries) ≤ most
  inner_fits most fits =
      omega (
        arith,
        both (total (get_or inners i d).entries) (width g (length (get_or inners i d).entries)) scale (width_on g inners) inner_within (wider g (length (get_or inners i d).entries) (length (averaged inners).sum) short),
        fits,
      )

  -- how many times the inner goes into its total
  whole : ((get_or inners i d).total / total (get_or inners i d).entries) * total (get_or inners i d).entries ≡ (get_or inners i d).total
  whole = div-mul_cancel (total (get_or inners i d).entries) divides

  at_most_all : (k t n : ℕ) → 0 < t → k * t ≡ n → k ≤ n
  at_most_all k (suc t) n some is = omega (arith, is)
  at_most_all k zero n some is = absurd (omega (arith, some))

  pub multiple_within : (get_or inners i d).total / total (get_or inners i d).entries ≤ scale
  multiple_within = omega (arith, at_most_all ((get_or inners i d).total / total (get_or inners i d).entries) (total (get_or inners i d).entries) (get_or inners i d).total some_total whole, total_within)

  module _ (v : ℤ) (is : IsVulnerability g (get_or inners i d).entries v) where
    regroup : (k t n w a : ℕ) → k * t ≡ n → a ≤ t * w → k * a ≤ n * w
    regroup k t n w a whole less = omega (arith, both k a k (t * w) (omega arith) less, ap (λ (m : ℕ). m * w) whole)

    abs_within : ((get_or inners i d).total / total (get_or inners i d).entries) * unsigned_abs v ≤ (get_or inners i d).total * width_on g inners
    abs_within =
        regroup ((get_or inners i d).total / total (get_or inners i d).entries) (total (get_or inners i d).entries) (get_or inners i d).total (width_on g inners) (unsigned_abs v) whole
        (within_width g (get_or inners i d).entries v (length (averaged inners).sum) (above_column (get_or inners i d).entries is_inner.column) short is)

    pub product_fits : (most : ℕ) → scale * width_on g inners ≤ most → ((get_or inners i d).total / total (get_or inners i d).entries) * unsigned_abs v ≤ most
    product_fits most fits = omega (arith, abs_within, both (get_or inners i d).total (width_on g inners) scale (width_on g inners) total_within (omega arith), fits)

    module _ (sum z : ℤ) (product : z ≡ pos ((get_or inners i d).total / total (get_or inners i d).entries) *ℤ v) where
      pub sum_within : unsigned_abs sum ≤ sum_by (λ (j : Inner). j.total) (take i inners) * width_on g inners → unsigned_abs (sum +ℤ z) ≤ sum_by (λ (j : Inner). j.total) (take (i + 1) inners) * width_on g inners
      sum_within had =
          omega (
            arith,
            had,
            abs_sum sum z,
            ap unsigned_abs product,
            unsigned_abs-mul (pos ((get_or inners i d).total / total (get_or inners i d).entries)) v,
            abs_within,
            ap (λ (n : ℕ). n * width_on g inners) (sum_by_more (λ (j : Inner). j.total) inners i d inside),
          )

      pub sum_fits : (most : ℕ) → scale * width_on g inners ≤ most → unsigned_abs sum ≤ sum_by (λ (j : Inner). j.total) (take i inners) * width_on g inners → unsigned_abs (sum +ℤ z) ≤ most
      sum_fits most fits had =
          let part : sum_by (λ (j : Inner). j.total) (take (i + 1) inners) ≤ scale = omega (arith, sum_by-take-le (λ (j : Inner). j.total) inners (i + 1), shape.whole) in
          omega (arith, sum_within had, both (sum_by (λ (j : Inner). j.total) (take (i + 1) inners)) (width_on g inners) scale (width_on g inners) part (omega arith), fits)

      pub next_inner : ((y : ℤ) → IsPosterior g (drop i inners) y → IsPosterior g inners (sum +ℤ y)) → (y : ℤ) → IsPosterior g (drop (i + 1) inners) y → IsPosterior g inners ((sum +ℤ z) +ℤ y)
      next_inner had y p =
          let left : drop i inners ≡ get_or inners i d ∷ drop (i + 1) inners = rw add-one (drop-cons inners i d inside) in
          let joint : IsVulnerability g (joint_column (get_or inners i d)) z =
          subst (λ (x : ℤ). IsVulnerability g (joint_column (get_or inners i d)) x) (sym product) (scales g (get_or inners i d).entries ((get_or inners i d).total / total (get_or inners i d).entries) v is) in
          let here : IsPosterior g (drop i inners) (z +ℤ y) = subst (λ (l : List Inner). IsPosterior g l (z +ℤ y)) (sym left) (z, y, joint, p, refl) in
          let moved : sum +ℤ (z +ℤ y) ≡ (sum +ℤ z) +ℤ y = omega (arith, ints) in
          subst (λ (x : ℤ). IsPosterior g inners x) moved (had (z +ℤ y) here)

-- nothing is left to add
pub all_seen : (g : GainOf TableTree) (inners : List Inner) (i : ℕ) (sum : ℤ) → drop i inners ≡ [] → ((y : ℤ) → IsPosterior g (drop i inners) y → IsPosterior g inners (sum +ℤ y)) → IsPosterior g inners sum
all_seen g inners i sum none had =
    let last : IsPosterior g inners (sum +ℤ pos 0) = had (pos 0) (subst (λ (l : List Inner). IsPosterior g l (pos 0)) (sym none) refl) in
    let same : sum +ℤ pos 0 ≡ sum = omega (arith, ints) in
    subst (λ (x : ℤ). IsPosterior g inners x) same last

-- ---- the sum of all inners

module _ (g : GainOf TableTree) (inners : List Inner) (scale most : ℕ) (c : List Entry) (is : IsAverage inners c) (whole : total c ≡ scale) (fits : scale * width_on g inners ≤ most) where
  pub average_fits : total c * width g (length c) ≤ most
  average_fits =
      omega (
        arith,
        fits,
        ap (λ (l : List Entry). scale * width g (length l)) (the_average inners c is),
        ap (λ (n : ℕ). n * width g (length c)) whole,
      )

  pub prior_fits : (n : ℤ) → IsVulnerability g c n → unsigned_abs n ≤ most
  prior_fits n v = omega (arith, within_width g c n (length c) (above_average inners c is) (omega arith) v, average_fits)

  pub is_prior : (n : ℤ) → IsVulnerability g c n → IsPrior g inners n
  is_prior n v = record { average = c; is_average = is; is = v }

pub posterior_fits : (size scale : ℕ) (g : GainOf TableTree) (inners : List Inner) (most : ℕ) → IsShape size scale inners → scale * width_on g inners ≤ most → (z : ℤ) → IsPosterior g inners z → unsigned_abs z ≤ most
posterior_fits size scale g inners most shape fits z p =
    let n : ℕ = length (averaged inners).sum in
    let prs : ArePairs inners = pairs size scale inners shape in
    omega (
      arith,
      posterior_within g inners z n prs (shorter inners prs) p,
      ap (λ (k : ℕ). k * reach g n) shape.whole,
      longer_total scale (reach g n) (width g n) (reach_width g n),
      fits,
    )
