-- Prior and posterior vulnerabilities: there is one of each, and no other, and no number of them passes the width.
use Rattle.std.proofs.Common.{◌≡◌, ℕ, ◌+◌, ◌*◌, ◌/◌, ◌<◌, ◌≤◌, List, [], ◌∷◌, sum_by, refl, sym, ◌∙◌, ap, subst, arith, length}
use Rattle.std.specs.Prelude.{ℤ, pos, ◌+ℤ◌, ◌-ℤ◌, unsigned_abs}
use Rattle.std.proofs.lemmas.Int.{ints}
use Rattle.std.proofs.lemmas.List.Sums.{sum_by-cons}
use Rattle.kf_column.specs.declared.entry.Entry.{Entry}
use Rattle.kf_column.specs.Columns.{weight_at, total}
use Rattle.kf_column.specs.Hypers.{Inner}
use Rattle.kf_column.specs.Shapes.{IsShape}
use Rattle.kf_column.specs.Averages.{joint_column}
use Rattle.kf_gain.specs.Gains.{GainOf, Bayes, Tries, Guessing, Table, TableTree, over_of}
use Rattle.kf_gain.specs.Worth.{IsVulnerability}
use Rattle.kf_gain.specs.Vulnerabilities.{IsPrior, IsPosterior, IsWidth, greatest, gains_of, width}
use Rattle.kf_gain.specs.Laws.{HasActions}
use Rattle.kf_gain.proofs.Adding.{ArePairs, AreShorter, Averaged, averaged, is_average, one_average, the_average, pairs, shorter, totals, joint_length}
use Rattle.kf_gain.proofs.Acting.{abs_sum}
use Rattle.kf_gain.proofs.Measures.{some, one, reach, within}

some_prior : (g : GainOf TableTree) (inners : List Inner) → HasActions g → (y : ℤ) × IsPrior g inners y
some_prior g inners has =
    let v : (y : ℤ) × IsVulnerability g (averaged inners).sum y = some g (averaged inners).sum has in
    (v.0, record { average = (averaged inners).sum; is_average = is_average inners; is = v.1 })

some_posterior : (g : GainOf TableTree) (inners : List Inner) → HasActions g → (z : ℤ) × IsPosterior g inners z
some_posterior g [] has = (pos 0, refl)
some_posterior g (i ∷ inners) has =
    let v : (z : ℤ) × IsVulnerability g (joint_column i) z = some g (joint_column i) has in
    let r : (z : ℤ) × IsPosterior g inners z = some_posterior g inners has in
    (v.0 +ℤ r.0, (v.0, r.0, v.1, r.1, refl))

pub some_report : (g : GainOf TableTree) (inners : List Inner) → HasActions g → ((y : ℤ) × IsPrior g inners y) × ((z : ℤ) × IsPosterior g inners z)
some_report g inners has = (some_prior g inners has, some_posterior g inners has)

one_prior : (g : GainOf TableTree) (inners : List Inner) (x y : ℤ) → IsPrior g inners x → IsPrior g inners y → x ≡ y
one_prior g inners x y p q =
    one g q.average x y (subst (λ (c : List Entry). IsVulnerability g c x) (one_average inners p.average q.average p.is_average q.is_average) p.is) q.is

one_posterior : (g : GainOf TableTree) (inners : List Inner) (x y : ℤ) → IsPosterior g inners x → IsPosterior g inners y → x ≡ y
one_posterior g [] x y p q = p ∙ sym q
one_posterior g (i ∷ inners) x y (a, b, v, p, is) (c, d, w, q, is') =
    let first : a ≡ c = one g (joint_column i) a c v w in
    let others : b ≡ d = one_posterior g inners b d p q in
    omega (arith, ints, is, is', first, others)

pub one_report : (g : GainOf TableTree) (inners : List Inner) (x y : ℤ)
    → (IsPrior g inners x → IsPrior g inners y → x ≡ y) × (IsPosterior g inners x → IsPosterior g inners y → x ≡ y)
one_report g inners x y = (one_prior g inners x y, one_posterior g inners x y)

-- ---- bounds

pub posterior_within : (g : GainOf TableTree) (inners : List Inner) (z : ℤ) (n : ℕ) → ArePairs inners → AreShorter n inners → IsPosterior g inners z
    → unsigned_abs z ≤ sum_by (λ (i : Inner). i.total) inners * reach g n
posterior_within g [] z n pairs few is = omega (arith, ap unsigned_abs is)
posterior_within g (i ∷ inners) z n (pair, rest) (short, few) (a, b, v, p, is) =
    let here : unsigned_abs a ≤ total (joint_column i) * reach g n =
    within g (joint_column i) a n pair.1 (omega (arith, short, joint_length (i.total / total i.entries) i.entries)) v in
    let whole : total (joint_column i) * reach g n ≡ i.total * reach g n = ap (λ (k : ℕ). k * reach g n) pair.2 in
    omega (
      arith,
      ap unsigned_abs is,
      abs_sum a b,
      here,
      whole,
      posterior_within g inners b n rest few p,
      ap (λ (k : ℕ). k * reach g n) (sum_by-cons (λ (i : Inner). i.total) i inners),
    )

pub prior_within : (g : GainOf TableTree) (inners : List Inner) (y : ℤ) → IsPrior g inners y → unsigned_abs y ≤ total (averaged inners).sum * reach g (length (averaged inners).sum)
prior_within g inners y p =
    let r : Averaged inners = averaged inners in
    within g r.sum y (length r.sum) r.above (omega arith) (subst (λ (c : List Entry). IsVulnerability g c y) (the_average inners p.average p.is_average) p.is)

-- the sum of a hyper's inners weighs as much as its scale
pub average_total : (size scale : ℕ) (inners : List Inner) → IsShape size scale inners → total (averaged inners).sum ≡ scale
average_total size scale inners shape = let r : Averaged inners = averaged inners in r.total ∙ totals inners (pairs size scale inners shape) ∙ shape.whole

pub average_some : (size scale : ℕ) (inners : List Inner) → IsShape size scale inners → 0 < length (averaged inners).sum
average_some size scale inners shape = filled (averaged inners).sum (omega (arith, average_total size scale inners shape, shape.some))
  where
    filled : (c : List Entry) → 0 < total c → 0 < length c
    filled [] some = absurd (omega (arith, some))
    filled (e ∷ es) some = omega arith

-- a gain that loses and gains nothing below 0
abbrev IsCount : GainOf TableTree → Type 0
IsCount (Table t) = ⊥
IsCount g = Unit {0}

counted : (g : GainOf TableTree) (c : List Entry) (z : ℤ) → IsCount g → IsVulnerability g c z → (n : ℕ) × (z ≡ pos n)
counted Bayes c z count v = let (xs, ascending, few, is) = v.reached in (sum_by (weight_at c) xs, is)
counted (Tries k) c z count v = let (xs, ascending, few, is) = v.reached in (sum_by (weight_at c) xs, is)
counted Guessing c z count v = let (xs, order, is) = v.reached in (_, is)
counted (Table t) c z count v = absurd count

counted_all : (g : GainOf TableTree) (inners : List Inner) (z : ℤ) → IsCount g → IsPosterior g inners z → (n : ℕ) × (z ≡ pos n)
counted_all g [] z count is = (0, is)
counted_all g (i ∷ inners) z count (a, b, v, p, is) =
    let m : (n : ℕ) × (a ≡ pos n) = counted g (joint_column i) a count v in
    let n : (n : ℕ) × (b ≡ pos n) = counted_all g inners b count p in
    (m.0 + n.0, omega (arith, ints, is, m.1, n.1))

abbrev Bounded : ℕ → ℕ → ℕ → ℤ → ℤ → Type 0
Bounded scale m over y z = (unsigned_abs y ≤ scale * m) × (unsigned_abs z ≤ scale * m) × (unsigned_abs (z -ℤ y) ≤ scale * m) × (scale * over ≤ scale * m)

times_within : (s a b : ℕ) → a ≤ b → s * a ≤ s * b
times_within s a b order = grind arith

difference_abs : (y z : ℤ) → unsigned_abs (z -ℤ y) ≤ unsigned_abs z + unsigned_abs y
difference_abs y z = omega (arith, ints)

difference_counts : (y z : ℤ) (a b m : ℕ) → y ≡ pos a → z ≡ pos b → unsigned_abs y ≤ m → unsigned_abs z ≤ m → unsigned_abs (z -ℤ y) ≤ m
difference_counts y z a b m is is' p q = omega (arith, ints, is, is', p, q)

counts_bounded : (g : GainOf TableTree) (scale n m : ℕ) (y z : ℤ) → IsCount g → m ≡ reach g n → 1 ≤ m → over_of g ≡ 1
    → unsigned_abs y ≤ scale * reach g n → unsigned_abs z ≤ scale * reach g n → ((a : ℕ) × (y ≡ pos a)) → ((b : ℕ) × (z ≡ pos b)) → Bounded scale m (over_of g) y z
counts_bounded g scale n m y z count is some over p q a b =
    let same : scale * m ≡ scale * reach g n = ap (λ (k : ℕ). scale * k) is in
    (omega (arith, p, same), omega (arith, q, same), difference_counts y z a.0 b.0 (scale * m) a.1 b.1 (omega (arith, p, same)) (omega (arith, q, same)), times_within scale (over_of g) m (omega (arith, over, some)))

bounded : (g : GainOf TableTree) (scale n m : ℕ) (y z : ℤ) → 0 < n → m ≡ width g n → unsigned_abs y ≤ scale * reach g n → unsigned_abs z ≤ scale * reach g n
    → (IsCount g → (a : ℕ) × (y ≡ pos a)) → (IsCount g → (b : ℕ) × (z ≡ pos b)) → Bounded scale m (over_of g) y z
bounded Bayes scale n m y z some is p q a b = counts_bounded Bayes scale n m y z tt is (omega (arith, is)) refl p q (a tt) (b tt)
bounded (Tries k) scale n m y z some is p q a b = counts_bounded (Tries k) scale n m y z tt is (omega (arith, is)) refl p q (a tt) (b tt)
bounded Guessing scale n m y z some is p q a b = counts_bounded Guessing scale n m y z tt is (omega (arith, is, some)) refl p q (a tt) (b tt)
bounded (Table t) scale n m y z some is p q a b =
    let twice : scale * (2 * greatest (gains_of t)) ≤ scale * m = times_within scale (2 * greatest (gains_of t)) m (omega (arith, is)) in
    (omega (arith, p, twice), omega (arith, q, twice), omega (arith, p, q, twice, difference_abs y z), times_within scale t.over m (omega (arith, is)))

pub width_bounds : (size scale m : ℕ) (g : GainOf TableTree) (inners : List Inner) (y z : ℤ) → IsShape size scale inners → IsWidth g inners m → IsPrior g inners y → IsPosterior g inners z
    → Bounded scale m (over_of g) y z
width_bounds size scale m g inners y z shape w p q =
    let r : Averaged inners = averaged inners in
    let n : ℕ = length r.sum in
    let is : m ≡ width g n = w.is ∙ ap (λ (c : List Entry). width g (length c)) (the_average inners w.average w.is_average) in
    let prs : ArePairs inners = pairs size scale inners shape in
    let first : unsigned_abs y ≤ scale * reach g n = omega (arith, prior_within g inners y p, ap (λ (k : ℕ). k * reach g n) (average_total size scale inners shape)) in
    let second : unsigned_abs z ≤ scale * reach g n = omega (arith, posterior_within g inners z n prs (shorter inners prs) q, ap (λ (k : ℕ). k * reach g n) shape.whole) in
    bounded g scale n m y z (average_some size scale inners shape) is first second (λ count. counted g p.average y count p.is) (λ count. counted_all g inners z count q)
