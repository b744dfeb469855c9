-- Columns added up: there is one sum of a hyper's inners, and no other.
use Rattle.std.proofs.Common.{◌≡◌, ℕ, ◌+◌, ◌/◌, ◌<◌, ◌≤◌, ◌==◌, List, [], ◌∷◌, Bool, All, map, sum_by, refl, sym, ◌∙◌, ap, subst, arith, length, if◌then◌else◌, ⊎_elim, zero-add}
use Rattle.std.specs.Prelude.{ℤ, pos, ◌+ℤ◌, ◌*ℤ◌}
use Rattle.std.specs.Int.{◌∣◌}
use Rattle.std.proofs.Math.Nat.{eq-zero-or-pos}
use Rattle.std.proofs.Math.IntN.{zero-*ℤ, +ℤ_idl}
use Rattle.std.proofs.lemmas.Int.{ints}
use Rattle.std.proofs.lemmas.Bool.{cases_order}
use Rattle.std.proofs.lemmas.List.Elements.{All-head, All-tail}
use Rattle.std.proofs.lemmas.List.Sums.{sum_by-cons}
use Rattle.kf_column.specs.declared.entry.Entry.{Entry}
use Rattle.kf_frac.proofs.Ring.{add_mul}
use Rattle.kf_column.specs.Columns.{weight_at, total, IsColumn}
use Rattle.kf_column.specs.Hypers.{Inner, IsInner}
use Rattle.kf_column.specs.Shapes.{IsShape}
use Rattle.kf_column.specs.Averages.{scaled, joint_weight, joint_column, average_weight}
use Rattle.kf_column.specs.Classes.{IsWhole}
use Rattle.kf_column.proofs.ClassSums.{is_whole, class_column, class_sum}
use Rattle.kf_column.proofs.Steps.{if_adds}
use Rattle.kf_column.proofs.Weighing.{joint_column_weighs}
use Rattle.kf_column.proofs.Weights.{Above, weight_at-cons, same_column, above_column, above_from, ascending_above, positive_above}
use Rattle.kf_column.proofs.Scaling.{total-cons}
use Rattle.kf_gain.specs.declared.table.GainEntry.{GainEntry}
use Rattle.kf_gain.specs.Gains.{gain_at}
use Rattle.kf_gain.specs.Worth.{gained}
use Rattle.kf_gain.specs.Vulnerabilities.{IsAverage}

abbrev pub at_value : ℕ → ℕ → ℕ → ℕ
at_value v w x = if v == x then w else 0

-- a column with a weight added at a value
pub record Added (low v w : ℕ) (column : List Entry) : Type 0 where
  pub sum : List Entry
  pub above : Above low sum
  pub weights : (x : ℕ) → weight_at sum x ≡ at_value v w x + weight_at column x
  pub total : total sum ≡ w + total column
  pub longer : length column ≤ length sum
  pub gains : (rest : ℤ) (gains : List GainEntry) → gained rest gains sum ≡ pos w *ℤ gain_at rest gains v +ℤ gained rest gains column

same_at : (v v' w x : ℕ) → v ≡ v' → at_value v w x ≡ at_value v' w x
same_at v v' w x same = ap (λ (n : ℕ). at_value n w x) same

pub add : (low v w : ℕ) (column : List Entry) → low ≤ v → 0 < w → Above low column → Added low v w column
add low v w [] from some above =
    let e : Entry = record { value = v; weight = w } in
    record { sum = e ∷ []; above = (from, some, tt); weights = weight_at-cons e []; total = total-cons e []; longer = omega arith; gains = λ rest gains. refl }
add low v w (e ∷ es) from some (here, positive, rest) =
    ⊎_elim
    (λ (same : v ≡ e.value).
    let f : Entry = record { value = v; weight = w + e.weight } in
    record {
      sum = f ∷ es;
      above = (from, omega (arith, some), subst (λ (n : ℕ). Above (n + 1) es) (sym same) rest);
      weights = λ x. omega (arith, weight_at-cons f es x, weight_at-cons e es x, if_adds (v == x) w e.weight, same_at v e.value e.weight x same);
      total = omega (arith, total-cons f es, total-cons e es);
      longer = omega arith;
      gains = λ rest gains.
          let both : pos (w + e.weight) *ℤ gain_at rest gains v ≡ pos w *ℤ gain_at rest gains v +ℤ pos e.weight *ℤ gain_at rest gains v = add_mul (gain_at rest gains v) (pos w) (pos e.weight) in
          let there : pos e.weight *ℤ gain_at rest gains v ≡ pos e.weight *ℤ gain_at rest gains e.value = ap (λ (n : ℕ). pos e.weight *ℤ gain_at rest gains n) same in
          omega (arith, ints, both, there);
    })
    (⊎_elim
    (λ (less : v < e.value).
    let f : Entry = record { value = v; weight = w } in
    record {
      sum = f ∷ e ∷ es;
      above = (from, some, (omega (arith, less), positive, rest));
      weights = weight_at-cons f (e ∷ es);
      total = total-cons f (e ∷ es);
      longer = omega arith;
      gains = λ rest gains. refl;
    })
    (λ (more : e.value < v).
    let r : Added (e.value + 1) v w es = add (e.value + 1) v w es (omega (arith, more)) some rest in
    record {
      sum = e ∷ r.sum;
      above = (here, positive, r.above);
      weights = λ x. omega (arith, weight_at-cons e r.sum x, weight_at-cons e es x, r.weights x);
      total = omega (arith, total-cons e r.sum, total-cons e es, r.total);
      longer = omega (arith, r.longer);
      gains = λ rest gains. omega (arith, ints, r.gains rest gains);
    }))
    (cases_order v e.value)

-- the sum of a column and a list of weights
pub record Joined (c d : List Entry) : Type 0 where
  pub sum : List Entry
  pub above : Above 0 sum
  pub weights : (x : ℕ) → weight_at sum x ≡ weight_at c x + weight_at d x
  pub total : total sum ≡ total c + total d
  pub longer : length d ≤ length sum
  pub gains : (rest : ℤ) (gains : List GainEntry) → gained rest gains sum ≡ gained rest gains c +ℤ gained rest gains d

none_at : (b : Bool) (n : ℕ) → n ≡ 0 → (if b then n else 0) ≡ 0
none_at b n none = grind arith

-- a weight of 0 changes nothing
kept : (e : Entry) (c d : List Entry) → e.weight ≡ 0 → Joined c d → Joined (e ∷ c) d
kept e c d none r = record {
  sum = r.sum;
  above = r.above;
  weights = λ x. omega (arith, r.weights x, weight_at-cons e c x, none_at (e.value == x) e.weight none);
  total = omega (arith, r.total, total-cons e c, none);
  longer = r.longer;
  gains = λ rest gains.
      let nothing : pos e.weight *ℤ gain_at rest gains e.value ≡ pos 0 = ap (λ (n : ℕ). pos n *ℤ gain_at rest gains e.value) none ∙ zero-*ℤ (gain_at rest gains e.value) in
      omega (arith, ints, r.gains rest gains, nothing);
}

grown : (e : Entry) (c d : List Entry) → 0 < e.weight → Joined c d → Joined (e ∷ c) d
grown e c d some r =
    let a : Added 0 e.value e.weight r.sum = add 0 e.value e.weight r.sum (omega arith) some r.above in
    record {
      sum = a.sum;
      above = a.above;
      weights = λ x. omega (arith, a.weights x, r.weights x, weight_at-cons e c x);
      total = omega (arith, a.total, r.total, total-cons e c);
      longer = omega (arith, a.longer, r.longer);
      gains = λ rest gains. omega (arith, ints, a.gains rest gains, r.gains rest gains);
    }

pub join : (c d : List Entry) → Above 0 d → Joined c d
join [] d above = record { sum = d; above = above; weights = λ x. sym (zero-add (weight_at d x)); total = sym (zero-add (total d)); longer = omega arith; gains = λ rest gains. sym (+ℤ_idl (gained rest gains d)) }
join (e ∷ es) d above =
    let r : Joined es d = join es d above in
    ⊎_elim (λ (none : e.weight ≡ 0). kept e es d none r) (λ (some : 0 < e.weight). grown e es d some r) (eq-zero-or-pos e.weight)

-- the sum of two columns is as long as each of them
longer_left : (c d : List Entry) (p : Above 0 c) (q : Above 0 d) → length c ≤ length (join c d q).sum
longer_left c d p q =
    let r : Joined c d = join c d q in
    let s : Joined d c = join d c p in
    let same : r.sum ≡ s.sum = same_column 0 r.sum s.sum r.above s.above (λ x. omega (arith, r.weights x, s.weights x)) in
    omega (arith, ap (λ (l : List Entry). length l) same, s.longer)

-- the joint columns of inners, as columns
abbrev pub ArePairs : List Inner → Type 0
ArePairs [] = Unit {0}
ArePairs (i ∷ inners) = (IsColumn i.entries × Above 0 (joint_column i) × (total (joint_column i) ≡ i.total)) × ArePairs inners

-- an inner is such a one
pair_of : (i : Inner) → IsInner i.entries → 0 < i.total → total i.entries ∣ i.total → IsColumn i.entries × Above 0 (joint_column i) × (total (joint_column i) ≡ i.total)
pair_of i is used divides =
    let whole : IsWhole (i.entries, i.total) = is_whole (i.entries, i.total) is used divides in
    (is.column, above_column (joint_column i) (class_column (i.entries, i.total) whole), class_sum (i.entries, i.total) whole)

pairs_from : (inners : List Inner) → All (λ (i : Inner). IsInner i.entries) inners → All (λ (i : Inner). 0 < i.total) inners → All (λ (i : Inner). total i.entries ∣ i.total) inners → ArePairs inners
pairs_from [] inner used multiple = tt
pairs_from (i ∷ inners) inner used multiple = (
  pair_of i (All-head (λ (i : Inner). IsInner i.entries) i inners inner) (All-head (λ (i : Inner). 0 < i.total) i inners used) (All-head (λ (i : Inner). total i.entries ∣ i.total) i inners multiple),
  pairs_from inners (All-tail (λ (i : Inner). IsInner i.entries) i inners inner) (All-tail (λ (i : Inner). 0 < i.total) i inners used) (All-tail (λ (i : Inner). total i.entries ∣ i.total) i inners multiple),
)

pub pairs : (size scale : ℕ) (inners : List Inner) → IsShape size scale inners → ArePairs inners
pairs size scale inners shape = pairs_from inners shape.inner shape.used shape.multiple

-- no inner has more values than this
abbrev pub AreShorter : ℕ → List Inner → Type 0
AreShorter n [] = Unit {0}
AreShorter n (i ∷ inners) = (length i.entries ≤ n) × AreShorter n inners

shorter_more : (m n : ℕ) (inners : List Inner) → m ≤ n → AreShorter m inners → AreShorter n inners
shorter_more m n [] order all = tt
shorter_more m n (i ∷ inners) order (here, rest) = (omega (arith, here, order), shorter_more m n inners order rest)

-- what an action gains from all of them
abbrev pub gained_all : ℤ → List GainEntry → List Inner → ℤ
gained_all rest gains [] = pos 0
gained_all rest gains (i ∷ inners) = gained rest gains (joint_column i) +ℤ gained_all rest gains inners

-- the sum of all joint columns
pub record Averaged (inners : List Inner) : Type 0 where
  pub sum : List Entry
  pub above : Above 0 sum
  pub weights : (x : ℕ) → weight_at sum x ≡ average_weight inners x
  pub total : total sum ≡ sum_by (λ (i : Inner). total (joint_column i)) inners
  pub gains : (rest : ℤ) (gains : List GainEntry) → gained rest gains sum ≡ gained_all rest gains inners

pub averaged : (inners : List Inner) → Averaged inners
averaged [] = record { sum = []; above = tt; weights = λ x. refl; total = refl; gains = λ rest gains. refl }
averaged (i ∷ inners) =
    let r : Averaged inners = averaged inners in
    let j : Joined (joint_column i) r.sum = join (joint_column i) r.sum r.above in
    record {
      sum = j.sum;
      above = j.above;
      weights = λ x. omega (arith, j.weights x, r.weights x, joint_column_weighs i x, sum_by-cons (joint_weight x) i inners);
      total = omega (arith, j.total, r.total, sum_by-cons (λ (i : Inner). total (joint_column i)) i inners);
      gains = λ rest gains. omega (arith, ints, j.gains rest gains, r.gains rest gains);
    }

pub joint_length : (k : ℕ) (es : List Entry) → length (map (scaled k) es) ≡ length es
joint_length k [] = refl
joint_length k (e ∷ es) = omega (arith, joint_length k es)

pub shorter : (inners : List Inner) → ArePairs inners → AreShorter (length (averaged inners).sum) inners
unfolding averaged
shorter [] pairs = tt
shorter (i ∷ inners) (pair, rest) =
    let r : Averaged inners = averaged inners in
    let j : Joined (joint_column i) r.sum = join (joint_column i) r.sum r.above in (
      omega (arith, longer_left (joint_column i) r.sum pair.1 r.above, joint_length (i.total / total i.entries) i.entries),
      shorter_more (length r.sum) (length j.sum) inners j.longer (shorter inners rest),
    )

pub totals : (inners : List Inner) → ArePairs inners → sum_by (λ (i : Inner). total (joint_column i)) inners ≡ sum_by (λ (i : Inner). i.total) inners
totals [] pairs = refl
totals (i ∷ inners) (pair, rest) =
    omega (arith, sum_by-cons (λ (i : Inner). total (joint_column i)) i inners, sum_by-cons (λ (i : Inner). i.total) i inners, totals inners rest, pair.2)

pub is_average : (inners : List Inner) → IsAverage inners (averaged inners).sum
is_average inners =
    let r : Averaged inners = averaged inners in
    record { ascending = ascending_above 0 r.sum r.above; positive = positive_above 0 r.sum r.above; weights = r.weights }

pub some_average : (inners : List Inner) → (column : List Entry) × IsAverage inners column
some_average inners = ((averaged inners).sum, is_average inners)

pub above_average : (inners : List Inner) (c : List Entry) → IsAverage inners c → Above 0 c
above_average inners c is = above_from 0 c (λ _. omega arith) is.ascending is.positive

pub one_average : (inners : List Inner) (c d : List Entry) → IsAverage inners c → IsAverage inners d → c ≡ d
one_average inners c d is is' = same_column 0 c d (above_average inners c is) (above_average inners d is') (λ x. is.weights x ∙ sym (is'.weights x))

-- any sum of all inners is this one
pub the_average : (inners : List Inner) (c : List Entry) → IsAverage inners c → c ≡ (averaged inners).sum
the_average inners c is = one_average inners c (averaged inners).sum is (is_average inners)
