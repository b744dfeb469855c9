-- What a hyper's columns are worth: as much as the rows that it is made of, and no more than rows of which they are sums.
use Rattle.std.proofs.Common.{◌≡◌, ℕ, ◌+◌, ◌*◌, ◌/◌, ◌<◌, Bool, true, false, List, [], ◌∷◌, map, if◌then◌else◌, ⊎_elim}
use Rattle.std.proofs.Common.{refl, sym, ap, subst, ◌∙◌, arith}
use Rattle.std.specs.Prelude.{ℤ, pos, ◌+ℤ◌, ◌*ℤ◌}
use Rattle.std.specs.List.{AllByRecursion as Each}
use Rattle.std.proofs.Math.IntN.{zero-*ℤ}
use Rattle.std.proofs.Math.Nat.{eq-zero-or-pos, mul-div_cancel, mul_comm}
use Rattle.std.proofs.lemmas.Int.{ints}
use Rattle.std.proofs.lemmas.List.Sums.{sum_by-cons}
use Rattle.kf_frac.proofs.Ring.{add_mul}
use Rattle.kf_column.specs.declared.entry.Entry.{Entry}
use Rattle.kf_column.specs.Averages.{scaled, joint_weight, joint_column, average_weight}
use Rattle.kf_column.specs.Columns.{IsColumn, weight_at, total, proportional}
use Rattle.kf_column.specs.Hypers.{Inner, IsInner}
use Rattle.kf_column.proofs.ClassSums.{above_scaled}
use Rattle.kf_column.proofs.Scaling.{total-scaled, weight_at-scaled, total_positive}
use Rattle.kf_column.proofs.Weighing.{IsTimes, times_inner}
use Rattle.kf_column.proofs.Weights.{Above, above_column, ascending_above, positive_above, same_column}
use Rattle.kf_core.proofs.Sums.{adds}
use Rattle.kf_gain.specs.Gains.{GainOf, Bayes, Tries, Guessing, Table, TableTree}
use Rattle.kf_gain.specs.Vulnerabilities.{IsPosterior}
use Rattle.kf_gain.specs.Worth.{IsVulnerability, NoBetter}
use Rattle.kf_gain.proofs.Adding.{ArePairs}
use Rattle.kf_gain.proofs.Losing.{nothing_is_lost}
use Rattle.kf_gain.proofs.Measures.{one, scales}

-- ---- sums of worths

abbrev pub worth : {X : Type 0} → (X → ℤ) → List X → ℤ
worth f [] = pos 0
worth f (x ∷ xs) = f x +ℤ worth f xs

-- a share of each
abbrev pub shares : {X : Type 0} → (X → ℕ) → (X → ℤ) → List X → ℤ
shares m v xs = worth (λ x. pos (m x) *ℤ v x) xs

module _ {X : Type 0} (v : X → ℤ) where
  no_share : (xs : List X) → pos 0 ≡ shares (λ x. 0) v xs
  no_share [] = refl
  no_share (x ∷ xs) = omega (arith, ints, zero-*ℤ (v x), no_share xs)

  both_shares : (m k : X → ℕ) (xs : List X) → shares m v xs +ℤ shares k v xs ≡ shares (λ x. m x + k x) v xs
  both_shares m k [] = refl
  both_shares m k (x ∷ xs) = omega (arith, ints, add_mul (v x) (pos (m x)) (pos (k x)), both_shares m k xs)

  whole_shares : (m : X → ℕ) (xs : List X) → Each (λ x. m x ≡ 1) xs → shares m v xs ≡ worth v xs
  whole_shares m [] h = refl
  whole_shares m (x ∷ xs) h =
      let here : pos (m x) *ℤ v x ≡ pos 1 *ℤ v x = ap (λ n. pos n *ℤ v x) h.0 in
      omega (arith, ints, here, whole_shares m xs h.1)

  module _ {Y : Type 0} (m : Y → X → ℕ) (xs : List X) where
    shared : (ys : List Y) → worth (λ y. shares (m y) v xs) ys ≡ shares (λ x. adds (λ y. m y x) ys) v xs
    shared [] = no_share xs
    shared (y ∷ ys) = ap (λ z. shares (m y) v xs +ℤ z) (shared ys) ∙ both_shares (m y) (λ x. adds (λ y. m y x) ys) xs

    -- where the shares of each make up the whole, all shares do
    pub all_shared : (ys : List Y) → Each (λ x. adds (λ y. m y x) ys ≡ 1) xs → worth (λ y. shares (m y) v xs) ys ≡ worth v xs
    all_shared ys h = shared ys ∙ whole_shares (λ x. adds (λ y. m y x) ys) xs h

-- ---- no better

no_better_sums : (g : GainOf TableTree) (a b c d : ℤ) → NoBetter g a b → NoBetter g c d → NoBetter g (a +ℤ c) (b +ℤ d)
no_better_sums Bayes a b c d h k = omega (arith, ints, h, k)
no_better_sums (Tries n) a b c d h k = omega (arith, ints, h, k)
no_better_sums Guessing a b c d h k = omega (arith, ints, h, k)
no_better_sums (Table t) a b c d h k = omega (arith, ints, h, k)

no_better_itself : (g : GainOf TableTree) (a : ℤ) → NoBetter g a a
no_better_itself Bayes a = omega (arith, ints)
no_better_itself (Tries n) a = omega (arith, ints)
no_better_itself Guessing a = omega (arith, ints)
no_better_itself (Table t) a = omega (arith, ints)

module _ (g : GainOf TableTree) (share : Inner → ℤ) where
  abbrev pub IsWithin : Inner → Type 0
  IsWithin i = (a : ℤ) → IsVulnerability g (joint_column i) a → NoBetter g a (share i)

  abbrev pub IsShare : Inner → Type 0
  IsShare i = (a : ℤ) → IsVulnerability g (joint_column i) a → a ≡ share i

  pub posterior_within : (inners : List Inner) (y : ℤ) → IsPosterior g inners y → Each IsWithin inners → NoBetter g y (worth share inners)
  posterior_within [] y is h = subst (λ (z : ℤ). NoBetter g z (pos 0)) (sym is) (no_better_itself g (pos 0))
  posterior_within (i ∷ inners) y (first, others, v, p, is) h =
      subst (λ (z : ℤ). NoBetter g z (worth share (i ∷ inners))) (sym is)
      (no_better_sums g first (share i) others (worth share inners) (h.0 first v) (posterior_within inners others p h.1))

  pub posterior_is : (inners : List Inner) (z : ℤ) → IsPosterior g inners z → Each IsShare inners → z ≡ worth share inners
  posterior_is [] z is h = is
  posterior_is (i ∷ inners) z (first, others, v, p, is) h =
      let here = h.0 first v in
      let rest = posterior_is inners others p h.1 in
      is ∙ (λ j. here j +ℤ rest j)

-- ---- rows

module _ {X : Type 0} (column : X → List Entry) (g : GainOf TableTree) (best : List Entry → ℤ) (are : (c : List Entry) → IsVulnerability g c (best c)) where
  abbrev value : X → ℤ
  value x = best (column x)

  abbrev AreColumns : List X → Type 0
  AreColumns xs = Each (λ x. IsColumn (column x)) xs

  -- ---- multiples of columns, as inners

  record Mixed (m : X → ℕ) (xs : List X) : Type 0 where
    inners : List Inner
    pairs : ArePairs inners
    weights : (y : ℕ) → average_weight inners y ≡ adds (λ x. m x * weight_at (column x) y) xs
    posterior : IsPosterior g inners (shares m value xs)

  module _ (m : X → ℕ) (x : X) (xs : List X) (rest : Mixed m xs) where
    left_out : m x ≡ 0 → Mixed m (x ∷ xs)
    left_out none = record {
      inners = rest.inners;
      pairs = rest.pairs;
      weights = λ y.
          let nothing : m x * weight_at (column x) y ≡ 0 * weight_at (column x) y = ap (λ n. n * weight_at (column x) y) none in
          omega (arith, rest.weights y, nothing);
      posterior =
          let nothing : pos (m x) *ℤ value x ≡ pos 0 = ap (λ n. pos n *ℤ value x) none ∙ zero-*ℤ (value x) in
          let same : shares m value xs ≡ shares m value (x ∷ xs) = omega (arith, ints, nothing) in
          subst (IsPosterior g rest.inners) same rest.posterior;
    }

    module _ (some : 0 < m x) (is : IsColumn (column x)) where
      abbrev inner : Inner
      inner = record { entries = column x; total = m x * total (column x) }

      quotient : m x * total (column x) / total (column x) ≡ m x
      quotient = mul-div_cancel (m x) (total_positive (column x) is)

      multiple : joint_column inner ≡ map (scaled (m x)) (column x)
      multiple = ap (λ n. map (scaled n) (column x)) quotient

      put_in : Mixed m (x ∷ xs)
      put_in = record {
        inners = inner ∷ rest.inners;
        pairs = (
          (
            is,
            subst (Above 0) (sym multiple) (above_scaled 0 (m x) (column x) some (above_column (column x) is)),
            ap total multiple ∙ total-scaled (m x) (column x),
          ),
          rest.pairs,
        );
        weights = λ y.
            let here : joint_weight y inner ≡ m x * weight_at (column x) y =
            ap (λ n. weight_at (column x) y * n) quotient ∙ mul_comm (weight_at (column x) y) (m x) in
            omega (arith, sum_by-cons (joint_weight y) inner rest.inners, here, rest.weights y);
        posterior = (
          pos (m x) *ℤ value x,
          shares m value xs,
          subst (λ l. IsVulnerability g l (pos (m x) *ℤ value x)) (sym multiple) (scales g (column x) (m x) (value x) (are (column x))),
          rest.posterior,
          refl,
        );
      }

  mixed : (m : X → ℕ) (xs : List X) → AreColumns xs → Mixed m xs
  mixed m [] h = record { inners = []; pairs = tt; weights = λ y. refl; posterior = refl }
  mixed m (x ∷ xs) h =
      let rest = mixed m xs h.1 in
      ⊎_elim (λ (none : m x ≡ 0). left_out m x xs rest none) (λ (some : 0 < m x). put_in m x xs rest some h.0) (eq-zero-or-pos (m x))

  -- a sum of columns is worth no more than they are
  pub sum_within : (m : X → ℕ) (xs : List X) → AreColumns xs → (c : List Entry) (a : ℤ) → Above 0 c
      → ((y : ℕ) → weight_at c y ≡ adds (λ x. m x * weight_at (column x) y) xs) → IsVulnerability g c a → NoBetter g a (shares m value xs)
  sum_within m xs h c a above weights is =
      let r = mixed m xs h in
      nothing_is_lost r.inners a (shares m value xs) g r.pairs
      (record {
        average = c;
        is_average = record { ascending = ascending_above 0 c above; positive = positive_above 0 c above; weights = λ y. weights y ∙ sym (r.weights y) };
        is = is;
      }) r.posterior

  -- ---- a class

  module _ (inner : List Entry) (is_inner : IsInner inner) where
    abbrev in_class : X → ℕ
    in_class x = if proportional (column x) inner then 1 else 0

    record ClassWorth (xs : List X) : Type 0 where
      times : ℕ
      total_is : adds (λ x. if proportional (column x) inner then total (column x) else 0) xs ≡ times * total inner
      worth_is : shares in_class value xs ≡ pos times *ℤ best inner

    -- a column of the class is worth its multiple
    multiple_worth : (c : List Entry) → IsColumn c → (times : IsTimes c inner) → best c ≡ pos times.factor *ℤ best inner
    multiple_worth c is times =
        let some : 0 < times.factor =
        ⊎_elim
        (λ (none : times.factor ≡ 0). absurd (omega (arith, total_positive c is, times.total_is, ap (λ n. n * total inner) none)))
        (λ (h : 0 < times.factor). h) (eq-zero-or-pos times.factor) in
        let same : c ≡ map (scaled times.factor) inner =
        same_column 0 c (map (scaled times.factor) inner) (above_column c is) (above_scaled 0 times.factor inner some (above_column inner is_inner.column))
        (λ y. times.weight_is y ∙ sym (weight_at-scaled times.factor inner y)) in
        one g (map (scaled times.factor) inner) (best c) (pos times.factor *ℤ best inner) (subst (λ l. IsVulnerability g l (best c)) same (are c))
        (scales g inner times.factor (best inner) (are inner))

    class_more : (x : X) (xs : List X) (rest : ClassWorth xs) (b : Bool) → proportional (column x) inner ≡ b → IsColumn (column x) → ClassWorth (x ∷ xs)
    class_more x xs rest true is column_is =
        let times = times_inner (column x) inner column_is is_inner is in
        let here : (if proportional (column x) inner then total (column x) else 0) ≡ total (column x) = ap (λ b. if b then total (column x) else 0) is in
        let own : pos (in_class x) *ℤ value x ≡ pos 1 *ℤ value x = ap (λ b. pos (if b then 1 else 0) *ℤ value x) is in
        record {
          times = times.factor + rest.times;
          total_is = omega (arith, here, times.total_is, rest.total_is);
          worth_is =
              omega (
                arith,
                ints,
                own,
                multiple_worth (column x) column_is times,
                rest.worth_is,
                add_mul (best inner) (pos times.factor) (pos rest.times),
              );
        }
    class_more x xs rest false is column_is =
        let here : (if proportional (column x) inner then total (column x) else 0) ≡ 0 = ap (λ b. if b then total (column x) else 0) is in
        let own : pos (in_class x) *ℤ value x ≡ pos 0 = ap (λ b. pos (if b then 1 else 0) *ℤ value x) is ∙ zero-*ℤ (value x) in
        record { times = rest.times; total_is = omega (arith, here, rest.total_is); worth_is = omega (arith, ints, own, rest.worth_is) }

    class_worth : (xs : List X) → AreColumns xs → ClassWorth xs
    class_worth [] h = record { times = 0; total_is = omega arith; worth_is = sym (zero-*ℤ (best inner)) }
    class_worth (x ∷ xs) h = class_more x xs (class_worth xs h.1) (proportional (column x) inner) refl h.0

  -- an inner's column is worth what the columns of its class are
  pub class_share : (xs : List X) → AreColumns xs → (i : Inner) → IsInner i.entries
      → i.total ≡ adds (λ x. if proportional (column x) i.entries then total (column x) else 0) xs
      → (a : ℤ) → IsVulnerability g (joint_column i) a → a ≡ shares (λ x. if proportional (column x) i.entries then 1 else 0) value xs
  class_share xs h i is_inner sum a is =
      let r = class_worth i.entries is_inner xs h in
      let quotient : i.total / total i.entries ≡ r.times =
      ap (λ n. n / total i.entries) (sum ∙ r.total_is) ∙ mul-div_cancel r.times (total_positive i.entries is_inner.column) in
      let multiple : joint_column i ≡ map (scaled r.times) i.entries = ap (λ n. map (scaled n) i.entries) quotient in
      one g (map (scaled r.times) i.entries) a (pos r.times *ℤ best i.entries) (subst (λ l. IsVulnerability g l a) multiple is)
      (scales g i.entries r.times (best i.entries) (are i.entries))
      ∙ sym r.worth_is
