-- What rows are worth: no less than columns of which each is a sum of some of them, and as much as the inners of their hyper.
use Rattle.std.proofs.Common.{◌≡◌, ℕ, ◌+◌, ◌*◌, ◌/◌, ◌<◌, Bool, true, false, cond, List, [], ◌∷◌, map, count_by, if◌then◌else◌, ⊎_elim}
use Rattle.std.proofs.Common.{refl, sym, ap, subst, ◌∙◌, arith}
use Rattle.std.specs.Prelude.{ℤ, pos, ◌+ℤ◌, ◌*ℤ◌}
use Rattle.std.specs.List.{AllByRecursion as Each}
use Rattle.std.proofs.Math.IntN.{zero-*ℤ}
use Rattle.std.proofs.Math.Nat.{eq-zero-or-pos, mul-div_cancel}
use Rattle.std.proofs.lemmas.Int.{ints}
use Rattle.std.proofs.lemmas.List.Elements.{recursion_from_All}
use Rattle.std.proofs.lemmas.List.Sums.{sum_by-cons}
use Rattle.kf_frac.proofs.Ring.{add_mul}
use Rattle.kf_value.proofs.ListLemmas.{each_both}
use Rattle.kf_column.specs.declared.entry.Entry.{Entry}
use Rattle.kf_column.specs.Averages.{scaled, joint_weight, joint_column, average_weight}
use Rattle.kf_column.specs.Columns.{IsColumn, weight_at, total, proportional}
use Rattle.kf_column.specs.Hypers.{Inner, IsHyper, IsInner, class_total}
use Rattle.kf_column.specs.Traces.{Row}
use Rattle.kf_column.proofs.ClassSums.{above_scaled}
use Rattle.kf_column.proofs.Scaling.{total-scaled, weight_at-scaled, total_positive}
use Rattle.kf_column.proofs.Weighing.{IsTimes, times_inner}
use Rattle.kf_column.proofs.Weights.{Above, above_column, ascending_above, positive_above, same_column}
use Rattle.kf_core.proofs.Sums.{adds, adds_mapped, sum_is}
use Rattle.kf_gain.specs.Gains.{GainOf, Bayes, Tries, Guessing, Table, TableTree}
use Rattle.kf_gain.specs.Vulnerabilities.{IsPosterior}
use Rattle.kf_gain.specs.Worth.{IsVulnerability, NoBetter}
use Rattle.kf_gain.proofs.Adding.{ArePairs}
use Rattle.kf_gain.proofs.Losing.{nothing_is_lost}
use Rattle.kf_gain.proofs.Measures.{one, scales}
use Rattle.kf_push.proofs.CellsFrom.{each_unmap}

-- ---- sums of whole numbers

abbrev pub worth : {X : Type 0} → (X → ℤ) → List X → ℤ
worth f [] = pos 0
worth f (x ∷ xs) = f x +ℤ worth f xs

abbrev pub where_so : Bool → ℤ → ℤ
where_so b z = if b then z else pos 0

once_more : (b : Bool) (z : ℤ) (n : ℕ) → where_so b z +ℤ pos n *ℤ z ≡ pos (cond b 1 0 + n) *ℤ z
once_more true z n = omega (arith, ints, add_mul z (pos 1) (pos n))
once_more false z n = omega (arith, ints)

-- as often as the test holds
often : {Y : Type 0} (test : Y → Bool) (z : ℤ) (ys : List Y) → worth (λ y. where_so (test y) z) ys ≡ pos (adds (λ y. cond (test y) 1 0) ys) *ℤ z
often test z [] = sym (zero-*ℤ z)
often test z (y ∷ ys) = ap (λ s. where_so (test y) z +ℤ s) (often test z ys) ∙ once_more (test y) z (adds (λ y. cond (test y) 1 0) ys)

both_worth : {Y : Type 0} (f h : Y → ℤ) (ys : List Y) → worth (λ y. f y +ℤ h y) ys ≡ worth f ys +ℤ worth h ys
both_worth f h [] = refl
both_worth f h (y ∷ ys) = omega (arith, ints, both_worth f h ys)

no_worth : {Y : Type 0} (ys : List Y) → worth (λ y. pos 0) ys ≡ pos 0
no_worth [] = refl
no_worth (y ∷ ys) = omega (arith, ints, no_worth ys)

-- where each of these is in one of those, all that is in those is all of these
each_once : {X Y : Type 0} (test : Y → X → Bool) (v : X → ℤ) (ys : List Y) (xs : List X) → Each (λ x. adds (λ y. cond (test y x) 1 0) ys ≡ 1) xs
    → worth (λ y. worth (λ x. where_so (test y x) (v x)) xs) ys ≡ worth v xs
each_once test v ys [] h = no_worth ys
each_once test v ys (x ∷ xs) h =
    let own : pos (adds (λ y. cond (test y x) 1 0) ys) *ℤ v x ≡ pos 1 *ℤ v x = ap (λ n. pos n *ℤ v x) h.0 in
    omega (
      arith,
      ints,
      both_worth (λ y. where_so (test y x) (v x)) (λ y. worth (λ x. where_so (test y x) (v x)) xs) ys,
      often (λ y. test y x) (v x) ys,
      own,
      each_once test v ys xs h.1,
    )

worth_same : {X : Type 0} (f h : X → ℤ) (xs : List X) → Each (λ x. f x ≡ h x) xs → worth f xs ≡ worth h xs
worth_same f h [] e = refl
worth_same f h (x ∷ xs) e = let here = e.0 in let others = worth_same f h xs e.1 in λ i. here i +ℤ others i

-- ---- no better

module _ (g : GainOf TableTree) where
  pub by_gain : (P : GainOf TableTree → Type 0) → P Bayes → ((k : ℕ) → P (Tries k)) → P Guessing → ((t : TableTree) → P (Table t)) → (h : GainOf TableTree) → P h
  by_gain P b k s t Bayes = b
  by_gain P b k s t (Tries n) = k n
  by_gain P b k s t Guessing = s
  by_gain P b k s t (Table u) = t u

  pub no_better_both : (a b c d : ℤ) → NoBetter g a b → NoBetter g c d → NoBetter g (a +ℤ c) (b +ℤ d)
  no_better_both a b c d =
      by_gain (λ h. NoBetter h a b → NoBetter h c d → NoBetter h (a +ℤ c) (b +ℤ d)) (λ p q. omega (arith, ints, p, q)) (λ k p q. omega (arith, ints, p, q))
      (λ p q. omega (arith, ints, p, q)) (λ t p q. omega (arith, ints, p, q)) g

  pub nothing_better : NoBetter g (pos 0) (pos 0)
  nothing_better = by_gain (λ h. NoBetter h (pos 0) (pos 0)) (omega (arith, ints)) (λ k. omega (arith, ints)) (omega (arith, ints)) (λ t. omega (arith, ints)) g

  all_no_better : {Y : Type 0} (f h : Y → ℤ) (ys : List Y) → Each (λ y. NoBetter g (f y) (h y)) ys → NoBetter g (worth f ys) (worth h ys)
  all_no_better f h [] e = nothing_better
  all_no_better f h (y ∷ ys) e = no_better_both (f y) (h y) (worth f ys) (worth h ys) e.0 (all_no_better f h ys e.1)

-- ---- the classes of a hyper

-- each row is in one class
pub in_one : (rows : List Row) (inners : List Inner) → Each (λ (r : Row). IsColumn r.column) rows → IsHyper (map (λ (r : Row). r.column) rows) inners
    → Each (λ r. adds (λ i. cond (proportional r.column i.entries) 1 0) inners ≡ 1) rows
in_one rows inners columns is =
    each_both (λ r. 0 < total r.column → count_by (λ (i : Inner). proportional r.column i.entries) inners ≡ 1) (λ r. IsColumn r.column)
    (λ r. adds (λ i. cond (proportional r.column i.entries) 1 0) inners ≡ 1)
    (λ r once column. sym (sum_is (λ (i : Inner). cond (proportional r.column i.entries) 1 0) inners) ∙ once (total_positive r.column column)) rows
    (each_unmap (λ c. 0 < total c → count_by (λ (i : Inner). proportional c i.entries) inners ≡ 1) (λ (r : Row). r.column) rows
    (recursion_from_All (λ c. 0 < total c → count_by (λ (i : Inner). proportional c i.entries) inners ≡ 1) (map (λ (r : Row). r.column) rows) is.covered))
    columns

-- ---- columns

module _ (g : GainOf TableTree) (best : List Entry → ℤ) (are : (c : List Entry) → IsVulnerability g c (best c)) where
  posterior_is : (inners : List Inner) (z : ℤ) → IsPosterior g inners z → z ≡ worth (λ i. best (joint_column i)) inners
  posterior_is [] z is = is
  posterior_is (i ∷ inners) z (first, others, v, p, is) =
      let here = one g (joint_column i) first (best (joint_column i)) v (are (joint_column i)) in
      let rest = posterior_is inners others p in
      is ∙ (λ j. here j +ℤ rest j)

  -- ---- columns added up

  abbrev value : Row → ℤ
  value r = best r.column

  abbrev AreColumns : List Row → Type 0
  AreColumns rows = Each (λ (r : Row). IsColumn r.column) rows

  module _ (test : Row → Bool) where
    -- the rows that pass the test, as inners
    record Kept (rows : List Row) : Type 0 where
      inners : List Inner
      pairs : ArePairs inners
      weights : (x : ℕ) → average_weight inners x ≡ adds (λ r. cond (test r) (weight_at r.column x) 0) rows
      posterior : IsPosterior g inners (worth (λ r. where_so (test r) (value r)) rows)

    kept_more : (r : Row) (rows : List Row) (b : Bool) → test r ≡ b → IsColumn r.column → Kept rows → Kept (r ∷ rows)
    kept_more r rows false is column rest = record {
      inners = rest.inners;
      pairs = rest.pairs;
      weights = λ x.
          let nothing : cond (test r) (weight_at r.column x) 0 ≡ 0 = ap (λ b. cond b (weight_at r.column x) 0) is in
          omega (arith, rest.weights x, nothing);
      posterior =
          let nothing : where_so (test r) (value r) ≡ pos 0 = ap (λ b. where_so b (value r)) is in
          let same : worth (λ r. where_so (test r) (value r)) rows ≡ worth (λ r. where_so (test r) (value r)) (r ∷ rows) = omega (arith, ints, nothing) in
          subst (IsPosterior g rest.inners) same rest.posterior;
    }
    kept_more r rows true is column rest =
        let inner : Inner = record { entries = r.column; total = 1 * total r.column } in
        let quotient : 1 * total r.column / total r.column ≡ 1 = mul-div_cancel 1 (total_positive r.column column) in
        let same : joint_column inner ≡ map (scaled 1) r.column = ap (λ n. map (scaled n) r.column) quotient in
        record {
          inners = inner ∷ rest.inners;
          pairs = (
            (
              column,
              subst (Above 0) (sym same) (above_scaled 0 1 r.column (omega arith) (above_column r.column column)),
              ap total same ∙ total-scaled 1 r.column,
            ),
            rest.pairs,
          );
          weights = λ x.
              let here : joint_weight x inner ≡ weight_at r.column x * 1 = ap (λ n. weight_at r.column x * n) quotient in
              let counts : cond (test r) (weight_at r.column x) 0 ≡ weight_at r.column x = ap (λ b. cond b (weight_at r.column x) 0) is in
              omega (arith, sum_by-cons (joint_weight x) inner rest.inners, here, counts, rest.weights x);
          posterior =
              let counts : where_so (test r) (value r) ≡ pos 1 *ℤ value r = ap (λ b. where_so b (value r)) is ∙ omega (arith, ints) in (
                pos 1 *ℤ value r,
                worth (λ r. where_so (test r) (value r)) rows,
                subst (λ l. IsVulnerability g l (pos 1 *ℤ value r)) (sym same) (scales g r.column 1 (value r) (are r.column)),
                rest.posterior,
                (let others = worth (λ r. where_so (test r) (value r)) rows in λ i. counts i +ℤ others),
              );
        }

    kept : (rows : List Row) → AreColumns rows → Kept rows
    kept [] h = record { inners = []; pairs = tt; weights = λ x. refl; posterior = refl }
    kept (r ∷ rows) h = kept_more r rows (test r) refl h.0 (kept rows h.1)

    -- a sum of columns is worth no more than they are
    sum_within : (rows : List Row) → AreColumns rows → (c : List Entry) → Above 0 c
        → ((x : ℕ) → weight_at c x ≡ adds (λ r. cond (test r) (weight_at r.column x) 0) rows)
        → NoBetter g (best c) (worth (λ r. where_so (test r) (value r)) rows)
    sum_within rows h c above weights =
        let k = kept rows h in
        nothing_is_lost k.inners (best c) (worth (λ r. where_so (test r) (value r)) rows) g k.pairs
        (record {
          average = c;
          is_average = record { ascending = ascending_above 0 c above; positive = positive_above 0 c above; weights = λ x. weights x ∙ sym (k.weights x) };
          is = are c;
        }) k.posterior

  -- columns of which each row is a part of one are worth no more than the rows
  module _ {Y : Type 0} (column : Y → List Entry) (test : Y → Row → Bool) (rows : List Row) (columns : AreColumns rows) where
    abbrev IsSum : Y → Type 0
    IsSum y = (x : ℕ) → weight_at (column y) x ≡ adds (λ r. cond (test y r) (weight_at r.column x) 0) rows

    pub sums_within : (ys : List Y) → Each (λ y. Above 0 (column y)) ys → Each IsSum ys → Each (λ r. adds (λ y. cond (test y r) 1 0) ys ≡ 1) rows
        → NoBetter g (worth (λ y. best (column y)) ys) (worth (λ r. best r.column) rows)
    sums_within ys above sums once =
        subst (NoBetter g (worth (λ y. best (column y)) ys)) (each_once test value ys rows once)
        (all_no_better g (λ y. best (column y)) (λ y. worth (λ r. where_so (test y r) (value r)) rows) ys
        (each_both (λ y. Above 0 (column y)) IsSum (λ y. NoBetter g (best (column y)) (worth (λ r. where_so (test y r) (value r)) rows))
        (λ y low sum. sum_within (test y) rows columns (column y) low sum) ys above sums))

  -- ---- the inners of a hyper

  module _ (rows : List Row) (inners : List Inner) (columns : AreColumns rows) (is : IsHyper (map (λ r. r.column) rows) inners) where
    abbrev in_class : Inner → Row → Bool
    in_class i r = proportional r.column i.entries

    abbrev all_columns : List (List Entry)
    all_columns = map (λ (r : Row). r.column) rows

    -- a class is a multiple of its inner, and is worth this multiple
    record IsMultiple (e : List Entry) (rs : List Row) : Type 0 where
      times : ℕ
      total_is : adds (λ r. cond (proportional r.column e) (total r.column) 0) rs ≡ times * total e
      worth_is : worth (λ r. where_so (proportional r.column e) (value r)) rs ≡ pos times *ℤ best e

    module _ (e : List Entry) (inner : IsInner e) where
      multiple_worth : (c : List Entry) → IsColumn c → (times : IsTimes c e) → best c ≡ pos times.factor *ℤ best e
      multiple_worth c column times =
          let some : 0 < times.factor =
          ⊎_elim
          (λ (none : times.factor ≡ 0). absurd (omega (arith, total_positive c column, times.total_is, ap (λ n. n * total e) none)))
          (λ (h : 0 < times.factor). h) (eq-zero-or-pos times.factor) in
          let same : c ≡ map (scaled times.factor) e =
          same_column 0 c (map (scaled times.factor) e) (above_column c column) (above_scaled 0 times.factor e some (above_column e inner.column))
          (λ x. times.weight_is x ∙ sym (weight_at-scaled times.factor e x)) in
          one g (map (scaled times.factor) e) (best c) (pos times.factor *ℤ best e) (subst (λ l. IsVulnerability g l (best c)) same (are c))
          (scales g e times.factor (best e) (are e))

      multiple_more : (r : Row) (rs : List Row) (b : Bool) → proportional r.column e ≡ b → IsColumn r.column → IsMultiple e rs → IsMultiple e (r ∷ rs)
      multiple_more r rs true test column rest =
          let times = times_inner r.column e column inner test in
          let here : cond (proportional r.column e) (total r.column) 0 ≡ total r.column = ap (λ b. cond b (total r.column) 0) test in
          let own : where_so (proportional r.column e) (value r) ≡ value r = ap (λ b. where_so b (value r)) test in
          record {
            times = times.factor + rest.times;
            total_is = omega (arith, here, times.total_is, rest.total_is);
            worth_is = omega (arith, ints, own, multiple_worth r.column column times, rest.worth_is, add_mul (best e) (pos times.factor) (pos rest.times));
          }
      multiple_more r rs false test column rest =
          let here : cond (proportional r.column e) (total r.column) 0 ≡ 0 = ap (λ b. cond b (total r.column) 0) test in
          let own : where_so (proportional r.column e) (value r) ≡ pos 0 = ap (λ b. where_so b (value r)) test in
          record { times = rest.times; total_is = omega (arith, here, rest.total_is); worth_is = omega (arith, ints, own, rest.worth_is) }

      multiples : (rs : List Row) → AreColumns rs → IsMultiple e rs
      multiples [] h = record { times = 0; total_is = omega arith; worth_is = sym (zero-*ℤ (best e)) }
      multiples (r ∷ rs) h = multiple_more r rs (proportional r.column e) refl h.0 (multiples rs h.1)

      -- an inner's joint column is worth what the rows of its class are
      class_worth : (t : ℕ) → t ≡ class_total all_columns e → best (map (scaled (t / total e)) e) ≡ worth (λ r. where_so (proportional r.column e) (value r)) rows
      class_worth t is_total =
          let m = multiples rows columns in
          let whole : t ≡ m.times * total e =
          is_total
          ∙ sum_is (λ c. if proportional c e then total c else 0) all_columns
          ∙ adds_mapped (λ c. if proportional c e then total c else 0) (λ (r : Row). r.column) rows
          ∙ m.total_is in
          let quotient : t / total e ≡ m.times = ap (λ n. n / total e) whole ∙ mul-div_cancel m.times (total_positive e inner.column) in
          ap (λ n. best (map (scaled n) e)) quotient
          ∙ one g (map (scaled m.times) e) (best (map (scaled m.times) e)) (pos m.times *ℤ best e) (are (map (scaled m.times) e))
          (scales g e m.times (best e) (are e))
          ∙ sym m.worth_is

    -- the inners of a hyper are worth what its rows are
    inners_worth : worth (λ i. best (joint_column i)) inners ≡ worth (λ r. best r.column) rows
    inners_worth =
        worth_same (λ i. best (joint_column i)) (λ i. worth (λ r. where_so (in_class i r) (value r)) rows) inners
        (each_both (λ i. IsInner i.entries) (λ i. i.total ≡ class_total all_columns i.entries)
        (λ i. best (joint_column i) ≡ worth (λ r. where_so (in_class i r) (value r)) rows) (λ i inner sum. class_worth i.entries inner i.total sum) inners
        (recursion_from_All (λ (i : Inner). IsInner i.entries) inners is.inner)
        (recursion_from_All (λ (i : Inner). i.total ≡ class_total all_columns i.entries) inners is.totals))
        ∙ each_once in_class value inners rows (in_one rows inners columns is)

    pub posterior_worth : (z : ℤ) → IsPosterior g inners z → z ≡ worth (λ r. best r.column) rows
    posterior_worth z p = posterior_is inners z p ∙ inners_worth
