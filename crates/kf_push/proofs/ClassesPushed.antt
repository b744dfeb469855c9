-- Columns may be merged before they are pushed: what stands behind a merged column is, class by class, what stands behind its columns.
use Rattle.std.proofs.Common.{◌≡◌, ℕ, ◌+◌, ◌*◌, ◌/◌, ◌<◌, Bool, true, false, cond, List, [], ◌∷◌, All, map, count_by, refl, sym, ap, subst, ◌∙◌, arith, ⊎_elim}
use Rattle.std.specs.Prelude.{if◌then◌else◌}
use Rattle.std.specs.Int.{◌∣◌}
use Rattle.std.specs.List.{AllByRecursion as Each}
use Rattle.std.proofs.Math.Nat.{mul_comm, mul-div_cancel_left, dvd-add}
use Rattle.std.proofs.lemmas.List.Elements.{recursion_from_All, All-from_recursion}
use Rattle.std.proofs.lemmas.List.Sums.{sum_by-cons, sum_by-append}
use Rattle.kf_value.proofs.ListLemmas.{each_weaker, each_both}
use Rattle.kf_column.specs.declared.entry.Entry.{Entry}
use Rattle.kf_column.specs.Averages.{scaled, joint_column}
use Rattle.kf_column.specs.Classes.{HasInner}
use Rattle.kf_column.specs.Columns.{IsColumn, total, proportional}
use Rattle.kf_column.specs.Hypers.{Inner, IsInner, IsHyper, class_total}
use Rattle.kf_column.specs.Merged.{SameBeliefs, AreMerged}
use Rattle.kf_column.proofs.Posteriors.{same_inner}
use Rattle.kf_column.proofs.Proportions.{proportional_all, bool_cases}
use Rattle.kf_column.proofs.Scaling.{total_positive, total-scaled, proportional_reduced}
use Rattle.kf_column.proofs.SomeHyper.{inner_of_column}
use Rattle.kf_core.specs.Pushing.{AreBehind}
use Rattle.kf_core.specs.Ready.{DivideAlong}
use Rattle.kf_core.specs.Runs.{Run}
use Rattle.kf_core.proofs.Sums.{adds, adds_mapped, adds_same, first_positive}
use Rattle.kf_column.proofs.Beliefs.{totals_tell}
use Rattle.kf_push.proofs.Gathers.{adds_swap}
use Rattle.kf_push.proofs.MergedWeights.{merged_hold}
use Rattle.kf_push.proofs.RowColumns.{row_columns, behind_of, behind_is, each_column}
use Rattle.kf_push.proofs.ScaledRows.{Divides, class_total-cons, crossed_totals}

cancel : (f a b : ℕ) → 0 < f → f * a ≡ f * b → a ≡ b
cancel f a b some e = sym (mul-div_cancel_left a some) ∙ ap (λ n. n / f) e ∙ mul-div_cancel_left b some

-- ---- a column of a class is a multiple of its inner

record IsTimes (column inner : List Entry) : Type 0 where
  factor : ℕ
  some : 0 < factor
  multiple : column ≡ map (scaled factor) inner

times_inner : (column inner : List Entry) → IsColumn column → IsInner inner → proportional column inner ≡ true → IsTimes column inner
times_inner column inner is is_inner test =
    let h : HasInner column = inner_of_column column is in
    let same : h.inner ≡ inner =
    same_inner h.inner inner h.is_reduced.is_inner is_inner (proportional_all h.inner inner (sym (proportional_reduced column h.inner inner h.is_reduced) ∙ test)) in
    record { factor = h.is_reduced.factor; some = h.is_reduced.some; multiple = h.is_reduced.multiple ∙ ap (map (scaled h.is_reduced.factor)) same }

-- ---- all that stands behind columns

module _ (from : ℕ → List Run) (inner : List Entry) where
  -- what a column adds to the class behind
  abbrev pub brings : List Entry → ℕ
  brings c = class_total (row_columns from c) inner

  pub behind_total : (columns : List (List Entry)) → class_total (behind_of from columns) inner ≡ adds brings columns
  behind_total [] = refl
  behind_total (c ∷ cs) =
      sum_by-append (λ (c : List Entry). if proportional c inner then total c else 0) (row_columns from c) (behind_of from cs) ∙ ap (λ n. brings c + n) (behind_total cs)

  -- ---- one class before

  abbrev in_class : List Entry → List Entry → ℕ
  in_class k c = cond (proportional c k) (brings c) 0

  module _ (k : List Entry) (is_inner : IsInner k) where
    -- the class of k is so many times k, and brings its share
    record Share (columns : List (List Entry)) : Type 0 where
      times : ℕ
      total_is : class_total columns k ≡ times * total k
      sums : (q : ℕ) → 0 < q → Divides from (map (scaled q) k) → q * adds (in_class k) columns ≡ times * brings (map (scaled q) k)

    taken : (c : List Entry) (cs : List (List Entry)) → IsColumn c → Divides from c → proportional c k ≡ true → Share cs → Share (c ∷ cs)
    taken c cs is divides test rest =
        let t : IsTimes c k = times_inner c k is is_inner test in
        let here : total c ≡ t.factor * total k = ap total t.multiple ∙ total-scaled t.factor k in
        record {
          times = t.factor + rest.times;
          total_is = class_total-cons c cs k ∙ ap (λ b. (if b then total c else 0) + class_total cs k) test ∙ (λ i. here i + rest.total_is i) ∙ omega arith;
          sums = λ q some goes.
              let one : q * brings c ≡ t.factor * brings (map (scaled q) k) =
              crossed_totals from k t.factor q t.some some c (map (scaled q) k) t.multiple refl divides goes inner in
              let others = rest.sums q some goes in
              ap (λ b. q * (cond b (brings c) 0 + adds (in_class k) cs)) test ∙ omega (arith, one, others);
        }

    left : (c : List Entry) (cs : List (List Entry)) → proportional c k ≡ false → Share cs → Share (c ∷ cs)
    left c cs test rest = record {
      times = rest.times;
      total_is = class_total-cons c cs k ∙ ap (λ b. (if b then total c else 0) + class_total cs k) test ∙ omega (arith, rest.total_is);
      sums = λ q some goes.
          let others = rest.sums q some goes in
          ap (λ b. q * (cond b (brings c) 0 + adds (in_class k) cs)) test ∙ omega (arith, others);
    }

    share : (columns : List (List Entry)) → Each IsColumn columns → Each (Divides from) columns → Share columns
    share [] are divides = record { times = 0; total_is = omega arith; sums = λ q some goes. omega arith }
    share (c ∷ cs) are divides =
        let rest = share cs are.1 divides.1 in
        ⊎_elim (λ (h : proportional c k ≡ true). taken c cs are.0 divides.0 h rest) (λ (h : proportional c k ≡ false). left c cs h rest) (bool_cases (proportional c k))

  module _ (columns : List (List Entry)) (are : Each IsColumn columns) (divides : Each (Divides from) columns) where
    class_brings : (i : Inner) → IsInner i.entries → i.total ≡ class_total columns i.entries → 0 < i.total → Divides from (joint_column i)
        → brings (joint_column i) ≡ adds (in_class i.entries) columns
    class_brings i is total_is used goes =
        let k = i.entries in
        let s : Share k is columns = share k is columns are divides in
        let whole : i.total ≡ s.times * total k = total_is ∙ s.total_is in
        let quotient : i.total / total k ≡ s.times = ap (λ n. n / total k) (whole ∙ mul_comm s.times (total k)) ∙ mul-div_cancel_left s.times (total_positive k is.column) in
        let some_times : 0 < s.times = first_positive s.times (total k) (subst (λ n. 0 < n) whole used) in
        let q = i.total / total k in
        let some : 0 < q = subst (λ n. 0 < n) (sym quotient) some_times in
        sym (cancel q (adds (in_class k) columns) (brings (joint_column i)) some (s.sums q some goes ∙ ap (λ n. n * brings (joint_column i)) (sym quotient)))

    each_class : (inners : List Inner) → Each (λ i. IsInner i.entries) inners → Each (λ i. i.total ≡ class_total columns i.entries) inners → Each (λ i. 0 < i.total) inners
        → Each (Divides from) (map joint_column inners) → Each (λ i. brings (joint_column i) ≡ adds (in_class i.entries) columns) inners
    each_class [] is totals used goes = tt
    each_class (i ∷ is) are_inners totals used goes = (class_brings i are_inners.0 totals.0 used.0 goes.0, each_class is are_inners.1 totals.1 used.1 goes.1)

-- ---- each column has one class

counted : {X : Type 0} (p : X → Bool) (k : ℕ) (xs : List X) → adds (λ x. cond (p x) k 0) xs ≡ k * count_by p xs
counted p k [] = omega arith
counted {X} p k (x ∷ xs) = ap (λ n. cond (p x) k 0 + n) (counted p k xs) ∙ one_more (p x) (count_by p xs) ∙ ap (λ n. k * n) (sym (sum_by-cons (λ (x : X). if p x then 1 else 0) x xs))
  where
    one_more : (b : Bool) (n : ℕ) → cond b k 0 + k * n ≡ k * ((if b then 1 else 0) + n)
    one_more true n = omega arith
    one_more false n = omega arith

module _ (from : ℕ → List Run) (inner : List Entry) (inners : List Inner) where
  in_its_class : (c : List Entry) → IsColumn c → (0 < total c → count_by (λ (i : Inner). proportional c i.entries) inners ≡ 1)
      → adds (λ i. cond (proportional c i.entries) (brings from inner c) 0) inners ≡ brings from inner c
  in_its_class c is once =
      counted (λ (i : Inner). proportional c i.entries) (brings from inner c) inners ∙ ap (λ n. brings from inner c * n) (once (total_positive c is)) ∙ omega arith

pub each_divides : (from : ℕ → List Run) (columns : List (List Entry)) → DivideAlong from columns → Each (Divides from) columns
each_divides from columns divide =
    each_weaker (λ c. All (λ e. All (λ r. r.scale ∣ e.weight) (from e.value)) c) (Divides from)
    (λ c h. each_weaker (λ e. All (λ r. r.scale ∣ e.weight) (from e.value)) (λ e. Each (λ r. r.scale ∣ e.weight) (from e.value))
    (λ e. recursion_from_All (λ r. r.scale ∣ e.weight) (from e.value)) c (recursion_from_All (λ e. All (λ r. r.scale ∣ e.weight) (from e.value)) c h))
    columns (recursion_from_All (λ c. All (λ e. All (λ r. r.scale ∣ e.weight) (from e.value)) c) columns divide)

module _ (from : ℕ → List Run) (columns merged : List (List Entry)) (are : All IsColumn columns) (divide : DivideAlong from columns) (m : AreMerged columns merged) where
  merged_divide : Each (Divides from) merged
  merged_divide =
      merged_hold (λ n w. Each (λ r. r.scale ∣ w) (from n))
      (λ n a b. each_both (λ r. r.scale ∣ a) (λ r. r.scale ∣ b) (λ r. r.scale ∣ a + b) (λ r da db. dvd-add r.scale da db) (from n))
      columns merged are m (each_divides from columns divide)

  pub merged_brings : (inner : List Entry) → adds (brings from inner) columns ≡ adds (brings from inner) merged
  merged_brings inner =
      let f = brings from inner in
      let inners = m.inners in
      let h : IsHyper columns m.inners = m.is_hyper in
      let columns_are = recursion_from_All IsColumn columns are in
      let Once : List Entry → Type 0 = λ c. 0 < total c → count_by (λ (i : Inner). proportional c i.entries) inners ≡ 1 in
      sym (adds_same (λ c. adds (λ i. cond (proportional c i.entries) (f c) 0) inners) f columns
      (each_both IsColumn Once (λ c. adds (λ i. cond (proportional c i.entries) (f c) 0) inners ≡ f c) (in_its_class from inner inners) columns columns_are (recursion_from_All Once columns h.covered)))
      ∙ adds_swap (λ c i. cond (proportional c i.entries) (f c) 0) columns inners
      ∙ sym (adds_same (λ i. f (joint_column i)) (λ i. adds (λ c. cond (proportional c i.entries) (f c) 0) columns) inners
      (each_class from inner columns columns_are (each_divides from columns divide) inners (recursion_from_All (λ (i : Inner). IsInner i.entries) inners h.inner)
      (recursion_from_All (λ (i : Inner). i.total ≡ class_total columns i.entries) inners h.totals) (recursion_from_All (λ (i : Inner). 0 < i.total) inners h.used)
      (subst (Each (Divides from)) m.sums merged_divide)))
      ∙ sym (adds_mapped f joint_column inners) ∙ ap (adds f) (sym m.sums)

  pub merging_commutes : (behind others : List (List Entry)) → AreBehind from columns behind → AreBehind from merged others → SameBeliefs behind others
  merging_commutes behind others b o =
      totals_tell behind others (are_columns columns behind b) (are_columns merged others o) (λ inner is.
      ap (λ l. class_total l inner) (behind_is from columns behind b) ∙ behind_total from inner columns ∙ merged_brings inner
      ∙ sym (behind_total from inner merged) ∙ ap (λ l. class_total l inner) (sym (behind_is from merged others o)))
    where
      are_columns : (before after : List (List Entry)) → AreBehind from before after → All IsColumn after
      are_columns before after b = All-from_recursion IsColumn after (subst (Each IsColumn) (sym (behind_is from before after b)) (each_column from before))
