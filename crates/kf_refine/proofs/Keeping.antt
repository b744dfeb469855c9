-- The smallest values of each ratio are those that are kept.
use Rattle.std.proofs.Common.{◌≡◌, ℕ, ◌+◌, ◌*◌, ◌/◌, ◌<◌, ◌≤◌, ◌-◌, Bool, true, false, List, [], ◌∷◌, ◌++◌, All, Option, Some, None, Vec, Result, Ok, Err, length, if◌then◌else◌, nat_lt, refl, sym, ap, subst, ◌∙◌, arith, append-nil, true≢false}
use Rattle.std.specs.Prelude.{IsSome, IfOk}
use Rattle.std.specs.declared.alloc.Global.{Global}
use Rattle.std.specs.Int.{◌∣◌}
use Rattle.std.proofs.Math.Nat.{div-mul_cancel}
use Rattle.std.proofs.lemmas.Bool.Decides.{nat_tests}
use Rattle.std.proofs.lemmas.List.{get_or_past}
use Rattle.std.proofs.lemmas.List.Elements.{All-head, All-tail}
use Rattle.kf_column.specs.declared.entry.Entry.{Entry}
use Rattle.kf_hyper.specs.declared.hyper.Hyper.{Hyper}
use Rattle.kf_column.specs.Averages.{joint_weight, average_weight}
use Rattle.kf_column.specs.Columns.{IsColumn, weight_at, total}
use Rattle.kf_column.specs.Hypers.{Inner, IsInner}
use Rattle.kf_hyper.specs.Views.{inners_of}
use Rattle.kf_column.proofs.Weights.{Above, above_column, column_above}
use Rattle.kf_value.specs.declared.mem.Mem.{Mem}
use Rattle.kf_refine.specs.Equations.{AreKept, HasWeight, InRatio, weight_in}
use Rattle.kf_refine.specs.Refinements.{joint}
use Rattle.kf_refine.specs.Rows.{Rows, Grows, AreFilled, AreAlike, AreSmallest, found, row_of, row_at, row_from}
use Rattle.kf_refine.specs.Views.{hyper_tree}
use Rattle.kf_refine.proofs.Pushing.{positive_factor}
use Rattle.kf_refine.proofs.RowWeights.{AreShares, above_row, row_total, row_before, row_weight, total-append, weight_at-append}

-- ---- the inners of a hyper

shares_of : (inners : List Inner) → All (λ (i : Inner). IsInner i.entries) inners → All (λ (i : Inner). 0 < i.total) inners
    → All (λ (i : Inner). total i.entries ∣ i.total) inners → AreShares inners
shares_of [] proper used whole = tt
shares_of (i ∷ is) proper used whole = (
  above_column i.entries (All-head (λ (i : Inner). IsInner i.entries) i is proper).column,
  positive_factor (i.total / total i.entries) (total i.entries) i.total
      (div-mul_cancel (total i.entries) (All-head (λ (i : Inner). total i.entries ∣ i.total) i is whole)) (All-head (λ (i : Inner). 0 < i.total) i is used),
  shares_of is (All-tail (λ (i : Inner). IsInner i.entries) i is proper) (All-tail (λ (i : Inner). 0 < i.total) i is used)
      (All-tail (λ (i : Inner). total i.entries ∣ i.total) i is whole),
)

pub are_shares : (h : Hyper) → AreShares (inners_of h)
are_shares h = shares_of (inners_of h) h.shape.inner h.shape.used h.shape.multiple

-- ---- the rows of two hypers

module _ (a b : Hyper) (rows : Rows) where
  -- the row of each value has its weights, first those of a, then those of b
  abbrev pub HasRows : Type 0
  HasRows = (x : ℕ) → row_at rows x ≡ row_from 0 (inners_of a) x ++ row_from (length (inners_of a)) (inners_of b) x

  module _ (is : HasRows) (filled : AreFilled rows) where
    above : (x : ℕ) → Above 0 (row_at rows x)
    above x =
        subst (Above 0) (sym (is x))
        (above_row 0 (inners_of a) (row_from (length (inners_of a)) (inners_of b) x) x (are_shares a)
        (subst (Above (0 + length (inners_of a))) (append-nil (row_from (length (inners_of a)) (inners_of b) x))
        (subst (λ n. Above n (row_from (length (inners_of a)) (inners_of b) x ++ [])) (omega arith) (above_row (length (inners_of a)) (inners_of b) [] x (are_shares b) tt))))

    pub row_column : (x : ℕ) → IsSome (found rows x) → IsColumn (row_at rows x)
    row_column x some = column_above 0 (row_at rows x) (above x) (λ empty. let h = filled x some in omega (arith, h, ap total empty))

    sum_is : (x : ℕ) → total (row_at rows x) ≡ average_weight (inners_of a) x + average_weight (inners_of b) x
    sum_is x =
        ap total (is x) ∙ (total-append (row_from 0 (inners_of a) x) (row_from (length (inners_of a)) (inners_of b) x)
        ∙ (λ k. row_total 0 (inners_of a) x k + row_total (length (inners_of a)) (inners_of b) x k))

    some_weight : (x : ℕ) → IsSome (found rows x) → HasWeight (hyper_tree a) (hyper_tree b) x
    some_weight x some = let h = filled x some in omega (arith, h, sum_is x)

    of_option : (o : Option (Vec Entry Global)) → 0 < total (row_of o) → IsSome o
    of_option None h = absurd (omega (arith, h))
    of_option (Some row) h = refl

    weight_some : (x : ℕ) → HasWeight (hyper_tree a) (hyper_tree b) x → IsSome (found rows x)
    weight_some x has = of_option (found rows x) (omega (arith, has, sum_is x))

    parts : (x k : ℕ) → weight_at (row_at rows x) k ≡ weight_at (row_from 0 (inners_of a) x) k + weight_at (row_from (length (inners_of a)) (inners_of b) x) k
    parts x k = ap (λ l. weight_at l k) (is x) ∙ weight_at-append (row_from 0 (inners_of a) x) (row_from (length (inners_of a)) (inners_of b) x) k

    of_a : (x k : ℕ) → weight_at (row_from 0 (inners_of a) x) k ≡ joint (hyper_tree a) x k
    of_a x k = ap (weight_at (row_from 0 (inners_of a) x)) (omega arith) ∙ row_weight 0 (inners_of a) x k

    in_a : (x k : ℕ) → k < length (inners_of a) → weight_at (row_at rows x) k ≡ joint (hyper_tree a) x k
    in_a x k within = omega (arith, parts x k, of_a x k, row_before (length (inners_of a)) (inners_of b) x k within)

    in_b : (x k : ℕ) → length (inners_of a) ≤ k → weight_at (row_at rows x) k ≡ joint (hyper_tree b) x (k - length (inners_of a))
    in_b x k past =
        let nothing : joint (hyper_tree a) x k ≡ 0 = ap (joint_weight x) (get_or_past (inners_of a) k (record { entries = []; total = 0 }) past) in
        let there : k ≡ length (inners_of a) + (k - length (inners_of a)) = omega (arith, past) in
        let second : weight_at (row_from (length (inners_of a)) (inners_of b) x) k ≡ joint (hyper_tree b) x (k - length (inners_of a)) =
        ap (weight_at (row_from (length (inners_of a)) (inners_of b) x)) there ∙ row_weight (length (inners_of a)) (inners_of b) x (k - length (inners_of a)) in
        omega (arith, parts x k, of_a x k, nothing, second)

    by_test : (x k : ℕ) (t : Bool) → t ≡ nat_lt k (length (inners_of a))
        → weight_at (row_at rows x) k ≡ (if t then joint (hyper_tree a) x k else joint (hyper_tree b) x (k - length (inners_of a)))
    by_test x k true test = in_a x k (grind (arith, nat_tests))
    by_test x k false test = in_b x k (grind (arith, nat_tests))

    weight_is : (x k : ℕ) → weight_at (row_at rows x) k ≡ weight_in (hyper_tree a) (hyper_tree b) x k
    weight_is x k = by_test x k (nat_lt k (length (inners_of a))) refl

    ratio_alike : (x y : ℕ) → InRatio (hyper_tree a) (hyper_tree b) x y → AreAlike (row_at rows x) (row_at rows y)
    ratio_alike x y ratio k l = (λ j. weight_is x k j * weight_is y l j) ∙ (ratio k l ∙ sym (λ j. weight_is x l j * weight_is y k j))

    alike_ratio : (x y : ℕ) → AreAlike (row_at rows x) (row_at rows y) → InRatio (hyper_tree a) (hyper_tree b) x y
    alike_ratio x y alike k l = sym (λ j. weight_is x k j * weight_is y l j) ∙ (alike k l ∙ (λ j. weight_is x l j * weight_is y k j))

    pub are_kept : (values : List ℕ) → AreSmallest rows values → AreKept (hyper_tree a) (hyper_tree b) values
    are_kept values had = record {
      ascending = had.ascending;
      kept = λ x. (
        λ h. let r = (had.smallest x).0 h in (some_weight x r.0, λ y less has ratio. r.1 y less (weight_some y has) (ratio_alike x y ratio)),
        λ h. (had.smallest x).1 (weight_some x h.0, λ y less some alike. h.1 y less (some_weight y some) (alike_ratio x y alike)),
      );
    }

-- the rows after the inners of both
pub both_rows : (a b : Hyper) (n : ℕ) (empty mid rows : Rows) → empty ≡ [] → n ≡ length (inners_of a) → Grows (row_from 0 (inners_of a)) empty mid
    → Grows (row_from n (inners_of b)) mid rows → HasRows a b rows
both_rows a b n empty mid rows none many first second x =
    second x ∙ ap (λ m. row_at mid x ++ row_from m (inners_of b) x) many
    ∙ ap (λ l. l ++ row_from (length (inners_of a)) (inners_of b) x) (first x ∙ ap (λ e. row_at e x ++ row_from 0 (inners_of a) x) none)

-- none of them is empty
no_rows : AreFilled []
no_rows x some = absurd (true≢false (sym some))

pub both_filled : (empty mid rows : Rows) → empty ≡ [] → (AreFilled empty → AreFilled mid) → (AreFilled mid → AreFilled rows) → AreFilled rows
both_filled empty mid rows none first second = second (first (subst AreFilled (sym none) no_rows))

-- what holds of the outcome where there is one
pub kept_outcome : {P Q : Vec ℕ Global → Type 0} (r : Result (Vec ℕ Global) Mem) → ((v : Vec ℕ Global) → P v → Q v) → IfOk r P → IfOk r Q
kept_outcome (Ok v) f h = f v h
kept_outcome (Err e) f h = h
