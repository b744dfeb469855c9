-- One column alone is merged already.
use Rattle.std.proofs.Common.{◌≡◌, ℕ, ◌<◌, List, [], ◌∷◌, Bool, true, false, if◌then◌else◌, refl, sym, ap, subst, ◌∙◌, arith, true≢false}
use Rattle.std.specs.List.{IsDistinct}
use Rattle.std.proofs.lemmas.List.Elements.{All-cons, All-nil, All-head, All-tail}
use Rattle.std.proofs.Math.Nat.{add-zero}
use Rattle.kf_core.proofs.Sums.{sum_is}
use Rattle.kf_column.specs.declared.entry.Entry.{Entry}
use Rattle.kf_column.specs.Columns.{IsColumn, weight_at, proportional}
use Rattle.kf_column.specs.Laws.{class_weight}
use Rattle.kf_column.specs.Merged.{AreMerged}
use Rattle.kf_column.proofs.Scaling.{proportional_itself}
use Rattle.kf_column.proofs.Weights.{above_column, same_column, weight_at_head}
use Rattle.kf_column.proofs.Beliefs.{merged_columns, merged_has, merged_weights, merged_distinct}

module _ (column : List Entry) where
  class_alone : (m : List Entry) (x : ℕ) → class_weight (column ∷ []) m x ≡ (if proportional column m then weight_at column x else 0)
  class_alone m x = sum_is (λ c. if proportional c m then weight_at c x else 0) (column ∷ []) ∙ add-zero _

  -- a column with weights of this one's class alone is this one
  same_as : (m : List Entry) → IsColumn column → IsColumn m → ((x : ℕ) → weight_at m x ≡ class_weight (column ∷ []) m x) → (b : Bool)
      → proportional column m ≡ b → m ≡ column
  same_as m is there weights true alike =
      same_column 0 m column (above_column m there) (above_column column is)
      (λ x. weights x ∙ (class_alone m x ∙ ap (λ (b : Bool). if b then weight_at column x else 0) alike))
  same_as [] is there weights false alike = absurd (there.some refl)
  same_as (e ∷ es) is there weights false alike =
      let none : weight_at (e ∷ es) e.value ≡ 0 =
      weights e.value ∙ (class_alone (e ∷ es) e.value ∙ ap (λ (b : Bool). if b then weight_at column e.value else 0) alike) in
      absurd (omega (arith, none, weight_at_head e es e.value refl, All-head (λ (f : Entry). 0 < f.weight) e es there.positive))

  pub merged_one : (merged : List (List Entry)) → IsColumn column → AreMerged (column ∷ []) merged → merged ≡ column ∷ []
  unfolding IsDistinct
  merged_one [] is m =
      let has = merged_has (column ∷ []) [] (All-cons IsColumn column [] is (All-nil IsColumn)) m column (0, omega arith, refl) in
      absurd (omega (arith, has.1.1))
  merged_one (u ∷ []) is m =
      let are = All-cons IsColumn column [] is (All-nil IsColumn) in
      let there = All-head IsColumn u [] (merged_columns (column ∷ []) (u ∷ []) are m) in
      ap (λ c. c ∷ []) (same_as u is there (All-head (λ v. (x : ℕ) → weight_at v x ≡ class_weight (column ∷ []) v x) u []
      (merged_weights (column ∷ []) (u ∷ []) are m)) (proportional column u) refl)
  merged_one (u ∷ v ∷ ms) is m =
      let are = All-cons IsColumn column [] is (All-nil IsColumn) in
      let columns = merged_columns (column ∷ []) (u ∷ v ∷ ms) are m in
      let weights = merged_weights (column ∷ []) (u ∷ v ∷ ms) are m in
      let one = same_as u is (All-head IsColumn u (v ∷ ms) columns)
      (All-head (λ w. (x : ℕ) → weight_at w x ≡ class_weight (column ∷ []) w x) u (v ∷ ms) weights) (proportional column u) refl in
      let rest = All-tail (λ w. (x : ℕ) → weight_at w x ≡ class_weight (column ∷ []) w x) u (v ∷ ms) weights in
      let other = same_as v is (All-head IsColumn v ms (All-tail IsColumn u (v ∷ ms) columns))
      (All-head (λ w. (x : ℕ) → weight_at w x ≡ class_weight (column ∷ []) w x) v ms rest) (proportional column v) refl in
      let alike : proportional u v ≡ true = subst (λ w. proportional u w ≡ true) (one ∙ sym other) (proportional_itself u) in
      let apart : proportional u v ≡ false = (merged_distinct (column ∷ []) (u ∷ v ∷ ms) are m).0.0 in
      absurd (true≢false (sym alike ∙ apart))
