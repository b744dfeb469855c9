-- What holds of the weights of columns, and of their sums, holds of the weights of merged columns.
use Rattle.std.proofs.Common.{◌≡◌, ℕ, ◌+◌, ◌<◌, ◌==◌, Bool, true, false, List, [], ◌∷◌, All, refl, sym, subst, arith, ◌⊎◌, inl, inr, ⊎_elim}
use Rattle.std.specs.Prelude.{if◌then◌else◌}
use Rattle.std.specs.List.{AllByRecursion as Each}
use Rattle.std.proofs.lemmas.Bool.{eqb-true, cases_eq}
use Rattle.std.proofs.lemmas.List.Sums.{sum_by-cons}
use Rattle.std.proofs.lemmas.List.Elements.{recursion_from_All}
use Rattle.kf_value.proofs.ListLemmas.{each_both}
use Rattle.kf_column.specs.declared.entry.Entry.{Entry}
use Rattle.kf_column.specs.Columns.{IsColumn, weight_at, proportional}
use Rattle.kf_column.specs.Laws.{class_weight}
use Rattle.kf_column.specs.Merged.{AreMerged}
use Rattle.kf_column.proofs.Posteriors.{weight_of_head}
use Rattle.kf_column.proofs.Weights.{Above, above_column, weight_at-cons, weight_at_other, weight_below}
use Rattle.kf_column.proofs.Beliefs.{merged_columns, merged_weights}

module _ (P : ℕ → ℕ → Type 0) where
  -- there is no weight, or it holds of it
  abbrev pub Here : ℕ → ℕ → Type 0
  Here x w = (w ≡ 0) ⊎ P x w

  some_here : (x w : ℕ) → 0 < w → Here x w → P x w
  some_here x w some (inl e) = absurd (omega (arith, some, e))
  some_here x w some (inr p) = p

  pub entries_hold : (low : ℕ) (column : List Entry) → Above low column → ((x : ℕ) → Here x (weight_at column x)) → Each (λ e. P e.value e.weight) column
  entries_hold low [] above h = tt
  entries_hold low (e ∷ es) above h =
      let own : weight_at (e ∷ es) e.value ≡ e.weight = weight_of_head low e es above in (
        some_here e.value e.weight above.1 (subst (Here e.value) own (h e.value)),
        entries_hold (e.value + 1) es above.2 (λ x.
            ⊎_elim
            (λ (same : x ≡ e.value). inl (weight_below (e.value + 1) es x above.2 (omega (arith, same))))
            (λ (other : x ≡ e.value → ⊥). subst (Here x) (weight_at_other e es x (λ same. other (sym same))) (h x))
            (cases_eq x e.value)),
      )

module _ (P : ℕ → ℕ → Type 0) (closed : (x a b : ℕ) → P x a → P x b → P x (a + b)) where
  pub here_plus : (x a b c : ℕ) → c ≡ a + b → Here P x a → Here P x b → Here P x c
  here_plus x a b c is (inl e) (inl f) = inl (omega (arith, is, e, f))
  here_plus x a b c is (inl e) (inr q) = let same : b ≡ c = omega (arith, is, e) in inr (subst (P x) same q)
  here_plus x a b c is (inr p) (inl f) = let same : a ≡ c = omega (arith, is, f) in inr (subst (P x) same p)
  here_plus x a b c is (inr p) (inr q) = inr (subst (P x) (sym is) (closed x a b p q))

  part_here : (e : Entry) (x : ℕ) (b : Bool) → (e.value == x) ≡ b → P e.value e.weight → Here P x (if b then e.weight else 0)
  part_here e x true is p = inr (subst (λ (y : ℕ). P y e.weight) (eqb-true e.value x is) p)
  part_here e x false is p = inl refl

  pub weight_here : (column : List Entry) → Each (λ e. P e.value e.weight) column → (x : ℕ) → Here P x (weight_at column x)
  weight_here [] h x = inl refl
  weight_here (e ∷ es) h x =
      here_plus x (if e.value == x then e.weight else 0) (weight_at es x) (weight_at (e ∷ es) x) (weight_at-cons e es x)
      (part_here e x (e.value == x) refl h.0) (weight_here es h.1 x)

  either_here : (x w : ℕ) (b : Bool) → Here P x w → Here P x (if b then w else 0)
  either_here x w true h = h
  either_here x w false h = inl refl

  class_here : (inner : List Entry) (columns : List (List Entry)) → Each (Each (λ e. P e.value e.weight)) columns → (x : ℕ)
      → Here P x (class_weight columns inner x)
  class_here inner [] h x = inl refl
  class_here inner (c ∷ cs) h x =
      here_plus x (if proportional c inner then weight_at c x else 0) (class_weight cs inner x) (class_weight (c ∷ cs) inner x)
      (sum_by-cons (λ (c : List Entry). if proportional c inner then weight_at c x else 0) c cs)
      (either_here x (weight_at c x) (proportional c inner) (weight_here c h.0 x)) (class_here inner cs h.1 x)

  pub merged_hold : (columns merged : List (List Entry)) → All IsColumn columns → AreMerged columns merged → Each (Each (λ e. P e.value e.weight)) columns
      → Each (Each (λ e. P e.value e.weight)) merged
  merged_hold columns merged are m h =
      each_both IsColumn (λ m. (x : ℕ) → weight_at m x ≡ class_weight columns m x) (Each (λ e. P e.value e.weight))
      (λ c is weights. entries_hold P 0 c (above_column c is) (λ x. subst (Here P x) (sym (weights x)) (class_here c columns h x))) merged
      (recursion_from_All IsColumn merged (merged_columns columns merged are m))
      (recursion_from_All (λ m. (x : ℕ) → weight_at m x ≡ class_weight columns m x) merged (merged_weights columns merged are m))
