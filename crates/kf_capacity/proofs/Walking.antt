-- A column gone along once, for values that ascend.
use Rattle.std.proofs.Common.{◌≡◌, ℕ, zero, suc, ◌+◌, ◌<◌, ◌≤◌, List, [], ◌∷◌, drop, length, get_or, refl, sym, ◌∙◌, subst, arith}
use Rattle.std.proofs.lemmas.List.{at_drop_more, at_drop_all}
use Rattle.kf_column.specs.declared.entry.Entry.{Entry}
use Rattle.kf_column.specs.Columns.{IsColumn, weight_at}
use Rattle.kf_column.proofs.Weights.{Above, above_column, weight_at_head, weight_at_other, weight_below}
use Rattle.kf_hyper.proofs.Rising.{Rises}

-- ---- the entries from a place on

one_more : (k : ℕ) → suc k ≡ k + 1
one_more k = omega arith

above_next : (low : ℕ) (es : List Entry) (k : ℕ) (d : Entry) → Above low es → k < length es → Above ((get_or es k d).value + 1) (drop (suc k) es)
above_next low [] k d above within = absurd (omega (arith, within))
above_next low (e ∷ es) zero d (from, some, rest) within = rest
above_next low (e ∷ es) (suc k) d (from, some, rest) within = above_next (e.value + 1) es k d rest (omega (arith, within))

-- what comes after an entry has greater values
above_after : (low : ℕ) (es : List Entry) (k : ℕ) (d : Entry) → Above low es → k < length es → Above ((get_or es k d).value + 1) (drop (k + 1) es)
above_after low es k d above within = subst (λ n. Above ((get_or es k d).value + 1) (drop n es)) (one_more k) (above_next low es k d above within)

module _ (es : List Entry) (k : ℕ) (d : Entry) (within : k < length es) where
  -- an entry of another value gives it nothing
  pub passed : (x : ℕ) → ((get_or es k d).value ≡ x → ⊥) → weight_at (drop (k + 1) es) x ≡ weight_at (drop k es) x
  passed x apart =
      sym (at_drop_more (λ (ys : List Entry). weight_at ys x) es k d within ∙ weight_at_other (get_or es k d) (drop (k + 1) es) x apart)

  pub met : (x : ℕ) → IsColumn es → (get_or es k d).value ≡ x → (get_or es k d).weight ≡ weight_at (drop k es) x
  met x is same =
      let none : weight_at (drop (k + 1) es) x ≡ 0 =
      weight_below ((get_or es k d).value + 1) (drop (k + 1) es) x (above_after 0 es k d (above_column es is) within) (omega (arith, same)) in
      omega (
        arith,
        at_drop_more (λ (ys : List Entry). weight_at ys x) es k d within,
        weight_at_head (get_or es k d) (drop (k + 1) es) x same,
        none,
      )

  pub missed : (x : ℕ) → IsColumn es → x < (get_or es k d).value → 0 ≡ weight_at (drop k es) x
  missed x is less =
      let none : weight_at (drop (k + 1) es) x ≡ 0 =
      weight_below ((get_or es k d).value + 1) (drop (k + 1) es) x (above_after 0 es k d (above_column es is) within) (omega (arith, less)) in
      sym (sym (passed x (λ same. omega (arith, same, less))) ∙ none)

pub at_end : (es : List Entry) (k x : ℕ) → length es ≤ k → weight_at (drop k es) x ≡ 0
at_end es k x past = at_drop_all (λ (ys : List Entry). weight_at ys x) es k past

-- ---- values that ascend

-- what is left gives each of these values what all gives it
abbrev pub Ahead : List Entry → List Entry → ℕ → List ℕ → Type 0
Ahead es rest low [] = Unit {0}
Ahead es rest low (x ∷ xs) = (low ≤ x) × (weight_at rest x ≡ weight_at es x) × Ahead es rest (x + 1) xs

pub ahead_first : (es : List Entry) (low : ℕ) (xs : List ℕ) → Rises low xs → Ahead es es low xs
ahead_first es low [] rises = tt
ahead_first es low (x ∷ xs) (from, rises) = (from, refl, ahead_first es (x + 1) xs rises)

ahead_lower : (es rest : List Entry) (low high : ℕ) (xs : List ℕ) → low ≤ high → Ahead es rest high xs → Ahead es rest low xs
ahead_lower es rest low high [] order ahead = tt
ahead_lower es rest low high (x ∷ xs) order (from, same, ahead) = (omega (arith, from, order), same, ahead)

ahead_next : (es rest next : List Entry) (past low : ℕ) (xs : List ℕ) → past < low → ((x : ℕ) → past < x → weight_at next x ≡ weight_at rest x)
    → Ahead es rest low xs → Ahead es next low xs
ahead_next es rest next past low [] less after ahead = tt
ahead_next es rest next past low (x ∷ xs) less after (from, same, ahead) =
    (from, after x (omega (arith, less, from)) ∙ same, ahead_next es rest next past (x + 1) xs (omega (arith, less, from)) after ahead)

module _ (es rest : List Entry) where
  pub ahead_here : (low : ℕ) (xs : List ℕ) (i : ℕ) → i < length xs → Ahead es rest low (drop i xs)
      → weight_at rest (get_or xs i 0) ≡ weight_at es (get_or xs i 0)
  ahead_here low [] i within ahead = absurd (omega (arith, within))
  ahead_here low (x ∷ xs) zero within (from, same, ahead) = same
  ahead_here low (x ∷ xs) (suc i) within ahead = ahead_here low xs i (omega (arith, within)) ahead

  ahead_suc : (next : List Entry) (xs : List ℕ) (i : ℕ) → i < length xs → ((x : ℕ) → get_or xs i 0 < x → weight_at next x ≡ weight_at rest x)
      → Ahead es rest 0 (drop i xs) → Ahead es next 0 (drop (suc i) xs)
  ahead_suc next [] i within after ahead = absurd (omega (arith, within))
  ahead_suc next (x ∷ xs) zero within after (from, same, ahead) =
      ahead_lower es next 0 (x + 1) xs (omega arith) (ahead_next es rest next x (x + 1) xs (omega arith) after ahead)
  ahead_suc next (x ∷ xs) (suc i) within after ahead = ahead_suc next xs i (omega (arith, within)) after ahead

  pub ahead_more : (next : List Entry) (xs : List ℕ) (i : ℕ) → i < length xs → ((x : ℕ) → get_or xs i 0 < x → weight_at next x ≡ weight_at rest x)
      → Ahead es rest 0 (drop i xs) → Ahead es next 0 (drop (i + 1) xs)
  ahead_more next xs i within after ahead = subst (λ n. Ahead es next 0 (drop n xs)) (one_more i) (ahead_suc next xs i within after ahead)
