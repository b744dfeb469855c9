-- Rows have secrets: the numbers up to a bound that have a weight.
use Rattle.std.proofs.Common.{◌≡◌, ℕ, zero, suc, ◌+◌, ◌<◌, ◌≤◌, List, [], ◌∷◌, Contains, refl, sym, ◌∙◌, arith, ⊎_elim}
use Rattle.std.proofs.lemmas.Bool.{cases_eq}
use Rattle.std.proofs.lemmas.List.Sums.{sum_by-cons}
use Rattle.kf_column.specs.declared.entry.Entry.{Entry}
use Rattle.kf_column.specs.Columns.{weight_at, values}
use Rattle.kf_column.specs.Traces.{Row, value_weight}
use Rattle.kf_column.proofs.Weights.{Above, weight_at_head, weight_at_other, weight_below, ascending_above, column_above}
use Rattle.kf_channel.specs.Laws.{SomeSecrets}
use Rattle.kf_channel.proofs.Secrets.{named, weighs}

-- ---- a bound past which nothing has a weight

bound : (es : List Entry) → (b : ℕ) × ((x : ℕ) → b ≤ x → weight_at es x ≡ 0)
bound [] = (0, λ x l. refl)
bound (e ∷ es) =
    let rest : (b : ℕ) × ((x : ℕ) → b ≤ x → weight_at es x ≡ 0) = bound es in
    (e.value + 1 + rest.0, λ x l. weight_at_other e es x (λ same. omega (arith, l, same)) ∙ rest.1 x (omega (arith, l)))

rows_bound : (rows : List Row) → (b : ℕ) × ((x : ℕ) → b ≤ x → value_weight rows x ≡ 0)
rows_bound [] = (0, λ x l. refl)
rows_bound (r ∷ rows) =
    let here : (b : ℕ) × ((x : ℕ) → b ≤ x → weight_at r.column x ≡ 0) = bound r.column in
    let rest : (b : ℕ) × ((x : ℕ) → b ≤ x → value_weight rows x ≡ 0) = rows_bound rows in
    (here.0 + rest.0, λ x l. omega (arith, sum_by-cons (λ (r : Row). weight_at r.column x) r rows, here.1 x (omega (arith, l)), rest.1 x (omega (arith, l))))

-- ---- the numbers with a weight, as a column

record Lists (f : ℕ → ℕ) (low : ℕ) : Type 0 where
  column : List Entry
  above : Above low column
  same : (x : ℕ) → low ≤ x → weight_at column x ≡ f x

lower : (low : ℕ) (column : List Entry) → Above (low + 1) column → Above low column
lower low [] above = tt
lower low (e ∷ es) (from, some, rest) = (omega (arith, from), some, rest)

lists : (f : ℕ → ℕ) (n low : ℕ) → ((x : ℕ) → low + n ≤ x → f x ≡ 0) → Lists f low
lists f zero low none = record { column = []; above = tt; same = λ x l. sym (none x (omega (arith, l))) }
lists f (suc n) low none =
    let rest : Lists f (low + 1) = lists f n (low + 1) (λ x l. none x (omega (arith, l))) in
    ⊎_elim
    (λ (zero_here : f low ≡ 0).
    record {
      column = rest.column;
      above = lower low rest.column rest.above;
      same = λ x l. ⊎_elim
          (λ (e : low ≡ x). omega (arith, weight_below (low + 1) rest.column low rest.above (omega arith), zero_here, at (weight_at rest.column) low x e, at f low x e))
          (λ (d : low ≡ x → ⊥). rest.same x (omega arith))
          (cases_eq low x);
    })
    (λ (some : f low ≡ 0 → ⊥).
    let e : Entry = record { value = low; weight = f low } in
    record {
      column = record { value = low; weight = f low } ∷ rest.column;
      above = (omega arith, omega arith, rest.above);
      same = λ x l. ⊎_elim
          (λ (e : low ≡ x).
          omega (
            arith,
            weight_at_head (record { value = low; weight = f low }) rest.column x e,
            weight_below (low + 1) rest.column low rest.above (omega arith),
            at (weight_at rest.column) low x e,
            at f low x e,
          ))
          (λ (d : low ≡ x → ⊥). weight_at_other (record { value = low; weight = f low }) rest.column x d ∙ rest.same x (omega arith))
          (cases_eq low x);
    })
    (cases_eq (f low) 0)
  where
    at : (g : ℕ → ℕ) (a b : ℕ) → a ≡ b → g a ≡ g b
    at g a b e = λ i. g (e i)

named_weighs : (es : List Entry) (x : ℕ) → Above 0 es → Contains (values es) x → 0 < weight_at es x
named_weighs [] x above (k, within, is) = absurd (omega (arith, within))
named_weighs (e ∷ es) x above here = weighs (e ∷ es) x (column_above 0 (e ∷ es) above (λ none. absurd (cc))) here

pub some_secrets : SomeSecrets
some_secrets rows =
    let b : (b : ℕ) × ((x : ℕ) → b ≤ x → value_weight rows x ≡ 0) = rows_bound rows in
    let l : Lists (value_weight rows) 0 = lists (value_weight rows) b.0 0 (λ x h. b.1 x (omega (arith, h))) in (
      values l.column,
      record {
        ascending = ascending_above 0 l.column l.above;
        listed = λ x. (
          (λ (h : Contains (values l.column) x). omega (arith, l.same x (omega arith), named_weighs l.column x l.above h)),
          (λ (h : 0 < value_weight rows x). named l.column x (omega (arith, l.same x (omega arith), h))),
        );
      },
    )
