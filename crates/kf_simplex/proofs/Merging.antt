-- What is left of rows behind a column.
use Rattle.std.proofs.Common.{◌≡◌, ℕ, ◌+◌, ◌<◌, ◌≤◌, refl, sym, ap, ◌∙◌, subst, ⊎_elim, arith, List, [], ◌∷◌, drop, get_or, length}
use Rattle.std.proofs.Math.IntN.{ℤ, pos}
use Rattle.std.proofs.lemmas.Int.{ints}
use Rattle.std.proofs.lemmas.Bool.{cases_lt}
use lib.Signed.{◌≤ℤ◌}
use Rattle.std.proofs.lemmas.List.{drop_more, drop_all}
use Rattle.kf_simplex.specs.declared.row.Entry.{Entry}
use Rattle.kf_simplex.specs.Entries.{no_entry, number_in, Ascends, IsTaken, IsLeast}
use Rattle.kf_simplex.proofs.Entries.{at_below, taken_head}

-- from a column on, `left` is all of the row
pub record IsLeft (row left : List Entry) (low : ℕ) : Type 0 where
  pub ascending : Ascends low left
  pub same : (j : ℕ) → low ≤ j → number_in row j ≡ number_in left j

pub left_all : (row : List Entry) → Ascends 0 row → IsLeft row row 0
left_all row up = record { ascending = up; same = λ j l. refl }

pub left_empty : (row : List Entry) (low : ℕ) → IsLeft row [] low → (j : ℕ) → low ≤ j → number_in row j ≡ pos 0
left_empty row low h j l = h.same j l

-- what is taken is the row's number there, nothing stands before it, and the rest is left
pub left_here : (row left : List Entry) (low column : ℕ) (x : ℤ) (rest : List Entry) → low ≤ column → IsLeft row left low → IsTaken left column x rest → number_in row column ≡ x
left_here row left low column x rest l h t = h.same column l ∙ t.here

pub left_gap : (row left : List Entry) (low column : ℕ) (x : ℤ) (rest : List Entry) → IsLeft row left low → IsTaken left column x rest
    → (j : ℕ) → low ≤ j → j < column → number_in row j ≡ pos 0
left_gap row left low column x rest h t j l m =
    h.same j l ∙ t.other j (λ same. omega arith) ∙ at_below (column + 1) rest j t.above (omega arith)

pub left_more : (row left : List Entry) (low column : ℕ) (x : ℤ) (rest : List Entry) → low ≤ column → IsLeft row left low → IsTaken left column x rest → IsLeft row rest (column + 1)
left_more row left low column x rest l h t = record {
  ascending = t.above;
  same = λ j m. h.same j (omega arith) ∙ t.other j (λ same. omega arith);
}

-- the head of what is left in a row that is read from its start
pub left_head : (row items : List Entry) (k low : ℕ) → items ≡ row → k < length items → Ascends low (drop k row)
    → (low ≤ (get_or items k no_entry).column) × IsTaken (drop k row) (get_or items k no_entry).column (get_or items k no_entry).number (drop (k + 1) row)
left_head row items k low same l up =
    let split : drop k row ≡ get_or items k no_entry ∷ drop (k + 1) row = rw (sym same) (drop_more items k no_entry l) in
    let up' = rw split at up in
    (up'.0, rw split (taken_head low (get_or items k no_entry) (drop (k + 1) row) up'))

-- a column before the head of what is left
pub left_missing : (row items : List Entry) (k low column : ℕ) → items ≡ row → k < length items → Ascends low (drop k row) → column < (get_or items k no_entry).column
    → number_in (drop k row) column ≡ pos 0
left_missing row items k low column same l up before =
    let h = left_head row items k low same l up in
    h.1.other column (λ q. absurd (omega arith)) ∙ at_below ((get_or items k no_entry).column + 1) (drop (k + 1) row) column h.1.above (omega arith)

-- nothing is left at the end
pub left_end : (row items : List Entry) (k low : ℕ) → items ≡ row → length items ≤ k → IsLeft row (drop k row) low → (j : ℕ) → low ≤ j → number_in row j ≡ pos 0
left_end row items k low same l h j m =
    let none : drop k row ≡ [] = rw (sym same) (drop_all k items l) in
    h.same j m ∙ ap (λ (es : List Entry). number_in es j) none

-- of two rows at once
pub record AreLeft (row other xs ys : List Entry) (low : ℕ) : Type 0 where
  pub first : IsLeft row xs low
  pub second : IsLeft other ys low

pub left_both : (row other : List Entry) → Ascends 0 row → Ascends 0 other → AreLeft row other row other 0
left_both row other up up' = record { first = left_all row up; second = left_all other up' }

pub low_is : (row other xs ys : List Entry) (low column : ℕ) (x y : ℤ) (after_x after_y : List Entry) → AreLeft row other xs ys low → IsLeast xs ys column x y after_x after_y → low ≤ column
low_is row other xs ys low column x y after_x after_y h l = l.from low h.first.ascending h.second.ascending

pub left_after : (row other xs ys : List Entry) (low column : ℕ) (x y : ℤ) (after_x after_y : List Entry) → AreLeft row other xs ys low → IsLeast xs ys column x y after_x after_y
    → AreLeft row other after_x after_y (column + 1)
left_after row other xs ys low column x y after_x after_y h l =
    let order = low_is row other xs ys low column x y after_x after_y h l in
    record { first = left_more row xs low column x after_x order h.first l.first; second = left_more other ys low column y after_y order h.second l.second }

-- ---- up to the first positive entry

pub none_before : (row items : List Entry) (k low : ℕ) → items ≡ row → k < length items → IsLeft row (drop k row) low → ((j : ℕ) → j < low → number_in row j ≤ℤ pos 0)
    → (j : ℕ) → j < (get_or items k no_entry).column → number_in row j ≤ℤ pos 0
none_before row items k low same l h none j m =
    let t = left_head row items k low same l h.ascending in
    ⊎_elim
    (λ (u : j < low). none j u)
    (λ (u : low ≤ j). rw (left_gap row (drop k row) low (get_or items k no_entry).column (get_or items k no_entry).number (drop (k + 1) row) h t.1 j u m) (omega (arith, ints)))
    (cases_lt j low)

pub none_at_all : (row items : List Entry) (k low : ℕ) → items ≡ row → length items ≤ k → IsLeft row (drop k row) low → ((j : ℕ) → j < low → number_in row j ≤ℤ pos 0)
    → (j : ℕ) → number_in row j ≤ℤ pos 0
none_at_all row items k low same l h none j =
    ⊎_elim
    (λ (u : j < low). none j u)
    (λ (u : low ≤ j). rw (left_end row items k low same l h j u) (omega (arith, ints)))
    (cases_lt j low)

pub none_more : (row items : List Entry) (k low : ℕ) → items ≡ row → k < length items → (get_or items k no_entry).number ≤ℤ pos 0 → IsLeft row (drop k row) low → ((j : ℕ) → j < low → number_in row j ≤ℤ pos 0)
    → (next : ℕ) × IsLeft row (drop (k + 1) row) next × ((j : ℕ) → j < next → number_in row j ≤ℤ pos 0)
none_more row items k low same l here h none =
    let column : ℕ = (get_or items k no_entry).column in
    let t = left_head row items k low same l h.ascending in
    let at_head = left_here row (drop k row) low (get_or items k no_entry).column (get_or items k no_entry).number (drop (k + 1) row) t.0 h t.1 in (
      (get_or items k no_entry).column + 1,
      left_more row (drop k row) low (get_or items k no_entry).column (get_or items k no_entry).number (drop (k + 1) row) t.0 h t.1,
      λ j m. ⊎_elim
          (λ (u : j < (get_or items k no_entry).column). none_before row items k low same l h none j u)
          (λ (u : (get_or items k no_entry).column ≤ j). let e : (get_or items k no_entry).column ≡ j = omega arith in
          subst (λ (x : ℕ). number_in row x ≤ℤ pos 0) e (rw at_head here))
          (cases_lt j (get_or items k no_entry).column),
    )
