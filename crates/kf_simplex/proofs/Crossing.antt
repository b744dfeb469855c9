-- The loops that write a row: over the entries of one row, and over those of two.
use Rattle.std.proofs.Common.{◌≡◌, ℕ, ◌+◌, ◌^◌, ◌<◌, ◌≤◌, sym, ap, ◌∙◌, subst, ⊎_elim, arith, List, [], ◌∷◌, ◌++◌, drop, get_or, length, unsigned_abs}
use Rattle.std.proofs.Math.IntN.{ℤ, pos, ◌-ℤ◌, ◌*ℤ◌}
use Rattle.std.proofs.lemmas.Int.{ints}
use Rattle.std.proofs.lemmas.Bool.{cases_lt}
use Rattle.kf_simplex.specs.declared.row.Entry.{Entry}
use Rattle.kf_simplex.specs.Entries.{no_entry, number_in, Ascends, IsLeast}
use Rattle.kf_simplex.proofs.Entries.{IsMade, made_none, made_pushed, made_skip, made_whole}
use Rattle.kf_simplex.proofs.Merging.{IsLeft, AreLeft, left_both, left_head, left_here, left_gap, left_more, left_end, left_after, low_is}

-- the head of what is left is the row's number at its column
pub head_here : (row items : List Entry) (k low : ℕ) → items ≡ row → k < length items → IsLeft row (drop k row) low
    → number_in row (get_or items k no_entry).column ≡ (get_or items k no_entry).number
head_here row items k low same l h =
    let e : Entry = get_or items k no_entry in
    let t = left_head row items k low same l h.ascending in
    left_here row (drop k row) low (get_or items k no_entry).column (get_or items k no_entry).number (drop (k + 1) row) t.0 h t.1

-- ---- a row over a number

abbrev pub Divided : List Entry → ℤ → ℕ → ℤ → Type 0
Divided row g c z = g *ℤ z ≡ number_in row c

zero_product : (g z : ℤ) → z ≡ pos 0 → g *ℤ pos 0 ≡ z
zero_product g z e = rw e (omega (arith, ints))

pub divided_more : (row items out new : List Entry) (k low : ℕ) (g z : ℤ) → items ≡ row → k < length items → IsLeft row (drop k row) low → IsMade (Divided row g) low out
    → new ≡ out ++ record { column = (get_or items k no_entry).column; number = z } ∷ [] → g *ℤ z ≡ (get_or items k no_entry).number
    → (next : ℕ) × IsLeft row (drop (k + 1) row) next × IsMade (Divided row g) next new
divided_more row items out new k low g z same l left made is product =
    let column : ℕ = (get_or items k no_entry).column in
    let t = left_head row items k low same l left.ascending in (
      (get_or items k no_entry).column + 1,
      left_more row (drop k row) low (get_or items k no_entry).column (get_or items k no_entry).number (drop (k + 1) row) t.0 left t.1,
      made_pushed (Divided row g) low out new (get_or items k no_entry).column z is t.0
          (λ c a b. zero_product g (number_in row c) (left_gap row (drop k row) low (get_or items k no_entry).column (get_or items k no_entry).number (drop (k + 1) row) left t.1 c a b))
          (product ∙ sym (head_here row items k low same l left)) made,
    )

pub divided_whole : (row items out : List Entry) (k low : ℕ) (g : ℤ) → items ≡ row → length items ≤ k → IsLeft row (drop k row) low → IsMade (Divided row g) low out
    → (c : ℕ) → g *ℤ number_in out c ≡ number_in row c
divided_whole row items out k low g same l left made =
    made_whole (Divided row g) low out (λ c a. zero_product g (number_in row c) (left_end row items k low same l left c a)) made

-- ---- two rows crossed

abbrev pub Crossed : List Entry → List Entry → ℤ → ℤ → ℕ → ℤ → Type 0
Crossed row other p a c z = (z ≡ p *ℤ number_in row c -ℤ a *ℤ number_in other c) × (unsigned_abs z ≤ 2 ^ 125)

-- before some column all is crossed, and from it on both rows are left
abbrev pub IsCrossing : List Entry → List Entry → List Entry → List Entry → ℤ → ℤ → List Entry → Type 0
IsCrossing row other xs ys p a out = (low : ℕ) × AreLeft row other xs ys low × IsMade (Crossed row other p a) low out

crossed_zero : (p a x y : ℤ) → x ≡ pos 0 → y ≡ pos 0 → (pos 0 ≡ p *ℤ x -ℤ a *ℤ y) × (unsigned_abs (pos 0) ≤ 2 ^ 125)
crossed_zero p a x y ex ey = rw (ex, ey) (omega (arith, ints), omega arith)

pub crossing_first : (row other xs ys : List Entry) (p a : ℤ) → xs ≡ row → ys ≡ other → Ascends 0 row → Ascends 0 other → IsCrossing row other xs ys p a []
crossing_first row other xs ys p a ex ey up up' = (0, rw (ex, ey) (left_both row other up up'), made_none (Crossed row other p a))

module _ (row other xs ys out : List Entry) (p a x y z : ℤ) (column : ℕ) (after_x after_y : List Entry)
    (least : IsLeast xs ys column x y after_x after_y) (value : z ≡ p *ℤ x -ℤ a *ℤ y) (below : unsigned_abs z ≤ 2 ^ 125) (h : IsCrossing row other xs ys p a out) where
  order : h.0 ≤ column
  order = low_is row other xs ys h.0 column x y after_x after_y h.1 least

  gap : (c : ℕ) → h.0 ≤ c → c < column → Crossed row other p a c (pos 0)
  gap c l m =
      crossed_zero p a (number_in row c) (number_in other c) (left_gap row xs h.0 column x after_x h.1.first least.first c l m) (left_gap other ys h.0 column y after_y h.1.second least.second c l m)

  here : Crossed row other p a column z
  here = (
    value
        ∙ ap (λ (n : ℤ). p *ℤ n -ℤ a *ℤ y) (sym (left_here row xs h.0 column x after_x order h.1.first least.first))
        ∙ ap (λ (n : ℤ). p *ℤ number_in row column -ℤ a *ℤ n) (sym (left_here other ys h.0 column y after_y order h.1.second least.second)),
    below,
  )

  pub crossing_push : (new : List Entry) → new ≡ out ++ record { column = column; number = z } ∷ [] → IsCrossing row other after_x after_y p a new
  crossing_push new is = (
    column + 1,
    left_after row other xs ys h.0 column x y after_x after_y h.1 least,
    made_pushed (Crossed row other p a) h.0 out new column z is order gap here h.2,
  )

  pub crossing_skip : z ≡ pos 0 → IsCrossing row other after_x after_y p a out
  crossing_skip none = (
    column + 1,
    left_after row other xs ys h.0 column x y after_x after_y h.1 least,
    made_skip (Crossed row other p a) h.0 (column + 1) out (omega (arith, order)) (λ c l m. upto c l m) h.2,
  )
    where
      upto : (c : ℕ) → h.0 ≤ c → c < column + 1 → Crossed row other p a c (pos 0)
      upto c l m = ⊎_elim (λ (u : c < column). gap c l u) (λ (u : column ≤ c). let e : column ≡ c = omega arith in subst (λ (k : ℕ). Crossed row other p a k (pos 0)) e (rw none at here)) (cases_lt c column)

-- the numbers that are taken are narrow
pub taken_narrow : (row other xs ys : List Entry) (low column : ℕ) (x y : ℤ) (after_x after_y : List Entry) → AreLeft row other xs ys low → IsLeast xs ys column x y after_x after_y
    → ((c : ℕ) → unsigned_abs (number_in row c) ≤ 2 ^ 62) → ((c : ℕ) → unsigned_abs (number_in other c) ≤ 2 ^ 62) → (unsigned_abs x ≤ 2 ^ 62) × (unsigned_abs y ≤ 2 ^ 62)
taken_narrow row other xs ys low column x y after_x after_y h least n m =
    let order = low_is row other xs ys low column x y after_x after_y h least in (
      rw (sym (left_here row xs low column x after_x order h.first least.first)) (n column),
      rw (sym (left_here other ys low column y after_y order h.second least.second)) (m column),
    )

pub crossing_whole : (row other xs ys out : List Entry) (p a : ℤ) → xs ≡ [] → ys ≡ [] → IsCrossing row other xs ys p a out
    → (c : ℕ) → Crossed row other p a c (number_in out c)
crossing_whole row other xs ys out p a ex ey h =
    made_whole (Crossed row other p a) h.0 out
    (λ c l. crossed_zero p a (number_in row c) (number_in other c) (h.1.first.same c l ∙ ap (λ (es : List Entry). number_in es c) ex) (h.1.second.same c l ∙ ap (λ (es : List Entry). number_in es c) ey)) h.2
