-- The coefficients of equations, entry after entry.
use Rattle.std.proofs.Common.{◌≡◌, ◌≢◌, ℕ, ◌+◌, ◌*◌, ◌/◌, ◌%◌, ◌^◌, ◌<◌, ◌≤◌, ◌==◌, ◌⊎◌, inl, inr, ⊎_elim, refl, sym, ap, ◌∙◌, subst, arith, unsigned_abs, List, [], ◌∷◌, ◌++◌, All, length, drop, append-nil, zero, suc}
use Rattle.std.proofs.Math.IntN.{ℤ, pos}
use Rattle.std.proofs.Math.Nat.{mul-le-mul_right, mod-lt}
use Rattle.std.proofs.lemmas.Nat.{div-mul-add, mod-mul-add, div-add-mod'}
use Rattle.std.proofs.lemmas.Bool.{cond_both, cases_eq, cases_lt}
use Rattle.std.proofs.lemmas.Bool.Decides.{nat_tests}
use Rattle.std.proofs.lemmas.List.{get_or_default, drop_all}
use Rattle.std.proofs.lemmas.List.Elements.{All-head, All-tail}
use Rattle.kf_simplex.specs.declared.row.Entry.{Entry}
use Rattle.kf_simplex.specs.declared.system.SparseEquation.{SparseEquation}
use Rattle.kf_simplex.specs.Cells.{AllNarrow}
use Rattle.kf_simplex.specs.Entries.{no_entry, number_in, Ascends, IsRowWithin}
use Rattle.kf_simplex.proofs.Entries.{at_same, at_other, ascends_less, IsMade, made_none, made_skip, made_push, made_pushed, made_inside, made_whole}
use Rattle.kf_refine.specs.Built.{AreWeights, HasNumbers, spread, weight_number, sum_number}

-- a place in the rows before the m-th
pub within : (m n i j : ℕ) → i < m → j < n → i * n + j < m * n
within m n i j l k = let next : (i + 1) * n ≤ m * n = mul-le-mul_right n (omega arith) in omega arith

-- ---- the numbers at a row and a place in it

pub weight_here : (n : ℕ) (u : ℕ → ℕ) (j i : ℕ) → j < n → weight_number n u j (i * n + j) ≡ pos (u i)
unfolding weight_number
weight_here n u j i l = rw (div-mul-add i n j l) (let e = mod-mul-add i n j l in grind (arith, nat_tests))

pub weight_elsewhere : (n : ℕ) (u : ℕ → ℕ) (j i l : ℕ) → l < n → l ≢ j → weight_number n u j (i * n + l) ≡ pos 0
unfolding weight_number
weight_elsewhere n u j i l m d = let e = mod-mul-add i n l m in grind (arith, nat_tests)

pub sum_here : (n p l : ℕ) → l < n → sum_number n p (p * n + l) ≡ pos 1
unfolding sum_number
sum_here n p l m = let e = div-mul-add p n l m in grind (arith, nat_tests)

pub sum_elsewhere : (n p i l : ℕ) → l < n → i ≢ p → sum_number n p (i * n + l) ≡ pos 0
unfolding sum_number
sum_elsewhere n p i l m d = let e = div-mul-add i n l m in grind (arith, nat_tests)

-- a place before row p, or behind it
sum_outside : (n p c : ℕ) → 0 < n → (c < p * n) ⊎ (p * n + n ≤ c) → sum_number n p c ≡ pos 0
unfolding sum_number
sum_outside n p c some outside =
    let whole = div-add-mod' c n in
    let rest = mod-lt c some in
    let other : c / n ≢ p = λ e. let row : c / n * n ≡ p * n = ap (λ (q : ℕ). q * n) e in
    ⊎_elim (λ (l : c < p * n). omega arith) (λ (l : p * n + n ≤ c). omega arith) outside in
    grind (arith, nat_tests)

-- ---- the weights of a value, inner after inner

-- what is written at the number of an inner
abbrev pub IsWeight : (ℕ → ℕ) → ℕ → ℤ → Type 0
IsWeight u i z = (z ≡ pos (u i)) × (unsigned_abs z ≤ 2 ^ 62)

pub weight_push : (u : ℕ → ℕ) (i : ℕ) (es new : List Entry) (z : ℤ) → new ≡ es ++ record { column = i; number = z } ∷ [] → z ≡ pos (u i) → u i ≤ 2 ^ 62
    → IsMade (IsWeight u) i es → IsMade (IsWeight u) (i + 1) new
weight_push u i es new z is same small made =
    made_pushed (IsWeight u) i es new i z is (omega arith) (λ c a b. absurd (omega arith)) (same, rw same small) made

pub weight_skip : (u : ℕ → ℕ) (i : ℕ) (es : List Entry) → u i ≡ 0 → IsMade (IsWeight u) i es → IsMade (IsWeight u) (i + 1) es
weight_skip u i es none made =
    made_skip (IsWeight u) i (i + 1) es (omega arith)
    (λ c a b. let here : i ≡ c = omega arith in subst (λ (k : ℕ). IsWeight u k (pos 0)) here (ap (λ (k : ℕ). pos k) (sym none), omega arith)) made

pub weights_are : (m i : ℕ) (u : ℕ → ℕ) (es : List Entry) → m ≤ i → i ≤ m → IsMade (IsWeight u) i es → AreWeights m u es
weights_are m i u es past top made = record {
  inside = λ k d l. subst (λ (e : Entry). e.column < m) (get_or_default es k no_entry d l) (let low = made_inside (IsWeight u) i es made k l in omega arith);
  each = λ c l. (made.numbers c (omega arith)).0;
  narrow = made_whole (λ c z. unsigned_abs z ≤ 2 ^ 62) i es (λ c l. omega arith)
      (record { between = made.between; numbers = λ c l. (made.numbers c l).1 });
}

-- ---- entries at one place of each row

module _ (n j : ℕ) (low : j < n) where
  spread_here : (es : List Entry) (i : ℕ) → number_in (spread n j es) (i * n + j) ≡ number_in es i
  spread_here [] i = refl
  spread_here (e ∷ es) i = ⊎_elim
      (λ (same : e.column ≡ i).
      at_same (record { column = e.column * n + j; number = e.number }) (spread n j es) (i * n + j) (ap (λ (c : ℕ). c * n + j) same)
      ∙ sym (at_same e es i same))
      (λ (apart : e.column ≢ i).
      at_other (record { column = e.column * n + j; number = e.number }) (spread n j es) (i * n + j)
      (λ same. apart (sym (div-mul-add e.column n j low) ∙ ap (λ (c : ℕ). c / n) same ∙ div-mul-add i n j low))
      ∙ spread_here es i ∙ sym (at_other e es i apart))
      (cases_eq e.column i)

  spread_elsewhere : (es : List Entry) (i l : ℕ) → l < n → l ≢ j → number_in (spread n j es) (i * n + l) ≡ pos 0
  spread_elsewhere [] i l m d = refl
  spread_elsewhere (e ∷ es) i l m d =
      at_other (record { column = e.column * n + j; number = e.number }) (spread n j es) (i * n + l)
      (λ same. d (sym (mod-mul-add i n l m) ∙ ap (λ (c : ℕ). c % n) (sym same) ∙ mod-mul-add e.column n j low))
      ∙ spread_elsewhere es i l m d

  -- each column is one of a row and a place in it
  by_place : (P : ℕ → Type 0) → ((i : ℕ) → P (i * n + j)) → ((i l : ℕ) → l < n → l ≢ j → P (i * n + l)) → (c : ℕ) → P c
  by_place P here elsewhere c =
      let there : c / n * n + c % n ≡ c = div-add-mod' c n in
      subst P there (⊎_elim
      (λ (same : j ≡ c % n). subst (λ (l : ℕ). P (c / n * n + l)) same (here (c / n)))
      (λ (apart : j ≢ c % n). elsewhere (c / n) (c % n) (mod-lt c (omega arith)) (λ e. apart (sym e)))
      (cases_eq j (c % n)))

  spread_narrow : (es : List Entry) → AllNarrow (number_in es) → AllNarrow (number_in (spread n j es))
  spread_narrow es narrow =
      by_place (λ c. unsigned_abs (number_in (spread n j es) c) ≤ 2 ^ 62) (λ i. rw (spread_here es i) (narrow i))
      (λ i l m d. rw (spread_elsewhere es i l m d) (omega arith))

  spread_past : (m : ℕ) (es : List Entry) → All (λ e. e.column < m) es → IsRowWithin (m * n) (spread n j es)
  spread_past m [] inside k l = absurd (omega arith)
  spread_past m (e ∷ es) inside zero l = within m n e.column j (All-head (λ (e : Entry). e.column < m) e es inside) low
  spread_past m (e ∷ es) inside (suc k) l = spread_past m es (All-tail (λ (e : Entry). e.column < m) e es inside) k (omega arith)

  spread_up : (from : ℕ) (es : List Entry) → Ascends from es → Ascends (from * n + j) (spread n j es)
  spread_up from [] up = tt
  spread_up from (e ∷ es) (first, rest) =
      let order : from * n ≤ e.column * n = mul-le-mul_right n first in
      let next : (e.column + 1) * n ≡ e.column * n + n = omega arith in
      (omega arith, ascends_less (e.column * n + j + 1) ((e.column + 1) * n + j) (spread n j es) (omega arith) (spread_up (e.column + 1) es rest))

  pub spread_whole : (es new : List Entry) (i : ℕ) → length es ≤ i → new ++ spread n j (drop i es) ≡ spread n j es → new ≡ spread n j es
  spread_whole es new i past so_far = sym (append-nil new) ∙ ap (λ (r : List Entry). new ++ spread n j r) (sym (drop_all i es past)) ∙ so_far

  pub spread_ascends : (es new : List Entry) → new ≡ spread n j es → Ascends 0 es → Ascends 0 new
  spread_ascends es new is up = subst (Ascends 0) (sym is) (ascends_less 0 (0 * n + j) (spread n j es) (omega arith) (spread_up 0 es up))

  pub new_narrow : (es new : List Entry) → new ≡ spread n j es → AllNarrow (number_in es) → AllNarrow (number_in new)
  new_narrow es new is narrow = subst (λ (r : List Entry). AllNarrow (number_in r)) (sym is) (spread_narrow es narrow)

  -- a value's weights at its places are the coefficients of an equation
  pub spread_numbers : (m : ℕ) (u : ℕ → ℕ) (es : List Entry) (right : ℤ) (e : SparseEquation) → AreWeights m u es → e.coefs.entries.items ≡ spread n j es → e.rhs ≡ right
      → HasNumbers (m * n) (weight_number n u j) right e
  spread_numbers m u es right e are is same = record {
    within = subst (IsRowWithin (m * n)) (sym is) (spread_past m es are.inside);
    coefs = subst (λ (r : List Entry). (c : ℕ) → c < m * n → number_in r c ≡ weight_number n u j c) (sym is)
        (by_place (λ c. c < m * n → number_in (spread n j es) c ≡ weight_number n u j c)
        (λ i l. spread_here es i ∙ are.each i (row m i j l) ∙ sym (weight_here n u j i low))
        (λ i k l d b. spread_elsewhere es i k l d ∙ sym (weight_elsewhere n u j i k l d)));
    rhs = same;
  }
    where
      row : (m i l : ℕ) → i * n + l < m * n → i < m
      row m i l b = ⊎_elim (λ (q : i < m). q) (λ (q : m ≤ i). absurd (let p : m * n ≤ i * n = mul-le-mul_right n q in omega arith)) (cases_lt i m)

-- ---- a row of ones

abbrev pub IsOne : ℕ → ℕ → ℕ → ℤ → Type 0
IsOne n p c z = z ≡ sum_number n p c

module _ (n p : ℕ) (some : 0 < n) where
  pub ones_none : IsMade (IsOne n p) (p * n + 0) []
  ones_none = made_skip (IsOne n p) 0 (p * n + 0) [] (omega arith) (λ c l k. sym (sum_outside n p c some (inl (omega arith)))) (made_none (IsOne n p))

  pub ones_more : (l : ℕ) (es new : List Entry) → l < n → new ≡ es ++ record { column = p * n + l; number = pos 1 } ∷ [] → IsMade (IsOne n p) (p * n + l) es
      → IsMade (IsOne n p) (p * n + (l + 1)) new
  ones_more l es new low is made =
      let next : p * n + l + 1 ≡ p * n + (l + 1) = omega arith in
      rw is (subst (λ (h : ℕ). IsMade (IsOne n p) h (es ++ record { column = p * n + l; number = pos 1 } ∷ [])) next
      (made_push (IsOne n p) (p * n + l) es (record { column = p * n + l; number = pos 1 }) (omega arith) (λ c a b. absurd (omega arith))
      (sym (sum_here n p l low)) made))

  pub ones_within : (l : ℕ) (es : List Entry) → l ≤ n → IsMade (IsOne n p) (p * n + l) es → IsRowWithin (p * n + n) es
  ones_within l es few made k inside = omega (arith, made_inside (IsOne n p) (p * n + l) es made k inside)

  pub ones_all : (l : ℕ) (es : List Entry) → n ≤ l → IsMade (IsOne n p) (p * n + l) es → (c : ℕ) → number_in es c ≡ sum_number n p c
  ones_all l es past made = made_whole (IsOne n p) (p * n + l) es (λ c k. sym (sum_outside n p c some (inr (omega arith)))) made

pub ones_narrow : (n p : ℕ) (es : List Entry) → ((c : ℕ) → number_in es c ≡ sum_number n p c) → AllNarrow (number_in es)
unfolding sum_number
ones_narrow n p es is c =
    rw (is c) (cond_both (p == c / n) (pos 1) (pos 0) (λ z. unsigned_abs z ≤ 2 ^ 62) (λ t. omega arith) (λ t. omega arith))

pub sum_numbers : (m n p : ℕ) (e : SparseEquation) → p < m → IsRowWithin (p * n + n) e.coefs.entries.items
    → ((c : ℕ) → number_in e.coefs.entries.items c ≡ sum_number n p c) → e.rhs ≡ pos 1 → HasNumbers (m * n) (sum_number n p) (pos 1) e
sum_numbers m n p e inside within is one = record {
  within = λ k l. let next : (p + 1) * n ≤ m * n = mul-le-mul_right n (omega arith) in omega (arith, within k l);
  coefs = λ c l. is c;
  rhs = one;
}
