-- The row of an equation, and a row added to sums.
use Rattle.std.proofs.Common.{◌≡◌, ◌≢◌, ℕ, zero, suc, ◌+◌, ◌<◌, ◌≤◌, refl, sym, ap, ◌∙◌, subst, arith, ⊎_elim, List, [], ◌∷◌, length, ◌++◌, drop, get_or, replicate, set, get_or-set_same, get_or-set_other, length-set}
use Rattle.std.proofs.Math.IntN.{ℤ, pos, ◌+ℤ◌}
use Rattle.std.proofs.lemmas.Int.{ints}
use Rattle.std.proofs.lemmas.Bool.{cases_eq, cases_lt}
use Rattle.std.proofs.lemmas.List.{get_or_past}
use Rattle.kf_simplex.specs.declared.row.Entry.{Entry}
use Rattle.kf_simplex.specs.Base.{at}
use Rattle.kf_simplex.specs.Entries.{no_entry, number_in, Ascends, IsRowWithin}
use Rattle.kf_simplex.proofs.Crossing.{head_here}
use Rattle.kf_simplex.proofs.Entries.{IsMade, between_of, made_pushed, made_skip, made_whole}
use Rattle.kf_simplex.proofs.Merging.{IsLeft, left_head, left_gap, left_more, left_end}
use Rattle.kf_simplex.specs.Views.{entry}
use Rattle.kf_simplex.proofs.Equations.{entry-unknown, entry-own, entry-other, entry-right, entry-past}

pub at-replicate : (n p : ℕ) → at (replicate n (pos 0)) p ≡ pos 0
at-replicate zero p = refl
at-replicate (suc n) zero = refl
at-replicate (suc n) (suc p) = at-replicate n p

-- ---- adding a row to sums

-- before some column all is added, and from it on the row is left
pub record IsAdding (old sums : List ℤ) (row left : List Entry) : Type 0 where
  pub low : ℕ
  pub len : length sums ≡ length old
  pub rest : IsLeft row left low
  pub added : (c : ℕ) → c < low → c < length old → at sums c ≡ at old c +ℤ number_in row c
  pub later : (c : ℕ) → low ≤ c → at sums c ≡ at old c

pub adding_first : (old : List ℤ) (row left : List Entry) → IsLeft row left 0 → IsAdding old old row left
adding_first old row left h = record { low = 0; len = refl; rest = h; added = λ c l m. absurd (omega arith); later = λ c l. refl }

none_added : (x y : ℤ) → y ≡ pos 0 → x ≡ x +ℤ y
none_added x y e = rw e (omega (arith, ints))

pub adding_more : (old sums : List ℤ) (row items : List Entry) (k : ℕ) (v : ℤ) → items ≡ row → k < length items → IsAdding old sums row (drop k row)
    → (get_or items k no_entry).column < length sums → v ≡ at sums (get_or items k no_entry).column +ℤ (get_or items k no_entry).number
    → IsAdding old (set sums (get_or items k no_entry).column v) row (drop (k + 1) row)
adding_more old sums row items k v same l h inside e =
    let t = left_head row items k h.low same l h.rest.ascending in
    record {
      low = (get_or items k no_entry).column + 1;
      len = length-set sums (get_or items k no_entry).column v ∙ h.len;
      rest = left_more row (drop k row) h.low (get_or items k no_entry).column (get_or items k no_entry).number (drop (k + 1) row) t.0 h.rest t.1;
      added = λ c m u. ⊎_elim
          (λ (q : (get_or items k no_entry).column ≡ c).
          subst (λ (j : ℕ). at (set sums (get_or items k no_entry).column v) j ≡ at old j +ℤ number_in row j) q
          (get_or-set_same sums (get_or items k no_entry).column v (pos 0) inside
          ∙ e
          ∙ ap (λ (z : ℤ). z +ℤ (get_or items k no_entry).number) (h.later (get_or items k no_entry).column t.0)
          ∙ ap (λ (z : ℤ). at old (get_or items k no_entry).column +ℤ z) (sym (head_here row items k h.low same l h.rest))))
          (λ (d : (get_or items k no_entry).column ≢ c).
          get_or-set_other sums (get_or items k no_entry).column c v (pos 0) (λ q. d (sym q))
          ∙ ⊎_elim
          (λ (w : c < h.low). h.added c w u)
          (λ (w : h.low ≤ c). h.later c w ∙ none_added (at old c) (number_in row c)
          (left_gap row (drop k row) h.low (get_or items k no_entry).column (get_or items k no_entry).number (drop (k + 1) row) h.rest t.1 c w (omega arith)))
          (cases_lt c h.low))
          (cases_eq (get_or items k no_entry).column c);
      later = λ c m. get_or-set_other sums (get_or items k no_entry).column c v (pos 0) (λ q. absurd (omega arith)) ∙ h.later c (omega (arith, t.0, m));
    }

pub adding_whole : (old sums : List ℤ) (row items : List Entry) (k : ℕ) → items ≡ row → length items ≤ k → IsAdding old sums row (drop k row)
    → (c : ℕ) → c < length old → at sums c ≡ at old c +ℤ number_in row c
adding_whole old sums row items k same l h c m =
    ⊎_elim
    (λ (u : c < h.low). h.added c u m)
    (λ (u : h.low ≤ c). h.later c u ∙ none_added (at old c) (number_in row c) (left_end row items k h.low same l h.rest c u))
    (cases_lt c h.low)

-- ---- the row of an equation

abbrev pub IsEntry : ℕ → (ℕ → ℤ) → ℤ → ℕ → ℕ → ℕ → ℤ → Type 0
IsEntry v coef rhs e k c z = z ≡ entry v e coef rhs k c

pub coefs_made : (v : ℕ) (rhs : ℤ) (e k : ℕ) (es : List Entry) → Ascends 0 es → IsRowWithin v es → IsMade (IsEntry v (number_in es) rhs e k) v es
coefs_made v rhs e k es up inside = record { between = between_of 0 v es (omega arith) up inside; numbers = λ c l. sym (entry-unknown v e (number_in es) rhs k c l) }

pub own_push : (v : ℕ) (coef : ℕ → ℤ) (rhs : ℤ) (e k : ℕ) (es new : List Entry) (z : ℤ) → new ≡ es ++ record { column = v + k; number = z } ∷ [] → k < e → z ≡ pos 1
    → IsMade (IsEntry v coef rhs e k) v es → IsMade (IsEntry v coef rhs e k) (v + k + 1) new
own_push v coef rhs e k es new z is l one h =
    made_pushed (IsEntry v coef rhs e k) v es new (v + k) z is (omega arith)
    (λ c a b. sym (entry-other v e coef rhs k c (omega arith) (omega arith) (omega arith))) (one ∙ sym (entry-own v e coef rhs k (v + k) refl l)) h

between_own : (v : ℕ) (coef : ℕ → ℤ) (rhs : ℤ) (e k c : ℕ) → v + k + 1 ≤ c → c < v + e → pos 0 ≡ entry v e coef rhs k c
between_own v coef rhs e k c a b = sym (entry-other v e coef rhs k c (omega arith) b (omega arith))

pub right_push : (v : ℕ) (coef : ℕ → ℤ) (rhs : ℤ) (e k : ℕ) (es new : List Entry) (z : ℤ) → new ≡ es ++ record { column = v + e; number = z } ∷ [] → k < e → z ≡ rhs
    → IsMade (IsEntry v coef rhs e k) (v + k + 1) es → IsMade (IsEntry v coef rhs e k) (v + e + 1) new
right_push v coef rhs e k es new z is l same h =
    made_pushed (IsEntry v coef rhs e k) (v + k + 1) es new (v + e) z is (omega arith)
    (λ c a b. between_own v coef rhs e k c a b) (same ∙ sym (entry-right v e coef rhs k (v + e) refl)) h

pub right_skip : (v : ℕ) (coef : ℕ → ℤ) (rhs : ℤ) (e k : ℕ) (es : List Entry) → k < e → rhs ≡ pos 0
    → IsMade (IsEntry v coef rhs e k) (v + k + 1) es → IsMade (IsEntry v coef rhs e k) (v + e + 1) es
right_skip v coef rhs e k es l none h =
    made_skip (IsEntry v coef rhs e k) (v + k + 1) (v + e + 1) es (omega arith)
    (λ c a b. ⊎_elim
    (λ (u : c < v + e). between_own v coef rhs e k c a u)
    (λ (u : v + e ≤ c). sym (entry-right v e coef rhs k c (omega arith) ∙ none))
    (cases_lt c (v + e))) h

pub equation_whole : (v : ℕ) (coef : ℕ → ℤ) (rhs : ℤ) (e k : ℕ) (es : List Entry) → k < e → IsMade (IsEntry v coef rhs e k) (v + e + 1) es
    → (c : ℕ) → number_in es c ≡ entry v e coef rhs k c
equation_whole v coef rhs e k es l h =
    made_whole (IsEntry v coef rhs e k) (v + e + 1) es (λ c a. sym (entry-past v e coef rhs k c (omega arith) l)) h

-- ---- the row of a list of numbers

abbrev pub IsNumber : List ℤ → ℕ → ℤ → Type 0
IsNumber xs c z = z ≡ at xs c

pub number_push : (xs : List ℤ) (j : ℕ) (es new : List Entry) (z : ℤ) → new ≡ es ++ record { column = j; number = z } ∷ [] → z ≡ at xs j
    → IsMade (IsNumber xs) j es → IsMade (IsNumber xs) (j + 1) new
number_push xs j es new z is same h = made_pushed (IsNumber xs) j es new j z is (omega arith) (λ c a b. absurd (omega arith)) same h

pub number_skip : (xs : List ℤ) (j : ℕ) (es : List Entry) → at xs j ≡ pos 0 → IsMade (IsNumber xs) j es → IsMade (IsNumber xs) (j + 1) es
number_skip xs j es none h =
    made_skip (IsNumber xs) j (j + 1) es (omega arith) (λ c a b. let q : j ≡ c = omega arith in subst (λ (x : ℕ). pos 0 ≡ at xs x) q (sym none)) h

pub numbers_whole : (xs : List ℤ) (j : ℕ) (es : List Entry) → length xs ≤ j → IsMade (IsNumber xs) j es → (c : ℕ) → number_in es c ≡ at xs c
numbers_whole xs j es l h = made_whole (IsNumber xs) j es (λ c m. sym (get_or_past xs c (pos 0) (omega arith))) h
