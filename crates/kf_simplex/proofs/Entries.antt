-- Rows as lists of entries: what they have at a column, and how they grow.
use Rattle.std.proofs.Common.{◌≡◌, ◌≢◌, ℕ, zero, suc, ◌+◌, ◌<◌, ◌≤◌, ◌==◌, refl, sym, ap, ◌∙◌, subst, arith, ⊎_elim, Bool, List, [], ◌∷◌, ◌++◌, length, get_or, take, drop, ◌-◌, eq-eqb, if◌then◌else◌}
use Rattle.std.proofs.Math.IntN.{ℤ, pos}
use Rattle.std.proofs.lemmas.List.{take_all}
use Rattle.std.proofs.lemmas.Bool.{ne_eqb, cases_eq, cases_lt}
use Rattle.kf_simplex.specs.declared.row.Entry.{Entry}
use Rattle.kf_simplex.specs.Entries.{no_entry, number_in, Ascends, IsRowWithin, IsTaken, IsLeast}

pub at_same : (e : Entry) (es : List Entry) (c : ℕ) → e.column ≡ c → number_in (e ∷ es) c ≡ e.number
at_same e es c same = ap (λ (b : Bool). if b then e.number else number_in es c) (eq-eqb e.column c same)

pub at_other : (e : Entry) (es : List Entry) (c : ℕ) → e.column ≢ c → number_in (e ∷ es) c ≡ number_in es c
at_other e es c apart = ap (λ (b : Bool). if b then e.number else number_in es c) (ne_eqb e.column c apart)

-- no entry stands before the first column
pub at_below : (low : ℕ) (es : List Entry) (c : ℕ) → Ascends low es → c < low → number_in es c ≡ pos 0
at_below low [] c up below = refl
at_below low (e ∷ es) c (from, rest) below = at_other e es c (λ same. absurd (omega arith)) ∙ at_below (e.column + 1) es c rest (omega arith)

pub ascends_less : (low high : ℕ) (es : List Entry) → low ≤ high → Ascends high es → Ascends low es
ascends_less low high [] order up = tt
ascends_less low high (e ∷ es) order (from, rest) = (omega (arith, from, order), rest)

-- ---- the first entry

pub taken_head : (low : ℕ) (e : Entry) (es : List Entry) → Ascends low (e ∷ es) → IsTaken (e ∷ es) e.column e.number es
taken_head low e es up = record {
  here = at_same e es e.column refl;
  other = λ j apart. at_other e es j (λ same. apart (sym same));
  above = up.1;
}

pub taken_none : (column : ℕ) (es : List Entry) → Ascends (column + 1) es → IsTaken es column (pos 0) es
taken_none column es up = record { here = at_below (column + 1) es column up (omega arith); other = λ j apart. refl; above = up }

pub least_alone : (x : Entry) (xs : List Entry) → Ascends 0 (x ∷ xs) → IsLeast (x ∷ xs) [] x.column x.number (pos 0) xs []
least_alone x xs up = record { from = λ low a b. a.0; first = taken_head 0 x xs up; second = taken_none x.column [] tt }

pub least_other : (y : Entry) (ys : List Entry) → Ascends 0 (y ∷ ys) → IsLeast [] (y ∷ ys) y.column (pos 0) y.number [] ys
least_other y ys up = record { from = λ low a b. b.0; first = taken_none y.column [] tt; second = taken_head 0 y ys up }

pub least_first : (x y : Entry) (xs ys : List Entry) → Ascends 0 (x ∷ xs) → Ascends 0 (y ∷ ys) → x.column < y.column
    → IsLeast (x ∷ xs) (y ∷ ys) x.column x.number (pos 0) xs (y ∷ ys)
least_first x y xs ys up up' before = record {
  from = λ low a b. a.0;
  first = taken_head 0 x xs up;
  second = taken_none x.column (y ∷ ys) (omega arith, up'.1);
}

pub least_second : (x y : Entry) (xs ys : List Entry) → Ascends 0 (x ∷ xs) → Ascends 0 (y ∷ ys) → y.column < x.column
    → IsLeast (x ∷ xs) (y ∷ ys) y.column (pos 0) y.number (x ∷ xs) ys
least_second x y xs ys up up' before = record {
  from = λ low a b. b.0;
  first = taken_none y.column (x ∷ xs) (omega arith, up.1);
  second = taken_head 0 y ys up';
}

pub least_both : (x y : Entry) (xs ys : List Entry) → Ascends 0 (x ∷ xs) → Ascends 0 (y ∷ ys) → y.column ≡ x.column
    → IsLeast (x ∷ xs) (y ∷ ys) x.column x.number y.number xs ys
least_both x y xs ys up up' same = record {
  from = λ low a b. a.0;
  first = taken_head 0 x xs up;
  second = subst (λ (c : ℕ). IsTaken (y ∷ ys) c y.number ys) same (taken_head 0 y ys up');
}

rest_of : (x : Entry) (xs : List Entry) → take (length (x ∷ xs) - 1) xs ≡ xs
rest_of x xs = take_all (length (x ∷ xs) - 1) xs (omega arith)

pub least_of_first : (xs ys after_x after_y : List Entry) (column : ℕ) (x y : ℤ) → 1 ≤ length xs → 1 ≤ length ys → Ascends 0 xs → Ascends 0 ys
    → (get_or xs 0 no_entry).column < (get_or ys 0 no_entry).column → column ≡ (get_or xs 0 no_entry).column → x ≡ (get_or xs 0 no_entry).number → y ≡ pos 0
    → after_x ≡ take (length xs - 1) (drop 1 xs) → after_y ≡ ys → IsLeast xs ys column x y after_x after_y
least_of_first [] ys after_x after_y column x y lx ly up up' l ec ex ey ax ay = absurd (omega arith)
least_of_first (e ∷ es) [] after_x after_y column x y lx ly up up' l ec ex ey ax ay = absurd (omega arith)
least_of_first (e ∷ es) (d ∷ ds) after_x after_y column x y lx ly up up' l ec ex ey ax ay =
    rw (ec, ex, ey, ax ∙ rest_of e es, ay) (least_first e d es ds up up' l)

pub least_of_second : (xs ys after_x after_y : List Entry) (column : ℕ) (x y : ℤ) → 1 ≤ length xs → 1 ≤ length ys → Ascends 0 xs → Ascends 0 ys
    → (get_or ys 0 no_entry).column < (get_or xs 0 no_entry).column → column ≡ (get_or ys 0 no_entry).column → y ≡ (get_or ys 0 no_entry).number → x ≡ pos 0
    → after_y ≡ take (length ys - 1) (drop 1 ys) → after_x ≡ xs → IsLeast xs ys column x y after_x after_y
least_of_second [] ys after_x after_y column x y lx ly up up' l ec ey ex ay ax = absurd (omega arith)
least_of_second (e ∷ es) [] after_x after_y column x y lx ly up up' l ec ey ex ay ax = absurd (omega arith)
least_of_second (e ∷ es) (d ∷ ds) after_x after_y column x y lx ly up up' l ec ey ex ay ax =
    rw (ec, ex, ey, ax, ay ∙ rest_of d ds) (least_second e d es ds up up' l)

pub least_of_both : (xs ys : List Entry) → 1 ≤ length xs → 1 ≤ length ys → Ascends 0 xs → Ascends 0 ys → (get_or ys 0 no_entry).column ≡ (get_or xs 0 no_entry).column
    → IsLeast xs ys (get_or xs 0 no_entry).column (get_or xs 0 no_entry).number (get_or ys 0 no_entry).number (take (length xs - 1) (drop 1 xs)) (take (length ys - 1) (drop 1 ys))
least_of_both [] ys lx ly up up' same = absurd (omega arith)
least_of_both (e ∷ es) [] lx ly up up' same = absurd (omega arith)
least_of_both (e ∷ es) (d ∷ ds) lx ly up up' same = rw (rest_of e es, rest_of d ds) (least_both e d es ds up up' same)

-- ---- a list that grows

-- the columns ascend from low on and before high
abbrev pub Between : ℕ → ℕ → List Entry → Type 0
Between low high [] = low ≤ high
Between low high (e ∷ es) = (low ≤ e.column) × Between (e.column + 1) high es

between_ascends : (low high : ℕ) (es : List Entry) → Between low high es → Ascends low es
between_ascends low high [] b = tt
between_ascends low high (e ∷ es) (from, rest) = (from, between_ascends (e.column + 1) high es rest)

pub between_of : (low high : ℕ) (es : List Entry) → low ≤ high → Ascends low es → IsRowWithin high es → Between low high es
between_of low high [] l up inside = l
between_of low high (e ∷ es) l up inside =
    let h : e.column < high = inside 0 (omega arith) in (up.0, between_of (e.column + 1) high es (omega arith) up.1 (λ j m. inside (suc j) (omega arith)))

between_order : (low high : ℕ) (es : List Entry) → Between low high es → low ≤ high
between_order low high [] b = b
between_order low high (e ∷ es) (from, rest) = let m = between_order (e.column + 1) high es rest in omega (arith, from, m)

between_above : (low high : ℕ) (es : List Entry) (c : ℕ) → Between low high es → high ≤ c → number_in es c ≡ pos 0
between_above low high [] c b l = refl
between_above low high (e ∷ es) c (from, rest) l =
    at_other e es c (λ same. absurd (let m = between_order (e.column + 1) high es rest in omega arith)) ∙ between_above (e.column + 1) high es c rest l

between_more : (low high next : ℕ) (es : List Entry) → Between low high es → high ≤ next → Between low next es
between_more low high next [] b l = omega (arith, b, l)
between_more low high next (e ∷ es) (from, rest) l = (from, between_more (e.column + 1) high next es rest l)

between_push : (low high : ℕ) (es : List Entry) (e : Entry) → Between low high es → high ≤ e.column → Between low (e.column + 1) (es ++ e ∷ [])
between_push low high [] e b l = (omega (arith, b, l), omega arith)
between_push low high (d ∷ es) e (from, rest) l = (from, between_push (d.column + 1) high es e rest l)

between_places : (low high : ℕ) (es : List Entry) → Between low high es → (k : ℕ) → k < length es → (get_or es k no_entry).column < high
between_places low high [] b k l = absurd (omega arith)
between_places low high (e ∷ es) (from, rest) zero l = let m = between_order (e.column + 1) high es rest in omega arith
between_places low high (e ∷ es) (from, rest) (suc k) l = between_places (e.column + 1) high es rest k (omega arith)

push_same : (low high : ℕ) (es : List Entry) (e : Entry) → Between low high es → high ≤ e.column → number_in (es ++ e ∷ []) e.column ≡ e.number
push_same low high [] e b l = at_same e [] e.column refl
push_same low high (d ∷ es) e (from, rest) l =
    at_other d (es ++ e ∷ []) e.column (λ same. absurd (let m = between_order (d.column + 1) high es rest in omega arith)) ∙ push_same (d.column + 1) high es e rest l

push_other : (es : List Entry) (e : Entry) (c : ℕ) → e.column ≢ c → number_in (es ++ e ∷ []) c ≡ number_in es c
push_other [] e c apart = at_other e [] c apart
push_other (d ∷ es) e c apart = ap (λ (z : ℤ). if d.column == c then d.number else z) (push_other es e c apart)

-- what the entries have at the columns before high is as wanted
pub record IsMade (Wanted : ℕ → ℤ → Type 0) (high : ℕ) (es : List Entry) : Type 0 where
  pub between : Between 0 high es
  pub numbers : (c : ℕ) → c < high → Wanted c (number_in es c)

module _ (Wanted : ℕ → ℤ → Type 0) where
  pub made_none : IsMade Wanted 0 []
  made_none = record { between = omega arith; numbers = λ c l. absurd (omega arith) }

  pub made_skip : (high next : ℕ) (es : List Entry) → high ≤ next → ((c : ℕ) → high ≤ c → c < next → Wanted c (pos 0)) → IsMade Wanted high es → IsMade Wanted next es
  made_skip high next es l none h = record {
    between = between_more 0 high next es h.between l;
    numbers = λ c m. ⊎_elim (λ (u : c < high). h.numbers c u) (λ (u : high ≤ c). subst (Wanted c) (sym (between_above 0 high es c h.between u)) (none c u m)) (cases_lt c high);
  }

  pub made_push : (high : ℕ) (es : List Entry) (e : Entry) → high ≤ e.column → ((c : ℕ) → high ≤ c → c < e.column → Wanted c (pos 0)) → Wanted e.column e.number → IsMade Wanted high es
      → IsMade Wanted (e.column + 1) (es ++ e ∷ [])
  made_push high es e l none here h = record {
    between = between_push 0 high es e h.between l;
    numbers = λ c m. ⊎_elim
        (λ (u : e.column ≡ c). subst (λ (k : ℕ). Wanted k (number_in (es ++ e ∷ []) k)) u (subst (Wanted e.column) (sym (push_same 0 high es e h.between l)) here))
        (λ (u : e.column ≢ c). subst (Wanted c) (sym (push_other es e c u)) ((made_skip high e.column es l none h).numbers c (omega arith)))
        (cases_eq e.column c);
  }

  pub made_pushed : (high : ℕ) (es new : List Entry) (column : ℕ) (z : ℤ) → new ≡ es ++ record { column = column; number = z } ∷ []
      → high ≤ column → ((c : ℕ) → high ≤ c → c < column → Wanted c (pos 0)) → Wanted column z → IsMade Wanted high es → IsMade Wanted (column + 1) new
  made_pushed high es new column z is l none here h = rw is (made_push high es (record { column = column; number = z }) l none here h)

  pub made_ascends : (high : ℕ) (es : List Entry) → IsMade Wanted high es → Ascends 0 es
  made_ascends high es h = between_ascends 0 high es h.between

  pub made_inside : (high : ℕ) (es : List Entry) → IsMade Wanted high es → (k : ℕ) → k < length es → (get_or es k no_entry).column < high
  made_inside high es h = between_places 0 high es h.between

  pub made_whole : (high : ℕ) (es : List Entry) → ((c : ℕ) → high ≤ c → Wanted c (pos 0)) → IsMade Wanted high es → (c : ℕ) → Wanted c (number_in es c)
  made_whole high es none h c =
      ⊎_elim (λ (u : c < high). h.numbers c u) (λ (u : high ≤ c). subst (Wanted c) (sym (between_above 0 high es c h.between u)) (none c u)) (cases_lt c high)
