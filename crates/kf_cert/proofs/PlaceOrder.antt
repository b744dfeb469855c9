-- Named entries whose places ascend, and the value that is named for a place.
use Rattle.std.proofs.Common.{◌≡◌, ◌⊎◌, inl, inr, ⊎_elim, ℕ, zero, suc, ◌+◌, ◌<◌, ◌≤◌, ◌&&◌, ◌==◌, List, [], ◌∷◌, map, length, get_or, drop, ◌-◌, length-drop, Bool, true, false, refl, sym, ap, ◌∙◌, arith}
use Rattle.std.specs.Prelude.{⊤, nat_lt}
use Rattle.std.proofs.Math.IntN.{pos}
use Rattle.std.proofs.lemmas.Bool.{ltb-true, lt-ltb, eqb-true, eq-eqb, ne_eqb, and_parts, and_left, or_cases, or_left, or_right, cases_eq}
use Rattle.std.proofs.lemmas.List.{drop_more, length-map}
use Rattle.kf_refine.specs.Refinements.{Fraction}
use Rattle.kf_cert.specs.Certificates.{EntryTree, value_at, ascends}
use Rattle.kf_cert.specs.Order.{stands_at, comes_before}

abbrev none : Fraction
none = record { num = pos 0; den = 1 }

-- a place is row i and column j, or comes behind it
abbrev pub IsFrom : ℕ → ℕ → EntryTree → Type 0
IsFrom i j e = (i < e.row) ⊎ ((i ≡ e.row) × (j ≤ e.column))

-- all places are from there on, and each comes before the next
abbrev pub Above : ℕ → ℕ → List EntryTree → Type 0
Above i j [] = ⊤
Above i j (e ∷ es) = IsFrom i j e × Above e.row (e.column + 1) es

-- ---- tests and places

pub from_before : (i j k l : ℕ) (e : EntryTree) → (i < k) ⊎ ((i ≡ k) × (j ≤ l)) → IsFrom k l e → IsFrom i j e
from_before i j k l e (inl less) (inl more) = inl (omega (arith, less, more))
from_before i j k l e (inl less) (inr same) = inl (omega (arith, less, same.0))
from_before i j k l e (inr same) (inl more) = inl (omega (arith, same.0, more))
from_before i j k l e (inr same) (inr also) = inr (same.0 ∙ also.0, omega (arith, same.1, also.1))

pub above_before : (i j k l : ℕ) (es : List EntryTree) → (i < k) ⊎ ((i ≡ k) × (j ≤ l)) → Above k l es → Above i j es
above_before i j k l [] before above = tt
above_before i j k l (e ∷ es) before above = (from_before i j k l e before above.0, above.1)

-- what comes before another is what the other stands behind
pub before_told : (i j : ℕ) (e : EntryTree) → comes_before i j e ≡ true → (e.row < i) ⊎ ((e.row ≡ i) × (e.column < j))
before_told i j e h =
    ⊎_elim
    (λ (less : nat_lt e.row i ≡ true). inl (ltb-true e.row i less))
    (λ (same : ((e.row == i) && nat_lt e.column j) ≡ true).
    let both = and_parts (e.row == i) (nat_lt e.column j) same in
    inr (eqb-true e.row i both.0, ltb-true e.column j both.1))
    (or_cases (nat_lt e.row i) ((e.row == i) && nat_lt e.column j) h)

pub told_before : (i j : ℕ) (e : EntryTree) → (e.row < i) ⊎ ((e.row ≡ i) × (e.column < j)) → comes_before i j e ≡ true
told_before i j e (inl less) = or_left (nat_lt e.row i) _ (lt-ltb e.row i less)
told_before i j e (inr same) =
    or_right (nat_lt e.row i) ((e.row == i) && nat_lt e.column j) (rw (eq-eqb e.row i same.0, lt-ltb e.column j same.1) refl)

follows : (e f : EntryTree) → comes_before f.row f.column e ≡ true → IsFrom e.row (e.column + 1) f
follows e f h = by (before_told f.row f.column e h)
  where
    by : (e.row < f.row) ⊎ ((e.row ≡ f.row) × (e.column < f.column)) → IsFrom e.row (e.column + 1) f
    by (inl less) = inl less
    by (inr same) = inr (same.0, omega (arith, same.1))

leads : (e f : EntryTree) → IsFrom e.row (e.column + 1) f → comes_before f.row f.column e ≡ true
leads e f (inl less) = told_before f.row f.column e (inl less)
leads e f (inr same) = told_before f.row f.column e (inr (same.0, omega (arith, same.1)))

-- ---- lists that ascend

pub above_ascends : (i j : ℕ) (es : List EntryTree) → Above i j es → ascends es ≡ true
above_ascends i j [] above = refl
above_ascends i j (e ∷ []) above = refl
above_ascends i j (e ∷ f ∷ es) above = rw (leads e f above.1.0) (above_ascends e.row (e.column + 1) (f ∷ es) above.1)

-- from the first entry's place on
ascends_behind : (e : EntryTree) (es : List EntryTree) → ascends (e ∷ es) ≡ true → Above e.row (e.column + 1) es
ascends_behind e [] h = tt
ascends_behind e (f ∷ es) h =
    let both = and_parts (comes_before f.row f.column e) (ascends (f ∷ es)) h in (follows e f both.0, ascends_behind f es both.1)

pub ascends_above : (es : List EntryTree) → ascends es ≡ true → Above 0 0 es
ascends_above [] h = tt
ascends_above (e ∷ es) h = (first e.row refl, ascends_behind e es h)
  where
    first : (r : ℕ) → e.row ≡ r → IsFrom 0 0 e
    first zero same = inr (sym same, omega arith)
    first (suc r) same = inl (omega (arith, same))

-- ---- values

not_there : (i j : ℕ) (e : EntryTree) (es : List EntryTree) → stands_at i j e ≡ false → value_at (e ∷ es) i j ≡ value_at es i j
not_there i j e es other = rw other refl

apart : (i j : ℕ) (e : EntryTree) → ((e.row ≡ i) × (e.column ≡ j) → ⊥) → stands_at i j e ≡ false
apart i j e never =
    ⊎_elim
    (λ (same : e.row ≡ i). rw (ne_eqb e.column j (λ (also : e.column ≡ j). never (same, also))) (no_and (e.row == i)))
    (λ (other : e.row ≡ i → ⊥). and_left (e.row == i) (e.column == j) (ne_eqb e.row i other))
    (cases_eq e.row i)
  where
    no_and : (b : Bool) → (b && false) ≡ false
    no_and true = refl
    no_and false = refl

behind_apart : (i j : ℕ) (e : EntryTree) → IsFrom i (j + 1) e → stands_at i j e ≡ false
behind_apart i j e (inl more) = apart i j e (λ (both : (e.row ≡ i) × (e.column ≡ j)). omega (arith, more, both.0))
behind_apart i j e (inr same) = apart i j e (λ (both : (e.row ≡ i) × (e.column ≡ j)). omega (arith, same.1, both.1))

-- no value is named for a place before all entries
pub value_none : (i j : ℕ) (es : List EntryTree) → Above i (j + 1) es → value_at es i j ≡ none
value_none i j [] above = refl
value_none i j (e ∷ es) above =
    not_there i j e es (behind_apart i j e above.0)
    ∙ value_none i j es (above_before i (j + 1) e.row (e.column + 1) es (further above.0) above.1)
  where
    further : IsFrom i (j + 1) e → (i < e.row) ⊎ ((i ≡ e.row) × (j + 1 ≤ e.column + 1))
    further (inl more) = inl more
    further (inr same) = inr (same.0, omega (arith, same.1))

-- ---- a loop over neighbours

module _ {X : Type 0} (seen : X → EntryTree) (xs : List X) where
  -- from the entry before the k-th on they ascend as all do
  abbrev pub StillAscends : ℕ → Type 0
  StillAscends k = ascends (map seen (drop (k - 1) xs)) ≡ ascends (map seen xs)

  two : (j : ℕ) (e f : X) → j + 1 < length xs → e ≡ get_or xs j e → f ≡ get_or xs (j + 1) f
      → map seen (drop j xs) ≡ seen e ∷ seen f ∷ map seen (drop (j + 1 + 1) xs)
  two j e f within here next =
      ap (map seen)
      (drop_more xs j e (omega (arith, within)) ∙ ap (λ (y : X). y ∷ drop (j + 1) xs) (sym here)
      ∙ ap (λ (ys : List X). e ∷ ys) (drop_more xs (j + 1) f within ∙ ap (λ (y : X). y ∷ drop (j + 1 + 1) xs) (sym next)))

  one : (j : ℕ) (f : X) → j < length xs → f ≡ get_or xs j f → map seen (drop j xs) ≡ seen f ∷ map seen (drop (j + 1) xs)
  one j f within here = ap (map seen) (drop_more xs j f within ∙ ap (λ (y : X). y ∷ drop (j + 1) xs) (sym here))

  module _ (k : ℕ) (e f : X) (some : 1 ≤ k) (within : k < length xs) (here : e ≡ get_or xs (k - 1) e) (next : f ≡ get_or xs k f) where
    split : ascends (map seen (drop (k - 1) xs)) ≡ (comes_before (seen f).row (seen f).column (seen e) && ascends (map seen (drop k xs)))
    split =
        let same : k ≡ k - 1 + 1 = omega (arith, some) in
        let after : f ≡ get_or xs (k - 1 + 1) f = next ∙ ap (λ (n : ℕ). get_or xs n f) same in
        ap ascends (two (k - 1) e f (omega (arith, some, within)) here after)
        ∙ ap (λ (es : List EntryTree). comes_before (seen f).row (seen f).column (seen e) && ascends es)
        (sym (one (k - 1 + 1) f (omega (arith, some, within)) after) ∙ ap (λ (n : ℕ). map seen (drop n xs)) (sym same))

    pub ascends_more : comes_before (seen f).row (seen f).column (seen e) ≡ true → StillAscends k → StillAscends (k + 1)
    ascends_more before still =
        let same : k + 1 - 1 ≡ k = omega arith in
        ap (λ (n : ℕ). ascends (map seen (drop n xs))) same ∙ sym (ap (λ (b : Bool). b && ascends (map seen (drop k xs))) before) ∙ sym split ∙ still

    pub ascends_fails : comes_before (seen f).row (seen f).column (seen e) ≡ false → StillAscends k → ascends (map seen xs) ≡ false
    ascends_fails other still = sym still ∙ split ∙ ap (λ (b : Bool). b && ascends (map seen (drop k xs))) other

  short_ascends : (es : List EntryTree) → length es ≤ 1 → ascends es ≡ true
  short_ascends [] short = refl
  short_ascends (e ∷ []) short = refl
  short_ascends (e ∷ f ∷ es) short = absurd (omega (arith, short))

  pub ascends_all : (k : ℕ) → length xs ≤ k → StillAscends k → ascends (map seen xs) ≡ true
  ascends_all k past still =
      sym still ∙ short_ascends (map seen (drop (k - 1) xs)) (omega (arith, past, length-map (drop (k - 1) xs) seen, length-drop (k - 1) xs))
