-- Rows are columns, with the weights of their value.
use Rattle.std.proofs.Common.{◌≡◌, ℕ, zero, suc, ◌+◌, ◌*◌, ◌/◌, ◌<◌, ◌==◌, Bool, List, [], ◌∷◌, ◌++◌, length, get_or, if◌then◌else◌, refl, sym, ap, subst, ◌∙◌, arith, append_assoc, eq-eqb, ⊎_elim}
use Rattle.std.proofs.Math.Nat.{mul_comm, mul-add, mul-zero}
use Rattle.std.proofs.lemmas.Bool.{ne_eqb, cases_eq}
use Rattle.std.proofs.lemmas.List.Sums.{sum_by-cons, sum_by-append}
use Rattle.kf_column.specs.declared.entry.Entry.{Entry}
use Rattle.kf_column.specs.Averages.{joint_weight, average_weight}
use Rattle.kf_column.specs.Columns.{weight_at, total}
use Rattle.kf_column.specs.Hypers.{Inner}
use Rattle.kf_column.proofs.Scaling.{total-cons, product_positive}
use Rattle.kf_column.proofs.Weights.{Above, weight_at_head, weight_at_other}
use Rattle.kf_refine.specs.Rows.{shares, row_from}

pub total-append : (u v : List Entry) → total (u ++ v) ≡ total u + total v
total-append u v = sum_by-append (λ (e : Entry). e.weight) u v

pub weight_at-append : (u v : List Entry) (k : ℕ) → weight_at (u ++ v) k ≡ weight_at u k + weight_at v k
weight_at-append u v k = sum_by-append (λ (e : Entry). if e.value == k then e.weight else 0) u v

-- ---- an inner's part of a row

module _ (number times : ℕ) where
  abbrev one : Entry → Entry
  one e = record { value = number; weight = times * e.weight }

  abbrev first_of : Entry → Bool → List Entry
  first_of e b = if b then one e ∷ [] else []

  shares_total : (es : List Entry) (x : ℕ) → total (shares number times es x) ≡ times * weight_at es x
  shares_total [] x = sym (mul-zero times)
  shares_total (e ∷ es) x =
      ⊎_elim
      (λ (same : e.value ≡ x).
      ap (λ b. total (first_of e b ++ shares number times es x)) (eq-eqb e.value x same)
      ∙ (total-cons (one e) (shares number times es x) ∙ (ap (λ n. times * e.weight + n) (shares_total es x)
      ∙ sym (ap (λ n. times * n) (weight_at_head e es x same) ∙ mul-add times e.weight (weight_at es x)))))
      (λ (other : e.value ≡ x → ⊥).
      ap (λ b. total (first_of e b ++ shares number times es x)) (ne_eqb e.value x other)
      ∙ (shares_total es x ∙ sym (ap (λ n. times * n) (weight_at_other e es x other))))
      (cases_eq e.value x)

  shares_own : (es : List Entry) (x : ℕ) → weight_at (shares number times es x) number ≡ times * weight_at es x
  shares_own [] x = sym (mul-zero times)
  shares_own (e ∷ es) x =
      ⊎_elim
      (λ (same : e.value ≡ x).
      ap (λ b. weight_at (first_of e b ++ shares number times es x) number) (eq-eqb e.value x same)
      ∙ (weight_at_head (one e) (shares number times es x) number refl ∙ (ap (λ n. times * e.weight + n) (shares_own es x)
      ∙ sym (ap (λ n. times * n) (weight_at_head e es x same) ∙ mul-add times e.weight (weight_at es x)))))
      (λ (other : e.value ≡ x → ⊥).
      ap (λ b. weight_at (first_of e b ++ shares number times es x) number) (ne_eqb e.value x other)
      ∙ (shares_own es x ∙ sym (ap (λ n. times * n) (weight_at_other e es x other))))
      (cases_eq e.value x)

  shares_other : (es : List Entry) (x k : ℕ) → (number ≡ k → ⊥) → weight_at (shares number times es x) k ≡ 0
  shares_other [] x k apart = refl
  shares_other (e ∷ es) x k apart =
      ⊎_elim
      (λ (same : e.value ≡ x).
      rw (eq-eqb e.value x same) (weight_at_other (record { value = number; weight = times * e.weight }) (shares number times es x) k apart ∙ shares_other es x k apart))
      (λ (other : e.value ≡ x → ⊥). rw (ne_eqb e.value x other) (shares_other es x k apart))
      (cases_eq e.value x)

  -- a column that names only greater values has no share
  shares_none : (low : ℕ) (es : List Entry) (x : ℕ) → Above low es → x < low → shares number times es x ≡ []
  shares_none low [] x above below = refl
  shares_none low (e ∷ es) x (from, some, rest) below =
      rw (ne_eqb e.value x (λ same. omega (arith, same, from, below))) (shares_none (e.value + 1) es x rest (omega (arith, from, below)))

  above_lower : (rest : List Entry) → Above (number + 1) rest → Above number rest
  above_lower [] above = tt
  above_lower (e ∷ es) (from, some, more) = (omega (arith, from), some, more)

  above_shares : (low : ℕ) (es rest : List Entry) (x : ℕ) → Above low es → 0 < times → Above (number + 1) rest → Above number (shares number times es x ++ rest)
  above_shares low [] rest x above some more = above_lower rest more
  above_shares low (e ∷ es) rest x (from, positive, after) some more =
      ⊎_elim
      (λ (same : e.value ≡ x).
      rw (eq-eqb e.value x same, shares_none (e.value + 1) es x after (omega (arith, same))) (omega arith, product_positive times e.weight some positive, more))
      (λ (other : e.value ≡ x → ⊥). rw (ne_eqb e.value x other) (above_shares (e.value + 1) es rest x after some more))
      (cases_eq e.value x)

-- ---- a whole row

abbrev times_of : Inner → ℕ
times_of i = i.total / total i.entries

pub row_total : (first : ℕ) (inners : List Inner) (x : ℕ) → total (row_from first inners x) ≡ average_weight inners x
row_total first [] x = refl
row_total first (i ∷ is) x =
    total-append (shares first (times_of i) i.entries x) (row_from (first + 1) is x)
    ∙ ((λ k. (shares_total first (times_of i) i.entries x ∙ mul_comm (times_of i) (weight_at i.entries x)) k + row_total (first + 1) is x k)
    ∙ sym (sum_by-cons (joint_weight x) i is))

pub row_before : (first : ℕ) (inners : List Inner) (x k : ℕ) → k < first → weight_at (row_from first inners x) k ≡ 0
row_before first [] x k below = refl
row_before first (i ∷ is) x k below =
    weight_at-append (shares first (times_of i) i.entries x) (row_from (first + 1) is x) k
    ∙ omega (arith, shares_other first (times_of i) i.entries x k (λ same. omega (arith, same, below)), row_before (first + 1) is x k (omega (arith, below)))

pub row_weight : (first : ℕ) (inners : List Inner) (x k : ℕ) → weight_at (row_from first inners x) (first + k) ≡ joint_weight x (get_or inners k (record { entries = []; total = 0 }))
row_weight first [] x k = refl
row_weight first (i ∷ is) x zero =
    weight_at-append (shares first (times_of i) i.entries x) (row_from (first + 1) is x) (first + 0)
    ∙ (let here : weight_at (shares first (times_of i) i.entries x) (first + 0) ≡ times_of i * weight_at i.entries x =
    ap (weight_at (shares first (times_of i) i.entries x)) (omega arith) ∙ shares_own first (times_of i) i.entries x in
    omega (arith, here, row_before (first + 1) is x (first + 0) (omega arith), mul_comm (times_of i) (weight_at i.entries x)))
row_weight first (i ∷ is) x (suc k) =
    weight_at-append (shares first (times_of i) i.entries x) (row_from (first + 1) is x) (first + suc k)
    ∙ (let later : weight_at (row_from (first + 1) is x) (first + suc k) ≡ joint_weight x (get_or is k (record { entries = []; total = 0 })) =
    ap (weight_at (row_from (first + 1) is x)) (omega arith) ∙ row_weight (first + 1) is x k in
    omega (arith, shares_other first (times_of i) i.entries x (first + suc k) (λ same. omega (arith, same)), later))

-- each inner is a column, and goes whole into its class
abbrev pub AreShares : List Inner → Type 0
AreShares [] = Unit {0}
AreShares (i ∷ is) = Above 0 i.entries × (0 < i.total / total i.entries) × AreShares is

pub above_row : (first : ℕ) (inners : List Inner) (rest : List Entry) (x : ℕ) → AreShares inners → Above (first + length inners) rest → Above first (row_from first inners x ++ rest)
above_row first [] rest x proper more = subst (λ n. Above n rest) (omega arith) more
above_row first (i ∷ is) rest x (column, some, others) more =
    subst (Above first) (sym (append_assoc (shares first (times_of i) i.entries x) (row_from (first + 1) is x) rest))
    (above_shares first (times_of i) 0 i.entries (row_from (first + 1) is x ++ rest) x column some
    (above_row (first + 1) is rest x others (subst (λ n. Above n rest) (omega arith) more)))
