-- Rows while entries are put behind them.
use Rattle.std.proofs.Common.{◌≡◌, ℕ, zero, suc, ◌+◌, ◌*◌, ◌/◌, ◌<◌, ◌≤◌, ◌^◌, ◌==◌, if◌then◌else◌, List, [], ◌∷◌, ◌++◌, length, get_or, drop, sum_by, sym, ap, ◌∙◌, arith, append_assoc}
use Rattle.std.proofs.Math.Nat.{div-mul_cancel, mul-le-mul_left}
use Rattle.std.proofs.lemmas.Nat.Gcd.{le_of_dvd}
use Rattle.std.proofs.lemmas.List.{drop_more}
use Rattle.std.proofs.lemmas.List.Sums.{get_or-le-sum_by}
use Rattle.kf_frac.specs.Fractions.{limit}
use Rattle.kf_column.specs.declared.entry.Entry.{Entry}
use Rattle.kf_column.specs.Columns.{total}
use Rattle.kf_column.specs.Hypers.{Inner}
use Rattle.kf_hyper.specs.Views.{inners_of, inner_at}
use Rattle.kf_hyper.specs.declared.hyper.Hyper.{Hyper}
use Rattle.kf_column.proofs.Scaling.{total_positive}
use Rattle.kf_refine.specs.Rows.{Rows, row_at, shares, row_from, Grows, AreFilled}

-- ---- many

-- the rows so far, and what is left for them, are those of before and all that is added
pub record GoesOn (left added : ℕ → List Entry) (old now : Rows) : Type 0 where
  pub rows : (x : ℕ) → row_at now x ++ left x ≡ row_at old x ++ added x
  pub filled : AreFilled old → AreFilled now

module _ (left next cell added : ℕ → List Entry) (old mid new : Rows) where
  goes_step : ((x : ℕ) → left x ≡ cell x ++ next x) → GoesOn left added old mid → Grows cell mid new → (AreFilled mid → AreFilled new) → GoesOn next added old new
  goes_step parts had grows filled = record {
    rows = λ x. ap (λ r. r ++ next x) (grows x) ∙ (append_assoc (row_at mid x) (cell x) (next x) ∙ (ap (λ r. row_at mid x ++ r) (sym (parts x)) ∙ had.rows x));
    filled = λ f. filled (had.filled f);
  }

module _ (first : ℕ) (inners : List Inner) (i : ℕ) (old mid : Rows) (had : GoesOn (row_from (first + i) (drop i inners)) (row_from first inners) old mid) where
  pub inners_step : (times : ℕ) (entries : List Entry) (new : Rows) → i < length inners
      → times ≡ (get_or inners i (record { entries = []; total = 0 })).total / total (get_or inners i (record { entries = []; total = 0 })).entries
      → entries ≡ (get_or inners i (record { entries = []; total = 0 })).entries
      → Grows (shares (first + i) times entries) mid new → (AreFilled mid → AreFilled new)
      → GoesOn (row_from (first + (i + 1)) (drop (i + 1) inners)) (row_from first inners) old new
  inners_step times entries new within share same grows filled =
      goes_step (row_from (first + i) (drop i inners)) (row_from (first + (i + 1)) (drop (i + 1) inners)) (shares (first + i) times entries) (row_from first inners) old mid new
      (λ x. ap (λ l. row_from (first + i) l x) (drop_more inners i (record { entries = []; total = 0 }) within)
      ∙ (λ k. shares (first + i) (sym share k) (sym same k) x ++ row_from (next k) (drop (i + 1) inners) x)) had grows filled
    where
      next : first + i + 1 ≡ first + (i + 1)
      next = omega arith

-- ---- an inner's share of its class

pub positive_factor : (a b c : ℕ) → a * b ≡ c → 0 < c → 0 < a
positive_factor zero b c e some = absurd (omega (arith, e, some))
positive_factor (suc a) b c e some = omega arith

module _ (h : Hyper) (i : ℕ) (inside : i < length (inners_of h)) where
  abbrev none : Inner
  none = record { entries = []; total = 0 }

  pub whole_some : 0 < total (inner_at h i).entries
  whole_some = total_positive (inner_at h i).entries (h.shape.inner i none inside).column

  total_narrow : (inner_at h i).total ≤ limit
  total_narrow =
      let part : (inner_at h i).total ≤ sum_by (λ (j : Inner). j.total) (inners_of h) = get_or-le-sum_by (λ (j : Inner). j.total) (inners_of h) i none inside in
      omega (arith, part, h.shape.whole, h.shape.narrow)

  pub whole_narrow : total (inner_at h i).entries < 2 ^ 128
  whole_narrow = omega (arith, le_of_dvd (h.shape.used i none inside) (h.shape.multiple i none inside), total_narrow)

  times_whole : ((inner_at h i).total / total (inner_at h i).entries) * total (inner_at h i).entries ≡ (inner_at h i).total
  times_whole = div-mul_cancel (total (inner_at h i).entries) (h.shape.multiple i none inside)

  pub share_narrow : ((inner_at h i).total / total (inner_at h i).entries) * total (inner_at h i).entries < 2 ^ 128
  share_narrow = omega (arith, times_whole, total_narrow)

  pub share_some : 0 < (inner_at h i).total / total (inner_at h i).entries
  share_some = positive_factor _ (total (inner_at h i).entries) (inner_at h i).total times_whole (h.shape.used i none inside)

-- ---- an entry's turn

module _ (number times : ℕ) (entries : List Entry) (i : ℕ) (d : Entry) (inside : i < length entries) where
  pub share_fits : (most : ℕ) → times * total entries < most → times * (get_or entries i d).weight < most
  share_fits most fits = omega (arith, mul-le-mul_left times (get_or-le-sum_by (λ (e : Entry). e.weight) entries i d inside), fits)

  -- what it adds
  abbrev here : ℕ → List Entry
  here x = if (get_or entries i d).value == x then record { value = number; weight = times * (get_or entries i d).weight } ∷ [] else []

  pub shares_step : (old mid new : Rows) → GoesOn (shares number times (drop i entries)) (shares number times entries) old mid → Grows here mid new
      → (AreFilled mid → AreFilled new) → GoesOn (shares number times (drop (i + 1) entries)) (shares number times entries) old new
  shares_step old mid new had grows filled =
      goes_step (shares number times (drop i entries)) (shares number times (drop (i + 1) entries)) here (shares number times entries) old mid new
      (λ x. ap (λ l. shares number times l x) (drop_more entries i d inside)) had grows filled
