-- The order of two rows by their numbers over a stretch of columns.
use Rattle.std.proofs.Common.{◌≡◌, ℕ, zero, suc, ◌+◌, ◌-◌, ◌<◌, ◌≤◌, ap, ◌∙◌, subst, arith, ⊎_elim, List, []}
use Rattle.std.proofs.Math.IntN.{ℤ, pos, ◌*ℤ◌}
use Rattle.std.proofs.lemmas.Int.{ints}
use Rattle.std.proofs.lemmas.Bool.{cases_lt}
use Rattle.std.specs.declared.cmp.Ordering.{Ordering}
use Rattle.std.specs.declared.cmp.Ordering.TheVariants.{Less, Equal, Greater}
use lib.Signed.{◌<ℤ◌}
use Rattle.kf_simplex.specs.declared.row.Entry.{Entry}
use Rattle.kf_simplex.specs.Entries.{number_in, Ascends, IsLeast}
use Rattle.kf_simplex.specs.Cells.{IsFirstDifference}
use Rattle.kf_simplex.proofs.Merging.{AreLeft, left_both, left_here, left_gap, left_after, low_is}

-- before some column the numbers agree, and from it on both rows are left
abbrev pub IsTailing : List Entry → List Entry → List Entry → List Entry → ℕ → ℕ → ℤ → ℤ → Type 0
IsTailing a b xs ys from to p q = (low : ℕ) × AreLeft a b xs ys low × ((j : ℕ) → from ≤ j → j < to → j < low → number_in a j *ℤ q ≡ number_in b j *ℤ p)

pub tailing_first : (a b xs ys : List Entry) (from to : ℕ) (p q : ℤ) → xs ≡ a → ys ≡ b → Ascends 0 a → Ascends 0 b → IsTailing a b xs ys from to p q
tailing_first a b xs ys from to p q ex ey up up' = (0, rw (ex, ey) (left_both a b up up'), λ j u v w. absurd (omega arith))

both_zero : (x y p q : ℤ) → x ≡ pos 0 → y ≡ pos 0 → x *ℤ q ≡ y *ℤ p
both_zero x y p q ex ey = rw (ex, ey) (omega (arith, ints))

module _ (a b xs ys : List Entry) (from to : ℕ) (p q x y : ℤ) (column : ℕ) (after_x after_y : List Entry)
    (least : IsLeast xs ys column x y after_x after_y) (h : IsTailing a b xs ys from to p q) where
  order : h.0 ≤ column
  order = low_is a b xs ys h.0 column x y after_x after_y h.1 least

  x_is : number_in a column ≡ x
  x_is = left_here a xs h.0 column x after_x order h.1.first least.first

  y_is : number_in b column ≡ y
  y_is = left_here b ys h.0 column y after_y order h.1.second least.second

  before : (j : ℕ) → from ≤ j → j < to → j < column → number_in a j *ℤ q ≡ number_in b j *ℤ p
  before j u v w =
      ⊎_elim
      (λ (m : j < h.0). h.2 j u v m)
      (λ (m : h.0 ≤ j). both_zero (number_in a j) (number_in b j) p q
      (left_gap a xs h.0 column x after_x h.1.first least.first j m w) (left_gap b ys h.0 column y after_y h.1.second least.second j m w))
      (cases_lt j h.0)

  pub tailing_more : (from ≤ column → column < to → x *ℤ q ≡ y *ℤ p) → IsTailing a b after_x after_y from to p q
  tailing_more same = (
    column + 1,
    left_after a b xs ys h.0 column x y after_x after_y h.1 least,
    λ j u v w. ⊎_elim
        (λ (m : j < column). before j u v m)
        (λ (m : column ≤ j). let e : column ≡ j = omega arith in
        subst (λ (k : ℕ). number_in a k *ℤ q ≡ number_in b k *ℤ p) e (rw (x_is, y_is) (same (omega arith) (omega arith))))
        (cases_lt j column),
  )

  place : from ≤ column → from + (column - from) ≡ column
  place u = omega arith

  pub tailing_less : from ≤ column → column < to → (x *ℤ q) <ℤ (y *ℤ p) → IsFirstDifference (λ m. number_in a (from + m) *ℤ q) (λ m. number_in b (from + m) *ℤ p) (to - from) Less
  tailing_less u v l = (
    column - from,
    omega arith,
    λ k m. before (from + k) (omega arith) (omega arith) (omega arith),
    rw (place u, x_is, y_is) l,
  )

  pub tailing_greater : from ≤ column → column < to → (y *ℤ p) <ℤ (x *ℤ q) → IsFirstDifference (λ m. number_in a (from + m) *ℤ q) (λ m. number_in b (from + m) *ℤ p) (to - from) Greater
  tailing_greater u v l = (
    column - from,
    omega arith,
    λ k m. before (from + k) (omega arith) (omega arith) (omega arith),
    rw (place u, x_is, y_is) l,
  )

pub tailing_equal : (a b xs ys : List Entry) (from to : ℕ) (p q : ℤ) → xs ≡ [] → ys ≡ [] → IsTailing a b xs ys from to p q
    → IsFirstDifference (λ m. number_in a (from + m) *ℤ q) (λ m. number_in b (from + m) *ℤ p) (to - from) Equal
tailing_equal a b xs ys from to p q ex ey h k l =
    ⊎_elim
    (λ (m : from + k < h.0). h.2 (from + k) (omega arith) (omega arith) m)
    (λ (m : h.0 ≤ from + k). both_zero (number_in a (from + k)) (number_in b (from + k)) p q
    (h.1.first.same (from + k) m ∙ ap (λ (es : List Entry). number_in es (from + k)) ex) (h.1.second.same (from + k) m ∙ ap (λ (es : List Entry). number_in es (from + k)) ey))
    (cases_lt (from + k) h.0)

-- ---- the right sides first

shifted_same : (f g : ℕ → ℤ) (n : ℕ) → f 0 ≡ g 0 → ((k : ℕ) → k < n → f (suc k) ≡ g (suc k)) → (k : ℕ) → k < suc n → f k ≡ g k
shifted_same f g n e h zero l = e
shifted_same f g n e h (suc k) l = h k (omega arith)

shifted : (f g : ℕ → ℤ) (n : ℕ) (o : Ordering) → f 0 ≡ g 0 → IsFirstDifference (λ m. f (suc m)) (λ m. g (suc m)) n o → IsFirstDifference f g (suc n) o
shifted f g n Less e h = (suc h.0, (let l = h.1 in omega (arith, l)), shifted_same f g h.0 e h.2, h.3)
shifted f g n Greater e h = (suc h.0, (let l = h.1 in omega (arith, l)), shifted_same f g h.0 e h.2, h.3)
shifted f g n Equal e h = shifted_same f g n e h

pub right_first : (f g : ℕ → ℤ) (v right : ℕ) (o : Ordering) → v ≤ right → f 0 ≡ g 0 → IsFirstDifference (λ m. f (suc m)) (λ m. g (suc m)) (right - v) o → IsFirstDifference f g (right + 1 - v) o
right_first f g v right o l e h = let n : suc (right - v) ≡ right + 1 - v = omega arith in subst (λ (k : ℕ). IsFirstDifference f g k o) n (shifted f g (right - v) o e h)
