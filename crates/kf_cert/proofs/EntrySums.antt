-- Sums over a matrix of named entries are sums over the entries.
use Rattle.std.proofs.Common.{◌≡◌, ℕ, ◌+◌, ◌*◌, ◌/◌, ◌<◌, ◌≤◌, ◌&&◌, ◌==◌, List, [], ◌∷◌, All, map, sum_by, Bool, true, false, refl, sym, ap, ◌∙◌, arith, ⊎_elim, if◌then◌else◌}
use Rattle.std.specs.Prelude.{⊤, unsigned_abs}
use Rattle.std.specs.List.{list_all}
use Rattle.std.proofs.Math.IntN.{ℤ, pos, negsuc, ◌+ℤ◌, ◌*ℤ◌}
use Rattle.std.proofs.Math.Nat.{mul-div-le, mul-le-mul_right, mul-le-mul_left}
use Rattle.std.proofs.lemmas.Bool.{cases_eq, ltb-true, eqb-true, eq-eqb, ne_eqb, and_parts, and_left, and_right, and_from}
use Rattle.std.proofs.lemmas.Int.{ints}
use Rattle.std.proofs.lemmas.List.Elements.{All-head, All-tail, All-nil, All-cons}
use Rattle.std.proofs.lemmas.List.Sums.{sum_by-cons}
use lib.Signed.{◌≤ℤ◌}
use Rattle.kf_column.specs.Hypers.{Inner}
use Rattle.kf_simplex.specs.Base.{total}
use Rattle.kf_simplex.proofs.Sums.{total-ext, total-add, total-single, total_all_zero, total-scale_right, choose, choose-same, choose-other}
use Rattle.kf_refine.specs.Refinements.{HyperTree, Fraction, count}
use Rattle.kf_refine.proofs.Spreading.{total-list}
use Rattle.kf_refine.proofs.Totals.{total_monotone}
use Rattle.kf_cert.specs.Cells.{total_at, column_total}
use Rattle.kf_cert.specs.Certificates.{EntryTree, value_at}
use Rattle.kf_cert.specs.Rows.{IsWithin, amount_of, share_of, row_amount}
use Rattle.kf_cert.specs.declared.matrix_rules.shares.Share.{Share}
use Rattle.kf_cert.proofs.PlaceOrder.{Above, value_none}
use Rattle.kf_cert.specs.Order.{is_inside}

abbrev none : Fraction
none = record { num = pos 0; den = 1 }

-- ---- one member more

module _ (n r : ℕ) (f g : ℕ → ℕ) (below : r < n) (new : g r ≡ 0) (same : (k : ℕ) → (k ≡ r → ⊥) → f k ≡ g k) where
  member : (k : ℕ) → pos (f k) ≡ choose k r (pos (f r)) (pos 0) +ℤ pos (g k)
  member k =
      ⊎_elim
      (λ (e : k ≡ r). rw e (rw (choose-same r (pos (f r)) (pos 0)) (omega (arith, ints, new))))
      (λ (d : k ≡ r → ⊥). rw (choose-other k r (pos (f r)) (pos 0) d) (omega (arith, ints, same k d)))
      (cases_eq k r)

  alone : total n (λ k. choose k r (pos (f r)) (pos 0)) ≡ pos (f r)
  alone =
      total-single n r (λ k. choose k r (pos (f r)) (pos 0)) below (λ k l d. choose-other k r (pos (f r)) (pos 0) d)
      ∙ choose-same r (pos (f r)) (pos 0)

  one_more : total n (λ k. pos (f k)) ≡ pos (f r) +ℤ total n (λ k. pos (g k))
  one_more =
      total-ext n (λ k. pos (f k)) (λ k. choose k r (pos (f r)) (pos 0) +ℤ pos (g k)) (λ k l. member k)
      ∙ total-add n (λ k. choose k r (pos (f r)) (pos 0)) (λ k. pos (g k))
      ∙ ap (λ (z : ℤ). z +ℤ total n (λ k. pos (g k))) alone

-- ---- one line of a matrix: a row or a column

-- `found entries k` is the value that is named for the k-th place of the line, on which an entry stands that passes the test
module _ (n d : ℕ) (test : EntryTree → Bool) (place : EntryTree → ℕ) (found : List EntryTree → ℕ → Fraction) (weight : ℕ → ℕ) (measure : Share → ℕ)
    (empty : (k : ℕ) → found [] k ≡ none)
    (next : (e : EntryTree) (es : List EntryTree) (k : ℕ) → found (e ∷ es) k ≡ (if (place e == k) && test e then e.value else found es k))
    (measured : (e : EntryTree) → measure (share_of d e) ≡ (if test e then weight (place e) * amount_of d e.value else 0)) where
  -- no two entries of the line stand at one place of it
  abbrev Apart : List EntryTree → Type 0
  Apart [] = ⊤
  Apart (e ∷ es) = (test e ≡ true → (place e < n) × (found es (place e) ≡ none)) × Apart es

  abbrev there : List EntryTree → ℕ → ℕ
  there es k = weight k * amount_of d (found es k)

  nothing : (es : List EntryTree) (k : ℕ) → found es k ≡ none → there es k ≡ 0
  nothing es k is = ap (λ (f : Fraction). weight k * amount_of d f) is ∙ omega arith

  module _ (e : EntryTree) (es : List EntryTree) where
    other_line : test e ≡ false → (k : ℕ) → there (e ∷ es) k ≡ there es k
    other_line failed k =
        ap (λ (f : Fraction). weight k * amount_of d f)
        (next e es k ∙ ap (λ (b : Bool). if b then e.value else found es k) (and_right (place e == k) (test e) failed))

    other_place : (k : ℕ) → (k ≡ place e → ⊥) → there (e ∷ es) k ≡ there es k
    other_place k away =
        ap (λ (f : Fraction). weight k * amount_of d f)
        (next e es k
        ∙ ap (λ (b : Bool). if b then e.value else found es k)
        (and_left (place e == k) (test e) (ne_eqb (place e) k (λ (same : place e ≡ k). away (sym same)))))

    this_place : test e ≡ true → there (e ∷ es) (place e) ≡ measure (share_of d e)
    this_place passed =
        ap (λ (f : Fraction). weight (place e) * amount_of d f)
        (next e es (place e)
        ∙ ap (λ (b : Bool). if b then e.value else found es (place e))
        (and_from (place e == place e) (test e) (eq-eqb (place e) (place e) refl) passed))
        ∙ sym (measured e ∙ ap (λ (b : Bool). if b then weight (place e) * amount_of d e.value else 0) passed)

    unmeasured : test e ≡ false → measure (share_of d e) ≡ 0
    unmeasured failed = measured e ∙ ap (λ (b : Bool). if b then weight (place e) * amount_of d e.value else 0) failed

  pub line_sum : (es : List EntryTree) → Apart es → total n (λ k. pos (there es k)) ≡ pos (sum_by measure (map (share_of d) es))
  line_sum [] apart = total_all_zero n (λ k. pos (there [] k)) (λ k l. ap pos (nothing [] k (empty k)))
  line_sum (e ∷ es) (new, apart) = by (test e) refl (line_sum es apart)
    where
      by : (b : Bool) → test e ≡ b → total n (λ k. pos (there es k)) ≡ pos (sum_by measure (map (share_of d) es))
          → total n (λ k. pos (there (e ∷ es) k)) ≡ pos (sum_by measure (share_of d e ∷ map (share_of d) es))
      by false failed rest =
          let whole = sum_by-cons measure (share_of d e) (map (share_of d) es) in
          total-ext n (λ k. pos (there (e ∷ es) k)) (λ k. pos (there es k)) (λ k l. ap pos (other_line e es failed k))
          ∙ rest ∙ ap pos (omega (arith, whole, unmeasured e es failed))
      by true passed rest =
          let whole = sum_by-cons measure (share_of d e) (map (share_of d) es) in
          one_more n (place e) (there (e ∷ es)) (there es) (new passed).0 (nothing es (place e) (new passed).1) (other_place e es)
          ∙ omega (arith, ints, rest, whole, this_place e es passed)

-- ---- rows and columns

turned : (b c : Bool) → (b && c) ≡ (c && b)
turned true true = refl
turned true false = refl
turned false true = refl
turned false false = refl

-- each place is one of m rows and n columns
abbrev pub AreInside : ℕ → ℕ → List EntryTree → Type 0
AreInside m n es = All (λ e. (e.row < m) × (e.column < n)) es

pub inside_told : (m n : ℕ) (es : List EntryTree) → list_all (is_inside m n) es ≡ true → AreInside m n es
inside_told m n [] all = All-nil (λ (e : EntryTree). (e.row < m) × (e.column < n))
inside_told m n (e ∷ es) all =
    let both = and_parts (is_inside m n e) (list_all (is_inside m n) es) all in
    let here = and_parts _ _ both.0 in
    All-cons (λ (e : EntryTree). (e.row < m) × (e.column < n)) e es (ltb-true e.row m here.0, ltb-true e.column n here.1) (inside_told m n es both.1)

module _ (m n d : ℕ) where
  module _ (i : ℕ) where
    on_row : EntryTree → Bool
    on_row e = e.row == i

    row_next : (e : EntryTree) (es : List EntryTree) (k : ℕ) → value_at (e ∷ es) i k ≡ (if (e.column == k) && (e.row == i) then e.value else value_at es i k)
    row_next e es k = ap (λ (b : Bool). if b then e.value else value_at es i k) (turned (e.row == i) (e.column == k))

    row_measured : (e : EntryTree) → (if e.row == i then amount_of d e.value else 0) ≡ (if e.row == i then 1 * amount_of d e.value else 0)
    row_measured e = ap (λ (a : ℕ). if e.row == i then a else 0) (omega arith)

    row_apart : (r c : ℕ) (es : List EntryTree) → Above r c es → AreInside m n es
        → Apart n d (λ e. e.row == i) (λ e. e.column) (λ es k. value_at es i k) (λ k. 1) (λ s. if s.row == i then s.amount else 0) (λ k. refl) row_next row_measured es
    row_apart r c [] above inside = tt
    row_apart r c (e ∷ es) above inside = (
      λ (same : (e.row == i) ≡ true). (
        (All-head (λ (e : EntryTree). (e.row < m) × (e.column < n)) e es inside).1,
        ap (λ (k : ℕ). value_at es k e.column) (sym (eqb-true e.row i same)) ∙ value_none e.row e.column es above.1,
      ),
      row_apart e.row (e.column + 1) es above.1 (All-tail (λ (e : EntryTree). (e.row < m) × (e.column < n)) e es inside),
    )

    pub row_sum : (es : List EntryTree) → Above 0 0 es → AreInside m n es
        → total n (λ j. pos (amount_of d (value_at es i j))) ≡ pos (row_amount (map (share_of d) es) i)
    row_sum es above inside =
        total-ext n (λ j. pos (amount_of d (value_at es i j))) (λ j. pos (1 * amount_of d (value_at es i j))) (λ j l. ap pos (omega arith))
        ∙ line_sum n d (λ e. e.row == i) (λ e. e.column) (λ es k. value_at es i k) (λ k. 1) (λ s. if s.row == i then s.amount else 0) (λ k. refl) row_next row_measured es
        (row_apart 0 0 es above inside)

  module _ (j : ℕ) (weight : ℕ → ℕ) where
    column_apart : (r c : ℕ) (es : List EntryTree) → Above r c es → AreInside m n es
        → Apart m d (λ e. e.column == j) (λ e. e.row) (λ es k. value_at es k j) weight (λ s. if s.column == j then weight s.row * s.amount else 0) (λ k. refl) (λ e es k. refl) (λ e. refl) es
    column_apart r c [] above inside = tt
    column_apart r c (e ∷ es) above inside = (
      λ (same : (e.column == j) ≡ true). (
        (All-head (λ (e : EntryTree). (e.row < m) × (e.column < n)) e es inside).0,
        ap (λ (k : ℕ). value_at es e.row k) (sym (eqb-true e.column j same)) ∙ value_none e.row e.column es above.1,
      ),
      column_apart e.row (e.column + 1) es above.1 (All-tail (λ (e : EntryTree). (e.row < m) × (e.column < n)) e es inside),
    )

    pub column_sum : (es : List EntryTree) → Above 0 0 es → AreInside m n es
        → total m (λ i. pos (weight i * amount_of d (value_at es i j))) ≡ pos (sum_by (λ s. if s.column == j then weight s.row * s.amount else 0) (map (share_of d) es))
    column_sum es above inside =
        line_sum m d (λ e. e.column == j) (λ e. e.row) (λ es k. value_at es k j) weight (λ s. if s.column == j then weight s.row * s.amount else 0) (λ k. refl) (λ e es k. refl) (λ e. refl) es
        (column_apart 0 0 es above inside)

-- ---- numbers over d

-- a fraction from 0 to 1 over d is a whole number from 0 to d
pub amount_is : (d : ℕ) (f : Fraction) → IsWithin f → f.num *ℤ pos (d / f.den) ≡ pos (amount_of d f)
amount_is d f within = of f.num within.0
  where
    of : (z : ℤ) → pos 0 ≤ℤ z → z *ℤ pos (d / f.den) ≡ pos (unsigned_abs z * (d / f.den))
    of (pos k) some = omega (arith, ints)
    of (negsuc k) some = absurd (omega (arith, ints, some))

pub amount_most : (d : ℕ) (f : Fraction) → IsWithin f → amount_of d f ≤ d
amount_most d f within =
    let small : unsigned_abs f.num ≤ f.den = of f.num within.0 within.1 in
    omega (arith, mul-le-mul_right (d / f.den) small, mul-div-le d f.den)
  where
    of : (z : ℤ) → pos 0 ≤ℤ z → z ≤ℤ pos f.den → unsigned_abs z ≤ f.den
    of (pos k) some most = omega (arith, ints, most)
    of (negsuc k) some most = absurd (omega (arith, ints, some))

-- what is taken of the totals of a hyper is at most all of them, d times
module _ (a : HyperTree) (n d : ℕ) (es : List EntryTree) (above : Above 0 0 es) (inside : AreInside (count a) n es)
    (within : (i j : ℕ) → IsWithin (value_at es i j)) where
  pub taken_most : (j : ℕ) → column_total a (map (share_of d) es) j ≤ sum_by (λ (i : Inner). i.total) a.inners * d
  taken_most j =
      let sum = column_sum (count a) n d j (total_at a) es above inside in
      let each = total_monotone (count a) (λ i. pos (total_at a i * amount_of d (value_at es i j))) (λ i. pos (total_at a i) *ℤ pos d)
      (λ i l. omega (arith, ints, mul-le-mul_left (total_at a i) (amount_most d (value_at es i j) (within i j)))) in
      let whole = total-scale_right (count a) (pos d) (λ i. pos (total_at a i)) in
      let list = total-list (λ (i : Inner). i.total) a.inners (record { entries = []; total = 0 }) in
      let most = ap (λ (z : ℤ). z *ℤ pos d) list in
      omega (arith, ints, sum, each, whole, most)
