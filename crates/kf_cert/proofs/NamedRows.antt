-- The entries of a matrix that aren't 0: their places ascend and are places of the matrix, and they name the matrix.
use Rattle.std.proofs.Common.{◌≡◌, inl, inr, ⊎_elim, ℕ, zero, suc, ◌+◌, ◌/◌, ◌<◌, ◌≤◌, ◌&&◌, ◌==◌, List, [], ◌∷◌, ◌++◌, All, length, get_or, Bool, true, false, refl, sym, ap, ap₂, ◌∙◌, subst, arith, if◌then◌else◌}
use Rattle.std.specs.Prelude.{unsigned_abs}
use Rattle.std.specs.List.{list_all}
use Rattle.std.proofs.Math.IntN.{ℤ, pos, negsuc}
use Rattle.std.proofs.Math.Nat.{div_self}
use Rattle.std.proofs.lemmas.Bool.{lt-ltb, eqb-true, ne_eqb, eq-eqb, and_from, and_left, and_right, cases_eq}
use Rattle.std.proofs.lemmas.List.{ext_get_or}
use Rattle.std.proofs.lemmas.List.Elements.{All-head, All-tail, All-nil, All-cons, All-append}
use Rattle.kf_frac.specs.Divisors.{gcd_of}
use Rattle.kf_frac.proofs.CommonDivisors.{gcd_is_the, gcd_swap}
use Rattle.kf_frac.proofs.LowestTerms.{reduced_den_is, reduced_num_same, reduced_den_same}
use Rattle.kf_frac.specs.declared.frac.Frac.{Frac}
use Rattle.std.proofs.lemmas.Nat.Gcd.{IsGcd-from_zero}
use Rattle.kf_refine.specs.Refinements.{Fraction, entry, IsShaped}
use Rattle.kf_refine.specs.Views.{fraction_of}
use Rattle.kf_cert.specs.Rows.{row_tree, rows_tree}
use Rattle.kf_refine.proofs.Matrices.{rows_shaped, entry_is}
use Rattle.kf_cert.specs.Certificates.{EntryTree, NamedTree, value_at, matrix_of}
use Rattle.kf_cert.specs.CertTexts.{row_entries, named_of}
use Rattle.kf_cert.specs.Views.{IsLowest}
use Rattle.kf_cert.specs.Laws.{NamesAll}
use Rattle.kf_cert.proofs.Denominators.{from_entries}
use Rattle.kf_cert.proofs.PlaceOrder.{Above, above_before, above_ascends, value_none}
use Rattle.kf_cert.specs.Order.{stands_at, is_inside, is_in_order, widest, rows_entries}

abbrev none : Fraction
none = record { num = pos 0; den = 1 }

-- ---- one entry after the other

-- a fraction as an entry, where it isn't 0
abbrev one_entry : ℕ → ℕ → Fraction → Bool → List EntryTree
one_entry i j f is_zero = if is_zero then [] else record { row = i; column = j; value = f } ∷ []

-- ---- the order of places

above_row : (i j : ℕ) (row : List Fraction) (rest : List EntryTree) → Above (i + 1) 0 rest → Above i j (row_entries i j row ++ rest)
above_row i j [] rest above = above_before i j (i + 1) 0 rest (inl (omega arith)) above
above_row i j (f ∷ row) rest above = by (unsigned_abs f.num == 0) (above_row i (j + 1) row rest above)
  where
    by : (b : Bool) → Above i (j + 1) (row_entries i (j + 1) row ++ rest) → Above i j ((one_entry i j f b ++ row_entries i (j + 1) row) ++ rest)
    by true later = above_before i j i (j + 1) (row_entries i (j + 1) row ++ rest) (inr (refl, omega arith)) later
    by false later = (inr (refl, omega arith), later)

above_rows : (i : ℕ) (rows : List (List Fraction)) → Above i 0 (rows_entries i rows)
above_rows i [] = tt
above_rows i (row ∷ rows) = above_row i 0 row (rows_entries (i + 1) rows) (above_rows (i + 1) rows)

-- ---- the entries

-- a place of a matrix of m rows and n columns, with a fraction in lowest terms
pub record IsGoodEntry (m n : ℕ) (e : EntryTree) : Type 0 where
  pub row : e.row < m
  pub column : e.column < n
  pub value : IsLowest e.value

good_row : (m n i j : ℕ) (row : List Fraction) → i < m → j + length row ≤ n → All IsLowest row → All (IsGoodEntry m n) (row_entries i j row)
good_row m n i j [] below fits low = All-nil (IsGoodEntry m n)
good_row m n i j (f ∷ row) below fits low =
    by (unsigned_abs f.num == 0) (good_row m n i (j + 1) row below (omega (arith, fits)) (All-tail IsLowest f row low))
  where
    by : (b : Bool) → All (IsGoodEntry m n) (row_entries i (j + 1) row) → All (IsGoodEntry m n) (one_entry i j f b ++ row_entries i (j + 1) row)
    by true later = later
    by false later =
        All-cons (IsGoodEntry m n) (record { row = i; column = j; value = f }) (row_entries i (j + 1) row)
        (record { row = below; column = omega (arith, fits); value = All-head IsLowest f row low }) later

good_rows : (m n i : ℕ) (rows : List (List Fraction)) → i + length rows ≤ m → widest rows ≤ n → All (λ row. All IsLowest row) rows
    → All (IsGoodEntry m n) (rows_entries i rows)
good_rows m n i [] fits wide low = All-nil (IsGoodEntry m n)
good_rows m n i (row ∷ rows) fits wide low =
    All-append (IsGoodEntry m n) (row_entries i 0 row) (rows_entries (i + 1) rows)
    (good_row m n i 0 row (omega (arith, fits)) (omega (arith, wide)) (All-head (λ row. All IsLowest row) row rows low))
    (good_rows m n (i + 1) rows (omega (arith, fits)) (omega (arith, wide)) (All-tail (λ row. All IsLowest row) row rows low))

pub all_good : (rows : List (List Fraction)) → All (λ row. All IsLowest row) rows → All (IsGoodEntry (length rows) (widest rows)) (rows_entries 0 rows)
all_good rows low = good_rows (length rows) (widest rows) 0 rows (omega arith) (omega arith) low

all_inside : (m n : ℕ) (es : List EntryTree) → All (IsGoodEntry m n) es → list_all (is_inside m n) es ≡ true
all_inside m n [] good = refl
all_inside m n (e ∷ es) good =
    let first : IsGoodEntry m n e = All-head (IsGoodEntry m n) e es good in
    ap₂ (λ (a b : Bool). a && b) (ap₂ (λ (a b : Bool). a && b) (lt-ltb e.row m first.row) (lt-ltb e.column n first.column))
    (all_inside m n es (All-tail (IsGoodEntry m n) e es good))

-- the places ascend strictly and are places of the matrix
pub in_order : (rows : List (List Fraction)) → All (λ row. All IsLowest row) rows → is_in_order (named_of rows) ≡ true
in_order rows low =
    ap₂ (λ (a b : Bool). a && b) (above_ascends 0 0 (rows_entries 0 rows) (above_rows 0 rows))
    (all_inside (length rows) (widest rows) (rows_entries 0 rows) (all_good rows low))

-- ---- the matrix that they name

-- a fraction in lowest terms that is 0 is 0 over 1
no_num : (z : ℤ) → unsigned_abs z ≡ 0 → z ≡ pos 0
no_num (pos n) is = ap pos is
no_num (negsuc n) is = absurd (omega (arith, is))

pub gcd_zero : (d : ℕ) → gcd_of 0 d ≡ d
gcd_zero d = gcd_swap 0 d ∙ sym (gcd_is_the d 0 d (IsGcd-from_zero d 0 refl))

zero_lowest : (f : Fraction) → IsLowest f → unsigned_abs f.num ≡ 0 → f ≡ none
zero_lowest f low is = λ i. record { num = num i; den = den i }
  where
    num : f.num ≡ pos 0
    num = no_num f.num is

    den : f.den ≡ 1
    den =
        low.den ∙ reduced_den_is f.num f.den ∙ ap (λ (n : ℕ). f.den / gcd_of n f.den) is ∙ ap (λ (n : ℕ). f.den / n) (gcd_zero f.den)
        ∙ div_self low.positive

-- ---- the value at a place

stands_here : (i j c : ℕ) (f : Fraction) → c ≡ j → stands_at i c (record { row = i; column = j; value = f }) ≡ true
stands_here i j c f same = and_from (i == i) (j == c) (eq-eqb i i refl) (eq-eqb j c (sym same))

stands_apart : (i j r c : ℕ) (f : Fraction) → (i ≡ r → j ≡ c → ⊥) → stands_at r c (record { row = i; column = j; value = f }) ≡ false
stands_apart i j r c f apart =
    ⊎_elim
    (λ (same : i ≡ r). and_right (i == r) (j == c) (ne_eqb j c (apart same)))
    (λ (other : i ≡ r → ⊥). and_left (i == r) (j == c) (ne_eqb i r other))
    (cases_eq i r)

-- a row's values, at column j + k
row_found : (i j k c : ℕ) (row : List Fraction) (rest : List EntryTree) → c ≡ j + k → All IsLowest row → Above (i + 1) 0 rest
    → value_at (row_entries i j row ++ rest) i c ≡ get_or row k none
row_found i j k c [] rest at low above = value_none i c rest (above_before i (c + 1) (i + 1) 0 rest (inl (omega arith)) above)
row_found i j zero c (f ∷ row) rest at low above = by (unsigned_abs f.num == 0) refl
  where
    by : (b : Bool) → (unsigned_abs f.num == 0) ≡ b → value_at ((one_entry i j f b ++ row_entries i (j + 1) row) ++ rest) i c ≡ f
    by true none_here =
        let same : c ≡ j = omega (arith, at) in
        rw same (value_none i j (row_entries i (j + 1) row ++ rest) (above_row i (j + 1) row rest above))
        ∙ sym (zero_lowest f (All-head IsLowest f row low) (eqb-true (unsigned_abs f.num) 0 none_here))
    by false some =
        ap (λ (b : Bool). if b then f else value_at (row_entries i (j + 1) row ++ rest) i c) (stands_here i j c f (omega (arith, at)))
row_found i j (suc k) c (f ∷ row) rest at low above =
    by (unsigned_abs f.num == 0) (row_found i (j + 1) k c row rest (omega (arith, at)) (All-tail IsLowest f row low) above)
  where
    by : (b : Bool) → value_at (row_entries i (j + 1) row ++ rest) i c ≡ get_or row k none
        → value_at ((one_entry i j f b ++ row_entries i (j + 1) row) ++ rest) i c ≡ get_or row k none
    by true later = later
    by false later =
        ap (λ (b : Bool). if b then f else value_at (row_entries i (j + 1) row ++ rest) i c)
        (stands_apart i j i c f (λ (same : i ≡ i) (also : j ≡ c). omega (arith, at, also)))
        ∙ later

-- another row's values stand behind
row_skipped : (i j r c : ℕ) (row : List Fraction) (rest : List EntryTree) → (i ≡ r → ⊥) → value_at (row_entries i j row ++ rest) r c ≡ value_at rest r c
row_skipped i j r c [] rest other = refl
row_skipped i j r c (f ∷ row) rest other = by (unsigned_abs f.num == 0) (row_skipped i (j + 1) r c row rest other)
  where
    by : (b : Bool) → value_at (row_entries i (j + 1) row ++ rest) r c ≡ value_at rest r c
        → value_at ((one_entry i j f b ++ row_entries i (j + 1) row) ++ rest) r c ≡ value_at rest r c
    by true later = later
    by false later =
        ap (λ (b : Bool). if b then f else value_at (row_entries i (j + 1) row ++ rest) r c)
        (stands_apart i j r c f (λ (same : i ≡ r) (also : j ≡ c). other same))
        ∙ later

-- all values, at row i + k
rows_found : (i k r c : ℕ) (rows : List (List Fraction)) → r ≡ i + k → All (λ row. All IsLowest row) rows → value_at (rows_entries i rows) r c ≡ entry rows k c
rows_found i k r c [] at low = refl
rows_found i zero r c (row ∷ rows) at low =
    let same : r ≡ i = omega (arith, at) in
    rw same
    (row_found i 0 c c row (rows_entries (i + 1) rows) (omega arith) (All-head (λ row. All IsLowest row) row rows low) (above_rows (i + 1) rows))
rows_found i (suc k) r c (row ∷ rows) at low =
    row_skipped i 0 r c row (rows_entries (i + 1) rows) (λ (same : i ≡ r). omega (arith, at, same))
    ∙ rows_found (i + 1) k r c rows (omega (arith, at)) (All-tail (λ row. All IsLowest row) row rows low)

-- ---- the matrix

abbrev HasLength : ℕ → List Fraction → Type 0
HasLength n row = length row ≡ n

pub widest_most : (n : ℕ) (rows : List (List Fraction)) → All (HasLength n) rows → widest rows ≤ n
widest_most n [] each = omega arith
widest_most n (row ∷ rows) each = omega (arith, All-head (HasLength n) row rows each, widest_most n rows (All-tail (HasLength n) row rows each))

pub widest_is : (m n : ℕ) (rows : List (List Fraction)) → 0 < m → IsShaped m n rows → widest rows ≡ n
widest_is m n [] some shape = absurd (omega (arith, some, shape.many))
widest_is m n (row ∷ rows) some shape =
    omega (arith, All-head (HasLength n) row rows shape.each, widest_most n rows (All-tail (HasLength n) row rows shape.each))

-- matrices of one shape with the same entries are the same
same_matrix : (m n : ℕ) (rows others : List (List Fraction)) → IsShaped m n rows → IsShaped m n others
    → ((i j : ℕ) → i < m → j < n → entry rows i j ≡ entry others i j) → rows ≡ others
same_matrix m n rows others h k same =
    ext_get_or [] rows others (h.many ∙ sym k.many)
    (λ i within.
    let l : i < m = subst (λ (x : ℕ). i < x) h.many within in
    let first : length (get_or rows i []) ≡ n = h.each i [] within in
    let second : length (get_or others i []) ≡ n = k.each i [] (subst (λ (x : ℕ). i < x) (sym k.many) l) in
    ext_get_or none (get_or rows i []) (get_or others i []) (first ∙ sym second)
    (λ j inside. same i j l (subst (λ (x : ℕ). j < x) first inside)))

module _ (t : NamedTree) where
  pub matrix_shaped : IsShaped t.rows t.columns (matrix_of t)
  matrix_shaped = rows_shaped t.rows t.columns (value_at t.entries)

  pub matrix_entry : (i j : ℕ) → i < t.rows → j < t.columns → entry (matrix_of t) i j ≡ value_at t.entries i j
  matrix_entry = entry_is t.rows t.columns (value_at t.entries)

-- a matrix by named entries has the shape that its sizes say
pub sized_shape : (m n : ℕ) (t : NamedTree) → t.rows ≡ m → t.columns ≡ n → IsShaped m n (matrix_of t)
sized_shape m n t rows columns =
    subst (λ (k : ℕ). IsShaped k n (matrix_of t)) rows (subst (λ (k : ℕ). IsShaped t.rows k (matrix_of t)) columns (matrix_shaped t))

pub names_all : NamesAll
names_all m n [] shape low = refl
names_all m n (row ∷ rows) shape low =
    let all : List (List Fraction) = row ∷ rows in
    let width : widest (row ∷ rows) ≡ n = widest_is m n (row ∷ rows) (omega (arith, shape.many)) shape in
    let shaped : IsShaped (length (row ∷ rows)) (widest (row ∷ rows)) (row ∷ rows) = record {
      many = refl;
      each = subst (λ (k : ℕ). All (HasLength k) (row ∷ rows)) (sym width) shape.each;
    } in
    same_matrix (length (row ∷ rows)) (widest (row ∷ rows)) (matrix_of (named_of (row ∷ rows))) (row ∷ rows) (matrix_shaped (named_of (row ∷ rows))) shaped
    (λ i j l k. matrix_entry (named_of (row ∷ rows)) i j l k ∙ rows_found 0 i i j (row ∷ rows) (omega arith) low)

-- the same for rows that have a shape
pub shaped_order : (m n : ℕ) (rows : List (List Fraction)) → IsShaped m n rows → All (λ row. All IsLowest row) rows
    → is_in_order (record { rows = m; columns = n; entries = rows_entries 0 rows }) ≡ true
shaped_order m n rows shape low =
    ap₂ (λ (a b : Bool). a && b) (above_ascends 0 0 (rows_entries 0 rows) (above_rows 0 rows))
    (all_inside m n (rows_entries 0 rows) (good_rows m n 0 rows (omega (arith, shape.many)) (widest_most n rows shape.each) low))

pub shaped_names : (m n : ℕ) (rows : List (List Fraction)) → IsShaped m n rows → All (λ row. All IsLowest row) rows
    → matrix_of (record { rows = m; columns = n; entries = rows_entries 0 rows }) ≡ rows
shaped_names m n rows shape low =
    same_matrix m n (matrix_of (record { rows = m; columns = n; entries = rows_entries 0 rows })) rows
    (matrix_shaped (record { rows = m; columns = n; entries = rows_entries 0 rows })) shape
    (λ i j l k. matrix_entry (record { rows = m; columns = n; entries = rows_entries 0 rows }) i j l k ∙ rows_found 0 i i j rows (omega arith) low)

-- fractions of the code are in lowest terms
pub frac_lowest : (f : Frac) → IsLowest (fraction_of f)
frac_lowest f = record {
  positive = f.positive;
  num = sym (reduced_num_same f.num f.den f.reduced);
  den = sym (reduced_den_same f.num f.den f.reduced);
  narrow_num = f.num_fits;
  narrow_den = f.den_fits;
}

pub rows_lowest : (rows : List (List Frac)) → All (λ row. All IsLowest row) (rows_tree rows)
rows_lowest [] = All-nil (λ row. All IsLowest row)
rows_lowest (row ∷ rows) = All-cons (λ row. All IsLowest row) (row_tree row) (rows_tree rows) (of row) (rows_lowest rows)
  where
    of : (row : List Frac) → All IsLowest (row_tree row)
    of [] = All-nil IsLowest
    of (f ∷ row) = All-cons IsLowest (fraction_of f) (row_tree row) (frac_lowest f) (of row)

-- ---- named entries with a property

-- the values of a matrix by named entries have what 0 and all named values have
module _ (P : Fraction → Type 0) (of_none : P none) where
  pub value_has : (es : List EntryTree) → All (λ e. P e.value) es → (i j : ℕ) → P (value_at es i j)
  value_has [] all i j = of_none
  value_has (e ∷ es) all i j = by (stands_at i j e) (value_has es (All-tail (λ e. P e.value) e es all) i j)
    where
      by : (b : Bool) → P (value_at es i j) → P (if b then e.value else value_at es i j)
      by true later = All-head (λ e. P e.value) e es all
      by false later = later

  pub matrix_has : (t : NamedTree) → All (λ e. P e.value) t.entries → All (λ row. All P row) (matrix_of t)
  matrix_has t all =
      from_entries P t.rows t.columns (matrix_of t) (matrix_shaped t)
      (λ i j l k. subst P (sym (matrix_entry t i j l k)) (value_has t.entries all i j))
