-- What is made of two grids fits, and is a grid.
use Rattle.std.proofs.Common.{◌≡◌, ℕ, zero, suc, ◌+◌, ◌*◌, ◌/◌, ◌-◌, ◌++◌, ◌<◌, ◌≤◌, List, [], ◌∷◌, All, length, get_or, drop, map, sum_by, slice_index, min, refl, sym, ◌∙◌, ap, subst, arith, mul_assoc, le_refl}
use Rattle.std.proofs.Math.Nat.{add-le-add, mul-le-mul, mul-le-mul_left, mul-div_cancel'}
use Rattle.std.proofs.lemmas.List.{get_or_default}
use Rattle.std.proofs.lemmas.List.Elements.{recursion_from_All}
use Rattle.std.proofs.lemmas.List.Sums.{get_or-le-sum_by, sum_by-cons}
use Rattle.std.specs.Int.{◌∣◌}
use Rattle.std.specs.List.{AllByRecursion as Each, flat_map, range_with_len}
use Rattle.kf_frac.specs.Divisors.{lcm_of}
use Rattle.kf_frac.specs.Fractions.{limit}
use Rattle.kf_capacity.specs.Grids.{GridTree}
use Rattle.kf_capacity.specs.Compositions.{through, times}
use Rattle.kf_capacity.specs.Composing.{ProductsFit, TimesFit, products}
use Rattle.kf_capacity.specs.Laws.{CascadeIsStochastic, ParallelIsStochastic, ChoiceIsStochastic}
use Rattle.kf_capacity.specs.Shapes.{IsStochastic, IsGrid}

-- a number of a grid is at most the denominator
pub cell_within : (g : GridTree) → IsStochastic g → (k i : ℕ) (d : List ℕ) (e : ℕ) → k < length g.columns → i < length (get_or g.columns k d)
    → get_or (get_or g.columns k d) i e ≤ g.over
cell_within g is k i d e within inside =
    let long : length (get_or g.columns k d) ≡ g.rows = is.long k d within in
    let sum = is.sums i (omega arith) in
    let least = get_or-le-sum_by (λ column. slice_index column i) g.columns k d within in
    omega (arith, get_or_default (get_or g.columns k d) i e 0 inside, sum, least)

-- so its products with those of another are at most the product of the two denominators
pub products_fit : (g h : GridTree) → IsStochastic g → IsStochastic h → g.over * h.over ≤ limit
    → All (λ column. All (λ other. ProductsFit column other) h.columns) g.columns
products_fit g h is also fits k d within l e inside i m here j n there =
    let cells = mul-le-mul (cell_within g is k i d m within here) (cell_within h also l j e n inside there) in
    omega arith

-- at the shorter column's end there are no more products
pub products_done : (n : ℕ) (ms ns : List ℕ) → n ≡ min (length ms) (length ns) → products (drop n ms) (drop n ns) ≡ []
products_done n [] ns h = ended n ns
  where
    ended : (n : ℕ) (ns : List ℕ) → products (drop n []) (drop n ns) ≡ []
    ended zero ns = refl
    ended (suc n) ns = refl
products_done n (m ∷ ms) [] h = let none : n ≡ 0 = omega arith in rw none refl
products_done zero (m ∷ ms) (n ∷ ns) h = absurd (omega arith)
products_done (suc k) (m ∷ ms) (n ∷ ns) h = products_done k ms ns (omega arith)

-- at the end of the columns there is nothing more to add
pub through_done : (n : ℕ) (columns : List (List ℕ)) (places column : List ℕ) (i : ℕ) → n ≡ min (length columns) (length places)
    → through (drop n columns) (drop n places) column i ≡ 0
through_done zero [] places column i h = refl
through_done (suc n) [] places column i h = refl
through_done n (first ∷ columns) [] column i h = let none : n ≡ 0 = omega arith in rw none refl
through_done zero (first ∷ columns) (place ∷ places) column i h = absurd (omega arith)
through_done (suc n) (first ∷ columns) (place ∷ places) column i h = through_done n columns places column i (omega arith)

-- a sum of products of numbers of two grids is at most the product of the two denominators
read_within : (column : List ℕ) (most place : ℕ) → Each (λ n. n ≤ most) column → slice_index column place ≤ most
read_within [] most place below = omega arith
read_within (n ∷ ns) most zero below = below.0
read_within (n ∷ ns) most (suc place) below = read_within ns most place below.1

right_distrib : (a b c : ℕ) → (a + b) * c ≡ a * c + b * c
right_distrib a b c = omega arith

through_within : (columns : List (List ℕ)) (places column : List ℕ) (i most : ℕ) → Each (λ n. n ≤ most) column
    → through columns places column i ≤ sum_by (λ first. slice_index first i) columns * most
through_within [] places column i most below = omega arith
through_within (first ∷ columns) [] column i most below = omega arith
through_within (first ∷ columns) (place ∷ places) column i most below =
    let number = slice_index first i in
    let sum = sum_by (λ other. slice_index other i) columns in
    let here : number * slice_index column place ≤ number * most = mul-le-mul_left number (read_within column most place below) in
    let rest : through columns places column i ≤ sum * most = through_within columns places column i most below in
    let whole : sum_by (λ other. slice_index other i) (first ∷ columns) * most ≡ number * most + sum * most =
    ap (λ n. n * most) (sum_by-cons (λ other. slice_index other i) first columns) ∙ right_distrib number sum most in
    subst (λ n. number * slice_index column place + through columns places column i ≤ n) (sym whole) (add-le-add here rest)

pub sums_fit : (g h : GridTree) (places column : List ℕ) (k : ℕ) → IsStochastic g → IsStochastic h → g.over * h.over ≤ limit → k < length h.columns
    → column ≡ get_or h.columns k column → (i : ℕ) → i < g.rows → through g.columns places column i ≤ limit
sums_fit g h places column k is also fits within read i inside =
    let below : Each (λ n. n ≤ h.over) column =
    recursion_from_All (λ n. n ≤ h.over) column (rw read (λ j e here. cell_within h also k j column e within here)) in
    let most = through_within g.columns places column i h.over below in
    omega (arith, rw (is.sums i inside) at most)

-- one channel behind another has a grid
pub behind_grid : (g h : GridTree) (places : List ℕ) (over : ℕ) (columns : List (List ℕ)) → CascadeIsStochastic → IsGrid g → IsGrid h
    → length places ≡ length g.columns → All (λ place. place < h.rows) places → over ≡ g.over * h.over → over ≤ limit
    → columns ≡ map (λ column. map (through g.columns places column) (range_with_len 0 g.rows)) h.columns
    → IsGrid (record { over = over; rows = g.rows; columns = columns })
behind_grid g h places over columns law is also many within same narrow made =
    record {
      stochastic = rw (same, made) (law g h places (record { first = is.stochastic; second = also.stochastic; many = many; within = within }));
      narrow = narrow;
    }

-- two channels side by side have a grid
pub both_grid : (g h : GridTree) (over : ℕ) (columns : List (List ℕ)) → ParallelIsStochastic → g.rows ≡ h.rows → IsGrid g → IsGrid h
    → over ≡ g.over * h.over → over ≤ limit → columns ≡ flat_map (λ column. map (products column) h.columns) g.columns
    → IsGrid (record { over = over; rows = g.rows; columns = columns })
both_grid g h over columns law rows is also same narrow made =
    record { stochastic = rw (same, made) (law g h rows is.stochastic also.stochastic); narrow = narrow }

-- a part of what a number of a grid is over a common multiple is at most the multiple, times the whole
pub times_fit : (g : GridTree) → IsStochastic g → (common part whole : ℕ) → g.over ∣ common → part ≤ whole → common * whole ≤ limit
    → All (TimesFit (common / g.over * part)) g.columns
times_fit g is common part whole divided less fits k d within i n inside =
    let quotient = common / g.over in
    let all : g.over * quotient ≡ common = mul-div_cancel' g.over divided in
    let cell : get_or (get_or g.columns k d) i n * (quotient * part) ≤ g.over * (quotient * whole) =
    mul-le-mul (cell_within g is k i d n within inside) (mul-le-mul (le_refl quotient) less) in
    let same : g.over * (quotient * whole) ≡ common * whole = sym (mul_assoc g.over quotient whole) ∙ ap (λ n. n * whole) all in
    omega arith

-- one channel or the other has a grid
pub either_grid : (num den : ℕ) (g h : GridTree) (common over : ℕ) (columns : List (List ℕ)) → ChoiceIsStochastic → num < den → g.rows ≡ h.rows
    → IsGrid g → IsGrid h → common ≡ lcm_of g.over h.over → over ≡ common * den → over ≤ limit
    → columns ≡ map (times (common / g.over * num)) g.columns ++ map (times (common / h.over * (den - num))) h.columns
    → IsGrid (record { over = over; rows = g.rows; columns = columns })
either_grid num den g h common over columns law part rows is also least same narrow made =
    record { stochastic = rw (same, made, least) (law num den g h (omega arith) (omega arith) rows is.stochastic also.stochastic); narrow = narrow }
