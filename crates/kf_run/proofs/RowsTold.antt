-- Rows of ascending traces are those of a joint where they have its weights.
use Rattle.std.proofs.Common.{◌≡◌, ℕ, zero, suc, ◌+◌, ◌<◌, ◌≤◌, ◌==◌, Bool, true, false, cond, List, [], ◌∷◌, length, map, get_or, refl, sym, ap, subst, ◌∙◌, arith, eq-eqb}
use Rattle.std.specs.Prelude.{Contains, ◌↔◌, ◌&&◌}
use Rattle.std.specs.List.{AllByRecursion as Each}
use Rattle.std.specs.List.Sorted.{IsStrictlySortedBy}
use Rattle.std.specs.Cmp.Lexicographic.{pointwise}
use Rattle.std.specs.declared.cmp.Ordering.TheVariants.{Less}
use Rattle.std.proofs.lemmas.Bool.{false_from_ne_true}
use Rattle.std.proofs.lemmas.List.Elements.{All-from_recursion}
use Rattle.kf_value.specs.Values.{ValueTree, is_equal}
use Rattle.kf_value.proofs.ListLemmas.{each_weaker}
use Rattle.kf_column.specs.declared.entry.Entry.{Entry}
use Rattle.kf_column.specs.Columns.{IsColumn, weight_at}
use Rattle.kf_column.specs.Traces.{Row, trace_order}
use Rattle.kf_column.proofs.Weights.{Above, column_above, weight_at_head}
use Rattle.kf_core.specs.Joint.{Cell, trace_weight, weight_of}
use Rattle.kf_core.specs.Rows.{AreRowsOf}
use Rattle.kf_core.proofs.Measures.{Full}
use Rattle.kf_core.proofs.Stores.{lists_decide, lists_order-itself}
use Rattle.kf_core.proofs.Sums.{adds, sum_filtered}
use Rattle.kf_core.specs.Each.{HasTrace, is_cell_at}

abbrev pub Trace : Type 0
Trace = List ValueTree

-- the weight of a value in a row, where the row has the trace
abbrev pub in_row : Trace → ℕ → Row → ℕ
in_row t x r = cond (pointwise is_equal r.trace t) (weight_at r.column x) 0

-- ---- a row is the only one of its trace

clash : (t u : Trace) → trace_order t u ≡ Less → t ≡ u → ⊥
clash t u less e =
    let itself = lists_order-itself t in
    let low : trace_order t t ≡ Less = ap (trace_order t) e ∙ less in
    absurd (cc)

below_differs : (t u : Trace) → trace_order t u ≡ Less → (pointwise is_equal t u ≡ false) × (pointwise is_equal u t ≡ false)
below_differs t u less = (
  false_from_ne_true (pointwise is_equal t u) (λ equal. clash t u less ((lists_decide t u).0 equal)),
  false_from_ne_true (pointwise is_equal u t) (λ equal. clash t u less (sym ((lists_decide u t).0 equal))),
)

none_there : (t : Trace) (x : ℕ) (rs : List Row) → Each (λ u. trace_order t u ≡ Less) (map (λ (r : Row). r.trace) rs) → adds (in_row t x) rs ≡ 0
none_there t x [] h = refl
none_there t x (r ∷ rs) h = let here = ap (λ b. cond b (weight_at r.column x) 0) (below_differs t r.trace h.0).1 in omega (arith, here, none_there t x rs h.1)

abbrev Alone : ℕ → List Row → Row → Type 0
Alone x rs r = adds (in_row r.trace x) rs ≡ weight_at r.column x

only_one : (x : ℕ) (rs : List Row) → IsStrictlySortedBy trace_order (map (λ (r : Row). r.trace) rs) → Each (Alone x rs) rs
unfolding IsStrictlySortedBy
only_one x [] h = tt
only_one x (r ∷ rs) h = (first, behind rs h.0 (only_one x rs h.1))
  where
    first : Alone x (r ∷ rs) r
    first = let here = ap (λ b. cond b (weight_at r.column x) 0) ((lists_decide r.trace r.trace).1 refl) in omega (arith, here, none_there r.trace x rs h.0)

    behind : (us : List Row) → Each (λ u. trace_order r.trace u ≡ Less) (map (λ (r : Row). r.trace) us) → Each (Alone x rs) us → Each (Alone x (r ∷ rs)) us
    behind [] low each = tt
    behind (u ∷ us) low each = (
      (let here = ap (λ b. cond b (weight_at r.column x) 0) (below_differs r.trace u.trace low.0).0 in omega (arith, here, each.0)),
      behind us low.1 each.1,
    )

-- ---- traces of some weight

cell_below : (b c : Bool) (w : ℕ) → cond (b && c) w 0 ≤ cond b w 0
cell_below true true w = omega arith
cell_below true false w = omega arith
cell_below false c w = omega arith

-- what a cell adds to its trace, and to a value with it
abbrev cell_trace : Trace → Cell → ℕ
cell_trace t c = cond (pointwise is_equal c.trace t) c.weight 0

abbrev pub cell_value : Trace → ℕ → Cell → ℕ
cell_value t x c = cond (pointwise is_equal c.trace t && (c.value == x)) c.weight 0

trace_adds : (cells : List Cell) (t : Trace) → trace_weight cells t ≡ adds (cell_trace t) cells
trace_adds cells t = sum_filtered (λ (c : Cell). c.weight) (λ c. pointwise is_equal c.trace t) cells

-- cells of a value with a trace, as a sum
pub value_adds : (cells : List Cell) (t : Trace) (x : ℕ) → weight_of cells t x ≡ adds (cell_value t x) cells
value_adds cells t x = sum_filtered (λ (c : Cell). c.weight) (is_cell_at t x) cells

value_below : (cells : List Cell) (t : Trace) (x : ℕ) → adds (cell_value t x) cells ≤ adds (cell_trace t) cells
value_below [] t x = omega arith
value_below (c ∷ cells) t x = let one = cell_below (pointwise is_equal c.trace t) (c.value == x) c.weight in omega (arith, one, value_below cells t x)

-- a cell of the trace with some weight gives some to its value, else a later one does
cell_or_later : (t : Trace) (c : Cell) (rest : ℕ) (P : ℕ → Type 0) (b : Bool) → pointwise is_equal c.trace t ≡ b → (w : ℕ) → c.weight ≡ w
    → 0 < cell_trace t c + rest
    → (0 < cell_value t c.value c → P c.value) → (0 < rest → (x : ℕ) × P x) → (x : ℕ) × P x
cell_or_later t c rest P false other w is some here later = later (omega (arith, some, ap (λ b. cond b c.weight 0) other))
cell_or_later t c rest P true equal zero is some here later = later (omega (arith, some, ap (λ b. cond b c.weight 0) equal, is))
cell_or_later t c rest P true equal (suc w) is some here later =
    let both : cell_value t c.value c ≡ c.weight =
    ap (λ b. cond (b && (c.value == c.value)) c.weight 0) equal ∙ ap (λ b. cond b c.weight 0) (eq-eqb c.value c.value refl) in
    (c.value, here (omega (arith, both, is)))

some_value : (t : Trace) (cells : List Cell) → 0 < adds (cell_trace t) cells → (x : ℕ) × (0 < adds (cell_value t x) cells)
some_value t [] some = absurd (omega (arith, some))
some_value t (c ∷ cells) some =
    cell_or_later t c (adds (cell_trace t) cells) (λ x. 0 < adds (cell_value t x) (c ∷ cells)) (pointwise is_equal c.trace t) refl c.weight refl some (λ
    here. omega (arith, here))
    (λ left. let rest = some_value t cells left in (rest.0, omega (arith, rest.1)))

-- ---- the rows

abbrev pub IsSolidRow : Row → Type 0
IsSolidRow r = Above 0 r.column × Full r.column

first_value : (es : List Entry) → Above 0 es → Full es → (x : ℕ) × (0 < weight_at es x)
first_value [] above full = absurd full
first_value (e ∷ es) above full = let some = above.1 in (e.value, omega (arith, weight_at_head e es e.value refl, some))

listed_value : (t : Trace) (rs : List Row) → Each IsSolidRow rs → (k : ℕ) → k < length (map (λ (r : Row). r.trace) rs)
    → get_or (map (λ (r : Row). r.trace) rs) k t ≡ t → (x : ℕ) × (0 < adds (in_row t x) rs)
listed_value t [] solid k within is = absurd (omega (arith, within))
listed_value t (r ∷ rs) solid zero within is =
    let found = first_value r.column solid.0.0 solid.0.1 in
    let here : in_row t found.0 r ≡ weight_at r.column found.0 = ap (λ b. cond b (weight_at r.column found.0) 0) ((lists_decide r.trace t).1 is) in
    (found.0, omega (arith, found.1, here))
listed_value t (r ∷ rs) solid (suc k) within is =
    let rest = listed_value t rs solid.1 k (omega (arith, within)) is in
    (rest.0, omega (arith, rest.1))

here_or_later : (t : Trace) (x : ℕ) (r : Row) (rs : List Row) (b : Bool) → pointwise is_equal r.trace t ≡ b → 0 < adds (in_row t x) (r ∷ rs)
    → (0 < adds (in_row t x) rs → Contains (map (λ (r : Row). r.trace) rs) t) → Contains (map (λ (r : Row). r.trace) (r ∷ rs)) t
here_or_later t x r rs true here some later = (0, omega arith, (lists_decide r.trace t).0 here)
here_or_later t x r rs false other some later =
    let nothing = ap (λ b. cond b (weight_at r.column x) 0) other in
    let rest = later (omega (arith, some, nothing)) in
    (suc rest.0, omega (arith, rest.1), rest.2)

listed : (t : Trace) (x : ℕ) (rs : List Row) → 0 < adds (in_row t x) rs → Contains (map (λ (r : Row). r.trace) rs) t
listed t x [] some = absurd (omega (arith, some))
listed t x (r ∷ rs) some = here_or_later t x r rs (pointwise is_equal r.trace t) refl some (λ left. listed t x rs left)

module _ (cells : List Cell) (rs : List Row) (ascending : IsStrictlySortedBy trace_order (map (λ (r : Row). r.trace) rs)) (solid : Each IsSolidRow rs)
    (weighs : (t : Trace) (x : ℕ) → adds (in_row t x) rs ≡ weight_of cells t x) where
  abbrev HasWeights : Row → Type 0
  HasWeights r = (x : ℕ) → weight_at r.column x ≡ weight_of cells r.trace x

  have_weights : Each HasWeights rs
  have_weights = at rs (λ x. only_one x rs ascending)
    where
      at : (us : List Row) → ((x : ℕ) → Each (Alone x rs) us) → Each HasWeights us
      at [] h = tt
      at (u ∷ us) h = ((λ x. sym (h x).0 ∙ weighs u.trace x), at us (λ x. (h x).1))

  not_empty : (es : List Entry) → Full es → es ≡ [] → ⊥
  not_empty es full e = subst Full e full

  trace_listed : (t : Trace) → Contains (map (λ (r : Row). r.trace) rs) t ↔ HasTrace cells t
  trace_listed t = (
    (λ has.
        let found = listed_value t rs solid has.0 has.1 has.2 in
        omega (arith, trace_adds cells t, value_adds cells t found.0, value_below cells t found.0, weighs t found.0, found.1)),
    (λ has.
        let found = some_value t cells (omega (arith, trace_adds cells t, has)) in
        listed t found.0 rs (omega (arith, weighs t found.0, value_adds cells t found.0, found.1))),
  )

  pub rows_told : AreRowsOf cells rs
  rows_told = record {
    ascending = ascending;
    all = trace_listed;
    columns = All-from_recursion (λ (r : Row). IsColumn r.column) rs
        (each_weaker IsSolidRow (λ (r : Row). IsColumn r.column) (λ r h. column_above 0 r.column h.0 (not_empty r.column h.1)) rs solid);
    weights = All-from_recursion HasWeights rs have_weights;
  }
