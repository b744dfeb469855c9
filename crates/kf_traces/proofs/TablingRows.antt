-- Rows that are made of the traced states of a program are the rows of its joint.
use Rattle.std.proofs.Common.{◌≡◌, ℕ, zero, suc, ◌+◌, ◌<◌, ◌≤◌, ◌==◌, Bool, true, false, cond, List, [], ◌∷◌, ◌++◌, length, map, get_or, refl, sym, ap, subst, ◌∙◌, arith, eq-eqb, append_assoc}
use Rattle.std.specs.Prelude.{filter, sum_by, IsOk, Contains, ◌↔◌, ◌&&◌}
use Rattle.std.specs.List.{All, AllByRecursion as Each}
use Rattle.std.specs.List.Sorted.{IsStrictlySortedBy}
use Rattle.std.specs.Cmp.Lexicographic.{pointwise}
use Rattle.std.specs.declared.cmp.Ordering.TheVariants.{Less}
use Rattle.std.proofs.lemmas.Bool.{false_from_ne_true}
use Rattle.std.proofs.lemmas.List.{append-nil, map-append}
use Rattle.std.proofs.lemmas.List.Elements.{All-from_recursion, recursion_from_All, All-head, All-nil, All-tail, All-push}
use Rattle.std.proofs.lemmas.List.Sums.{sum_by-cons}
use Rattle.kf_frac.specs.Fractions.{limit}
use Rattle.kf_value.specs.Values.{ValueTree, is_equal}
use Rattle.kf_value.proofs.ListLemmas.{each_weaker}
use Rattle.kf_core.proofs.Unsquashed.{checked_again}
use Rattle.kf_core.specs.Checked.{IsChecked}
use Rattle.kf_core.specs.Joint.{Cell, joint_of, target_number, trace_weight, weight_of}
use Rattle.kf_core.specs.Programs.{ProgramTree}
use Rattle.kf_core.specs.Rows.{AreRowsOf}
use Rattle.kf_core.specs.Runs.{program_runs}
use Rattle.kf_core.specs.Scale.{scale_of}
use Rattle.kf_core.specs.Support.{program_pass}
use Rattle.kf_column.specs.Columns.{IsColumn, weight_at, total}
use Rattle.kf_column.specs.Shapes.{IsBelow}
use Rattle.kf_column.specs.Traces.{Row, trace_order}
use Rattle.kf_hyper.specs.Tables.{IsTable}
use Rattle.kf_core.proofs.Sums.{adds, sum_filtered}
use Rattle.kf_traces.specs.Laws.{sum_of, target_weight, TracesJoin, TracesTell, AreTraces}
use Rattle.kf_traces.specs.Traced.{Weights, Traced, program_traced}
use Rattle.kf_traces.specs.Views.{Fits, AllFit}
use Rattle.kf_core.proofs.Stores.{lists_decide, lists_order-itself}
use Rattle.kf_core.specs.Each.{HasTrace, is_cell_at}

-- ---- strictly ascending traces are different

-- what is below another trace is not equal to it, either way round
below_differs : (t u : List ValueTree) → trace_order t u ≡ Less → (pointwise is_equal t u ≡ false) × (pointwise is_equal u t ≡ false)
below_differs t u less = (
  false_from_ne_true (pointwise is_equal t u) (λ equal. clash t u less ((lists_decide t u).0 equal)),
  false_from_ne_true (pointwise is_equal u t) (λ equal. clash t u less (sym ((lists_decide u t).0 equal))),
)
  where
    clash : (t u : List ValueTree) → trace_order t u ≡ Less → t ≡ u → ⊥
    clash t u less e =
        let itself = lists_order-itself t in
        let low : trace_order t t ≡ Less = ap (trace_order t) e ∙ less in
        absurd (cc)

-- a trace is equal to itself
equal_itself : (t : List ValueTree) → pointwise is_equal t t ≡ true
equal_itself t = (lists_decide t t).1 refl

module _ (f : Traced → ℕ) where
  -- what the states of a trace have together
  abbrev pub at_trace : List Traced → List ValueTree → ℕ
  at_trace ss t = adds (λ s. cond (pointwise is_equal s.trace t) (f s) 0) ss

  -- states of other traces have nothing
  none_there : (t : List ValueTree) (ss : List Traced) → Each (λ u. trace_order t u ≡ Less) (map (λ s. s.trace) ss) → at_trace ss t ≡ 0
  none_there t [] h = refl
  none_there t (s ∷ ss) h = let here = ap (λ b. cond b (f s) 0) (below_differs t s.trace h.0).1 in omega (arith, here, none_there t ss h.1)

  -- each state is the only one of its trace
  pub only_one : (ss : List Traced) → IsStrictlySortedBy trace_order (map (λ s. s.trace) ss) → Each (λ s. at_trace ss s.trace ≡ f s) ss
  unfolding IsStrictlySortedBy
  only_one [] h = tt
  only_one (s ∷ ss) h = (first, behind s ss ss h.0 (only_one ss h.1))
    where
      first : at_trace (s ∷ ss) s.trace ≡ f s
      first = let here = ap (λ b. cond b (f s) 0) (equal_itself s.trace) in omega (arith, here, none_there s.trace ss h.0)

      behind : (s : Traced) (all us : List Traced) → Each (λ u. trace_order s.trace u ≡ Less) (map (λ s. s.trace) us) → Each (λ u. at_trace all u.trace ≡ f u) us
          → Each (λ u. at_trace (s ∷ all) u.trace ≡ f u) us
      behind s all [] low each = tt
      behind s all (u ∷ us) low each = (
        (let here = ap (λ b. cond b (f s) 0) (below_differs s.trace u.trace low.0).0 in omega (arith, here, each.0)),
        behind s all us low.1 each.1,
      )

-- ---- traces of some weight

-- a cell of the value is one of the trace
cell_below : (b c : Bool) (w : ℕ) → cond (b && c) w 0 ≤ cond b w 0
cell_below true true w = omega arith
cell_below true false w = omega arith
cell_below false c w = omega arith

-- cells of a trace, as a sum
trace_adds : (cells : List Cell) (t : List ValueTree) → trace_weight cells t ≡ adds (λ c. cond (pointwise is_equal c.trace t) c.weight 0) cells
trace_adds cells t = sum_filtered (λ (c : Cell). c.weight) (λ c. pointwise is_equal c.trace t) cells

-- cells of a value with a trace, as a sum
value_adds : (cells : List Cell) (t : List ValueTree) (x : ℕ) → weight_of cells t x ≡ adds (λ c. cond (pointwise is_equal c.trace t && (c.value == x)) c.weight 0) cells
value_adds cells t x = sum_filtered (λ (c : Cell). c.weight) (is_cell_at t x) cells

-- a value has no more weight with a trace than the trace has
value_below : (cells : List Cell) (t : List ValueTree) (x : ℕ)
    → adds (λ c. cond (pointwise is_equal c.trace t && (c.value == x)) c.weight 0) cells ≤ adds (λ c. cond (pointwise is_equal c.trace t) c.weight 0) cells
value_below [] t x = omega arith
value_below (c ∷ cells) t x = let one = cell_below (pointwise is_equal c.trace t) (c.value == x) c.weight in omega (arith, one, value_below cells t x)

-- a trace has some weight where some value has it with it
has_trace : (cells : List Cell) (t : List ValueTree) (x : ℕ) → 0 < weight_of cells t x → HasTrace cells t
has_trace cells t x some = omega (arith, trace_adds cells t, value_adds cells t x, value_below cells t x, some)

-- what a cell adds to its trace, and to a value with it
abbrev cell_trace : List ValueTree → Cell → ℕ
cell_trace t c = cond (pointwise is_equal c.trace t) c.weight 0

abbrev cell_value : List ValueTree → ℕ → Cell → ℕ
cell_value t x c = cond (pointwise is_equal c.trace t && (c.value == x)) c.weight 0

-- a cell of the trace with some weight gives some to its value, else a later one does
cell_or_later : (t : List ValueTree) (c : Cell) (rest : ℕ) (P : ℕ → Type 0) (b : Bool) → pointwise is_equal c.trace t ≡ b → (w : ℕ) → c.weight ≡ w → 0 < cell_trace t c + rest
    → (0 < cell_value t c.value c → P c.value) → (0 < rest → (x : ℕ) × P x) → (x : ℕ) × P x
cell_or_later t c rest P false other w is some here later = later (omega (arith, some, ap (λ b. cond b c.weight 0) other))
cell_or_later t c rest P true equal zero is some here later = later (omega (arith, some, ap (λ b. cond b c.weight 0) equal, is))
cell_or_later t c rest P true equal (suc w) is some here later =
    let both : cell_value t c.value c ≡ c.weight =
    ap (λ b. cond (b && (c.value == c.value)) c.weight 0) equal ∙ ap (λ b. cond b c.weight 0) (eq-eqb c.value c.value refl) in
    (c.value, here (omega (arith, both, is)))

-- and then some value has weight with it
some_value : (t : List ValueTree) (cells : List Cell) → 0 < adds (cell_trace t) cells → (x : ℕ) × (0 < adds (cell_value t x) cells)
some_value t [] some = absurd (omega (arith, some))
some_value t (c ∷ cells) some =
    cell_or_later t c (adds (cell_trace t) cells) (λ x. 0 < adds (cell_value t x) (c ∷ cells)) (pointwise is_equal c.trace t) refl c.weight refl some (λ here. omega (arith, here))
    (λ left. let rest = some_value t cells left in (rest.0, omega (arith, rest.1)))

-- ---- traces of the states

-- what a target value weighs in a state
abbrev pub value_in : (ℕ → ℕ) → ℕ → Traced → ℕ
value_in number x s = sum_of (filter (λ e. number e.0 == x) s.stores)

-- the first store of a state gives its value some weight
first_value : (number : ℕ → ℕ) (es : Weights) → 1 ≤ length es → Each (λ e. 0 < e.1) es → (x : ℕ) × (0 < sum_of (filter (λ e. number e.0 == x) es))
first_value number [] long positive = absurd (omega (arith, long))
first_value number (e ∷ es) long positive =
    let all : sum_of (filter (λ u. number u.0 == number e.0) (e ∷ es)) ≡ cond (number e.0 == number e.0) e.1 0 + adds (λ u. cond (number u.0 == number e.0) u.1 0) es =
    sum_filtered (λ (u : ℕ × ℕ). u.1) (λ u. number u.0 == number e.0) (e ∷ es) in
    let here : cond (number e.0 == number e.0) e.1 0 ≡ e.1 = ap (λ b. cond b e.1 0) (eq-eqb (number e.0) (number e.0) refl) in
    (number e.0, omega (arith, all, here, positive.0))

module _ (number : ℕ → ℕ) (t : List ValueTree) where
  -- a trace that is listed has some value of some weight
  listed_value : (ss : List Traced) → Each (λ s. 1 ≤ length s.stores) ss → Each (λ s. Each (λ e. 0 < e.1) s.stores) ss
      → (k : ℕ) → k < length (map (λ s. s.trace) ss) → get_or (map (λ s. s.trace) ss) k t ≡ t → (x : ℕ) × (0 < at_trace (value_in number x) ss t)
  listed_value [] some positive k within is = absurd (omega (arith, within))
  listed_value (s ∷ ss) some positive zero within is =
      let found = first_value number s.stores some.0 positive.0 in
      let here : cond (pointwise is_equal s.trace t) (value_in number found.0 s) 0 ≡ value_in number found.0 s =
      ap (λ b. cond b (value_in number found.0 s) 0) ((lists_decide s.trace t).1 is) in
      (found.0, omega (arith, found.1, here))
  listed_value (s ∷ ss) some positive (suc k) within is =
      let rest = listed_value ss some.1 positive.1 k (omega (arith, within)) is in
      (rest.0, omega (arith, rest.1))

  -- a state of the trace is where it is listed, else a later one is
  here_or_later : (x : ℕ) (s : Traced) (ss : List Traced) (b : Bool) → pointwise is_equal s.trace t ≡ b → 0 < at_trace (value_in number x) (s ∷ ss) t
      → (0 < at_trace (value_in number x) ss t → Contains (map (λ s. s.trace) ss) t) → Contains (map (λ s. s.trace) (s ∷ ss)) t
  here_or_later x s ss true here some later = (0, omega arith, (lists_decide s.trace t).0 here)
  here_or_later x s ss false other some later =
      let nothing = ap (λ b. cond b (value_in number x s) 0) other in
      let rest = later (omega (arith, some, nothing)) in
      (suc rest.0, omega (arith, rest.1), rest.2)

  -- a trace of some weight is listed
  listed : (x : ℕ) (ss : List Traced) → 0 < at_trace (value_in number x) ss t → Contains (map (λ s. s.trace) ss) t
  listed x [] some = absurd (omega (arith, some))
  listed x (s ∷ ss) some = here_or_later x s ss (pointwise is_equal s.trace t) refl some (λ left. listed x ss left)

-- ---- rows and states, one by one

-- each row has the trace of its state, its values' weights and all its weight
abbrev pub RowsFor : (ℕ → ℕ) → List Traced → List Row → Type 0
RowsFor number [] [] = Unit {0}
RowsFor number [] (r ∷ rs) = ⊥
RowsFor number (s ∷ ss) [] = ⊥
RowsFor number (s ∷ ss) (r ∷ rs) = (r.trace ≡ s.trace) × ((x : ℕ) → weight_at r.column x ≡ value_in number x s) × (total r.column ≡ sum_of s.stores) × RowsFor number ss rs

abbrev head_of : {X : Type 0} → X → List X → X
head_of d [] = d
head_of d (x ∷ xs) = x

abbrev tail_of : {X : Type 0} → List X → List X
tail_of [] = []
tail_of (x ∷ xs) = xs

-- read from lists that are equal
pub rows_read : (number : ℕ → ℕ) (ss : List Traced) (rs : List Row) → map (λ r. r.trace) rs ≡ map (λ s. s.trace) ss
    → map (λ (r : Row). weight_at r.column) rs ≡ map (λ s x. value_in number x s) ss → map (λ (r : Row). total r.column) rs ≡ map (λ s. sum_of s.stores) ss → RowsFor number ss rs
rows_read number [] [] traces weights totals = tt
rows_read number [] (r ∷ rs) traces weights totals = absurd (omega (arith, ap length totals))
rows_read number (s ∷ ss) [] traces weights totals = absurd (omega (arith, ap length totals))
rows_read number (s ∷ ss) (r ∷ rs) traces weights totals = (
  ap (head_of s.trace) traces,
  (λ x. ap (λ (fs : List (ℕ → ℕ)). head_of (λ n. 0) fs x) weights),
  ap (head_of 0) totals,
  rows_read number ss rs (ap tail_of traces) (ap tail_of weights) (ap tail_of totals),
)

module _ (number : ℕ → ℕ) where
  -- rows give what the joint gives, where their states do
  rows_weigh : (joint : List Cell) (ss : List Traced) (rs : List Row) → RowsFor number ss rs → Each (λ s. (x : ℕ) → weight_of joint s.trace x ≡ value_in number x s) ss
      → Each (λ r. (x : ℕ) → weight_at r.column x ≡ weight_of joint r.trace x) rs
  rows_weigh joint [] [] rows h = tt
  rows_weigh joint [] (r ∷ rs) rows h = absurd rows
  rows_weigh joint (s ∷ ss) [] rows h = absurd rows
  rows_weigh joint (s ∷ ss) (r ∷ rs) rows h =
      ((λ x. rows.1 x ∙ sym (h.0 x) ∙ ap (λ u. weight_of joint u x) (sym rows.0)), rows_weigh joint ss rs rows.3 h.1)

  -- all rows together weigh what all states do
  pub rows_sum : (ss : List Traced) (rs : List Row) → RowsFor number ss rs → sum_by (λ r. total r.column) rs ≡ sum_by (λ s. sum_of s.stores) ss
  rows_sum [] [] rows = refl
  rows_sum [] (r ∷ rs) rows = absurd rows
  rows_sum (s ∷ ss) [] rows = absurd rows
  rows_sum (s ∷ ss) (r ∷ rs) rows =
      omega (arith, sum_by-cons (λ (r : Row). total r.column) r rs, sum_by-cons (λ (s : Traced). sum_of s.stores) s ss, rows.2, rows_sum ss rs rows.3)

-- ---- the table of a program

module _ (turns : ℕ) (p : ProgramTree) (checked : IsChecked p) (clear : IsOk (program_pass turns p)) (join : TracesJoin) (ss : List Traced) (rs : List Row)
    (states : ss ≡ program_traced turns (scale_of turns p) p) (told : AreTraces (scale_of turns p) (program_runs turns p) ss)
    (traces : map (λ r. r.trace) rs ≡ map (λ s. s.trace) ss)
    (weights : map (λ (r : Row). weight_at r.column) rs ≡ map (λ s x. value_in (target_number p) x s) ss)
    (totals : map (λ (r : Row). total r.column) rs ≡ map (λ s. sum_of s.stores) ss) where
  -- each row is that of its state
  rows : RowsFor (target_number p) ss rs
  rows = rows_read (target_number p) ss rs traces weights totals

  -- what the joint gives is what the states have
  joint_at : (t : List ValueTree) (x : ℕ) → weight_of (joint_of turns p) t x ≡ at_trace (value_in (target_number p) x) ss t
  joint_at t x =
      sym (join turns p checked clear t x) ∙ ap (λ us. target_weight p us t x) (sym states)
      ∙ sum_filtered (λ (s : Traced). value_in (target_number p) x s) (λ s. pointwise is_equal s.trace t) ss

  -- and a state is the only one of its trace
  state_weights : Each (λ s. (x : ℕ) → weight_of (joint_of turns p) s.trace x ≡ value_in (target_number p) x s) ss
  state_weights = at ss (λ x. only_one (value_in (target_number p) x) ss told.ascending)
    where
      at : (us : List Traced) → ((x : ℕ) → Each (λ s. at_trace (value_in (target_number p) x) ss s.trace ≡ value_in (target_number p) x s) us)
          → Each (λ s. (x : ℕ) → weight_of (joint_of turns p) s.trace x ≡ value_in (target_number p) x s) us
      at [] h = tt
      at (u ∷ us) h = ((λ x. joint_at u.trace x ∙ (h x).0), at us (λ x. (h x).1))

  -- each store has some weight
  positive : Each (λ s. Each (λ e. 0 < e.1) s.stores) ss
  positive =
      each_weaker (λ (s : Traced). All (λ e. 0 < e.1) s.stores) (λ (s : Traced). Each (λ e. 0 < e.1) s.stores) (λ s h. recursion_from_All (λ (e : ℕ × ℕ). 0 < e.1) s.stores h) ss
      (recursion_from_All (λ (s : Traced). All (λ e. 0 < e.1) s.stores) ss told.positive)

  -- a trace is listed where it has some weight
  trace_listed : (t : List ValueTree) → Contains (map (λ r. r.trace) rs) t ↔ HasTrace (joint_of turns p) t
  trace_listed t = (
    (λ has.
        let k = subst (λ us. Contains us t) traces has in
        let found = listed_value (target_number p) t ss (recursion_from_All (λ (s : Traced). 1 ≤ length s.stores) ss told.some) positive k.0 k.1 k.2 in
        has_trace (joint_of turns p) t found.0 (omega (arith, joint_at t found.0, found.1))),
    (λ has.
        let found = some_value t (joint_of turns p) (omega (arith, trace_adds (joint_of turns p) t, has)) in
        subst (λ us. Contains us t) (sym traces)
        (listed (target_number p) t found.0 ss (omega (arith, joint_at t found.0, value_adds (joint_of turns p) t found.0, found.1)))),
  )

  -- the rows are those of the joint
  pub rows_are : All (λ r. IsColumn r.column) rs → AreRowsOf (joint_of turns p) rs
  rows_are columns = record {
    ascending = subst (IsStrictlySortedBy trace_order) (sym traces) told.ascending;
    all = trace_listed;
    columns = columns;
    weights = All-from_recursion (λ (r : Row). (x : ℕ) → weight_at r.column x ≡ weight_of (joint_of turns p) r.trace x) rs
        (rows_weigh (target_number p) (joint_of turns p) ss rs rows state_weights);
  }

  -- and those of a table over the scale
  pub table_is : (size scale : ℕ) → scale ≡ scale_of turns p → 0 < scale_of turns p → scale ≤ limit → All (λ r. IsBelow size r.column) rs → IsTable size scale rs
  table_is size scale is some narrow below = record {
    some = omega (arith, is, some);
    narrow = narrow;
    ascending = subst (IsStrictlySortedBy trace_order) (sym traces) told.ascending;
    within = below;
    whole = rows_sum (target_number p) ss rs rows ∙ told.sum ∙ sym is;
  }

-- ---- rows that are made, and states that are left

-- one more moves over
moved_over : {X Y Z : Type 0} (f : X → Z) (g : Y → Z) (now after : List X) (left rest : List Y) (x : X) (y : Y) (whole : List Z) → after ≡ now ++ x ∷ [] → left ≡ y ∷ rest → f x ≡ g y
    → map f now ++ map g left ≡ whole → map f after ++ map g rest ≡ whole
moved_over f g now after left rest x y whole grown next is had =
    ap (λ l. map f l ++ map g rest) grown ∙ ap (λ l. l ++ map g rest) (map-append f now (x ∷ [])) ∙ append_assoc (map f now) (f x ∷ []) (map g rest)
    ∙ ap (λ z. map f now ++ z ∷ map g rest) is ∙ ap (λ l. map f now ++ map g l) (sym next) ∙ had

-- the rows made so far and the states that are left, which together are the whole
pub record RowsOn (number : ℕ → ℕ) (size room scale : ℕ) (left whole : List Traced) (now : List Row) : Type 0 where
  pub traces : map (λ r. r.trace) now ++ map (λ s. s.trace) left ≡ map (λ s. s.trace) whole
  pub weights : map (λ (r : Row). weight_at r.column) now ++ map (λ s x. value_in number x s) left ≡ map (λ s x. value_in number x s) whole
  pub totals : map (λ (r : Row). total r.column) now ++ map (λ s. sum_of s.stores) left ≡ map (λ s. sum_of s.stores) whole
  pub below : All (λ r. IsBelow size r.column) now
  pub columns : All (λ r. IsColumn r.column) now
  pub fits : AllFit room left
  pub some : All (λ s. 1 ≤ length s.stores) left
  pub positive : All (λ s. All (λ e. 0 < e.1) s.stores) left
  pub within : All (λ s. sum_of s.stores ≤ scale) left

-- at the start there is no row
pub rows_start : (number : ℕ → ℕ) (size room scale : ℕ) (left whole : List Traced) (now : List Row) → now ≡ [] → left ≡ whole → AllFit room whole → All (λ s. 1 ≤ length s.stores) whole
    → All (λ s. All (λ e. 0 < e.1) s.stores) whole → All (λ s. sum_of s.stores ≤ scale) whole → RowsOn number size room scale left whole now
rows_start number size room scale left whole now none is fits some positive within =
    rw (none, is) (record {
      traces = refl;
      weights = refl;
      totals = refl;
      below = All-nil (λ (r : Row). IsBelow size r.column);
      columns = All-nil (λ (r : Row). IsColumn r.column);
      fits = fits;
      some = some;
      positive = positive;
      within = within;
    })

-- at the end each state has its row
module _ (number : ℕ → ℕ) (size room scale : ℕ) (left whole : List Traced) (now : List Row) (none : left ≡ []) (had : RowsOn number size room scale left whole now) where
  pub end_traces : map (λ r. r.trace) now ≡ map (λ s. s.trace) whole
  end_traces = sym (append-nil (map (λ (r : Row). r.trace) now)) ∙ (ap (λ ss. map (λ (r : Row). r.trace) now ++ map (λ (s : Traced). s.trace) ss) (sym none) ∙ had.traces)

  pub end_weights : map (λ (r : Row). weight_at r.column) now ≡ map (λ s x. value_in number x s) whole
  end_weights =
      sym (append-nil (map (λ (r : Row). weight_at r.column) now)) ∙ (ap (λ ss. map (λ (r : Row). weight_at r.column) now ++ map (λ (s : Traced) x. value_in number x s) ss) (sym none) ∙ had.weights)

  pub end_totals : map (λ (r : Row). total r.column) now ≡ map (λ s. sum_of s.stores) whole
  end_totals =
      sym (append-nil (map (λ (r : Row). total r.column) now)) ∙ (ap (λ ss. map (λ (r : Row). total r.column) now ++ map (λ (s : Traced). sum_of s.stores) ss) (sym none) ∙ had.totals)

module _ (number : ℕ → ℕ) (size room scale : ℕ) (left rest whole : List Traced) (now : List Row) (s : Traced) (next : left ≡ s ∷ rest) (had : RowsOn number size room scale left whole now) where
  -- the next state's stores fit
  pub state_fits : Fits room s.stores
  state_fits = All-head (λ (s : Traced). Fits room s.stores) s rest (subst (AllFit room) next had.fits)

  -- it has some
  pub state_some : 1 ≤ length s.stores
  state_some = All-head (λ (s : Traced). 1 ≤ length s.stores) s rest (subst (λ l. All (λ (s : Traced). 1 ≤ length s.stores) l) next had.some)

  -- each with some weight
  pub state_positive : All (λ e. 0 < e.1) s.stores
  state_positive = All-head (λ (s : Traced). All (λ e. 0 < e.1) s.stores) s rest (subst (λ l. All (λ (s : Traced). All (λ e. 0 < e.1) s.stores) l) next had.positive)

  -- and no more than the whole
  pub state_within : sum_of s.stores ≤ scale
  state_within = All-head (λ (s : Traced). sum_of s.stores ≤ scale) s rest (subst (λ l. All (λ (s : Traced). sum_of s.stores ≤ scale) l) next had.within)

  -- the next state moves over with its row
  pub rows_more : (r : Row) (after : List Row) → after ≡ now ++ r ∷ [] → r.trace ≡ s.trace → ((x : ℕ) → weight_at r.column x ≡ value_in number x s) → total r.column ≡ sum_of s.stores
      → IsBelow size r.column → IsColumn r.column → RowsOn number size room scale rest whole after
  rows_more r after grown trace weights sum below column = record {
    traces = moved_over (λ (r : Row). r.trace) (λ (s : Traced). s.trace) now after left rest r s _ grown next trace had.traces;
    weights = moved_over (λ (r : Row). weight_at r.column) (λ (s : Traced) x. value_in number x s) now after left rest r s _ grown next (λ i x. weights x i) had.weights;
    totals = moved_over (λ (r : Row). total r.column) (λ (s : Traced). sum_of s.stores) now after left rest r s _ grown next sum had.totals;
    below = subst (λ rs. All (λ (r : Row). IsBelow size r.column) rs) (sym grown) (All-push (λ (r : Row). IsBelow size r.column) now r had.below below);
    columns = subst (λ rs. All (λ (r : Row). IsColumn r.column) rs) (sym grown) (All-push (λ (r : Row). IsColumn r.column) now r had.columns column);
    fits = All-tail (λ (s : Traced). Fits room s.stores) s rest (subst (AllFit room) next had.fits);
    some = All-tail (λ (s : Traced). 1 ≤ length s.stores) s rest (subst (λ l. All (λ (s : Traced). 1 ≤ length s.stores) l) next had.some);
    positive = All-tail (λ (s : Traced). All (λ e. 0 < e.1) s.stores) s rest (subst (λ l. All (λ (s : Traced). All (λ e. 0 < e.1) s.stores) l) next had.positive);
    within = All-tail (λ (s : Traced). sum_of s.stores ≤ scale) s rest (subst (λ l. All (λ (s : Traced). sum_of s.stores ≤ scale) l) next had.within);
  }

-- no state weighs more than all together
each_within : (scale : ℕ) (ss : List Traced) → sum_by (λ s. sum_of s.stores) ss ≤ scale → Each (λ s. sum_of s.stores ≤ scale) ss
each_within scale [] h = tt
each_within scale (s ∷ ss) h =
    let sum = sum_by-cons (λ (s : Traced). sum_of s.stores) s ss in
    (omega (arith, h, sum), each_within scale ss (omega (arith, h, sum)))

pub all_within : (scale : ℕ) (ss : List Traced) → sum_by (λ s. sum_of s.stores) ss ≡ scale → All (λ s. sum_of s.stores ≤ scale) ss
all_within scale ss sum = All-from_recursion (λ (s : Traced). sum_of s.stores ≤ scale) ss (each_within scale ss (omega (arith, sum)))

-- the states that a cleared program ends in tell of its runs
pub states_tell : (turns scale : ℕ) (p : ProgramTree) (ss : List Traced) → ∥ IsChecked p ∥₁ → IsOk (program_pass turns p) → scale ≡ scale_of turns p → TracesTell
    → ss ≡ program_traced turns scale p → (ss ≡ program_traced turns (scale_of turns p) p) × AreTraces (scale_of turns p) (program_runs turns p) ss
states_tell turns scale p ss checked clear is tell states =
    let all : ss ≡ program_traced turns (scale_of turns p) p = states ∙ ap (λ whole. program_traced turns whole p) is in
    (all, subst (λ us. AreTraces (scale_of turns p) (program_runs turns p) us) (sym all) (tell turns p (checked_again p checked) clear))
