-- Every list of cells has its rows: each cell of some weight is put into an ascending list of them.
use Rattle.std.proofs.Common.{◌≡◌, ◌↔◌, ℕ, zero, suc, ◌+◌, ◌<◌, ◌≤◌, ◌==◌, ◌&&◌, Bool, true, false, cond, List, [], ◌∷◌, Contains, map, refl, sym, ap, subst, ◌∙◌, inl, inr, arith}
use Rattle.std.proofs.Math.Nat.{zero-add}
use Rattle.std.specs.Cmp.Lexicographic.{pointwise}
use Rattle.std.specs.Ordering.{nat_cmp, match_ordering, ordering_reverse}
use Rattle.std.specs.declared.cmp.Ordering.{Ordering}
use Rattle.std.specs.declared.cmp.Ordering.TheVariants.{Less, Equal, Greater}
use Rattle.std.specs.List.{AllByRecursion as Each}
use Rattle.std.specs.List.Sorted.{IsStrictlySortedBy}
use Rattle.std.proofs.lemmas.Bool.{false_from_ne_true}
use Rattle.std.proofs.lemmas.Cmp.{ranked}
use Rattle.std.proofs.lemmas.List.Elements.{All-from_recursion}
use Rattle.kf_value.specs.Values.{ValueTree, Truth, Whole, Tuple, Set, parts, parts_list, is_equal}
use Rattle.kf_value.proofs.ListLemmas.{each_both, each_map, each_weaker}
use Rattle.kf_value.proofs.Orders.{goes_on, flip, same as same_value}
use Rattle.kf_value.proofs.Sorting.{sorted-nil, sorted-cons}
use Rattle.kf_column.specs.declared.entry.Entry.{Entry}
use Rattle.kf_column.specs.Columns.{IsColumn, weight_at}
use Rattle.kf_column.specs.Traces.{Row, trace_order}
use Rattle.kf_column.proofs.AtMostOne.{In}
use Rattle.kf_column.proofs.Weights.{Above, column_above}
use Rattle.kf_core.specs.Joint.{Cell, weight_of, trace_weight}
use Rattle.kf_core.specs.JointLaws.{RowsExist}
use Rattle.kf_core.specs.Rows.{AreRowsOf}
use Rattle.kf_core.proofs.Measures.{Full}
use Rattle.kf_core.proofs.OneTable.{as_tuples, in_from_contains, contains_from_in, listed_parts}
use Rattle.kf_core.proofs.Stores.{lists_decide, lists_order-itself}
use Rattle.kf_core.proofs.Sums.{adds, each_is, sum_filtered, sum_is}
use Rattle.kf_core.specs.Each.{HasTrace, is_cell_at}

abbrev Trace : Type 0
Trace = List ValueTree

-- ---- the order of traces

goes_on_traces : (t u v : Trace) → trace_order t u ≡ Less → trace_order u v ≡ Less → trace_order t v ≡ Less
goes_on_traces t u v p q = sym (as_tuples t v) ∙ goes_on (Tuple (parts t)) (Tuple (parts u)) (Tuple (parts v)) (as_tuples t u ∙ p) (as_tuples u v ∙ q)

turned : (t u : Trace) → trace_order t u ≡ Greater → trace_order u t ≡ Less
turned t u h = sym (as_tuples u t) ∙ flip (Tuple (parts u)) (Tuple (parts t)) ∙ ap ordering_reverse (as_tuples t u ∙ h)

inside : ValueTree → Trace
inside (Tuple vs) = parts_list vs
inside (Truth b) = []
inside (Whole i) = []
inside (Set vs) = []

same_traces : (t u : Trace) → trace_order t u ≡ Equal → t ≡ u
unfolding inside
same_traces t u h = sym (listed_parts t) ∙ ap inside (same_value (Tuple (parts t)) (Tuple (parts u)) (as_tuples t u ∙ h)) ∙ listed_parts u

self : (t : Trace) → pointwise is_equal t t ≡ true
self t = (lists_decide t t).1 refl

apart : (t u : Trace) → trace_order t u ≡ Less → t ≡ u → ⊥
apart t u less e =
    let equal = lists_order-itself u in
    let known : trace_order u u ≡ Less = subst (λ (v : Trace). trace_order v u ≡ Less) e less in
    (cc)

unequal : (t u : Trace) → trace_order t u ≡ Less → pointwise is_equal t u ≡ false
unequal t u less = false_from_ne_true (pointwise is_equal t u) (λ h. apart t u less ((lists_decide t u).0 h))

unequal_back : (t u : Trace) → trace_order t u ≡ Less → pointwise is_equal u t ≡ false
unequal_back t u less = false_from_ne_true (pointwise is_equal u t) (λ h. apart t u less (sym ((lists_decide u t).0 h)))

-- ---- weight more at a value of a column

abbrev entry : ℕ → ℕ → Entry
entry x w = record { value = x; weight = w }

abbrev heavier : ℕ → ℕ → List Entry → List Entry
heavier x w [] = entry x w ∷ []
heavier x w (e ∷ es) = match_ordering (nat_cmp x e.value) (entry x w ∷ e ∷ es) (entry e.value (e.weight + w) ∷ es) (e ∷ heavier x w es)

module _ (x w : ℕ) (some : 0 < w) where
  above_at : (low : ℕ) (e : Entry) (es : List Entry) (r : Ordering) → r ≡ nat_cmp x e.value → low ≤ x → Above low (e ∷ es)
      → (e.value + 1 ≤ x → Above (e.value + 1) (heavier x w es))
      → Above low (match_ordering r (entry x w ∷ e ∷ es) (entry e.value (e.weight + w) ∷ es) (e ∷ heavier x w es))
  above_at low e es Less is from h later = let less : x < e.value = ranked x e.value Less is in (from, some, (omega (arith, less), h.1, h.2))
  above_at low e es Equal is from h later = let positive : 0 < e.weight = h.1 in (h.0, omega (arith, positive), h.2)
  above_at low e es Greater is from h later = let less : e.value < x = ranked x e.value Greater is in (h.0, h.1, later (omega (arith, less)))

  above_heavier : (low : ℕ) (es : List Entry) → low ≤ x → Above low es → Above low (heavier x w es)
  above_heavier low [] from h = (from, some, tt)
  above_heavier low (e ∷ es) from h = above_at low e es (nat_cmp x e.value) refl from h (λ past. above_heavier (e.value + 1) es past h.2)

full_at : (x w : ℕ) (e : Entry) (es : List Entry) (r : Ordering) → Full (match_ordering r (entry x w ∷ e ∷ es) (entry e.value (e.weight + w) ∷ es) (e ∷ heavier x w es))
full_at x w e es Less = tt
full_at x w e es Equal = tt
full_at x w e es Greater = tt

full_heavier : (x w : ℕ) (es : List Entry) → Full (heavier x w es)
full_heavier x w [] = tt
full_heavier x w (e ∷ es) = full_at x w e es (nat_cmp x e.value)

-- what is added up over a column is additive in the weight of an entry
abbrev IsLinear : (ℕ → ℕ → ℕ) → Type 0
IsLinear f = (x a b : ℕ) → f x (a + b) ≡ f x a + f x b

abbrev over : (ℕ → ℕ → ℕ) → List Entry → ℕ
over f es = adds (λ e. f e.value e.weight) es

module _ (f : ℕ → ℕ → ℕ) (linear : IsLinear f) (x w : ℕ) where
  over_at : (e : Entry) (es : List Entry) (r : Ordering) → r ≡ nat_cmp x e.value → over f (heavier x w es) ≡ over f es + f x w
      → over f (match_ordering r (entry x w ∷ e ∷ es) (entry e.value (e.weight + w) ∷ es) (e ∷ heavier x w es)) ≡ over f (e ∷ es) + f x w
  over_at e es Less is later = omega arith
  over_at e es Equal is later =
      let here : f e.value (e.weight + w) ≡ f e.value e.weight + f e.value w = linear e.value e.weight w in
      let there : f x w ≡ f e.value w = ap (λ n. f n w) (ranked x e.value Equal is) in
      omega (arith, here, there)
  over_at e es Greater is later = omega (arith, later)

  over_heavier : (es : List Entry) → over f (heavier x w es) ≡ over f es + f x w
  over_heavier [] = omega arith
  over_heavier (e ∷ es) = over_at e es (nat_cmp x e.value) refl (over_heavier es)

-- ---- weight more at a trace and a value of rows

abbrev Ascends : List Row → Type 0
Ascends [] = Unit {0}
Ascends (r ∷ rs) = Each (λ s. trace_order r.trace s.trace ≡ Less) rs × Ascends rs

-- its column is one
abbrev IsSolid : Row → Type 0
IsSolid r = Above 0 r.column × Full r.column

abbrev row : Trace → List Entry → Row
row t es = record { trace = t; column = es }

module _ (t : Trace) (x w : ℕ) where
  abbrev with_weight : List Row → List Row
  with_weight [] = row t (heavier x w []) ∷ []
  with_weight (r ∷ rs) = match_ordering (trace_order t r.trace) (row t (heavier x w []) ∷ r ∷ rs) (row r.trace (heavier x w r.column) ∷ rs) (r ∷ with_weight rs)

  abbrev Put : Ordering → Row → List Row → List Row
  Put o r rs = match_ordering o (row t (heavier x w []) ∷ r ∷ rs) (row r.trace (heavier x w r.column) ∷ rs) (r ∷ with_weight rs)

  each_put_at : (P : Trace → Type 0) (r : Row) (rs : List Row) (o : Ordering) → P t → Each (λ s. P s.trace) (r ∷ rs) → Each (λ s. P s.trace) (with_weight rs) → Each (λ s. P s.trace) (Put o r rs)
  each_put_at P r rs Less here h later = (here, h)
  each_put_at P r rs Equal here h later = (h.0, h.1)
  each_put_at P r rs Greater here h later = (h.0, later)

  each_put : (P : Trace → Type 0) (rs : List Row) → P t → Each (λ s. P s.trace) rs → Each (λ s. P s.trace) (with_weight rs)
  each_put P [] here h = (here, tt)
  each_put P (r ∷ rs) here h = each_put_at P r rs (trace_order t r.trace) here h (each_put P rs here h.1)

  ascends_at : (r : Row) (rs : List Row) (o : Ordering) → trace_order t r.trace ≡ o → Ascends (r ∷ rs) → Ascends (with_weight rs) → Ascends (Put o r rs)
  ascends_at r rs Less is h later =
      ((is, each_weaker (λ (s : Row). trace_order r.trace s.trace ≡ Less) (λ (s : Row). trace_order t s.trace ≡ Less) (λ s less. goes_on_traces t r.trace s.trace is less) rs h.0), h)
  ascends_at r rs Equal is h later = (h.0, h.1)
  ascends_at r rs Greater is h later = (each_put (λ u. trace_order r.trace u ≡ Less) rs (turned t r.trace is) h.0, later)

  ascends : (rs : List Row) → Ascends rs → Ascends (with_weight rs)
  ascends [] h = (tt, tt)
  ascends (r ∷ rs) h = ascends_at r rs (trace_order t r.trace) refl h (ascends rs h.1)

  module _ (some : 0 < w) where
    solid_at : (r : Row) (rs : List Row) (o : Ordering) → Each IsSolid (r ∷ rs) → Each IsSolid (with_weight rs) → Each IsSolid (Put o r rs)
    solid_at r rs Less h later = ((above_heavier x w some 0 [] (omega arith) tt, tt), h)
    solid_at r rs Equal h later = ((above_heavier x w some 0 r.column (omega arith) h.0.0, full_heavier x w r.column), h.1)
    solid_at r rs Greater h later = (h.0, later)

    solid : (rs : List Row) → Each IsSolid rs → Each IsSolid (with_weight rs)
    solid [] h = ((above_heavier x w some 0 [] (omega arith) tt, tt), tt)
    solid (r ∷ rs) h = solid_at r rs (trace_order t r.trace) h (solid rs h.1)

-- what is added up over the rows of a trace
abbrev at_trace : (ℕ → ℕ → ℕ) → Trace → List Row → ℕ
at_trace f u rs = adds (λ r. cond (pointwise is_equal r.trace u) (over f r.column) 0) rs

kept : (b : Bool) (n m k : ℕ) → n ≡ m + k → cond b n 0 ≡ cond b m 0 + cond b k 0
kept true n m k h = h
kept false n m k h = omega arith

module _ (f : ℕ → ℕ → ℕ) (linear : IsLinear f) (t : Trace) (x w : ℕ) (u : Trace) where
  abbrev mine : ℕ
  mine = cond (pointwise is_equal t u) (f x w) 0

  new_row : cond (pointwise is_equal t u) (over f (heavier x w [])) 0 ≡ mine
  new_row = ap (λ n. cond (pointwise is_equal t u) n 0) (over_heavier f linear x w [] ∙ zero-add (f x w))

  weighs_at : (r : Row) (rs : List Row) (o : Ordering) → trace_order t r.trace ≡ o → at_trace f u (with_weight t x w rs) ≡ at_trace f u rs + mine
      → at_trace f u (Put t x w o r rs) ≡ at_trace f u (r ∷ rs) + mine
  weighs_at r rs Less is later = let one = new_row in omega (arith, one)
  weighs_at r rs Equal is later =
      let b = pointwise is_equal r.trace u in
      let grown : cond b (over f (heavier x w r.column)) 0 ≡ cond b (over f r.column) 0 + cond b (f x w) 0 =
      kept b (over f (heavier x w r.column)) (over f r.column) (f x w) (over_heavier f linear x w r.column) in
      let there : mine ≡ cond b (f x w) 0 = ap (λ v. cond (pointwise is_equal v u) (f x w) 0) (same_traces t r.trace is) in
      omega (arith, grown, there)
  weighs_at r rs Greater is later = omega (arith, later)

  weighs : (rs : List Row) → at_trace f u (with_weight t x w rs) ≡ at_trace f u rs + mine
  weighs [] = let one = new_row in omega (arith, one)
  weighs (r ∷ rs) = weighs_at r rs (trace_order t r.trace) refl (weighs rs)

-- ---- the rows of cells

-- no weight changes nothing
abbrev put : Trace → ℕ → ℕ → List Row → List Row
put t x zero rs = rs
put t x (suc w) rs = with_weight t x (suc w) rs

abbrev rows_of : List Cell → List Row
rows_of [] = []
rows_of (c ∷ cs) = put c.trace c.value c.weight (rows_of cs)

put_ascends : (t : Trace) (x w : ℕ) (rs : List Row) → Ascends rs → Ascends (put t x w rs)
put_ascends t x zero rs h = h
put_ascends t x (suc w) rs h = ascends t x (suc w) rs h

rows_ascend : (cs : List Cell) → Ascends (rows_of cs)
rows_ascend [] = tt
rows_ascend (c ∷ cs) = put_ascends c.trace c.value c.weight (rows_of cs) (rows_ascend cs)

put_solid : (t : Trace) (x w : ℕ) (rs : List Row) → Each IsSolid rs → Each IsSolid (put t x w rs)
put_solid t x zero rs h = h
put_solid t x (suc w) rs h = solid t x (suc w) (omega arith) rs h

rows_solid : (cs : List Cell) → Each IsSolid (rows_of cs)
rows_solid [] = tt
rows_solid (c ∷ cs) = put_solid c.trace c.value c.weight (rows_of cs) (rows_solid cs)

module _ (f : ℕ → ℕ → ℕ) (linear : IsLinear f) (u : Trace) where
  nothing : (b : Bool) (x n : ℕ) → n ≡ n + cond b (f x 0) 0
  nothing true x n = let none : f x 0 ≡ f x 0 + f x 0 = linear x 0 0 in omega (arith, none)
  nothing false x n = omega arith

  put_weighs : (t : Trace) (x w : ℕ) (rs : List Row) → at_trace f u (put t x w rs) ≡ at_trace f u rs + cond (pointwise is_equal t u) (f x w) 0
  put_weighs t x zero rs = nothing (pointwise is_equal t u) x (at_trace f u rs)
  put_weighs t x (suc w) rs = weighs f linear t x (suc w) u rs

  rows_weigh : (cs : List Cell) → at_trace f u (rows_of cs) ≡ adds (λ c. cond (pointwise is_equal c.trace u) (f c.value c.weight) 0) cs
  rows_weigh [] = refl
  rows_weigh (c ∷ cs) =
      let one = put_weighs c.trace c.value c.weight (rows_of cs) in
      let others = rows_weigh cs in
      omega (arith, one, others)

-- ---- a row is all that there is at its trace

none_there : (f : ℕ → ℕ → ℕ) (u : Trace) (rs : List Row) → Each (λ s. pointwise is_equal s.trace u ≡ false) rs → at_trace f u rs ≡ 0
none_there f u [] h = refl
none_there f u (r ∷ rs) h =
    let here : cond (pointwise is_equal r.trace u) (over f r.column) 0 ≡ 0 = ap (λ b. cond b (over f r.column) 0) h.0 in
    let others = none_there f u rs h.1 in
    omega (arith, here, others)

abbrev Alone : List Row → Row → Type 0
Alone rs r = (f : ℕ → ℕ → ℕ) → at_trace f r.trace rs ≡ over f r.column

first_alone : (r : Row) (rs : List Row) → Each (λ s. trace_order r.trace s.trace ≡ Less) rs → Alone (r ∷ rs) r
first_alone r rs h f =
    let here : cond (pointwise is_equal r.trace r.trace) (over f r.column) 0 ≡ over f r.column = ap (λ b. cond b (over f r.column) 0) (self r.trace) in
    let none = none_there f r.trace rs
    (each_weaker (λ (s : Row). trace_order r.trace s.trace ≡ Less) (λ (s : Row). pointwise is_equal s.trace r.trace ≡ false) (λ s less. unequal_back r.trace s.trace less) rs h) in
    omega (arith, here, none)

later_alone : (r : Row) (rs : List Row) (s : Row) → trace_order r.trace s.trace ≡ Less → Alone rs s → Alone (r ∷ rs) s
later_alone r rs s less h f =
    let here : cond (pointwise is_equal r.trace s.trace) (over f r.column) 0 ≡ 0 = ap (λ b. cond b (over f r.column) 0) (unequal r.trace s.trace less) in
    let there = h f in
    omega (arith, here, there)

each_alone : (rs : List Row) → Ascends rs → Each (Alone rs) rs
each_alone [] h = tt
each_alone (r ∷ rs) h =
    (first_alone r rs h.0, each_both (λ (s : Row). trace_order r.trace s.trace ≡ Less) (Alone rs) (Alone (r ∷ rs)) (λ s less alone. later_alone r rs s less alone) rs h.0 (each_alone rs h.1))

-- ---- in the words of the definition

abbrev at_value : ℕ → ℕ → ℕ → ℕ
at_value y x w = cond (x == y) w 0

value_linear : (y : ℕ) → IsLinear (at_value y)
value_linear y x a b = kept (x == y) (a + b) a b refl

abbrev all_weight : ℕ → ℕ → ℕ
all_weight x w = w

all_linear : IsLinear all_weight
all_linear x a b = refl

and_cond : (a b : Bool) (n : ℕ) → cond (a && b) n 0 ≡ cond a (cond b n 0) 0
and_cond true b n = refl
and_cond false b n = refl

module _ (cs : List Cell) (t : Trace) where
  value_weight : (y : ℕ) → weight_of cs t y ≡ at_trace (at_value y) t (rows_of cs)
  value_weight y =
      sum_filtered (λ (c : Cell). c.weight) (is_cell_at t y) cs
      ∙ each_is (λ (c : Cell). cond (is_cell_at t y c) c.weight 0) (λ c. cond (pointwise is_equal c.trace t) (at_value y c.value c.weight) 0)
      (λ c. and_cond (pointwise is_equal c.trace t) (c.value == y) c.weight) cs
      ∙ sym (rows_weigh (at_value y) (value_linear y) t cs)

  whole_weight : trace_weight cs t ≡ at_trace all_weight t (rows_of cs)
  whole_weight = sum_filtered (λ (c : Cell). c.weight) (λ c. pointwise is_equal c.trace t) cs ∙ sym (rows_weigh all_weight all_linear t cs)

column_weight : (y : ℕ) (es : List Entry) → weight_at es y ≡ over (at_value y) es
column_weight y es = sum_is (λ (e : Entry). cond (e.value == y) e.weight 0) es

column_positive : (es : List Entry) → Above 0 es → Full es → 0 < over all_weight es
column_positive [] above full = absurd full
column_positive (e ∷ es) above full = let some : 0 < e.weight = above.1 in omega (arith, some)

not_empty : (es : List Entry) → Full es → es ≡ [] → ⊥
not_empty es full e = subst Full e full

sorted : (rs : List Row) → Ascends rs → IsStrictlySortedBy trace_order (map (λ (r : Row). r.trace) rs)
sorted [] h = sorted-nil trace_order
sorted (r ∷ rs) h =
    sorted-cons trace_order r.trace (map (λ (s : Row). s.trace) rs) (each_map (λ u. trace_order r.trace u ≡ Less) (λ (s : Row). s.trace) rs h.0) (sorted rs h.1)

module _ (t : Trace) where
  weighs_first : (r : Row) (rs : List Row) → IsSolid r → t ≡ r.trace → 0 < at_trace all_weight t (r ∷ rs)
  weighs_first r rs h e =
      let here : cond (pointwise is_equal r.trace t) (over all_weight r.column) 0 ≡ over all_weight r.column =
      ap (λ b. cond b (over all_weight r.column) 0) ((lists_decide r.trace t).1 (sym e)) in
      let some = column_positive r.column h.0 h.1 in
      omega (arith, here, some)

  weighs_there : (rs : List Row) → Each IsSolid rs → In t (map (λ (r : Row). r.trace) rs) → 0 < at_trace all_weight t rs
  weighs_there [] h at = absurd at
  weighs_there (r ∷ rs) h (inl e) = weighs_first r rs h.0 e
  weighs_there (r ∷ rs) h (inr at) = let later = weighs_there rs h.1 at in omega (arith, later)

  there_by : (r : Row) (rs : List Row) (b : Bool) → pointwise is_equal r.trace t ≡ b → (0 < at_trace all_weight t rs → In t (map (λ (s : Row). s.trace) rs))
      → 0 < cond b (over all_weight r.column) 0 + at_trace all_weight t rs → In t (map (λ (s : Row). s.trace) (r ∷ rs))
  there_by r rs true is later h = inl (sym ((lists_decide r.trace t).0 is))
  there_by r rs false is later h = inr (later (omega (arith, h)))

  there_weighs : (rs : List Row) → 0 < at_trace all_weight t rs → In t (map (λ (r : Row). r.trace) rs)
  there_weighs [] h = absurd (omega (arith, h))
  there_weighs (r ∷ rs) h = there_by r rs (pointwise is_equal r.trace t) refl (there_weighs rs) h

module _ (cs : List Cell) where
  abbrev rs : List Row
  rs = rows_of cs

  has_trace : (t : Trace) → Contains (map (λ (r : Row). r.trace) rs) t ↔ HasTrace cs t
  has_trace t =
      let same = whole_weight cs t in (
        λ h. subst (λ n. 0 < n) (sym same) (weighs_there t rs (rows_solid cs) (in_from_contains (map (λ (r : Row). r.trace) rs) t h)),
        λ h. contains_from_in (map (λ (r : Row). r.trace) rs) t (there_weighs t rs (subst (λ n. 0 < n) same h)),
      )

  abbrev HasWeights : Row → Type 0
  HasWeights r = (x : ℕ) → weight_at r.column x ≡ weight_of cs r.trace x

  rows_are : AreRowsOf cs rs
  rows_are = record {
    ascending = sorted rs (rows_ascend cs);
    all = has_trace;
    columns = All-from_recursion (λ (r : Row). IsColumn r.column) rs
        (each_weaker IsSolid (λ (r : Row). IsColumn r.column) (λ r h. column_above 0 r.column h.0 (not_empty r.column h.1)) rs (rows_solid cs));
    weights = All-from_recursion HasWeights rs
        (each_weaker (Alone rs) HasWeights (λ r alone x. column_weight x r.column ∙ sym (alone (at_value x)) ∙ sym (value_weight cs r.trace x)) rs (each_alone rs (rows_ascend cs)));
  }

pub rows_exist : RowsExist
rows_exist cs = (rows_of cs, rows_are cs)
