-- Ways by what is leaked on them, as rows.
use Rattle.std.proofs.Common.{◌≡◌, ℕ, zero, suc, ◌+◌, ◌-◌, ◌<◌, ◌≤◌, ◌==◌, Bool, true, false, cond, List, [], ◌∷◌, ◌++◌, All, map, take, drop, length, get_or, refl, sym, ap, subst, ◌∙◌, arith, append-nil, append_assoc, take-append-drop, not}
use Rattle.std.specs.Prelude.{◌&&◌, sum_by}
use Rattle.std.specs.Cmp.Lexicographic.{pointwise}
use Rattle.std.specs.List.{AllByRecursion as Each, AllPairs}
use Rattle.std.specs.List.Sorted.{IsPermutation, IsSorted, IsStrictlySortedBy}
use Rattle.std.specs.Ordering.{is_lt, ordering_index}
use Rattle.std.specs.declared.cmp.Ordering.{Ordering}
use Rattle.std.specs.declared.cmp.Ordering.TheVariants.{Less, Equal, Greater}
use Rattle.std.proofs.lemmas.Bool.{eqb-true}
use Rattle.std.proofs.lemmas.Bool.Decides.{nat_tests}
use Rattle.std.proofs.lemmas.List.{map-append, drop_all, nil_from_length, take_all, take_more}
use Rattle.std.proofs.lemmas.List.Elements.{All-from_recursion, recursion_from_All}
use Rattle.std.proofs.lemmas.List.Sorted.{IsPermutation-map, ranks_by, sorted_far, sum_by-IsPermutation}
use Rattle.std.proofs.lemmas.List.Sums.{sum_by-cons, sum_by-append}
use Rattle.kf_value.specs.Values.{ValueTree, is_equal, order}
use Rattle.kf_value.specs.Views.{value_tree}
use Rattle.kf_value.proofs.ListLemmas.{each_append, each_map, each_weaker}
use Rattle.kf_value.proofs.Orders.{first_less, flip, goes_on, order-itself, order_total, same}
use Rattle.kf_value.proofs.Sorting.{sorted-nil, sorted-cons}
use Rattle.kf_column.specs.declared.entry.Entry.{Entry}
use Rattle.kf_column.specs.Columns.{IsColumn, total, weight_at}
use Rattle.kf_column.specs.Joint.{mass}
use Rattle.kf_column.specs.Shapes.{IsBelow}
use Rattle.kf_column.specs.Traces.{Row, trace_order}
use Rattle.kf_column.proofs.Weights.{above_column}
use Rattle.kf_core.specs.Ready.{carried_cells}
use Rattle.kf_core.specs.Runs.{Run}
use Rattle.kf_core.proofs.Measures.{Full}
use Rattle.kf_core.proofs.Sums.{adds, adds_mapped, sum_is}
use Rattle.kf_run.specs.Spreading.{IsFront, Rise, leak_order}
use Rattle.kf_hyper.specs.Sums.{asked_weight}
use Rattle.kf_run.specs.Groups.{AreSame}
use Rattle.kf_run.specs.Ways.{Way, HasRows, IsShared, along, held, leaked, way_total}
use Rattle.kf_run.specs.declared.ways.Leak.{Leak}
use Rattle.kf_run.proofs.RowsTold.{Trace, IsSolidRow, in_row, rows_told}
use Rattle.kf_run.proofs.Sharing.{along_weighs, held_in, held_is, held_joined}

-- ---- facts of each way

each_front : (P : Way → Type 0) (us vs : List Way) → Each P (us ++ vs) → Each P us
each_front P [] vs all = tt
each_front P (u ∷ us) vs all = (all.0, each_front P us vs all.1)

each_back : (P : Way → Type 0) (us vs : List Way) → Each P (us ++ vs) → Each P vs
each_back P [] vs all = all
each_back P (u ∷ us) vs all = each_back P us vs all.1

none_of : (f : Way → ℕ) (ways : List Way) → Each (λ w. f w ≡ 0) ways → sum_by f ways ≡ 0
none_of f [] all = refl
none_of f (w ∷ ways) all = omega (arith, all.0, none_of f ways all.1, sum_by-cons f w ways)

each_none : (f : Way → ℕ) (ways : List Way) → sum_by f ways ≡ 0 → Each (λ w. f w ≡ 0) ways
each_none f [] none = tt
each_none f (w ∷ ways) none = (omega (arith, none, sum_by-cons f w ways), each_none f ways (omega (arith, none, sum_by-cons f w ways)))

-- ways in another order have some weight, and lead to stores below a size, as they did before
pub same_positive : (us vs : List Way) → AreSame us vs → Each (λ w. 0 < w.weight) us → Each (λ w. 0 < w.weight) vs
same_positive us vs same all =
    let f : Way → ℕ = λ w. 1 - w.weight in
    let before = each_weaker (λ w. 0 < w.weight) (λ w. f w ≡ 0) (λ w some. omega (arith, some)) us all in
    each_weaker (λ w. f w ≡ 0) (λ w. 0 < w.weight) (λ w none. omega (arith, none)) vs (each_none f vs (same f ∙ none_of f us before))

pub same_below : (size : ℕ) (us vs : List Way) → AreSame us vs → Each (λ w. w.to < size) us → Each (λ w. w.to < size) vs
same_below size us vs same all =
    let f : Way → ℕ = λ w. w.to + 1 - size in
    let before = each_weaker (λ w. w.to < size) (λ w. f w ≡ 0) (λ w low. omega (arith, low)) us all in
    each_weaker (λ w. f w ≡ 0) (λ w. w.to < size) (λ w none. omega (arith, none)) vs (each_none f vs (same f ∙ none_of f us before))

-- ---- rows of ways

abbrev pub traces_of : List Row → List Trace
traces_of rows = map (λ (r : Row). r.trace) rows

abbrev pub columns_of : List Row → List (List Entry)
columns_of rows = map (λ (r : Row). r.column) rows

pub record IsGrouped (ways : List Way) (rows : List Row) : Type 0 where
  pub weigh : (t : Trace) (x : ℕ) → adds (in_row t x) rows ≡ held t x ways
  pub whole : mass (columns_of rows) ≡ way_total ways
  pub solid : Each IsSolidRow rows
  pub ascend : IsStrictlySortedBy trace_order (traces_of rows)
  pub later : (t : Trace) → Each (λ (w : Way). trace_order t w.trace ≡ Less) ways → Each (λ u. trace_order t u ≡ Less) (traces_of rows)

pub none_grouped : IsGrouped [] []
none_grouped = record { weigh = λ t x. refl; whole = refl; solid = tt; ascend = sorted-nil trace_order; later = λ t none. tt }

full : (es : List Entry) → (es ≡ [] → ⊥) → Full es
full [] some = absurd (some refl)
full (e ∷ es) some = tt

in_trace : (b : Bool) (x : ℕ) (es : List Entry) → cond b (weight_at es x) 0 ≡ adds (λ e. cond (b && (e.value == x)) e.weight 0) es
in_trace true x es = sum_is (λ (e : Entry). cond (e.value == x) e.weight 0) es
in_trace false x es = nothing es
  where
    nothing : (es : List Entry) → 0 ≡ adds (λ e. 0) es
    nothing [] = refl
    nothing (e ∷ es) = omega (arith, nothing es)

along_holds : (trace t : Trace) (x : ℕ) (es : List Entry) → cond (pointwise is_equal trace t) (weight_at es x) 0 ≡ held t x (map (along trace) es)
along_holds trace t x es = in_trace (pointwise is_equal trace t) x es ∙ sym (held_is t x (map (along trace) es) ∙ adds_mapped (held_in t x) (along trace) es)

module _ (trace : Trace) (es column : List Entry) (weights : (asked : ℕ → Bool) → asked_weight asked column ≡ asked_weight asked es) (same_total : total column ≡ total es) (is : IsColumn column) where
  -- the first row is the column of the ways with the first trace
  pub more_grouped : (ways : List Way) (rows : List Row) → Each (λ (w : Way). trace_order trace w.trace ≡ Less) ways → IsGrouped ways rows
      → IsGrouped (map (along trace) es ++ ways) (record { trace = trace; column = column } ∷ rows)
  more_grouped ways rows after rest = record {
    weigh = λ t x.
        let here : cond (pointwise is_equal trace t) (weight_at column x) 0 ≡ held t x (map (along trace) es) =
        ap (λ n. cond (pointwise is_equal trace t) n 0) (weights (λ v. v == x)) ∙ along_holds trace t x es in
        omega (arith, here, rest.weigh t x, held_joined t x (map (along trace) es) ways);
    whole =
        omega (
          arith,
          sum_by-cons total column (columns_of rows),
          same_total,
          along_weighs trace es,
          rest.whole,
          sum_by-append (λ (w : Way). w.weight) (map (along trace) es) ways,
        );
    solid = ((above_column column is, full column is.some), rest.solid);
    ascend = sorted-cons trace_order trace (traces_of rows) (rest.later trace after) rest.ascend;
    later = λ t less. (first_later t es (λ none. is.some (no_column none)) (each_front (λ (w : Way). trace_order t w.trace ≡ Less) (map (along trace) es) ways less), rest.later t (each_back (λ (w : Way). trace_order t w.trace ≡ Less) (map (along trace) es) ways less));
  }
    where
      first_later : (t : Trace) (es : List Entry) → (es ≡ [] → ⊥) → Each (λ (w : Way). trace_order t w.trace ≡ Less) (map (along trace) es) → trace_order t trace ≡ Less
      first_later t [] some all = absurd (some refl)
      first_later t (e ∷ es) some all = all.0

      weighs_none : (fs : List Entry) → (fs ≡ [] → ⊥) → All (λ e. 0 < e.weight) fs → total fs ≡ 0 → ⊥
      weighs_none [] some positive none = some refl
      weighs_none (f ∷ fs) some positive none = let here = (recursion_from_All (λ (e : Entry). 0 < e.weight) (f ∷ fs) positive).0 in absurd (omega (arith, here, none, sum_by-cons (λ (e : Entry). e.weight) f fs))

      no_column : es ≡ [] → column ≡ []
      no_column none = absurd (weighs_none column is.some is.positive (same_total ∙ ap total none))

-- the rows of a column's ways are the rows behind it
pub have_rows : (from : ℕ → List Run) (size : ℕ) (column : List Entry) (ways all : List Way) (rows : List Row) (old new : List (List Entry)) → IsShared from column ways
    → ((t : Trace) (x : ℕ) → held t x all ≡ held t x ways) → way_total all ≡ way_total ways → IsGrouped all rows → new ≡ old ++ columns_of rows → Each (IsBelow size) (columns_of rows)
    → HasRows from size column old new
have_rows from size column ways all rows old new shared alike sum grouped is below = record {
  rows = rows;
  are = rows_told (carried_cells from column) rows grouped.ascend grouped.solid (λ t x. grouped.weigh t x ∙ alike t x ∙ shared.weigh t x);
  is = is;
  fits = omega (arith, grouped.whole, sum, shared.fits);
  below = below;
}

-- ---- one column, of ways with one trace

module _ (from : ℕ → List Run) (size : ℕ) (before : List Entry) (trace : Trace) (es : List Entry) (old : List (List Entry)) (shared : IsShared from before (map (along trace) es)) where
  pub none_rows : (new : List (List Entry)) → es ≡ [] → new ≡ old → HasRows from size before old new
  none_rows new none is =
      have_rows from size before (map (along trace) es) [] [] old new shared (λ t x. ap (λ l. held t x (map (along trace) l)) (sym none)) (ap (λ l. way_total (map (along trace) l)) (sym none)) none_grouped (is
      ∙ sym (append-nil old)) tt

  pub one_row : (column : List Entry) (new : List (List Entry)) → ((asked : ℕ → Bool) → asked_weight asked column ≡ asked_weight asked es) → total column ≡ total es → IsColumn column
      → IsBelow size column → new ≡ old ++ column ∷ [] → HasRows from size before old new
  one_row column new weights same_total is below pushed =
      let grouped = more_grouped trace es column weights same_total is [] [] tt none_grouped in
      let same_ways : map (along trace) es ++ [] ≡ map (along trace) es = append-nil (map (along trace) es) in
      have_rows from size before (map (along trace) es) (map (along trace) es ++ []) (record { trace = trace; column = column } ∷ []) old new shared (λ t x. ap (held t x) same_ways) (ap way_total same_ways)
      grouped pushed (below, tt)

pub some_total : (es : List Entry) → (es ≡ [] → ⊥) → All (λ e. 0 < e.weight) es → 0 < total es
some_total [] some positive = absurd (some refl)
some_total (e ∷ es) some positive = let here = (recursion_from_All (λ (e : Entry). 0 < e.weight) (e ∷ es) positive).0 in omega (arith, here, sum_by-cons (λ (e : Entry). e.weight) e es)

-- ---- leaks in order

abbrev pub value_of : Leak → ValueTree
value_of l = value_tree l.value

pub rise : (ls : List Leak) → IsSorted leak_order ls → Rise ls
rise ls sorted = at ls (λ i j d below within. sorted_far _ (ranks_by order_total value_of) ls sorted i j d (omega arith) within)
  where
    at : (ls : List Leak) → AllPairs (λ a b. is_lt (leak_order b a) ≡ false) ls → Rise ls
    at [] far = tt
    at (l ∷ ls) far = (
      recursion_from_All (λ m. is_lt (leak_order m l) ≡ false) ls (λ j d within. far zero (suc j) d (omega arith) (omega arith)),
      at ls (λ i j d below within. far (suc i) (suc j) d (omega arith) (omega arith)),
    )

pub rise_drop : (n : ℕ) (ls : List Leak) → Rise ls → Rise (drop n ls)
rise_drop zero ls up = up
rise_drop (suc n) [] up = tt
rise_drop (suc n) (l ∷ ls) up = rise_drop n ls up.1

-- an order that is neither is the third
is_less : (v w : ValueTree) (o : Ordering) → o ≡ order v w → is_lt (order w v) ≡ false → (o ≡ Equal → ⊥) → order v w ≡ Less
is_less v w Less is low other = sym is
is_less v w Equal is low other = absurd (other refl)
is_less v w Greater is low other = let turned = flip w v in absurd (cc)

then_less : (v w u : ValueTree) (o : Ordering) → o ≡ order w u → order v w ≡ Less → is_lt (order u w) ≡ false → order v u ≡ Less
then_less v w u Less is first low = goes_on v w u first (sym is)
then_less v w u Equal is first low = ap (order v) (sym (same w u (sym is))) ∙ first
then_less v w u Greater is first low = let turned = flip u w in absurd (cc)

later_all : (v : ValueTree) (ls : List Leak) → Rise ls → ((d : Leak) → 0 < length ls → order v (value_of (get_or ls 0 d)) ≡ Less) → Each (λ l. order v (value_of l) ≡ Less) ls
later_all v [] up first = tt
later_all v (l ∷ ls) up first =
    let here = first l (omega arith) in
    (here, each_weaker (λ m. is_lt (leak_order m l) ≡ false) (λ m. order v (value_of m) ≡ Less) (λ m low. then_less v (value_of l) (value_of m) (order (value_of l) (value_of m)) refl here low) ls up.0)

-- no later leak is of an earlier value than the first
not_before : (ls : List Leak) → Rise ls → (i : ℕ) (d : Leak) → i < length ls → is_lt (leak_order (get_or ls i d) (get_or ls 0 d)) ≡ false
not_before [] up i d within = absurd (omega (arith, within))
not_before (l ∷ ls) up zero d within = ap is_lt (order-itself (value_of l))
not_before (l ∷ ls) up (suc i) d within = at ls i (omega (arith, within)) up.0
  where
    at : (ms : List Leak) (i : ℕ) → i < length ms → Each (λ m. is_lt (leak_order m l) ≡ false) ms → is_lt (leak_order (get_or ms i d) l) ≡ false
    at [] i within each = absurd (omega (arith, within))
    at (m ∷ ms) zero within each = each.0
    at (m ∷ ms) (suc i) within each = at ms i (omega (arith, within)) each.1

get_dropped : (n : ℕ) (ls : List Leak) (d : Leak) → get_or (drop n ls) 0 d ≡ get_or ls n d
get_dropped zero ls d = refl
get_dropped (suc n) [] d = refl
get_dropped (suc n) (l ∷ ls) d = get_dropped n ls d

pub default : (ls : List Leak) (i : ℕ) (d e : Leak) → i < length ls → get_or ls i d ≡ get_or ls i e
default [] i d e within = absurd (omega (arith, within))
default (l ∷ ls) zero d e within = refl
default (l ∷ ls) (suc i) d e within = default ls i d e (omega (arith, within))

pub equal_found : (o : Ordering) → false ≡ not (ordering_index o == 1) → o ≡ Equal
equal_found Less e = absurd (cc)
equal_found Equal e = refl
equal_found Greater e = absurd (cc)

pub equal_missed : (o : Ordering) → true ≡ not (ordering_index o == 1) → o ≡ Equal → ⊥
equal_missed Less e same = absurd (cc)
equal_missed Equal e same = absurd (cc)
equal_missed Greater e same = absurd (cc)

pub past_first : (ls : List Leak) (i : ℕ) (l d : Leak) → l ≡ get_or ls i l → i < length ls → (order (value_of (get_or ls 0 d)) (value_of l) ≡ Equal → ⊥) → 0 < i
past_first ls zero l d is within other =
    let same_leak : get_or ls 0 d ≡ l = default ls 0 d l within ∙ sym is in
    absurd (other (ap (λ m. order (value_of m) (value_of l)) same_leak ∙ order-itself (value_of l)))
past_first ls (suc i) l d is within other = omega arith

module _ (ls : List Leak) (v : ValueTree) where
  pub same_start : Each (λ l. value_of l ≡ v) (take 0 ls)
  same_start = tt

  pub same_more : (i : ℕ) (l : Leak) → i < length ls → l ≡ get_or ls i l → order v (value_of l) ≡ Equal → Each (λ l. value_of l ≡ v) (take i ls) → Each (λ l. value_of l ≡ v) (take (i + 1) ls)
  same_more i l within is equal had =
      subst (Each (λ l. value_of l ≡ v)) (sym (take_more ls i l within)) (each_append (λ l. value_of l ≡ v) (take i ls) (get_or ls i l ∷ []) had (subst (λ m. value_of m ≡ v) is (sym (same v (value_of l) equal)), tt))

  pub all_front : (i : ℕ) → length ls ≤ i → Each (λ l. value_of l ≡ v) (take i ls) → IsFront ls i
  all_front i past had = record { value = v; same = had; later = subst (Each (λ l. order v (value_of l) ≡ Less)) (sym (drop_all i ls past)) tt }

  pub cut_front : (i : ℕ) (l : Leak) → l ≡ get_or ls i l → i < length ls → v ≡ value_of (get_or ls 0 l) → (order v (value_of l) ≡ Equal → ⊥) → Rise ls → Each (λ l. value_of l ≡ v) (take i ls) → IsFront ls i
  cut_front i l is within first other up had =
      let low : is_lt (order (value_of l) v) ≡ false =
      subst (λ (w : ValueTree). is_lt (order (value_of l) w) ≡ false) (sym first) (subst (λ (m : Leak). is_lt (leak_order m (get_or ls 0 l)) ≡ false) (sym is) (not_before ls up i l within)) in
      let less : order v (value_of l) ≡ Less = is_less v (value_of l) (order v (value_of l)) refl low other in
      record {
        value = v;
        same = had;
        later = later_all v (drop i ls) (rise_drop i ls up) (λ d some. ap (λ m. order v (value_of m)) (get_dropped i ls d ∙ default ls i d l within ∙ sym is) ∙ less);
      }

-- ---- columns of ways, one after the other

pub record Goes (whole : List Way) (old now : List (List Entry)) (rest : List Row) : Type 0 where
  pub all : List Row
  pub grouped : IsGrouped whole all
  pub is : now ++ columns_of rest ≡ old ++ columns_of all
  pub below : (size : ℕ) → Each (λ (w : Way). w.to < size) whole → Each (IsBelow size) (columns_of rest) → Each (IsBelow size) (columns_of all)

-- whatever rows are those of the ways that are left, behind the columns so far they complete the whole
pub record GoesOn (whole left : List Way) (old now : List (List Entry)) : Type 0 where
  pub rows : (rest : List Row) → IsGrouped left rest → Goes whole old now rest
  pub positive : Each (λ (w : Way). 0 < w.weight) left
  pub fits : way_total left ≤ way_total whole
  pub below : (size : ℕ) → Each (λ (w : Way). w.to < size) whole → Each (λ (w : Way). w.to < size) left

pub goes_start : (whole : List Way) (old : List (List Entry)) → Each (λ (w : Way). 0 < w.weight) whole → GoesOn whole whole old old
goes_start whole old positive = record {
  rows = λ rest grouped. record { all = rest; grouped = grouped; is = refl; below = λ size low had. had };
  positive = positive;
  fits = omega arith;
  below = λ size low. low;
}

along_each : (P : Way → Type 0) (trace : Trace) (es : List Entry) → Each P (map (along trace) es) → Each (λ e. P (along trace e)) es
along_each P trace [] all = tt
along_each P trace (e ∷ es) all = (all.0, along_each P trace es all.1)

module _ (whole left after : List Way) (old now : List (List Entry)) (on : GoesOn whole left old now) (trace : Trace) (es : List Entry) (splits : left ≡ map (along trace) es ++ after) where
  both_total : way_total left ≡ total es + way_total after
  both_total = ap way_total splits ∙ sum_by-append (λ (w : Way). w.weight) (map (along trace) es) after ∙ ap (λ n. n + way_total after) (along_weighs trace es)

  pub first_positive : All (λ e. 0 < e.weight) es
  first_positive =
      All-from_recursion (λ (e : Entry). 0 < e.weight) es
      (along_each (λ (w : Way). 0 < w.weight) trace es (each_front (λ (w : Way). 0 < w.weight) (map (along trace) es) after (subst (Each (λ (w : Way). 0 < w.weight)) splits on.positive)))

  pub first_fits : (bound : ℕ) → way_total whole < bound → total es < bound
  first_fits bound fits = omega (arith, both_total, on.fits, fits)

  pub goes_more : (column : List Entry) (next : List (List Entry)) → Each (λ (w : Way). trace_order trace w.trace ≡ Less) after
      → ((asked : ℕ → Bool) → asked_weight asked column ≡ asked_weight asked es) → total column ≡ total es
      → IsColumn column → ((size : ℕ) → IsBelow size es → IsBelow size column) → next ≡ now ++ column ∷ [] → GoesOn whole after old next
  goes_more column next later weights same_total is_column lower pushed =
      let both_below = λ (size : ℕ) (low : Each (λ (w : Way). w.to < size) whole). subst (Each (λ (w : Way). w.to < size)) splits (on.below size low) in
      record {
        rows = λ rest grouped.
            let more = more_grouped trace es column weights same_total is_column after rest later grouped in
            let there = on.rows (record { trace = trace; column = column } ∷ rest) (subst (λ l. IsGrouped l (record { trace = trace; column = column } ∷ rest)) (sym splits) more) in
            record {
              all = there.all;
              grouped = there.grouped;
              is = ap (λ l. l ++ columns_of rest) pushed ∙ append_assoc now (column ∷ []) (columns_of rest) ∙ there.is;
              below = λ size low had. there.below size low (
                lower size (All-from_recursion (λ (e : Entry). e.value < size) es (along_each (λ (w : Way). w.to < size) trace es (each_front (λ (w : Way). w.to < size) (map (along trace) es) after (both_below size low)))),
                had,
              );
            };
        positive = each_back (λ (w : Way). 0 < w.weight) (map (along trace) es) after (subst (Each (λ (w : Way). 0 < w.weight)) splits on.positive);
        fits = omega (arith, both_total, on.fits);
        below = λ size low. each_back (λ (w : Way). w.to < size) (map (along trace) es) after (both_below size low);
      }

-- where nothing is left the rows are all
pub all_rows : (from : ℕ → List Run) (size : ℕ) (column : List Entry) (ways whole : List Way) (old now : List (List Entry)) → AreSame ways whole
    → GoesOn whole [] old now → IsShared from column ways → Each (λ w. w.to < size) ways → HasRows from size column old now
all_rows from size column ways whole old now same on shared low =
    let done = on.rows [] none_grouped in
    have_rows from size column ways whole done.all old now shared (λ t x. same (held_in t x)) (same (λ w. w.weight)) done.grouped (sym (append-nil now) ∙ done.is)
    (done.below size (same_below size ways whole same low) tt)

-- ---- leaks in order, as ways

abbrev pub entry_of : Leak → Entry
entry_of l = record { value = l.to; weight = l.weight }

pub sorted_same : (leaks sorted : List Leak) → IsPermutation leaks sorted → AreSame (map leaked leaks) (map leaked sorted)
sorted_same leaks sorted moved = λ f. sum_by-IsPermutation f (map leaked leaks) (map leaked sorted) (IsPermutation-map leaked leaks sorted moved)

pub ways_positive : (leaks : List Leak) → All (λ l. 0 < l.weight) leaks → Each (λ w. 0 < w.weight) (map leaked leaks)
ways_positive leaks positive = each_map (λ (w : Way). 0 < w.weight) leaked leaks (recursion_from_All (λ (l : Leak). 0 < l.weight) leaks positive)

pub ways_below : (size : ℕ) (leaks : List Leak) → All (λ l. l.to < size) leaks → Each (λ w. w.to < size) (map leaked leaks)
ways_below size leaks low = each_map (λ (w : Way). w.to < size) leaked leaks (recursion_from_All (λ (l : Leak). l.to < size) leaks low)

front_along : (v : ValueTree) (ls : List Leak) → Each (λ l. value_of l ≡ v) ls → map leaked ls ≡ map (along (v ∷ [])) (map entry_of ls)
front_along v [] all = refl
front_along v (l ∷ ls) all = λ i. record { trace = all.0 i ∷ []; to = l.to; weight = l.weight } ∷ front_along v ls all.1 i

pub after_front : (v : ValueTree) (ls : List Leak) → Each (λ l. order v (value_of l) ≡ Less) ls → Each (λ (w : Way). trace_order (v ∷ []) w.trace ≡ Less) (map leaked ls)
after_front v [] all = tt
after_front v (l ∷ ls) all = (first_less (order v (value_of l)) _ all.0, after_front v ls all.1)

module _ (sorted : List Leak) (at count : ℕ) (front : IsFront (drop at sorted) count) (es : List Entry) (is : es ≡ map entry_of (take count (drop at sorted))) where
  abbrev left : List Leak
  left = drop at sorted

  -- the front's ways, and those of the leaks behind it
  pub front_splits : map leaked left ≡ map (along (front.value ∷ [])) es ++ map leaked (drop count left)
  front_splits =
      ap (map leaked) (sym (take-append-drop count left)) ∙ map-append leaked (take count left) (drop count left)
      ∙ ap (λ l. l ++ map leaked (drop count left)) (front_along front.value (take count left) front.same ∙ ap (map (along (front.value ∷ []))) (sym is))

  pub front_full : 0 < count → at < length sorted → es ≡ [] → ⊥
  front_full some within none = by count sorted at some within (sym is ∙ none)
    where
      by : (count : ℕ) (ls : List Leak) (at : ℕ) → 0 < count → at < length ls → map entry_of (take count (drop at ls)) ≡ [] → ⊥
      by count [] at some within none = absurd (omega (arith, within))
      by zero (l ∷ ls) at some within none = absurd (omega (arith, some))
      by (suc count) (l ∷ ls) zero some within none = absurd (cc)
      by (suc count) (l ∷ ls) (suc at) some within none = by (suc count) ls at some (omega (arith, within)) none

length_dropped : (n : ℕ) (ls : List Leak) → length (drop n ls) ≤ length ls - n
length_dropped zero ls = omega arith
length_dropped (suc n) [] = omega arith
length_dropped (suc n) (l ∷ ls) = omega (arith, length_dropped n ls)

-- a slice from a place on is all that is left there
pub rest_is : (n : ℕ) (ls : List Leak) → take (length ls - n) (drop n ls) ≡ drop n ls
rest_is n ls = take_all (length ls - n) (drop n ls) (length_dropped n ls)

-- ---- a list by its length

pub not_nil : {X : Type 0} (xs : List X) (long : ℕ) → long ≡ length xs → false ≡ (long == 0) → xs ≡ [] → ⊥
not_nil xs long is some none =
    let zero_long : long ≡ 0 = is ∙ ap length none in
    grind (arith, nat_tests)

pub is_nil : {X : Type 0} (xs : List X) (long : ℕ) → long ≡ length xs → true ≡ (long == 0) → xs ≡ []
is_nil xs long is none =
    let zero_long : long ≡ 0 = eqb-true long 0 (sym none) in
    nil_from_length xs (sym is ∙ zero_long)
