-- Rows of cells whose weights are multiplied value by value: what is gained from them is gained from the inners of the hyper before.
use Rattle.std.proofs.Common.{◌≡◌, ◌≢◌, not, true≢false, eq-eqb, ℕ, ◌+◌, ◌*◌, ◌<◌, ◌==◌, ◌&&◌, List, [], ◌∷◌, Bool, true, false, cond, All, map, refl, sym, ◌∙◌, ap, arith, if◌then◌else◌, ⊎_elim, inl, inr}
use Rattle.std.specs.Prelude.{ℤ, pos, ◌+ℤ◌, filter}
use Rattle.std.specs.Cmp.Lexicographic.{pointwise}
use Rattle.std.proofs.lemmas.Bool.{cases_eq, ne_eqb}
use Rattle.std.proofs.lemmas.Int.{ints}
use Rattle.std.proofs.lemmas.List.Elements.{All-head, All-tail, All-from_recursion, recursion_from_All}
use Rattle.std.proofs.lemmas.List.Kept.{IsStrictlySortedBy-filter}
use Rattle.kf_value.specs.Values.{ValueTree, is_equal}
use Rattle.kf_value.proofs.ListLemmas.{each_map}
use Rattle.kf_column.specs.declared.entry.Entry.{Entry}
use Rattle.kf_column.specs.Columns.{IsColumn, weight_at, total}
use Rattle.kf_column.specs.Hypers.{Inner}
use Rattle.kf_column.specs.Averages.{joint_column}
use Rattle.kf_column.specs.Traces.{Row, trace_order}
use Rattle.kf_column.proofs.AtMostOne.{In}
use Rattle.kf_column.proofs.Scaling.{total-cons}
use Rattle.kf_column.proofs.Weights.{weight_at-cons}
use Rattle.kf_core.specs.Joint.{Cell, weight_of, trace_weight}
use Rattle.kf_core.specs.Rows.{AreRowsOf, IsHyperOf}
use Rattle.kf_core.proofs.OneTable.{in_from_contains, contains_from_in, one_list, not_both_traces}
use Rattle.kf_core.proofs.Sums.{adds, sum_filtered}
use Rattle.kf_core.specs.Each.{HasTrace, is_cell_at}
use Rattle.kf_gain.specs.Gains.{Table, TableTree}
use Rattle.kf_prior.specs.Priors.{AreWorth}
use Rattle.kf_prior.proofs.PriorWorth.{sum_z, worth, the_worth, same_worth, worth_nothing, weighed, weighed_worth, weight_weighed, weighed_nothing, hyper_worth}

abbrev Trace : Type 0
Trace = List ValueTree

-- ---- the cells of a trace as a column

abbrev entry_of : Cell → Entry
entry_of c = record { value = c.value; weight = c.weight }

-- one entry for each cell of the trace, in their order
abbrev pub part : List Cell → Trace → List Entry
part [] t = []
part (c ∷ cs) t = cond (pointwise is_equal c.trace t) (entry_of c ∷ part cs t) (part cs t)

module _ (t : Trace) where
  weighs_more : (b : Bool) (c : Cell) (es : List Entry) (x : ℕ) → weight_at (cond b (entry_of c ∷ es) es) x ≡ cond (b && (c.value == x)) c.weight 0 + weight_at es x
  weighs_more true c es x = weight_at-cons (entry_of c) es x
  weighs_more false c es x = omega arith

  pub part_weighs : (cs : List Cell) (x : ℕ) → weight_at (part cs t) x ≡ weight_of cs t x
  part_weighs cs x = added cs ∙ sym (sum_filtered (λ (c : Cell). c.weight) (is_cell_at t x) cs)
    where
      added : (cs : List Cell) → weight_at (part cs t) x ≡ adds (λ (c : Cell). cond (is_cell_at t x c) c.weight 0) cs
      added [] = refl
      added (c ∷ cs) = weighs_more (pointwise is_equal c.trace t) c (part cs t) x ∙ ap (λ n. cond (is_cell_at t x c) c.weight 0 + n) (added cs)

  totals_more : (b : Bool) (c : Cell) (es : List Entry) → total (cond b (entry_of c ∷ es) es) ≡ cond b c.weight 0 + total es
  totals_more true c es = total-cons (entry_of c) es
  totals_more false c es = omega arith

  part_total : (cs : List Cell) → total (part cs t) ≡ trace_weight cs t
  part_total cs = added cs ∙ sym (sum_filtered (λ (c : Cell). c.weight) (λ (c : Cell). pointwise is_equal c.trace t) cs)
    where
      added : (cs : List Cell) → total (part cs t) ≡ adds (λ (c : Cell). cond (pointwise is_equal c.trace t) c.weight 0) cs
      added [] = refl
      added (c ∷ cs) = totals_more (pointwise is_equal c.trace t) c (part cs t) ∙ ap (λ n. cond (pointwise is_equal c.trace t) c.weight 0 + n) (added cs)

none_at : (b : Bool) (n : ℕ) → n ≡ 0 → (if b then n else 0) ≡ 0
none_at true n e = e
none_at false n e = refl

-- where nothing has weight no value has
pub none_weighs : (es : List Entry) → total es ≡ 0 → (x : ℕ) → weight_at es x ≡ 0
none_weighs [] none x = refl
none_weighs (e ∷ es) none x =
    let here : e.weight ≡ 0 = omega (arith, none, total-cons e es) in
    let others : weight_at es x ≡ 0 = none_weighs es (omega (arith, none, total-cons e es)) x in
    omega (arith, weight_at-cons e es x, none_at (e.value == x) e.weight here, others)

abbrev traces : List Row → List Trace
traces rows = map (λ (r : Row). r.trace) rows

abbrev columns : List Row → List (List Entry)
columns rows = map (λ (r : Row). r.column) rows

abbrev Weighs : List Cell → Row → Type 0
Weighs cs r = (x : ℕ) → weight_at r.column x ≡ weight_of cs r.trace x

-- ---- members that pass a test

module _ {X : Type 0} (test : X → Bool) where
  module _ (x : X) where
    of_kept_first : (y : X) (b : Bool) (zs ys : List X) → test y ≡ b → (In x zs → In x ys × (test x ≡ true)) → In x (cond b (y ∷ zs) zs) → In x (y ∷ ys) × (test x ≡ true)
    of_kept_first y true zs ys is go (inl e) = (inl e, ap test e ∙ is)
    of_kept_first y true zs ys is go (inr h) = let r = go h in (inr r.0, r.1)
    of_kept_first y false zs ys is go h = let r = go h in (inr r.0, r.1)

    of_kept : (ys : List X) → In x (filter test ys) → In x ys × (test x ≡ true)
    of_kept [] h = absurd h
    of_kept (y ∷ ys) h = of_kept_first y (test y) (filter test ys) ys refl (of_kept ys) h

    kept_first : (y : X) (b : Bool) (zs ys : List X) → test y ≡ b → (In x ys → In x zs) → test x ≡ true → In x (y ∷ ys) → In x (cond b (y ∷ zs) zs)
    kept_first y true zs ys is go pass (inl e) = inl e
    kept_first y true zs ys is go pass (inr h) = inr (go h)
    kept_first y false zs ys is go pass (inl e) = absurd (true≢false (sym pass ∙ (ap test e ∙ is)))
    kept_first y false zs ys is go pass (inr h) = go h

    kept : (ys : List X) → test x ≡ true → In x ys → In x (filter test ys)
    kept [] pass h = absurd h
    kept (y ∷ ys) pass h = kept_first y (test y) (filter test ys) ys refl (kept ys pass) pass h

  -- what doesn't pass adds nothing
  module _ (g : X → ℤ) (nothing : (x : X) → test x ≡ false → g x ≡ pos 0) where
    sum_kept_first : (y : X) (b : Bool) (zs ys : List X) → test y ≡ b → sum_z g zs ≡ sum_z g ys → sum_z g (cond b (y ∷ zs) zs) ≡ g y +ℤ sum_z g ys
    sum_kept_first y true zs ys is same = ap (λ z. g y +ℤ z) same
    sum_kept_first y false zs ys is same = omega (arith, ints, same, nothing y is)

    sum_kept : (ys : List X) → sum_z g (filter test ys) ≡ sum_z g ys
    sum_kept [] = refl
    sum_kept (y ∷ ys) = sum_kept_first y (test y) (filter test ys) ys refl (sum_kept ys)

-- some weight, as a test
abbrev is_some : ℕ → Bool
is_some n = not (n == 0)

some_true : (n : ℕ) → 0 < n → is_some n ≡ true
some_true n p = ap not (ne_eqb n 0 (λ e. omega (arith, p, e)))

true_some : (n : ℕ) → is_some n ≡ true → 0 < n
true_some n h = ⊎_elim (λ (e : n ≡ 0). absurd (true≢false (sym h ∙ ap not (eq-eqb n 0 e)))) (λ (d : n ≡ 0 → ⊥). omega (arith, d)) (cases_eq n 0)

false_none : (n : ℕ) → is_some n ≡ false → n ≡ 0
false_none n h = ⊎_elim (λ (e : n ≡ 0). e) (λ (d : n ≡ 0 → ⊥). absurd (true≢false (sym (ap not (ne_eqb n 0 d)) ∙ h))) (cases_eq n 0)

all_columns : (rows : List Row) → All (λ (r : Row). IsColumn r.column) rows → All IsColumn (columns rows)
all_columns rows h =
    All-from_recursion IsColumn (columns rows) (each_map IsColumn (λ (r : Row). r.column) rows (recursion_from_All (λ (r : Row). IsColumn r.column) rows h))

-- ---- cells whose weights are multiplied value by value

module _ (f : ℕ → ℕ) where
  abbrev pub weighed_cell : Cell → Cell
  weighed_cell c = record { trace = c.trace; value = c.value; weight = f c.value * c.weight }

  module _ (u : Trace) where
    part_more : (b : Bool) (c : Cell) (es ds : List Entry) → es ≡ map (weighed f) ds → cond b (entry_of (weighed_cell c) ∷ es) es ≡ map (weighed f) (cond b (entry_of c ∷ ds) ds)
    part_more true c es ds same = ap (λ l. entry_of (weighed_cell c) ∷ l) same
    part_more false c es ds same = same

    part_weighed : (cs : List Cell) → part (map weighed_cell cs) u ≡ map (weighed f) (part cs u)
    part_weighed [] = refl
    part_weighed (c ∷ cs) = part_more (pointwise is_equal c.trace u) c (part (map weighed_cell cs) u) (part cs u) (part_weighed cs)

    -- a trace that had no weight has none
    had_trace : (cs : List Cell) → HasTrace (map weighed_cell cs) u → HasTrace cs u
    had_trace cs h =
        ⊎_elim
        (λ (e : trace_weight cs u ≡ 0).
        let none : total (map (weighed f) (part cs u)) ≡ 0 = weighed_nothing f (part cs u) (part_total u cs ∙ e) in
        absurd (omega (arith, h, part_total u (map weighed_cell cs), ap total (part_weighed cs), none)))
        (λ (d : trace_weight cs u ≡ 0 → ⊥). omega (arith, d))
        (cases_eq (trace_weight cs u) 0)

  -- the rows that are left are those of some weight
  traces_left : (joint : List Cell) (rows left : List Row) → AreRowsOf joint rows → AreRowsOf (map weighed_cell joint) left
      → traces left ≡ filter (λ u. is_some (trace_weight (map weighed_cell joint) u)) (traces rows)
  traces_left joint rows left are are_left =
      let cs = map weighed_cell joint in
      let test : Trace → Bool = λ u. is_some (trace_weight cs u) in
      one_list trace_order not_both_traces (traces left) (filter test (traces rows)) are_left.ascending (IsStrictlySortedBy-filter trace_order test (traces rows) are.ascending)
      (λ u. (
        λ h. let has : HasTrace cs u = (are_left.all u).0 h in
            contains_from_in (filter test (traces rows)) u
            (kept test u (traces rows) (some_true (trace_weight cs u) has) (in_from_contains (traces rows) u ((are.all u).1 (had_trace u joint has)))),
        λ h. let r = of_kept test u (traces rows) (in_from_contains (filter test (traces rows)) u h) in (are_left.all u).1 (true_some (trace_weight cs u) r.1),
      ))

module _ (t : TableTree) (some : t.actions ≢ []) where
  -- ---- rows, by their traces

  rows_worth : (cs : List Cell) (rows : List Row) (y : ℤ) → All (Weighs cs) rows → AreWorth (Table t) (columns rows) y → y ≡ sum_z (λ u. worth t some (part cs u)) (traces rows)
  rows_worth cs [] y all is = is
  rows_worth cs (r ∷ rows) y all (first, others, v, rest, is) =
      let here : first ≡ worth t some (part cs r.trace) =
      the_worth t some r.column first v ∙ same_worth t some r.column (part cs r.trace) (λ x. All-head (Weighs cs) r rows all x ∙ sym (part_weighs r.trace cs x)) in
      is ∙ (λ i. here i +ℤ rows_worth cs rows others (All-tail (Weighs cs) r rows all) rest i)

  module _ (f : ℕ → ℕ) where
    weighed_rows : (joint : List Cell) (rows : List Row) → All (Weighs joint) rows
        → sum_z (weighed_worth t some f) (columns rows) ≡ sum_z (λ u. worth t some (part (map (weighed_cell f) joint) u)) (traces rows)
    weighed_rows joint [] all = refl
    weighed_rows joint (r ∷ rows) all =
        let here : weighed_worth t some f r.column ≡ worth t some (part (map (weighed_cell f) joint) r.trace) =
        same_worth t some (map (weighed f) r.column) (part (map (weighed_cell f) joint) r.trace) (λ x.
        weight_weighed f r.column x
        ∙ ap (λ n. f x * n) (All-head (Weighs joint) r rows all x ∙ sym (part_weighs r.trace joint x))
        ∙ sym (weight_weighed f (part joint r.trace) x)
        ∙ ap (λ es. weight_at es x) (sym (part_weighed f r.trace joint))) in
        λ i. here i +ℤ weighed_rows joint rows (All-tail (Weighs joint) r rows all) i

    -- what is gained from the rows that are left is gained from the inners of the hyper before
    pub posterior_is : (joint : List Cell) (inners : List Inner) (left : List Row) (y : ℤ) → IsHyperOf joint inners → AreRowsOf (map (weighed_cell f) joint) left → AreWorth (Table t) (columns left) y
        → y ≡ sum_z (λ (i : Inner). weighed_worth t some f (joint_column i)) inners
    posterior_is joint inners left y hyper are_left is =
        let cs = map (weighed_cell f) joint in
        let at : Trace → ℤ = λ u. worth t some (part cs u) in
        rows_worth cs left y are_left.weights is
        ∙ ap (sum_z at) (traces_left f joint hyper.rows left hyper.are_rows are_left)
        ∙ sum_kept (λ u. is_some (trace_weight cs u)) at (λ u none. worth_nothing t some (part cs u) (none_weighs (part cs u) (part_total u cs ∙ false_none (trace_weight cs u) none))) (traces hyper.rows)
        ∙ sym (weighed_rows joint hyper.rows hyper.are_rows.weights)
        ∙ sym (hyper_worth t some f (columns hyper.rows) inners (all_columns hyper.rows hyper.are_rows.columns) hyper.is_hyper)
