-- Where the traces of cells become others, nothing more is known of the target: each row is then a sum of rows, and each of these is part of one.
use Rattle.std.proofs.Common.{◌≡◌, ℕ, ◌<◌, ◌==◌, ◌&&◌, Bool, true, false, cond, List, [], ◌∷◌, Contains}
use Rattle.std.proofs.Common.{refl, sym, ap, subst, ◌∙◌, arith}
use Rattle.std.specs.Prelude.{ℤ, pos}
use Rattle.std.specs.Cmp.Lexicographic.{pointwise}
use Rattle.std.specs.List.{AllByRecursion as Each}
use Rattle.std.proofs.lemmas.Int.{ints}
use Rattle.std.proofs.lemmas.List.Elements.{recursion_from_All}
use Rattle.kf_value.specs.Values.{is_equal}
use Rattle.kf_value.proofs.ListLemmas.{each_weaker}
use Rattle.kf_column.specs.declared.entry.Entry.{Entry}
use Rattle.kf_column.specs.Columns.{IsColumn, weight_at}
use Rattle.kf_column.specs.Hypers.{Inner}
use Rattle.kf_column.specs.Traces.{Row}
use Rattle.kf_column.proofs.AtMostOne.{In}
use Rattle.kf_column.proofs.Weights.{Above, above_column}
use Rattle.kf_core.specs.Joint.{Cell, weight_of}
use Rattle.kf_core.specs.Rows.{AreRowsOf, IsHyperOf}
use Rattle.kf_core.proofs.OneTable.{in_from_contains}
use Rattle.kf_core.proofs.Stores.{lists_decide}
use Rattle.kf_core.proofs.Sums.{adds, adds_mapped, adds_nothing, adds_same, each_is}
use Rattle.kf_core.specs.Each.{HasTrace}
use Rattle.kf_gain.specs.declared.table.Action.{Action}
use Rattle.kf_gain.specs.Gains.{GainOf, Bayes, Tries, Guessing, Table, TableTree}
use Rattle.kf_gain.specs.Laws.{HasActions}
use Rattle.kf_gain.specs.Vulnerabilities.{IsPosterior}
use Rattle.kf_gain.specs.Worth.{NoBetter}
use Rattle.kf_gain.proofs.Measures.{some}
use Rattle.kf_push.proofs.CellWeights.{Trace, at_both, at_trace, trace_weight_is, weighs, weight_is}
use Rattle.kf_push.proofs.CellsFrom.{IsRowOf, cell_trace, cond_some, each_of, positive_part, rows_told, traces}
use Rattle.kf_push.proofs.Gathers.{adds_swap}
use Rattle.kf_push.proofs.Members.{in_map}
use Rattle.kf_push.proofs.RowMass.{cell_once, once}
use Rattle.kf_quiet.specs.SilentLaws.{NoneLeaksMore, SilentLeaksNoMore}
use Rattle.kf_silent.specs.Laws.{retrace, retraced}
use Rattle.kf_silent.specs.Silent.{silent_joint}
use Rattle.kf_silent.proofs.Ranges.{nothing_silent}
use Rattle.kf_silent.proofs.Retracing.{left_of_traces}
use Rattle.kf_quiet.proofs.Worths.{posterior_worth, sums_within, worth}

-- ---- tests

pub cond_adds : {X : Type 0} (b : Bool) (f : X → ℕ) (xs : List X) → cond b (adds f xs) 0 ≡ adds (λ x. cond b (f x) 0) xs
cond_adds true f xs = refl
cond_adds false f xs = adds_nothing xs

none_given : (a b : Bool) (n : ℕ) → n ≡ 0 → cond (a && b) n 0 ≡ 0
none_given true true n none = none
none_given true false n none = refl
none_given false b n none = refl

-- tests that agree where the one asks for the other
by_trace : (same leads at other : Bool) (w : ℕ) → (same ≡ true → other ≡ leads) → cond same (cond (other && at) w 0) 0 ≡ cond leads (cond (same && at) w 0) 0
by_trace true true at other w told = ap (λ b. cond (b && at) w 0) (told refl)
by_trace true false at other w told = ap (λ b. cond (b && at) w 0) (told refl)
by_trace false true at other w told = refl
by_trace false false at other w told = refl

module _ (f : Trace → Trace) (cs : List Cell) (rows others : List Row) (are : AreRowsOf cs rows) (are_others : AreRowsOf (retraced f cs) others) where
  -- of the one row's trace, the other's is left
  abbrev pub leads : Row → Row → Bool
  leads q r = pointwise is_equal (f r.trace) q.trace

  module _ (q : Row) (x : ℕ) where
    -- what a cell gives to the value, with this trace left
    abbrev given : Cell → ℕ
    given c = cond (pointwise is_equal (f c.trace) q.trace && (c.value == x)) c.weight 0

    abbrev in_row : Cell → Row → ℕ
    in_row c r = cond (pointwise is_equal c.trace r.trace) (given c) 0

    cells_weigh : weight_of (retraced f cs) q.trace x ≡ adds given cs
    cells_weigh = weight_is (retraced f cs) q.trace x ∙ adds_mapped (weighs (at_both q.trace x)) (retrace f) cs

    cell_part : (c : Cell) → In c cs → adds (λ r. in_row c r) rows ≡ given c
    cell_part c here = cell_once cs rows are c (given c) (none_given (pointwise is_equal (f c.trace) q.trace) (c.value == x) c.weight) here

    row_part : (r : Row) → IsRowOf cs r → adds (λ c. in_row c r) cs ≡ cond (leads q r) (weight_at r.column x) 0
    row_part r told =
        each_is (λ c. in_row c r) (λ c. cond (leads q r) (weighs (at_both r.trace x) c) 0)
        (λ c.
        by_trace (pointwise is_equal c.trace r.trace) (leads q r) (c.value == x) (pointwise is_equal (f c.trace) q.trace) c.weight
        (λ same. ap (λ (t : Trace). pointwise is_equal (f t) q.trace) ((lists_decide c.trace r.trace).0 same))) cs
        ∙ sym (cond_adds (leads q r) (weighs (at_both r.trace x)) cs)
        ∙ ap (λ n. cond (leads q r) n 0) (sym (told.2 x ∙ weight_is cs r.trace x))

    -- what is left of rows is their sum
    pub rows_weigh : weight_of (retraced f cs) q.trace x ≡ adds (λ r. cond (leads q r) (weight_at r.column x) 0) rows
    rows_weigh =
        cells_weigh
        ∙ sym (adds_same (λ c. adds (λ r. in_row c r) rows) given cs (each_of (λ c. adds (λ r. in_row c r) rows ≡ given c) cs cell_part))
        ∙ adds_swap in_row cs rows
        ∙ adds_same (λ r. adds (λ c. in_row c r) cs) (λ r. cond (leads q r) (weight_at r.column x) 0) rows
        (each_weaker (IsRowOf cs) (λ r. adds (λ c. in_row c r) cs ≡ cond (leads q r) (weight_at r.column x) 0) row_part rows (rows_told cs rows are))

  -- what is left of a trace of some weight has some weight
  has_left : (t : Trace) → HasTrace cs t → HasTrace (retraced f cs) (f t)
  has_left t has =
      let d = positive_part (weighs (at_trace t)) cs (subst (λ n. 0 < n) (trace_weight_is cs t) has) in
      let found = cond_some (pointwise is_equal d.0.trace t) d.0.weight d.2 in
      let same : d.0.trace ≡ t = (lists_decide d.0.trace t).0 found.0 in
      subst (λ (s : Trace). HasTrace (retraced f cs) (f s)) same (cell_trace (retraced f cs) (retrace f d.0) (in_map (retrace f) d.0 cs d.1) found.1)

  pub leads_once : Each (λ r. adds (λ q. cond (leads q r) 1 0) others ≡ 1) rows
  leads_once =
      each_weaker (IsRowOf cs) (λ r. adds (λ q. cond (leads q r) 1 0) others ≡ 1)
      (λ r told. once (f r.trace) 1 others are_others.ascending (in_from_contains (traces others) (f r.trace) ((are_others.all (f r.trace)).1 (has_left r.trace told.0)))) rows
      (rows_told cs rows are)

-- ---- whatever is wanted

module _ (f : Trace → Trace) (cs : List Cell) (all left : List Inner) (of_all : IsHyperOf cs all) (of_left : IsHyperOf (retraced f cs) left)
    (g : GainOf TableTree) (y z : ℤ) (p : IsPosterior g left y) (q : IsPosterior g all z) where
  with_actions : HasActions g → NoBetter g y z
  with_actions has =
      let best : List Entry → ℤ = λ c. (some g c has).0 in
      let rows : List Row = of_all.rows in
      let others : List Row = of_left.rows in
      let columns : Each (λ (r : Row). IsColumn r.column) rows = recursion_from_All (λ (r : Row). IsColumn r.column) rows of_all.are_rows.columns in
      let other_columns : Each (λ (r : Row). IsColumn r.column) others = recursion_from_All (λ (r : Row). IsColumn r.column) others of_left.are_rows.columns in
      let weighs : Each (λ (r : Row). (x : ℕ) → weight_at r.column x ≡ weight_of (retraced f cs) r.trace x) others =
      recursion_from_All (λ (r : Row). (x : ℕ) → weight_at r.column x ≡ weight_of (retraced f cs) r.trace x) others of_left.are_rows.weights in
      let within : NoBetter g (worth (λ (r : Row). best r.column) others) (worth (λ (r : Row). best r.column) rows) =
      sums_within g best (λ c. (some g c has).1) (λ (r : Row). r.column) (leads f cs rows others of_all.are_rows of_left.are_rows) rows columns others
      (each_weaker (λ (r : Row). IsColumn r.column) (λ r. Above 0 r.column) (λ r column. above_column r.column column) others other_columns)
      (each_weaker (λ (r : Row). (x : ℕ) → weight_at r.column x ≡ weight_of (retraced f cs) r.trace x)
      (λ r. (x : ℕ) → weight_at r.column x ≡ adds (λ s. cond (leads f cs rows others of_all.are_rows of_left.are_rows r s) (weight_at s.column x) 0) rows)
      (λ r weighs x. weighs x ∙ rows_weigh f cs rows others of_all.are_rows of_left.are_rows r x) others weighs)
      (leads_once f cs rows others of_all.are_rows of_left.are_rows) in
      let one = posterior_worth g best (λ c. (some g c has).1) rows all columns of_all.is_hyper z q in
      let other = posterior_worth g best (λ c. (some g c has).1) others left other_columns of_left.is_hyper y p in
      subst (λ (v : ℤ). NoBetter g v z) (sym other) (subst (NoBetter g (worth (λ (r : Row). best r.column) others)) (sym one) within)

-- a table without actions is worth nothing
module _ (t : TableTree) (none : t.actions ≡ []) where
  no_member : {a : Action} → Contains [] a → ⊥
  no_member (k, within, is) = omega (arith, within)

  nothing_worth : (inners : List Inner) (z : ℤ) → IsPosterior (Table t) inners z → z ≡ pos 0
  nothing_worth [] z is = is
  nothing_worth (i ∷ inners) z (first, others, v, p, is) =
      let (a, there, same) = v.reached in
      absurd (no_member (subst (λ (l : List Action). Contains l a) none there))

module _ (all left : List Inner) (y z : ℤ) where
  by_actions : (t : TableTree) (actions : List Action) → t.actions ≡ actions → IsPosterior (Table t) left y → IsPosterior (Table t) all z
      → (HasActions (Table t) → NoBetter (Table t) y z) → NoBetter (Table t) y z
  by_actions t [] none p q other = omega (arith, ints, nothing_worth t none left y p, nothing_worth t none all z q)
  by_actions t (a ∷ actions) is p q other = other (λ none. absurd (cc))

  where_actions : (g : GainOf TableTree) → IsPosterior g left y → IsPosterior g all z → (HasActions g → NoBetter g y z) → NoBetter g y z
  where_actions Bayes p q other = other tt
  where_actions (Tries k) p q other = other tt
  where_actions Guessing p q other = other tt
  where_actions (Table t) p q other = by_actions t t.actions refl p q other

-- what is left of traces tells no more than they do
pub no_more_left : (f : Trace → Trace) (cs : List Cell) (g : GainOf TableTree) (all left : List Inner) (y z : ℤ)
    → IsHyperOf cs all → IsHyperOf (retraced f cs) left → IsPosterior g left y → IsPosterior g all z → NoBetter g y z
no_more_left f cs g all left y z of_all of_left p q = where_actions all left y z g p q (with_actions f cs all left of_all of_left g y z p q)

pub leaks_no_more : SilentLeaksNoMore
leaks_no_more silent more turns p g all left y z too of_all of_left q r =
    let (f, same) = left_of_traces silent more turns p too in
    no_more_left f (silent_joint silent turns p) g all left y z of_all (subst (λ (cs : List Cell). IsHyperOf cs left) same of_left) q r

pub none_leaks_more : NoneLeaksMore
none_leaks_more silent turns p g all left y z of_all of_left q r =
    leaks_no_more (λ path. false) silent turns p g all left y z (λ path is none. absurd (cc))
    (subst (λ (cs : List Cell). IsHyperOf cs all) (sym (nothing_silent (λ path. false) turns p (λ path. refl))) of_all) of_left q r
