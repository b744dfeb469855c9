-- Where a joint's traces become others, nothing more is known of the target: each row is then a sum of rows, and each of these is part of one.
use Rattle.std.proofs.Common.{◌≡◌, ℕ, ◌*◌, ◌<◌, ◌==◌, ◌&&◌, Bool, true, false, cond, List, [], ◌∷◌, map, count_by, if◌then◌else◌}
use Rattle.std.proofs.Common.{refl, sym, ap, subst, ◌∙◌, arith, zero-mul}
use Rattle.std.specs.Prelude.{ℤ}
use Rattle.std.specs.Cmp.Lexicographic.{pointwise}
use Rattle.std.specs.List.{AllByRecursion as Each}
use Rattle.std.proofs.lemmas.List.Elements.{All-map, recursion_from_All}
use Rattle.kf_value.specs.Values.{is_equal}
use Rattle.kf_value.proofs.ListLemmas.{each_weaker, each_both}
use Rattle.kf_column.specs.declared.entry.Entry.{Entry}
use Rattle.kf_column.specs.Averages.{joint_weight, joint_column}
use Rattle.kf_column.specs.Columns.{IsColumn, weight_at, total, proportional}
use Rattle.kf_column.specs.Hypers.{Inner, IsHyper, IsInner, class_total}
use Rattle.kf_column.specs.Laws.{class_weight}
use Rattle.kf_column.specs.Traces.{Row}
use Rattle.kf_column.proofs.AtMostOne.{In}
use Rattle.kf_column.proofs.Beliefs.{merged_columns}
use Rattle.kf_column.proofs.Scaling.{total_positive}
use Rattle.kf_column.proofs.Weighing.{classes_weigh, joint_column_weighs}
use Rattle.kf_column.proofs.Weights.{above_column}
use Rattle.kf_core.specs.Joint.{Cell, weight_of}
use Rattle.kf_core.specs.Rows.{AreRowsOf}
use Rattle.kf_core.proofs.OneTable.{in_from_contains}
use Rattle.kf_core.proofs.Stores.{lists_decide}
use Rattle.kf_core.proofs.Sums.{adds, adds_mapped, adds_nothing, adds_same, each_is, sum_is}
use Rattle.kf_core.specs.Each.{HasTrace}
use Rattle.kf_gain.specs.Gains.{GainOf, TableTree}
use Rattle.kf_gain.specs.Vulnerabilities.{IsPosterior}
use Rattle.kf_gain.specs.Worth.{IsVulnerability, NoBetter}
use Rattle.kf_push.proofs.CellWeights.{Trace, at_both, at_trace, weighs, weight_is, trace_weight_is}
use Rattle.kf_push.proofs.CellsFrom.{IsRowOf, cell_trace, cond_some, each_of, each_unmap, positive_part, rows_told, traces}
use Rattle.kf_push.proofs.Gathers.{adds_swap}
use Rattle.kf_quiet.proofs.HushRuns.{turned}
use Rattle.kf_quiet.proofs.HushWorth.{IsShare, IsWithin, all_shared, class_share, posterior_is, posterior_within, shares, sum_within}
use Rattle.kf_push.proofs.Members.{in_map}
use Rattle.kf_push.proofs.RowMass.{cell_once, once}

-- ---- sums

cond_adds : {X : Type 0} (b : Bool) (f : X → ℕ) (xs : List X) → cond b (adds f xs) 0 ≡ adds (λ x. cond b (f x) 0) xs
cond_adds true f xs = refl
cond_adds false f xs = adds_nothing xs

adds_factor : {X : Type 0} (f : X → ℕ) (n : ℕ) (xs : List X) → adds (λ x. f x * n) xs ≡ adds f xs * n
adds_factor f n [] = sym (zero-mul n)
adds_factor f n (x ∷ xs) = omega (arith, adds_factor f n xs)

cond_one : (b : Bool) (n : ℕ) → cond b n 0 ≡ cond b 1 0 * n
cond_one true n = omega arith
cond_one false n = omega arith

cond_both : (b c : Bool) (n : ℕ) → cond b (cond c n 0) 0 ≡ cond b (cond c 1 0) 0 * n
cond_both true c n = cond_one c n
cond_both false c n = omega arith

cond_turned : (b c : Bool) (n : ℕ) → cond b (cond c n 0) 0 ≡ cond c (cond b n 0) 0
cond_turned true true n = refl
cond_turned true false n = refl
cond_turned false true n = refl
cond_turned false false n = refl

-- each row is in one class of its hyper
covered_once : (rows : List Row) (inners : List Inner) → IsHyper (map (λ r. r.column) rows) inners → Each (λ r. IsColumn r.column) rows
    → Each (λ r. adds (λ j. cond (proportional r.column j.entries) 1 0) inners ≡ 1) rows
covered_once rows inners is columns =
    each_both (λ r. 0 < total r.column → count_by (λ (i : Inner). proportional r.column i.entries) inners ≡ 1) (λ r. IsColumn r.column)
    (λ r. adds (λ j. cond (proportional r.column j.entries) 1 0) inners ≡ 1)
    (λ r once column. sym (sum_is (λ (j : Inner). cond (proportional r.column j.entries) 1 0) inners) ∙ once (total_positive r.column column)) rows
    (each_unmap (λ c. 0 < total c → count_by (λ (i : Inner). proportional c i.entries) inners ≡ 1) (λ (r : Row). r.column) rows
    (recursion_from_All (λ c. 0 < total c → count_by (λ (i : Inner). proportional c i.entries) inners ≡ 1) (map (λ (r : Row). r.column) rows) is.covered))
    columns

module _ (f : Trace → Trace) (cs : List Cell) (rows : List Row) (are : AreRowsOf cs rows) where
  abbrev leads : Row → Trace → Bool
  leads r u = pointwise is_equal (f r.trace) u

  -- ---- what other traces weigh

  module _ (u : Trace) (x : ℕ) where
    -- what a cell gives to the value with the other trace
    abbrev given : Cell → ℕ
    given c = cond (pointwise is_equal (f c.trace) u && (c.value == x)) c.weight 0

    turned_weight : weight_of (turned f cs) u x ≡ adds given cs
    turned_weight =
        weight_is (turned f cs) u x ∙ adds_mapped (weighs (at_both u x)) (λ (c : Cell). record { trace = f c.trace; value = c.value; weight = c.weight }) cs

    abbrev in_row : Cell → Row → ℕ
    in_row c r = cond (leads r u) (cond (pointwise is_equal c.trace r.trace && (c.value == x)) c.weight 0) 0

    row_part : Each (λ r. cond (leads r u) (weight_at r.column x) 0 ≡ adds (λ c. in_row c r) cs) rows
    row_part =
        each_weaker (IsRowOf cs) (λ r. cond (leads r u) (weight_at r.column x) 0 ≡ adds (λ c. in_row c r) cs)
        (λ r told.
        ap (λ n. cond (leads r u) n 0) (told.2 x ∙ weight_is cs r.trace x) ∙ cond_adds (leads r u) (weighs (at_both r.trace x)) cs) rows
        (rows_told cs rows are)

    none_given : (a b : Bool) (n : ℕ) → n ≡ 0 → cond (a && b) n 0 ≡ 0
    none_given true true n none = none
    none_given true false n none = refl
    none_given false b n none = refl

    by_trace : (a b c : Bool) (w : ℕ) (d : Bool) → (b ≡ true → a ≡ d) → cond a (cond (b && c) w 0) 0 ≡ cond b (cond (d && c) w 0) 0
    by_trace true true c w d same = ap (λ e. cond (e && c) w 0) (same refl)
    by_trace false true c w d same = ap (λ e. cond (e && c) w 0) (same refl)
    by_trace true false c w d same = refl
    by_trace false false c w d same = refl

    cell_part : (c : Cell) → In c cs → adds (λ r. in_row c r) rows ≡ given c
    cell_part c here =
        each_is (λ r. in_row c r) (λ r. cond (pointwise is_equal c.trace r.trace) (given c) 0)
        (λ r. by_trace (leads r u) (pointwise is_equal c.trace r.trace) (c.value == x) c.weight (pointwise is_equal (f c.trace) u)
        (λ equal. ap (λ (t : Trace). pointwise is_equal (f t) u) (sym ((lists_decide c.trace r.trace).0 equal)))) rows
        ∙ cell_once cs rows are c (given c) (none_given (pointwise is_equal (f c.trace) u) (c.value == x) c.weight) here

    rows_weigh : weight_of (turned f cs) u x ≡ adds (λ r. cond (leads r u) (weight_at r.column x) 0) rows
    rows_weigh =
        turned_weight
        ∙ sym (adds_same (λ c. adds (λ r. in_row c r) rows) given cs (each_of (λ c. adds (λ r. in_row c r) rows ≡ given c) cs cell_part))
        ∙ adds_swap in_row cs rows
        ∙ sym (adds_same (λ r. cond (leads r u) (weight_at r.column x) 0) (λ r. adds (λ c. in_row c r) cs) rows row_part)

  -- a trace of some weight gives its weight to the other
  other_trace : (t : Trace) → HasTrace cs t → HasTrace (turned f cs) (f t)
  other_trace t has =
      let d = positive_part (weighs (at_trace t)) cs (subst (λ n. 0 < n) (trace_weight_is cs t) has) in
      let found = cond_some (pointwise is_equal d.0.trace t) d.0.weight d.2 in
      let same : d.0.trace ≡ t = (lists_decide d.0.trace t).0 found.0 in
      let turn : Cell → Cell = λ c. record { trace = f c.trace; value = c.value; weight = c.weight } in
      subst (λ (s : Trace). HasTrace (turned f cs) (f s)) same (cell_trace (turned f cs) (turn d.0) (in_map turn d.0 cs d.1) found.1)

  -- ---- the rows of the other traces

  module _ (others : List Row) (are_others : AreRowsOf (turned f cs) others) where
    abbrev columns_of : List Row → List (List Entry)
    columns_of rs = map (λ r. r.column) rs

    -- whether the row is in a class of the others, as a number
    abbrev in_class : Inner → Row → ℕ
    in_class j r = adds (λ q. cond (proportional q.column j.entries) (cond (leads r q.trace) 1 0) 0) others

    leads_once : Each (λ r. adds (λ q. cond (leads r q.trace) 1 0) others ≡ 1) rows
    leads_once =
        each_weaker (IsRowOf cs) (λ r. adds (λ q. cond (leads r q.trace) 1 0) others ≡ 1)
        (λ r told. once (f r.trace) 1 others are_others.ascending
        (in_from_contains (traces others) (f r.trace) ((are_others.all (f r.trace)).1 (other_trace r.trace told.0)))) rows
        (rows_told cs rows are)

    class_is : (j : Inner) (x : ℕ) → class_weight (columns_of others) j.entries x ≡ adds (λ r. in_class j r * weight_at r.column x) rows
    class_is j x =
        sum_is (λ c. if proportional c j.entries then weight_at c x else 0) (columns_of others)
        ∙ adds_mapped (λ c. if proportional c j.entries then weight_at c x else 0) (λ (q : Row). q.column) others
        ∙ adds_same (λ q. if proportional q.column j.entries then weight_at q.column x else 0)
        (λ q. adds (λ r. cond (proportional q.column j.entries) (cond (leads r q.trace) 1 0) 0 * weight_at r.column x) rows) others
        (each_weaker (IsRowOf (turned f cs))
        (λ q. (if proportional q.column j.entries then weight_at q.column x else 0)
        ≡ adds (λ r. cond (proportional q.column j.entries) (cond (leads r q.trace) 1 0) 0 * weight_at r.column x) rows)
        (λ q told. row_of j x q (told.2 x)) others (rows_told (turned f cs) others are_others))
        ∙ adds_swap (λ q r. cond (proportional q.column j.entries) (cond (leads r q.trace) 1 0) 0 * weight_at r.column x) others rows
        ∙ each_is (λ r. adds (λ q. cond (proportional q.column j.entries) (cond (leads r q.trace) 1 0) 0 * weight_at r.column x) others)
        (λ r. in_class j r * weight_at r.column x)
        (λ r. adds_factor (λ q. cond (proportional q.column j.entries) (cond (leads r q.trace) 1 0) 0) (weight_at r.column x) others) rows
      where
        row_of : (j : Inner) (x : ℕ) (q : Row) → weight_at q.column x ≡ weight_of (turned f cs) q.trace x
            → cond (proportional q.column j.entries) (weight_at q.column x) 0
            ≡ adds (λ r. cond (proportional q.column j.entries) (cond (leads r q.trace) 1 0) 0 * weight_at r.column x) rows
        row_of j x q is =
            let b = proportional q.column j.entries in
            ap (λ n. cond b n 0) (is ∙ rows_weigh q.trace x)
            ∙ cond_adds b (λ r. cond (leads r q.trace) (weight_at r.column x) 0) rows
            ∙ each_is (λ r. cond b (cond (leads r q.trace) (weight_at r.column x) 0) 0) (λ r. cond b (cond (leads r q.trace) 1 0) 0 * weight_at r.column x)
            (λ r. cond_both b (leads r q.trace) (weight_at r.column x)) rows

    module _ (quiet : List Inner) (is_quiet : IsHyper (columns_of others) quiet) where
      class_once : Each (λ q. adds (λ j. cond (proportional q.column j.entries) 1 0) quiet ≡ 1) others
      class_once = covered_once others quiet is_quiet (recursion_from_All (λ (q : Row). IsColumn q.column) others are_others.columns)

      classes_once : Each (λ r. adds (λ j. in_class j r) quiet ≡ 1) rows
      classes_once =
          each_weaker (λ r. adds (λ q. cond (leads r q.trace) 1 0) others ≡ 1) (λ r. adds (λ j. in_class j r) quiet ≡ 1)
          (λ r told.
          adds_swap (λ j q. cond (proportional q.column j.entries) (cond (leads r q.trace) 1 0) 0) quiet others
          ∙ adds_same (λ q. adds (λ j. cond (proportional q.column j.entries) (cond (leads r q.trace) 1 0) 0) quiet) (λ q. cond (leads r q.trace) 1 0) others
          (each_weaker (λ q. adds (λ j. cond (proportional q.column j.entries) 1 0) quiet ≡ 1)
          (λ q. adds (λ j. cond (proportional q.column j.entries) (cond (leads r q.trace) 1 0) 0) quiet ≡ cond (leads r q.trace) 1 0)
          (λ q one.
          each_is (λ j. cond (proportional q.column j.entries) (cond (leads r q.trace) 1 0) 0)
          (λ j. cond (leads r q.trace) (cond (proportional q.column j.entries) 1 0) 0)
          (λ j. cond_turned (proportional q.column j.entries) (leads r q.trace) 1) quiet
          ∙ sym (cond_adds (leads r q.trace) (λ j. cond (proportional q.column j.entries) 1 0) quiet)
          ∙ ap (λ n. cond (leads r q.trace) n 0) one) others class_once)
          ∙ told) rows leads_once

      -- ---- vulnerabilities

      module _ (all : List Inner) (is_all : IsHyper (columns_of rows) all) (g : GainOf TableTree) (best : List Entry → ℤ)
          (bests : (c : List Entry) → IsVulnerability g c (best c)) where
        abbrev value : Row → ℤ
        value r = best r.column

        abbrev own_class : Inner → Row → ℕ
        own_class i r = cond (proportional r.column i.entries) 1 0

        row_columns : Each (λ (r : Row). IsColumn r.column) rows
        row_columns = recursion_from_All (λ (r : Row). IsColumn r.column) rows are.columns

        quiet_within : Each (IsWithin g (λ j. shares (in_class j) value rows)) quiet
        quiet_within =
            each_both (λ j. IsColumn (joint_column j)) (λ j. (x : ℕ) → joint_weight x j ≡ class_weight (columns_of others) j.entries x)
            (IsWithin g (λ j. shares (in_class j) value rows))
            (λ j column weights a is.
            sum_within (λ (r : Row). r.column) g best bests (in_class j) rows row_columns (joint_column j) a (above_column (joint_column j) column)
            (λ x. joint_column_weighs j x ∙ weights x ∙ class_is j x) is) quiet
            (each_unmap IsColumn joint_column quiet
            (recursion_from_All IsColumn (map joint_column quiet)
            (merged_columns (columns_of others) (map joint_column quiet) (All-map IsColumn (λ (q : Row). q.column) others are_others.columns)
            (record { inners = quiet; is_hyper = is_quiet; sums = refl }))))
            (recursion_from_All (λ (j : Inner). (x : ℕ) → joint_weight x j ≡ class_weight (columns_of others) j.entries x) quiet
            (classes_weigh (columns_of others) quiet (All-map IsColumn (λ (q : Row). q.column) others are_others.columns) is_quiet))

        all_shares : Each (IsShare g (λ i. shares (own_class i) value rows)) all
        all_shares =
            each_both (λ i. IsInner i.entries) (λ i. i.total ≡ class_total (columns_of rows) i.entries) (IsShare g (λ i. shares (own_class i) value rows))
            (λ i inner sum a is.
            class_share (λ (r : Row). r.column) g best bests rows row_columns i inner
            (sum
            ∙ sum_is (λ c. if proportional c i.entries then total c else 0) (columns_of rows)
            ∙ adds_mapped (λ c. if proportional c i.entries then total c else 0) (λ (r : Row). r.column) rows) a is) all
            (recursion_from_All (λ (i : Inner). IsInner i.entries) all is_all.inner)
            (recursion_from_All (λ (i : Inner). i.total ≡ class_total (columns_of rows) i.entries) all is_all.totals)

        pub turned_within : (y z : ℤ) → IsPosterior g quiet y → IsPosterior g all z → NoBetter g y z
        turned_within y z p q =
            subst (NoBetter g y)
            (all_shared value in_class rows quiet classes_once ∙ sym (all_shared value own_class rows all (covered_once rows all is_all row_columns))
            ∙ sym (posterior_is g (λ i. shares (own_class i) value rows) all z q all_shares))
            (posterior_within g (λ j. shares (in_class j) value rows) quiet y p quiet_within)
