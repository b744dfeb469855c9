-- Where more is silent, a matrix carries the one hyper to the other: of each inner, the share that its rows leave to an inner of the other.
use Rattle.std.proofs.Common.{◌≡◌, ℕ, ◌+◌, ◌*◌, ◌/◌, ◌<◌, Bool, true, false, cond, List, [], ◌∷◌, map, length, get_or, if◌then◌else◌}
use Rattle.std.proofs.Common.{refl, sym, ap, subst, ◌∙◌, arith}
use Rattle.std.specs.Prelude.{ℤ, pos, ◌*ℤ◌}
use Rattle.std.specs.Int.{◌∣◌}
use Rattle.std.specs.List.{AllByRecursion as Each}
use Rattle.std.proofs.Math.Nat.{dvd-mul_left_of_dvd, dvd-mul_right, mul-div_cancel, mul-div_cancel', mul_assoc}
use Rattle.std.proofs.lemmas.Int.{ints}
use Rattle.std.proofs.lemmas.List.Elements.{All-from_recursion, All-map, recursion_from_All}
use Rattle.kf_value.specs.Targets.{Item}
use Rattle.kf_value.specs.Values.{ValueTree}
use Rattle.kf_value.proofs.ListLemmas.{each_both, each_weaker}
use Rattle.kf_column.specs.declared.entry.Entry.{Entry}
use Rattle.kf_column.specs.Averages.{joint_weight}
use Rattle.kf_column.specs.Columns.{IsColumn, weight_at, total, proportional}
use Rattle.kf_column.specs.Hypers.{Inner, IsHyper, IsInner, class_total}
use Rattle.kf_column.specs.Laws.{class_weight}
use Rattle.kf_column.specs.Traces.{Row}
use Rattle.kf_column.proofs.Scaling.{product_positive, total_positive}
use Rattle.kf_column.proofs.Weighing.{classes_weigh, times_inner}
use Rattle.kf_core.specs.Joint.{Cell, weight_of}
use Rattle.kf_core.specs.Rows.{AreRowsOf, IsHyperOf}
use Rattle.kf_core.specs.Scale.{scale_of}
use Rattle.kf_core.proofs.Sums.{adds, adds_mapped, adds_same, each_is, sum_is}
use Rattle.kf_push.proofs.CellWeights.{adds_times}
use Rattle.kf_push.proofs.Gathers.{adds_swap}
use Rattle.kf_silent.specs.Laws.{LeftOfTraces, retraced}
use Rattle.kf_silent.specs.Silent.{silent_joint}
use Rattle.kf_quiet.proofs.Refining.{cond_adds, leads, leads_once, rows_weigh}
use Rattle.kf_quiet.proofs.Worths.{in_one}
use Rattle.kf_refine.specs.Laws.{Refines}
use Rattle.kf_refine.proofs.Matrices.{matrix_of, matrix_over, matrix_shaped}
use Rattle.kf_refine.proofs.Spreading.{total-list}
use Rattle.kf_laws.specs.Silence.{SilentRefines}

-- ---- sums

adds_factor : {X : Type 0} (f : X → ℕ) (n : ℕ) (xs : List X) → adds (λ x. f x * n) xs ≡ adds f xs * n
adds_factor f n [] = omega arith
adds_factor f n (x ∷ xs) = omega (arith, adds_factor f n xs)

cond_times : (b : Bool) (n : ℕ) → cond b n 0 ≡ cond b 1 0 * n
cond_times true n = omega arith
cond_times false n = omega arith

cond_both : (b c : Bool) (n : ℕ) → cond b (cond c n 0) 0 ≡ cond b (cond c 1 0) 0 * n
cond_both true c n = cond_times c n
cond_both false c n = omega arith

cond_turned : (b c : Bool) (n : ℕ) → cond b (cond c n 0) 0 ≡ cond c (cond b n 0) 0
cond_turned true true n = refl
cond_turned true false n = refl
cond_turned false true n = refl
cond_turned false false n = refl

-- where each of these is in one of those, all that is in those is all of these
all_once : {X Y : Type 0} (test : Y → X → Bool) (v : X → ℕ) (ys : List Y) (xs : List X) → Each (λ x. adds (λ y. cond (test y x) 1 0) ys ≡ 1) xs
    → adds (λ y. adds (λ x. cond (test y x) (v x) 0) xs) ys ≡ adds v xs
all_once test v ys xs once =
    adds_swap (λ y x. cond (test y x) (v x) 0) ys xs
    ∙ adds_same (λ x. adds (λ y. cond (test y x) (v x) 0) ys) v xs
    (each_weaker (λ x. adds (λ y. cond (test y x) 1 0) ys ≡ 1) (λ x. adds (λ y. cond (test y x) (v x) 0) ys ≡ v x)
    (λ x one.
    each_is (λ y. cond (test y x) (v x) 0) (λ y. cond (test y x) 1 0 * v x) (λ y. cond_times (test y x) (v x)) ys
    ∙ adds_factor (λ y. cond (test y x) 1 0) (v x) ys
    ∙ ap (λ n. n * v x) one
    ∙ omega arith) xs once)

-- ---- a class, of whose rows each counts so many times

module _ (m : Row → ℕ) (e : List Entry) (inner : IsInner e) where
  record IsPart (rows : List Row) : Type 0 where
    times : ℕ
    total_is : adds (λ r. cond (proportional r.column e) (m r * total r.column) 0) rows ≡ times * total e
    weight_is : (x : ℕ) → adds (λ r. cond (proportional r.column e) (m r * weight_at r.column x) 0) rows ≡ times * weight_at e x

  part_more : (r : Row) (rows : List Row) (b : Bool) → proportional r.column e ≡ b → IsColumn r.column → IsPart rows → IsPart (r ∷ rows)
  part_more r rows false test column rest =
      let none : (n : ℕ) → cond (proportional r.column e) n 0 ≡ 0 = λ n. ap (λ b. cond b n 0) test in
      record {
        times = rest.times;
        total_is = omega (arith, none (m r * total r.column), rest.total_is);
        weight_is = λ x. omega (arith, none (m r * weight_at r.column x), rest.weight_is x);
      }
  part_more r rows true test column rest =
      let all : (n : ℕ) → cond (proportional r.column e) n 0 ≡ n = λ n. ap (λ b. cond b n 0) test in
      let t = times_inner r.column e column inner test in
      let total_here : m r * total r.column ≡ m r * (t.factor * total e) = ap (λ n. m r * n) t.total_is in
      let weight_here : (x : ℕ) → m r * weight_at r.column x ≡ m r * (t.factor * weight_at e x) = λ x. ap (λ n. m r * n) (t.weight_is x) in
      record {
        times = m r * t.factor + rest.times;
        total_is = joined (cond (proportional r.column e) (m r * total r.column) 0) (m r) t.factor (total e) _ rest.times
            (all (m r * total r.column) ∙ total_here) rest.total_is;
        weight_is = λ x. joined (cond (proportional r.column e) (m r * weight_at r.column x) 0) (m r) t.factor (weight_at e x) _ rest.times
            (all (m r * weight_at r.column x) ∙ weight_here x) (rest.weight_is x);
      }
    where
      joined : (a k f n b g : ℕ) → a ≡ k * (f * n) → b ≡ g * n → a + b ≡ (k * f + g) * n
      joined a k f n b g p q = (λ i. p i + q i) ∙ grind arith

  parts : (rows : List Row) → Each (λ (r : Row). IsColumn r.column) rows → IsPart rows
  parts [] h = record { times = 0; total_is = omega arith; weight_is = λ x. omega arith }
  parts (r ∷ rows) h = part_more r rows (proportional r.column e) refl h.0 (parts rows h.1)

-- ---- the matrix

module _ (f : List ValueTree → List ValueTree) (cs : List Cell) (rows others : List Row) (are : AreRowsOf cs rows) (are_others : AreRowsOf (retraced f cs) others)
    (all left : List Inner) (is_all : IsHyper (map (λ (r : Row). r.column) rows) all) (is_left : IsHyper (map (λ (r : Row). r.column) others) left) where
  columns : Each (λ (r : Row). IsColumn r.column) rows
  columns = recursion_from_All (λ (r : Row). IsColumn r.column) rows are.columns

  other_columns : Each (λ (r : Row). IsColumn r.column) others
  other_columns = recursion_from_All (λ (r : Row). IsColumn r.column) others are_others.columns

  abbrev leaves : Row → Row → Bool
  leaves = leads f cs rows others are are_others

  -- whether what is left of a row is in the class, as a number
  abbrev goes : Inner → Row → ℕ
  goes j r = adds (λ q. cond (proportional q.column j.entries) (cond (leaves q r) 1 0) 0) others

  -- what an inner's rows leave to a class
  abbrev part : Inner → Inner → ℕ
  part i j = adds (λ r. cond (proportional r.column i.entries) (goes j r * total r.column) 0) rows

  goes_once : Each (λ r. adds (λ j. goes j r) left ≡ 1) rows
  goes_once =
      each_weaker (λ r. adds (λ q. cond (leaves q r) 1 0) others ≡ 1) (λ r. adds (λ j. goes j r) left ≡ 1)
      (λ r once.
      adds_swap (λ j q. cond (proportional q.column j.entries) (cond (leaves q r) 1 0) 0) left others
      ∙ adds_same (λ q. adds (λ j. cond (proportional q.column j.entries) (cond (leaves q r) 1 0) 0) left) (λ q. cond (leaves q r) 1 0) others
      (each_weaker (λ q. adds (λ j. cond (proportional q.column j.entries) 1 0) left ≡ 1)
      (λ q. adds (λ j. cond (proportional q.column j.entries) (cond (leaves q r) 1 0) 0) left ≡ cond (leaves q r) 1 0)
      (λ q one.
      each_is (λ j. cond (proportional q.column j.entries) (cond (leaves q r) 1 0) 0) (λ j. cond (leaves q r) (cond (proportional q.column j.entries) 1 0) 0)
      (λ j. cond_turned (proportional q.column j.entries) (leaves q r) 1) left
      ∙ sym (cond_adds (leaves q r) (λ j. cond (proportional q.column j.entries) 1 0) left)
      ∙ ap (λ n. cond (leaves q r) n 0) one) others (in_one others left other_columns is_left))
      ∙ once) rows (leads_once f cs rows others are are_others)

  -- an inner's joint weight is what its rows, and those alone, leave to it
  left_weighs : Each (λ j. (x : ℕ) → joint_weight x j ≡ adds (λ r. goes j r * weight_at r.column x) rows) left
  left_weighs =
      each_weaker (λ j. (x : ℕ) → joint_weight x j ≡ class_weight (map (λ (r : Row). r.column) others) j.entries x)
      (λ j. (x : ℕ) → joint_weight x j ≡ adds (λ r. goes j r * weight_at r.column x) rows)
      (λ j weights x.
      weights x
      ∙ sum_is (λ c. if proportional c j.entries then weight_at c x else 0) (map (λ (r : Row). r.column) others)
      ∙ adds_mapped (λ c. if proportional c j.entries then weight_at c x else 0) (λ (r : Row). r.column) others
      ∙ adds_same (λ q. if proportional q.column j.entries then weight_at q.column x else 0)
      (λ q. adds (λ r. cond (proportional q.column j.entries) (cond (leaves q r) 1 0) 0 * weight_at r.column x) rows) others
      (each_weaker (λ q. (x : ℕ) → weight_at q.column x ≡ weight_of (retraced f cs) q.trace x)
      (λ q. (if proportional q.column j.entries then weight_at q.column x else 0)
      ≡ adds (λ r. cond (proportional q.column j.entries) (cond (leaves q r) 1 0) 0 * weight_at r.column x) rows)
      (λ q told. row_of j x q (told x)) others
      (recursion_from_All (λ (q : Row). (x : ℕ) → weight_at q.column x ≡ weight_of (retraced f cs) q.trace x) others are_others.weights))
      ∙ adds_swap (λ q r. cond (proportional q.column j.entries) (cond (leaves q r) 1 0) 0 * weight_at r.column x) others rows
      ∙ each_is (λ r. adds (λ q. cond (proportional q.column j.entries) (cond (leaves q r) 1 0) 0 * weight_at r.column x) others)
      (λ r. goes j r * weight_at r.column x)
      (λ r. adds_factor (λ q. cond (proportional q.column j.entries) (cond (leaves q r) 1 0) 0) (weight_at r.column x) others) rows) left
      (recursion_from_All (λ (j : Inner). (x : ℕ) → joint_weight x j ≡ class_weight (map (λ (r : Row). r.column) others) j.entries x) left
      (classes_weigh (map (λ (r : Row). r.column) others) left (All-map IsColumn (λ (q : Row). q.column) others are_others.columns) is_left))
    where
      row_of : (j : Inner) (x : ℕ) (q : Row) → weight_at q.column x ≡ weight_of (retraced f cs) q.trace x
          → cond (proportional q.column j.entries) (weight_at q.column x) 0
          ≡ adds (λ r. cond (proportional q.column j.entries) (cond (leaves q r) 1 0) 0 * weight_at r.column x) rows
      row_of j x q is =
          let b = proportional q.column j.entries in
          ap (λ n. cond b n 0) (is ∙ rows_weigh f cs rows others are are_others q x)
          ∙ cond_adds b (λ r. cond (leaves q r) (weight_at r.column x) 0) rows
          ∙ each_is (λ r. cond b (cond (leaves q r) (weight_at r.column x) 0) 0) (λ r. cond b (cond (leaves q r) 1 0) 0 * weight_at r.column x)
          (λ r. cond_both b (leaves q r) (weight_at r.column x)) rows

  -- ---- one denominator

  abbrev whole : List Inner → ℕ
  whole [] = 1
  whole (i ∷ inners) = i.total * whole inners

  whole_some : (inners : List Inner) → Each (λ (i : Inner). 0 < i.total) inners → 0 < whole inners
  whole_some [] h = omega arith
  whole_some (i ∷ inners) h = product_positive i.total (whole inners) h.0 (whole_some inners h.1)

  whole_divided : (inners : List Inner) → Each (λ (i : Inner). i.total ∣ whole inners) inners
  whole_divided [] = tt
  whole_divided (i ∷ inners) = (
    dvd-mul_right i.total (whole inners),
    each_weaker (λ (k : Inner). k.total ∣ whole inners) (λ k. k.total ∣ i.total * whole inners)
        (λ k divides. dvd-mul_left_of_dvd k.total divides i.total) inners (whole_divided inners),
  )

  abbrev over : ℕ
  over = whole all

  abbrev number : Inner → Inner → ℕ
  number i j = part i j * (over / i.total)

  -- each row of the matrix is whole
  row_whole : Each (λ i. adds (λ j. number i j) left ≡ over) all
  row_whole =
      each_both (λ (i : Inner). i.total ≡ class_total (map (λ (r : Row). r.column) rows) i.entries) (λ i. i.total ∣ over) (λ i. adds (λ j. number i j) left ≡ over)
      (λ i sum divides.
      adds_factor (part i) (over / i.total) left
      ∙ ap (λ n. n * (over / i.total)) (swapped i ∙ sym (sum ∙ in_rows i))
      ∙ mul-div_cancel' i.total divides) all
      (recursion_from_All (λ (i : Inner). i.total ≡ class_total (map (λ (r : Row). r.column) rows) i.entries) all is_all.totals) (whole_divided all)
    where
      in_rows : (i : Inner) → class_total (map (λ (r : Row). r.column) rows) i.entries ≡ adds (λ r. cond (proportional r.column i.entries) (total r.column) 0) rows
      in_rows i =
          sum_is (λ c. if proportional c i.entries then total c else 0) (map (λ (r : Row). r.column) rows)
          ∙ adds_mapped (λ c. if proportional c i.entries then total c else 0) (λ (r : Row). r.column) rows

      swapped : (i : Inner) → adds (part i) left ≡ adds (λ r. cond (proportional r.column i.entries) (total r.column) 0) rows
      swapped i =
          adds_swap (λ j r. cond (proportional r.column i.entries) (goes j r * total r.column) 0) left rows
          ∙ adds_same (λ r. adds (λ j. cond (proportional r.column i.entries) (goes j r * total r.column) 0) left)
          (λ r. cond (proportional r.column i.entries) (total r.column) 0) rows
          (each_weaker (λ r. adds (λ j. goes j r) left ≡ 1)
          (λ r. adds (λ j. cond (proportional r.column i.entries) (goes j r * total r.column) 0) left ≡ cond (proportional r.column i.entries) (total r.column) 0)
          (λ r one.
          sym (cond_adds (proportional r.column i.entries) (λ j. goes j r * total r.column) left)
          ∙ ap (λ n. cond (proportional r.column i.entries) n 0) (adds_factor (λ j. goes j r) (total r.column) left ∙ ap (λ n. n * total r.column) one ∙ omega arith)) rows
          goes_once)

  -- what is carried from an inner is what its rows leave
  one_carried : (j : Inner) (x : ℕ)
      → Each (λ i. joint_weight x i * number i j ≡ over * adds (λ r. cond (proportional r.column i.entries) (goes j r * weight_at r.column x) 0) rows) all
  one_carried j x =
      each_both (λ (i : Inner). IsInner i.entries) (λ i. (i.total ≡ class_total (map (λ (r : Row). r.column) rows) i.entries) × (i.total ∣ over))
      (λ i. joint_weight x i * number i j ≡ over * adds (λ r. cond (proportional r.column i.entries) (goes j r * weight_at r.column x) 0) rows)
      (λ i inner told. carried_by i inner told.0 told.1) all
      (recursion_from_All (λ (i : Inner). IsInner i.entries) all is_all.inner)
      (each_both (λ (i : Inner). i.total ≡ class_total (map (λ (r : Row). r.column) rows) i.entries) (λ i. i.total ∣ over)
      (λ i. (i.total ≡ class_total (map (λ (r : Row). r.column) rows) i.entries) × (i.total ∣ over)) (λ i sum divides. (sum, divides)) all
      (recursion_from_All (λ (i : Inner). i.total ≡ class_total (map (λ (r : Row). r.column) rows) i.entries) all is_all.totals) (whole_divided all))
    where
      turned : (w k m t c : ℕ) → w * k * (m * t * c) ≡ k * t * c * (m * w)
      turned w k m t c = grind arith

      carried_by : (i : Inner) → IsInner i.entries → i.total ≡ class_total (map (λ (r : Row). r.column) rows) i.entries → i.total ∣ over
          → joint_weight x i * number i j ≡ over * adds (λ r. cond (proportional r.column i.entries) (goes j r * weight_at r.column x) 0) rows
      carried_by i inner sum divides =
          let e = i.entries in
          let own = parts (λ r. 1) e inner rows columns in
          let to = parts (goes j) e inner rows columns in
          let whole_is : i.total ≡ own.times * total e =
          sum
          ∙ sum_is (λ c. if proportional c e then total c else 0) (map (λ (r : Row). r.column) rows)
          ∙ adds_mapped (λ c. if proportional c e then total c else 0) (λ (r : Row). r.column) rows
          ∙ each_is (λ r. cond (proportional r.column e) (total r.column) 0) (λ r. cond (proportional r.column e) (1 * total r.column) 0)
          (λ r. ap (λ n. cond (proportional r.column e) n 0) (omega arith)) rows
          ∙ own.total_is in
          let quotient : i.total / total e ≡ own.times = ap (λ n. n / total e) whole_is ∙ mul-div_cancel own.times (total_positive e inner.column) in
          let all_of : own.times * total e * (over / i.total) ≡ over = ap (λ n. n * (over / i.total)) (sym whole_is) ∙ mul-div_cancel' i.total divides in
          (λ k. weight_at e x * quotient k * (to.total_is k * (over / i.total)))
          ∙ turned (weight_at e x) own.times to.times (total e) (over / i.total)
          ∙ (λ k. all_of k * sym (to.weight_is x) k)

  all_carried : Each (λ j. (x : ℕ) → adds (λ i. joint_weight x i * number i j) all ≡ over * joint_weight x j) left
  all_carried =
      each_weaker (λ j. (x : ℕ) → joint_weight x j ≡ adds (λ r. goes j r * weight_at r.column x) rows)
      (λ j. (x : ℕ) → adds (λ i. joint_weight x i * number i j) all ≡ over * joint_weight x j)
      (λ j weights x.
      adds_times over (λ i. joint_weight x i * number i j) (λ i. adds (λ r. cond (proportional r.column i.entries) (goes j r * weight_at r.column x) 0) rows) all
      (one_carried j x)
      ∙ ap (λ n. over * n) (all_once (λ i r. proportional r.column i.entries) (λ r. goes j r * weight_at r.column x) all rows (in_one rows all columns is_all)
      ∙ sym (weights x))) left left_weighs

  -- ---- the matrix

  abbrev none : Inner
  none = record { entries = []; total = 0 }

  abbrev entries : ℕ → ℕ → ℤ
  entries i j = pos (number (get_or all i none) (get_or left j none))

  refines : (target : List Item) (scale : ℕ)
      → Refines (record { target = target; scale = scale; inners = all }) (record { target = target; scale = scale; inners = left })
  refines target scale = (
    matrix_of (length all) (length left) over entries,
    record {
      shape = matrix_shaped (length all) (length left) over entries;
      over = over;
      number = entries;
      is_over = matrix_over (length all) (length left) over entries (whole_some all (recursion_from_All (λ (i : Inner). 0 < i.total) all is_all.used));
      stochastic = record {
        not_negative = λ i j l k. omega (arith, ints);
        rows = λ i l.
            total-list (number (get_or all i none)) left none
            ∙ ap pos (sum_is (number (get_or all i none)) left ∙ All-from_recursion (λ (k : Inner). adds (λ j. number k j) left ≡ over) all row_whole i none l);
      };
      carries = λ x j l.
          let to : Inner = get_or left j none in
          ap (λ z. pos scale *ℤ z)
          (total-list (λ i. joint_weight x i * number i to) all none
          ∙ ap pos
          (sum_is (λ i. joint_weight x i * number i to) all
          ∙ All-from_recursion (λ (k : Inner). (x : ℕ) → adds (λ i. joint_weight x i * number i k) all ≡ over * joint_weight x k) left all_carried j none l x))
          ∙ ap pos (sym (mul_assoc scale over (joint_weight x to)));
    },
  )

pub silent_refined : LeftOfTraces → SilentRefines
silent_refined traces silent more turns p all left too of_all of_left =
    let (f, same) = traces silent more turns p too in
    let turned : IsHyperOf (retraced f (silent_joint silent turns p)) left = subst (λ (cs : List Cell). IsHyperOf cs left) same of_left in
    refines f (silent_joint silent turns p) of_all.rows turned.rows of_all.are_rows turned.are_rows all left of_all.is_hyper turned.is_hyper p.target
    (scale_of turns p)
