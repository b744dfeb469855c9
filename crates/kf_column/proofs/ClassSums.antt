-- The sums of ordered classes: columns, one for each class, with the class's total and the class's weights.
use Rattle.std.proofs.Common.{◌≡◌, ℕ, ◌+◌, ◌*◌, ◌/◌, ◌<◌, ◌≤◌, List, [], ◌∷◌, Bool, true, false, if◌then◌else◌}
use Rattle.std.proofs.Common.{All, Contains, map, sum_by, length, get_or, refl, sym, ◌∙◌, ap, subst, arith, zero, suc, ⊎_elim}
use Rattle.std.specs.Int.{◌∣◌}
use Rattle.std.specs.List.{AllByRecursion, IsDistinct}
use Rattle.std.specs.declared.cmp.Ordering.TheVariants.{Less}
use Rattle.std.proofs.Math.Nat.{div-mul_cancel, eq-zero-or-pos, zero-mul}
use Rattle.std.proofs.lemmas.Bool.{cases_eq}
use Rattle.std.proofs.lemmas.List.{get_or-map, length-map}
use Rattle.std.proofs.lemmas.List.Elements.{All-map, All-head, All-tail, All-contains}
use Rattle.std.proofs.lemmas.List.Sums.{sum_by-cons, get_or-le-sum_by}
use Rattle.kf_column.specs.declared.entry.Entry.{Entry}
use Rattle.kf_column.specs.Columns.{IsColumn, weight_at, total, proportional}
use Rattle.kf_column.specs.Hypers.{IsInner, class_total}
use Rattle.kf_column.specs.Averages.{scaled, joint_column}
use Rattle.kf_column.specs.Joint.{mass}
use Rattle.kf_column.specs.Classes.{ClassesOf, HasInner, IsWhole, total_in}
use Rattle.kf_column.specs.Laws.{class_weight}
use Rattle.kf_column.specs.Shapes.{IsBelow, as_inner, list_order}
use Rattle.kf_column.proofs.AtMostOne.{if_above}
use Rattle.kf_column.proofs.Ordered.{Ordered, own_totals, proportional-swap, apart}
use Rattle.kf_column.proofs.Posteriors.{same_inner}
use Rattle.kf_column.proofs.Proportions.{proportional_all}
use Rattle.kf_column.proofs.Scaling.{total-scaled, proportional-scaled, product_positive, proportional_itself, proportional_reduced}
use Rattle.kf_column.proofs.SomeHyper.{inner_of_column}
use Rattle.kf_column.proofs.Steps.{below_scaled, reduced_positive}
use Rattle.kf_column.proofs.Weighing.{joint_column_weighs, class_weighs}
use Rattle.kf_column.proofs.Weights.{Above, above_column, column_above}

abbrev pub Pair : Type 0
Pair = List Entry × ℕ

-- the sum of a class
abbrev pub column_of : Pair → List Entry
column_of p = joint_column (as_inner p)

-- ---- an inner multiplied up

pub above_scaled : (low factor : ℕ) (column : List Entry) → 0 < factor → Above low column → Above low (map (scaled factor) column)
above_scaled low factor [] some above = tt
above_scaled low factor (e ∷ es) some (from, positive, rest) =
    (from, product_positive factor e.weight some positive, above_scaled (e.value + 1) factor es some rest)

scaled_some : (factor : ℕ) (column : List Entry) → (column ≡ [] → ⊥) → map (scaled factor) column ≡ [] → ⊥
scaled_some factor [] some none = some refl
scaled_some factor (e ∷ es) some none = absurd (cc)

-- a multiple of a column is a column
pub scaled_column : (factor : ℕ) (column : List Entry) → 0 < factor → IsColumn column → IsColumn (map (scaled factor) column)
scaled_column factor column some is =
    column_above 0 (map (scaled factor) column) (above_scaled 0 factor column some (above_column column is)) (scaled_some factor column is.some)

pub scaled_below : (size factor : ℕ) (column : List Entry) → IsBelow size column → IsBelow size (map (scaled factor) column)
scaled_below size factor column below = All-map (λ (e : Entry). e.value < size) (scaled factor) column below

pub is_whole : (p : Pair) → IsInner p.0 → 0 < p.1 → total p.0 ∣ p.1 → IsWhole p
is_whole p is used divides =
    let whole : (p.1 / total p.0) * total p.0 ≡ p.1 = div-mul_cancel (total p.0) divides in
    record {
      is_inner = is;
      some = ⊎_elim (λ (none : p.1 / total p.0 ≡ 0). absurd (omega (arith, used, whole, ap (λ (n : ℕ). n * total p.0) none, zero-mul (total p.0))))
          (λ (some : 0 < p.1 / total p.0). some) (eq-zero-or-pos (p.1 / total p.0));
      whole = whole;
    }

module _ (p : Pair) (is : IsWhole p) where
  pub class_column : IsColumn (column_of p)
  class_column = scaled_column (p.1 / total p.0) p.0 is.some is.is_inner.column

  pub class_sum : total (column_of p) ≡ p.1
  class_sum = total-scaled (p.1 / total p.0) p.0 ∙ is.whole

  pub class_proportional : (other : List Entry) → proportional (column_of p) other ≡ proportional p.0 other
  class_proportional other = proportional-scaled (p.1 / total p.0) p.0 other is.some

  pub proportional_class : (other : List Entry) → proportional other (column_of p) ≡ proportional other p.0
  proportional_class other = proportional-swap other (column_of p) ∙ class_proportional other ∙ proportional-swap p.0 other

-- ---- the sums of all classes

totals_shown : (ps : List Pair) → All IsWhole ps → (inner : List Entry) → class_total (map column_of ps) inner ≡ total_in ps inner
totals_shown [] all inner = refl
totals_shown (p ∷ ps) all inner =
    let is : IsWhole p = All-head IsWhole p ps all in
    sum_by-cons (λ (c : List Entry). if proportional c inner then total c else 0) (column_of p) (map column_of ps)
    ∙ (λ i. (if class_proportional p is inner i then class_sum p is i else 0) + totals_shown ps (All-tail IsWhole p ps all) inner i)
    ∙ sym (sum_by-cons (λ (c : Pair). if proportional c.0 inner then c.1 else 0) p ps)

mass_shown : (ps : List Pair) → All IsWhole ps → mass (map column_of ps) ≡ sum_by (λ (c : Pair). c.1) ps
mass_shown [] all = refl
mass_shown (p ∷ ps) all =
    sum_by-cons total (column_of p) (map column_of ps)
    ∙ (λ i. class_sum p (All-head IsWhole p ps all) i + mass_shown ps (All-tail IsWhole p ps all) i)
    ∙ sym (sum_by-cons (λ (c : Pair). c.1) p ps)

-- the place of a part above 0
pub place_above : {X : Type 0} (f : X → ℕ) (xs : List X) → 0 < sum_by f xs → (k : ℕ) × (k < length xs) × ((d : X) → 0 < f (get_or xs k d))
place_above f [] some = absurd (omega arith)
place_above f (x ∷ xs) some =
    ⊎_elim
    (λ (none : f x ≡ 0). let r = place_above f xs (omega (arith, sum_by-cons f x xs)) in (suc r.0, omega (arith, r.1), r.2))
    (λ (above : f x ≡ 0 → ⊥). (zero, omega arith, λ d. omega arith))
    (cases_eq (f x) 0)

pub contains_map : {X Y : Type 0} (f : X → Y) (xs : List X) (k : ℕ) (d : X) → k < length xs → Contains (map f xs) (f (get_or xs k d))
contains_map f xs k d below = (k, rw (length-map xs f) below, get_or-map f xs k d (f (get_or xs k d)) below)

all_apart : (p : Pair) (ps : List Pair) → IsWhole p → All IsWhole ps → All (λ (q : Pair). list_order p.0 q.0 ≡ Less) ps
    → AllByRecursion (λ v. proportional (column_of p) v ≡ false) (map column_of ps)
all_apart p [] is all after = tt
all_apart p (q ∷ ps) is all after =
    let is' : IsWhole q = All-head IsWhole q ps all in
    let here : proportional p.0 q.0 ≡ false = apart p.0 q.0 is.is_inner is'.is_inner (All-head (λ (q : Pair). list_order p.0 q.0 ≡ Less) q ps after) in (
      class_proportional p is (column_of q) ∙ proportional_class q is' p.0 ∙ here,
      all_apart p ps is (All-tail IsWhole q ps all) (All-tail (λ (q : Pair). list_order p.0 q.0 ≡ Less) q ps after),
    )

module _ (columns : List (List Entry)) (ps : List Pair) (had : ClassesOf columns ps) (sorted : Ordered ps) where
  pub all_whole : All IsWhole ps
  all_whole k d below = is_whole (get_or ps k d) (had.inners k d below) (had.used k d below) (had.whole k d below)

  pub sums_columns : All IsColumn (map column_of ps)
  sums_columns = All-map IsColumn column_of ps (λ k d below. class_column (get_or ps k d) (all_whole k d below))

  pub sums_totals : (inner : List Entry) → IsInner inner → class_total (map column_of ps) inner ≡ class_total columns inner
  sums_totals inner is = totals_shown ps all_whole inner ∙ had.totals inner is

  pub sums_mass : mass (map column_of ps) ≡ mass columns
  sums_mass = mass_shown ps all_whole ∙ had.mass

  pub sums_below : (size : ℕ) → All (IsBelow size) columns → All (IsBelow size) (map column_of ps)
  sums_below size below =
      All-map (IsBelow size) column_of ps
      (λ k d inside. let p : Pair = get_or ps k d in scaled_below size (p.1 / total p.0) p.0 (had.within size below k d inside))

  -- the sums have the same classes
  pub sums_classes : ClassesOf (map column_of ps) ps
  sums_classes = record {
    reduced = λ k d below. inner_of_column (get_or (map column_of ps) k d) (sums_columns k d below);
    inners = had.inners;
    used = had.used;
    whole = had.whole;
    totals = λ inner is. sym (totals_shown ps all_whole inner);
    mass = sym (mass_shown ps all_whole);
    within = λ size below k d inside.
        let p : Pair = get_or ps k d in
        below_scaled size (p.1 / total p.0) p.0
        (subst (IsBelow size) (get_or-map column_of ps k d (column_of d) inside) (below k (column_of d) (rw (length-map ps column_of) inside)));
  }

  pub sums_weights : All IsColumn columns → All (λ m. (x : ℕ) → weight_at m x ≡ class_weight columns m x) (map column_of ps)
  sums_weights are =
      All-map (λ m. (x : ℕ) → weight_at m x ≡ class_weight columns m x) column_of ps
      (λ k d below x.
      let p : Pair = get_or ps k d in
      joint_column_weighs (as_inner p) x
      ∙ class_weighs columns (as_inner p) (had.inners k d below) are
      (sym (own_totals ps had.inners sorted k d below) ∙ had.totals p.0 (had.inners k d below)) x
      ∙ class_weight-same columns p.0 (column_of p) (λ c. sym (proportional_class p (all_whole k d below) c)) x)
    where
      class_weight-same : (cs : List (List Entry)) (u v : List Entry) → ((c : List Entry) → proportional c u ≡ proportional c v) → (x : ℕ)
          → class_weight cs u x ≡ class_weight cs v x
      class_weight-same cs u v same x = ap (λ (p : List Entry → Bool). sum_by (λ (c : List Entry). if p c then weight_at c x else 0) cs) (λ i c. same c i)

  -- each column has its class's sum
  pub sums_has : (column : List Entry) → Contains columns column → (m : List Entry) × Contains (map column_of ps) m × (proportional column m ≡ true)
  sums_has column here =
      let h : HasInner column = All-contains HasInner columns column had.reduced here in
      let r : List Entry = h.inner in
      let f : List Entry → ℕ = λ c. if proportional c r then total c else 0 in
      let itself : proportional column r ≡ true = proportional_reduced column r r h.is_reduced ∙ proportional_itself r in
      let part : f column ≤ class_total columns r =
      subst (λ (c : List Entry). f c ≤ class_total columns r) here.2 (get_or-le-sum_by f columns here.0 column here.1) in
      let all : f column ≡ total column = ap (λ (b : Bool). if b then total column else 0) itself in
      let above : 0 < total_in ps r = omega (arith, had.totals r h.is_reduced.is_inner, part, all, reduced_positive column r h.is_reduced) in
      let at' = place_above (λ (c : Pair). if proportional c.0 r then c.1 else 0) ps above in
      let p : Pair = get_or ps at'.0 ([], 0) in
      let same : proportional p.0 r ≡ true = (if_above (proportional p.0 r) p.1 (at'.2 ([], 0))).0 in (
        column_of p,
        contains_map column_of ps at'.0 ([], 0) at'.1,
        proportional_class p (all_whole at'.0 ([], 0) at'.1) column ∙ proportional_reduced column r p.0 h.is_reduced ∙ proportional-swap r p.0 ∙ same,
      )

  -- two sums in proportion are one
  pub sums_apart : (u v : List Entry) → Contains (map column_of ps) u → Contains (map column_of ps) v → proportional u v ≡ true → u ≡ v
  sums_apart u v a b same =
      let none : Pair = ([], 0) in
      let below : a.0 < length ps = subst (λ (n : ℕ). a.0 < n) (length-map ps column_of) a.1 in
      let below' : b.0 < length ps = subst (λ (n : ℕ). b.0 < n) (length-map ps column_of) b.1 in
      let p : Pair = get_or ps a.0 none in
      let q : Pair = get_or ps b.0 none in
      let u_is : u ≡ column_of p = sym a.2 ∙ get_or-map column_of ps a.0 none u below in
      let v_is : v ≡ column_of q = sym b.2 ∙ get_or-map column_of ps b.0 none v below' in
      let w : IsWhole p = all_whole a.0 none below in
      let w' : IsWhole q = all_whole b.0 none below' in
      let inners : proportional p.0 q.0 ≡ true =
      sym (proportional_class q w' p.0) ∙ sym (class_proportional p w (column_of q)) ∙ sym (λ i. proportional (u_is i) (v_is i)) ∙ same in
      let one : p.0 ≡ q.0 = same_inner p.0 q.0 w.is_inner w'.is_inner (proportional_all p.0 q.0 inners) in
      let totals : p.1 ≡ q.1 =
      sym (own_totals ps had.inners sorted a.0 none below) ∙ ap (total_in ps) one ∙ own_totals ps had.inners sorted b.0 none below' in
      u_is ∙ (λ i. column_of (one i, totals i)) ∙ sym v_is

-- no two sums are in proportion
pub sums_distinct : (ps : List Pair) → All IsWhole ps → Ordered ps → IsDistinct proportional (map column_of ps)
unfolding IsDistinct
sums_distinct [] all sorted = tt
sums_distinct (p ∷ ps) all sorted =
    (all_apart p ps (All-head IsWhole p ps all) (All-tail IsWhole p ps all) sorted.0, sums_distinct ps (All-tail IsWhole p ps all) sorted.1)
