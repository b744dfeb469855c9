-- Columns of one posterior added up: there is one answer, and what it keeps.
use Rattle.std.proofs.Common.{◌≡◌, ℕ, ◌*◌, ◌/◌, ◌<◌, ◌≤◌, arith, length, get_or, List, [], ◌∷◌, true, All, Contains, map, refl, sym, ◌∙◌, ap, subst}
use Rattle.std.specs.List.{IsDistinct}
use Rattle.std.specs.declared.cmp.Ordering.TheVariants.{Less}
use Rattle.std.proofs.Math.Nat.{mul_comm, mul-div_cancel_left}
use Rattle.std.proofs.lemmas.List.Elements.{All-nil}
use Rattle.std.proofs.lemmas.Simd.{map-map}
use Rattle.kf_column.specs.declared.entry.Entry.{Entry}
use Rattle.kf_column.specs.Columns.{IsColumn, weight_at, total, proportional}
use Rattle.kf_column.specs.Hypers.{Inner, IsInner, IsHyper, class_total}
use Rattle.kf_column.specs.Averages.{scaled, joint_column}
use Rattle.kf_column.specs.Joint.{mass}
use Rattle.kf_column.specs.Classes.{HasInner, ClassesOf}
use Rattle.kf_column.specs.Laws.{class_weight}
use Rattle.kf_column.specs.Merged.{SameBeliefs, AreMerged}
use Rattle.kf_column.specs.Shapes.{IsBelow, as_inner, list_order}
use Rattle.kf_column.proofs.Abstraction.{is_hyper, hyper_by_totals}
use Rattle.kf_column.proofs.AtMostOne.{at_most_one}
use Rattle.kf_column.proofs.ClassSums.{column_of, all_whole, sums_columns, sums_totals, sums_mass}
use Rattle.kf_column.proofs.ClassSums.{sums_below, sums_classes, sums_weights, sums_has, sums_apart, sums_distinct}
use Rattle.kf_column.proofs.SomeHyper.{some_hyper, Classed, classed, inner_of_column}
use Rattle.kf_column.proofs.Scaling.{total_positive, total_reduced}
use Rattle.kf_column.proofs.Steps.{classes_none, classes_more, itself, put_behind}

pub some_merged : (columns : List (List Entry)) → All IsColumn columns → (merged : List (List Entry)) × AreMerged columns merged
some_merged columns are = let h = some_hyper columns are in (map joint_column h.0, record { inners = h.0; is_hyper = h.1; sums = refl })

pub one_merged : (columns merged others : List (List Entry)) → AreMerged columns merged → AreMerged columns others → merged ≡ others
one_merged columns merged others m o = m.sums ∙ ap (map joint_column) (at_most_one columns m.inners o.inners m.is_hyper o.is_hyper) ∙ sym o.sums

pub merged_none : AreMerged [] []
merged_none = record { inners = []; is_hyper = is_hyper [] [] classes_none tt; sums = refl }

-- the classes by which columns are merged
module _ (columns merged : List (List Entry)) (are : All IsColumn columns) (m : AreMerged columns merged) where
  these : Classed columns
  these = classed columns are

  inners_are : m.inners ≡ map as_inner these.classes
  inners_are = at_most_one columns m.inners (map as_inner these.classes) m.is_hyper (is_hyper columns these.classes these.are_classes these.sorted)

  sums_are : map column_of these.classes ≡ merged
  sums_are = sym (map-map joint_column as_inner these.classes) ∙ sym (ap (map joint_column) inners_are) ∙ sym m.sums

  -- what is merged is columns
  pub merged_columns : All IsColumn merged
  merged_columns = subst (All IsColumn) sums_are (sums_columns columns these.classes these.are_classes these.sorted)

  -- and is merged
  pub merged_again : AreMerged merged merged
  merged_again = record {
    inners = m.inners;
    is_hyper = subst (λ cs. IsHyper cs m.inners) sums_are
        (subst (IsHyper (map column_of these.classes)) (sym inners_are)
        (is_hyper (map column_of these.classes) these.classes (sums_classes columns these.classes these.are_classes these.sorted) these.sorted));
    sums = m.sums;
  }

  -- each class keeps its total
  pub merged_totals : (inner : List Entry) → IsInner inner → class_total merged inner ≡ class_total columns inner
  merged_totals inner is =
      subst (λ cs. class_total cs inner ≡ class_total columns inner) sums_are (sums_totals columns these.classes these.are_classes these.sorted inner is)

  pub merged_mass : mass merged ≡ mass columns
  merged_mass = subst (λ cs. mass cs ≡ mass columns) sums_are (sums_mass columns these.classes these.are_classes these.sorted)

  -- a merged column is the sum of the columns in proportion to it
  pub merged_weights : All (λ m. (x : ℕ) → weight_at m x ≡ class_weight columns m x) merged
  merged_weights =
      subst (All (λ m. (x : ℕ) → weight_at m x ≡ class_weight columns m x)) sums_are (sums_weights columns these.classes these.are_classes these.sorted are)

  -- each column has its merged one
  pub merged_has : (column : List Entry) → Contains columns column → (m : List Entry) × Contains merged m × (proportional column m ≡ true)
  merged_has column here =
      subst (λ cs. (m : List Entry) × Contains cs m × (proportional column m ≡ true)) sums_are
      (sums_has columns these.classes these.are_classes these.sorted column here)

  -- and no two merged ones are in proportion
  pub merged_apart : (u v : List Entry) → Contains merged u → Contains merged v → proportional u v ≡ true → u ≡ v
  merged_apart =
      subst (λ cs. (u v : List Entry) → Contains cs u → Contains cs v → proportional u v ≡ true → u ≡ v) sums_are
      (sums_apart columns these.classes these.are_classes these.sorted)

  pub merged_distinct : IsDistinct proportional merged
  merged_distinct =
      subst (IsDistinct proportional) sums_are (sums_distinct these.classes (all_whole columns these.classes these.are_classes these.sorted) these.sorted)

pub merged_below : (size : ℕ) (columns merged : List (List Entry)) → All IsColumn columns → AreMerged columns merged
    → All (IsBelow size) columns → All (IsBelow size) merged
merged_below size columns merged are m below =
    let c : Classed columns = these columns merged are m in
    subst (All (IsBelow size)) (sums_are columns merged are m) (sums_below columns c.classes c.are_classes c.sorted size below)

-- ---- same beliefs

-- a hyper of the one is a hyper of the other
hyper_carried : (columns others : List (List Entry)) → All IsColumn columns → All IsColumn others
    → ((inner : List Entry) → IsInner inner → class_total columns inner ≡ class_total others inner)
    → (inners : List Inner) → IsHyper columns inners → IsHyper others inners
hyper_carried columns others are were totals inners is =
    let c : Classed columns = classed columns are in
    subst (IsHyper others) (at_most_one columns (map as_inner c.classes) inners (is_hyper columns c.classes c.are_classes c.sorted) is)
    (hyper_by_totals others c.classes (λ k d below. inner_of_column _ (were k d below)) c.are_classes.inners c.are_classes.used
    (λ inner is_inner. c.are_classes.totals inner is_inner ∙ totals inner is_inner) c.sorted)

-- lists whose classes have the same totals come to the same beliefs
pub totals_tell : (columns others : List (List Entry)) → All IsColumn columns → All IsColumn others
    → ((inner : List Entry) → IsInner inner → class_total columns inner ≡ class_total others inner) → SameBeliefs columns others
totals_tell columns others are were totals inners =
    (hyper_carried columns others are were totals inners, hyper_carried others columns were are (λ inner is. sym (totals inner is)) inners)

pub totals_told : (columns others : List (List Entry)) → All IsColumn columns → All IsColumn others → SameBeliefs columns others
    → (inner : List Entry) → IsInner inner → class_total columns inner ≡ class_total others inner
totals_told columns others are were same inner is =
    let m = some_merged columns are in
    let o : AreMerged others m.0 = record { inners = m.1.inners; is_hyper = (same m.1.inners).0 m.1.is_hyper; sums = m.1.sums } in
    sym (merged_totals columns m.0 are m.1 inner is) ∙ merged_totals others m.0 were o inner is

-- what is merged comes to the same beliefs
pub merged_beliefs : (columns merged : List (List Entry)) → All IsColumn columns → AreMerged columns merged → SameBeliefs columns merged
merged_beliefs columns merged are m =
    totals_tell columns merged are (merged_columns columns merged are m) (λ inner is. sym (merged_totals columns merged are m inner is))

-- one column is merged already
pub merged_one : (column : List Entry) → IsColumn column → AreMerged (column ∷ []) (column ∷ [])
merged_one column is =
    let h : HasInner column = inner_of_column column is in
    let r : List Entry = h.inner in
    let f : ℕ = h.is_reduced.factor in
    let pairs : List (List Entry × ℕ) = (r, total column) ∷ [] in
    let classes : ClassesOf (column ∷ []) pairs = classes_more itself [] column r h.is_reduced classes_none (put_behind r (total column) []) in
    let sum : total column ≡ total r * f = total_reduced column r h.is_reduced ∙ mul_comm f (total r) in
    let times : total column / total r ≡ f = ap (λ (n : ℕ). n / total r) sum ∙ mul-div_cancel_left' (total r) f (total_positive r h.is_reduced.is_inner.column) in
    record {
      inners = map as_inner pairs;
      is_hyper = is_hyper (column ∷ []) pairs classes (All-nil (λ (q : List Entry × ℕ). list_order r q.0 ≡ Less), tt);
      sums = ap (λ (c : List Entry). c ∷ []) (h.is_reduced.multiple ∙ ap (λ (n : ℕ). map (scaled n) r) (sym times));
    }
  where
    mul-div_cancel_left' : (n m : ℕ) → 0 < n → n * m / n ≡ m
    mul-div_cancel_left' n m some = mul-div_cancel_left m some

pub merged_empty : (columns : List (List Entry)) → length columns < 1 → AreMerged columns columns
merged_empty [] below = merged_none
merged_empty (c ∷ cs) below = absurd (omega (arith, below))

pub merged_alone : (columns : List (List Entry)) (column : List Entry) → 1 ≤ length columns → length columns < 2 → column ≡ get_or columns 0 column → IsColumn column → AreMerged columns columns
merged_alone [] column some below is column' = absurd (omega (arith, some))
merged_alone (c ∷ []) column some below is column' = merged_one c (subst IsColumn is column')
merged_alone (c ∷ d ∷ cs) column some below is column' = absurd (omega (arith, below))
