-- What the code's classes come to: the hyper of their columns, their shape, and their sums.
use Rattle.std.proofs.Common.{◌≡◌, ℕ, ◌+◌, List, [], ◌∷◌, All, map, sym, ◌∙◌, ap, subst, ◌++◌}
use Rattle.std.proofs.lemmas.Simd.{map-map}
use Rattle.kf_column.specs.declared.entry.Entry.{Entry}
use Rattle.kf_hyper.specs.declared.class.Class.{Class}
use Rattle.kf_hyper.specs.declared.column.Column.{Column}
use Rattle.kf_column.specs.Columns.{total}
use Rattle.kf_column.specs.Shapes.{IsBelow, IsShape, as_inner}
use Rattle.kf_hyper.specs.ClassViews.{inner_of, class_of}
use Rattle.kf_column.specs.Joint.{IsJoint, mass}
use Rattle.kf_column.specs.Hypers.{IsHyper}
use Rattle.kf_column.specs.Classes.{ClassesOf, AreAscending, IsReduced}
use Rattle.kf_column.proofs.Ordered.{ordered}
use Rattle.std.proofs.lemmas.List.{map-append}
use Rattle.kf_column.specs.Averages.{joint_column}
use Rattle.kf_column.specs.Merged.{AreMerged}
use Rattle.kf_column.proofs.Abstraction.{is_hyper, is_shape}
use Rattle.kf_column.proofs.ClassSums.{column_of, sums_mass}
use Rattle.kf_column.proofs.Steps.{classes_more, itself, put_behind, paired_itself}

abbrev Pair : Type 0
Pair = List Entry × ℕ

module _ (columns : List Column) (classes : List Class) (had : ClassesOf columns (map class_of classes)) (sorted : AreAscending (map class_of classes)) where
  pub hyper_made : IsHyper columns (map inner_of classes)
  hyper_made = subst (IsHyper columns) (map-map as_inner class_of classes) (is_hyper columns (map class_of classes) had (ordered (map class_of classes) sorted))

  pub shape_made : (size scale : ℕ) → IsJoint (record { scale = scale; columns = columns }) → mass columns ≡ scale → All (IsBelow size) columns → IsShape size scale (map inner_of classes)
  shape_made size scale is whole below =
      subst (IsShape size scale) (map-map as_inner class_of classes)
      (is_shape columns (map class_of classes) had (ordered (map class_of classes) sorted) size scale is.some is.narrow whole below)

-- one more column

pub classes_pushed : (columns : List Column) (column : Column) (class : Class) (classes : List Class) → IsReduced column class.inner → class.total ≡ total column → ClassesOf columns (map class_of classes)
    → ClassesOf (columns ++ column ∷ []) (map class_of (classes ++ class ∷ []))
classes_pushed columns column class classes is same had =
    let es : List Pair = map class_of classes in
    let more = classes_more itself columns column class.inner is (subst (ClassesOf columns) (sym (paired_itself es)) had) (put_behind class.inner (total column) es) in
    subst (ClassesOf (columns ++ column ∷ []))
    (paired_itself (es ++ (class.inner, total column) ∷ []) ∙ ap (λ (n : ℕ). es ++ (class.inner, n) ∷ []) (sym same) ∙ sym (map-append class_of classes (class ∷ [])))
    more

-- ---- classes and their sums

module _ (columns merged : List (List Entry)) (scale : ℕ) (classes : List Class) (is : IsJoint (record { scale = scale; columns = columns }))
    (had : ClassesOf columns (map class_of classes)) (sorted : AreAscending (map class_of classes)) (sums : merged ≡ map joint_column (map inner_of classes)) where
  pub merged_made : AreMerged columns merged
  merged_made = record { inners = map inner_of classes; is_hyper = hyper_made columns classes had sorted; sums = sums }

  -- over the same scale they are a joint matrix again
  pub joint_made : IsJoint (record { scale = scale; columns = merged })
  joint_made =
      let shown : map joint_column (map inner_of classes) ≡ map column_of (map class_of classes) =
      map-map joint_column inner_of classes ∙ sym (map-map column_of class_of classes) in
      let kept : mass merged ≡ mass columns = ap mass (sums ∙ shown) ∙ sums_mass columns (map class_of classes) had (ordered (map class_of classes) sorted) in
      record { some = is.some; narrow = is.narrow; fits = rw kept is.fits }
