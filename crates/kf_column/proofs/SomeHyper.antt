-- Columns have a hyper: each is divided by its common factor, and the totals are added up under what is left.
use Rattle.std.proofs.Common.{ℕ, ◌+◌, List, [], ◌∷◌, ◌++◌, All, map, sym, subst, unwrap_or, append-nil, append_assoc}
use Rattle.std.specs.BTreeMap.{insert_entry, is_at}
use Rattle.std.specs.Int.{IsGcd, ◌∣◌}
use Rattle.std.specs.List.Sorted.{IsStrictlySortedBy}
use Rattle.std.specs.Map.{lookup, keys_of}
use Rattle.std.proofs.lemmas.Nat.Gcd.{dvd_trans, dvd-zero}
use Rattle.std.proofs.lemmas.List.Elements.{All-head, All-tail, All-nil, All-cons, All-weaker}
use Rattle.kf_frac.specs.Divisors.{gcd_of}
use Rattle.kf_frac.proofs.CommonDivisors.{gcd_is}
use Rattle.kf_column.specs.declared.entry.Entry.{Entry}
use Rattle.kf_column.specs.Columns.{IsColumn, total}
use Rattle.kf_column.specs.Classes.{IsCommonFactor, HasInner, ClassesOf}
use Rattle.kf_column.specs.Shapes.{as_inner, list_order}
use Rattle.kf_column.specs.Laws.{SomeHyper}
use Rattle.kf_column.proofs.Abstraction.{is_hyper}
use Rattle.kf_column.proofs.Factors.{quotient, reduced_is}
use Rattle.kf_column.proofs.Gathering.{list_total, same_list}
use Rattle.kf_column.proofs.Inserting.{inserted, paired, stays_sorted}
use Rattle.kf_column.proofs.Ordered.{Ordered, ordered_by}
use Rattle.kf_column.proofs.Steps.{classes_none, classes_more}

-- ---- a column has an inner

some_factor : (entries : List Entry) → (factor : ℕ) × IsCommonFactor factor entries
some_factor [] = (0, record { divides = All-nil (λ (e : Entry). 0 ∣ e.weight); greatest = λ d all. dvd-zero d })
some_factor (e ∷ es) =
    let rest : (factor : ℕ) × IsCommonFactor factor es = some_factor es in
    let f : ℕ = rest.0 in
    let g : ℕ = gcd_of f e.weight in
    let is : IsGcd f e.weight g = gcd_is f e.weight in (
      g,
      record {
        divides = All-cons (λ (e : Entry). g ∣ e.weight) e es is.1
            (All-weaker (λ (e : Entry). f ∣ e.weight) (λ (e : Entry). g ∣ e.weight) (λ e h. dvd_trans g is.0 h) es rest.1.divides);
        greatest = λ d all. is.2 d (rest.1.greatest d (All-tail (λ (e : Entry). d ∣ e.weight) e es all)) (All-head (λ (e : Entry). d ∣ e.weight) e es all);
      },
    )

pub inner_of_column : (column : List Entry) → IsColumn column → HasInner column
inner_of_column column is =
    let f : (factor : ℕ) × IsCommonFactor factor column = some_factor column in
    record { inner = map (quotient f.0) column; is_reduced = reduced_is f.0 column f.1 is }

-- ---- columns have classes

abbrev itself : List Entry → List Entry
itself l = l

record Gathered (columns : List (List Entry)) : Type 0 where
  classes : List (List Entry × ℕ)
  are_classes : ClassesOf columns (paired itself classes)
  sorted : IsStrictlySortedBy list_order (keys_of classes)

sorted_none : IsStrictlySortedBy list_order []
unfolding IsStrictlySortedBy
sorted_none = tt

one_more : (columns : List (List Entry)) (column : List Entry) → IsColumn column → Gathered columns → Gathered (columns ++ column ∷ [])
one_more columns column is had =
    let h : HasInner column = inner_of_column column is in
    let sum : ℕ = unwrap_or (lookup (is_at (list_order h.inner)) had.classes) 0 + total column in
    record {
      classes = insert_entry list_order had.classes h.inner sum;
      are_classes = classes_more itself columns column h.inner h.is_reduced had.are_classes (inserted itself list_order list_total same_list h.inner (total column) had.classes had.sorted);
      sorted = stays_sorted itself list_order list_total same_list h.inner sum had.classes had.sorted;
    }

gathered : (done left : List (List Entry)) → All IsColumn left → Gathered done → Gathered (done ++ left)
gathered done [] all had = subst Gathered (sym (append-nil done)) had
gathered done (column ∷ left) all had =
    subst Gathered (append_assoc done (column ∷ []) left)
    (gathered (done ++ column ∷ []) left (All-tail IsColumn column left all) (one_more done column (All-head IsColumn column left all) had))

-- the classes of columns, in their order
pub record Classed (columns : List (List Entry)) : Type 0 where
  pub classes : List (List Entry × ℕ)
  pub are_classes : ClassesOf columns classes
  pub sorted : Ordered classes

pub classed : (columns : List (List Entry)) → All IsColumn columns → Classed columns
classed columns all =
    let g : Gathered columns = gathered [] columns all (record { classes = []; are_classes = classes_none; sorted = sorted_none }) in
    record { classes = paired itself g.classes; are_classes = g.are_classes; sorted = ordered_by itself g.classes g.sorted }

pub some_hyper : SomeHyper
some_hyper columns all =
    let c : Classed columns = classed columns all in (map as_inner c.classes, is_hyper columns c.classes c.are_classes c.sorted)
