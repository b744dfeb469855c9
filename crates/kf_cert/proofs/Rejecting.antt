-- The marks of a certificate, by the first rule that it breaks.
use Rattle.std.proofs.Common.{◌≡◌, ◌≢◌, ◌*◌, ◌≤◌, ℕ, List, All, Result, Ok, Err, IfOk, IfErr, true, inl, inr, refl, sym, ap, ◌∙◌, subst}
use Rattle.std.specs.List.{AllZip}
use Rattle.kf_frac.specs.Fractions.{limit}
use Rattle.kf_gain.specs.declared.gain.GainFault.{GainFault}
use Rattle.kf_gain.specs.declared.gain.GainFault.TheVariants as fault
use Rattle.kf_gain.specs.declared.table.Action.{Action}
use Rattle.kf_gain.specs.Gains.{TableTree}
use Rattle.kf_refine.specs.Refinements.{HyperTree, count, Fraction, IsShaped, CarriesWeights, Separates}
use Rattle.kf_cert.specs.Certificates.{EntryTree, NamedTable, NamedTree, Yes, Named, No, matrix_of}
use Rattle.kf_cert.specs.Marks.{IsMarked, MarkedByRules, IsInRange, StandsFor, denominator, over_one}
use Rattle.kf_cert.specs.Naming.{IsMade, AreNarrow, BecomesFault}
use Rattle.kf_cert.specs.Rows.{matrix_between, SumToOne}
use Rattle.kf_cert.specs.Views.{IsLowest}
use Rattle.kf_cert.specs.declared.mark.CheckError.{CheckError}
use Rattle.kf_cert.specs.declared.mark.CheckError.TheVariants as error
use Rattle.kf_cert.specs.declared.mark.Mark.{Mark}
use Rattle.kf_cert.specs.declared.mark.Mark.TheVariants.{Accepted, Rejected}
use Rattle.kf_cert.specs.declared.mark.Rule.TheVariants as rule
use Rattle.kf_cert.proofs.NamedRows.{shaped_order, shaped_names}
use Rattle.kf_cert.proofs.Standing.{table_of, stands, names_values, same_width, one_table}
use Rattle.kf_cert.specs.Order.{is_in_order, rows_entries}

-- ---- what a call answers, told of something else

module _ (P Q : Result Mark CheckError → Type 0) (go : (r : Result Mark CheckError) → P r → Q r) where
  pub mark_told : (r : Result Mark CheckError) → IfOk r (λ mark. P (Ok mark)) → IfOk r (λ mark. Q (Ok mark))
  mark_told (Ok mark) is = go (Ok mark) is
  mark_told (Err e) is = tt

  pub error_told : (r : Result Mark CheckError) → IfErr r (λ e. e ≢ error.Mem → P (Err e)) → IfErr r (λ e. e ≢ error.Mem → Q (Err e))
  error_told (Ok mark) is = tt
  error_told (Err e) is = λ other. go (Err e) (is other)

-- ---- the marks of a matrix

module _ (a b : HyperTree) (rows : List (List Fraction)) where
  pub range_broken : (IsInRange rows → ⊥) → MarkedByRules a b rows (Ok (Rejected rule.Range))
  range_broken broken = inl (broken, refl)

  module _ (range : IsInRange rows) where
    pub too_wide : (a.scale * denominator rows ≤ limit → ⊥) → MarkedByRules a b rows (Err error.Wide)
    too_wide wide = inr (range, inl (wide, refl))

    module _ (narrow : a.scale * denominator rows ≤ limit) where
      pub sum_broken : (SumToOne (count a) (count b) rows → ⊥) → MarkedByRules a b rows (Ok (Rejected rule.Sum))
      sum_broken broken = inr (range, inr (narrow, inl (broken, refl)))

      module _ (sums : SumToOne (count a) (count b) rows) where
        pub cell_broken : (CarriesWeights a b (denominator rows) (over_one rows) → ⊥) → MarkedByRules a b rows (Ok (Rejected rule.Cell))
        cell_broken broken = inr (range, inr (narrow, inr (sums, inl (broken, refl))))

        pub none_broken : CarriesWeights a b (denominator rows) (over_one rows) → MarkedByRules a b rows (Ok Accepted)
        none_broken carries = inr (range, inr (narrow, inr (sums, inr (carries, refl))))

-- rows are read as the matrix that they are, and checked by their entries that aren't 0
module _ (a b : HyperTree) (rows : List (List Fraction)) (es : List EntryTree) (shaped : IsShaped (count a) (count b) rows)
    (low : All (λ row. All IsLowest row) rows) (named : es ≡ rows_entries 0 rows) where
  pub rows_ordered : is_in_order (matrix_between a b es) ≡ true
  rows_ordered = ap (λ (es : List EntryTree). is_in_order (matrix_between a b es)) named ∙ shaped_order (count a) (count b) rows shaped low

  pub rows_marked : (matrix : List (List Fraction)) → rows ≡ matrix → (r : Result Mark CheckError)
      → MarkedByRules a b (matrix_of (matrix_between a b es)) r → IsMarked a b (Yes matrix) r
  rows_marked matrix is r marked =
      let whole : matrix_of (matrix_between a b es) ≡ rows =
      ap (λ (es : List EntryTree). matrix_of (matrix_between a b es)) named ∙ shaped_names (count a) (count b) rows shaped low in
      subst (λ (m : List (List Fraction)). IsMarked a b (Yes m) r) is (inr (shaped, subst (λ (m : List (List Fraction)). MarkedByRules a b m r) whole marked))

-- a matrix by named entries that has the sizes of the hypers
module _ (a b : HyperTree) (t : NamedTree) (es : List EntryTree) (rows : t.rows ≡ count a) (columns : t.columns ≡ count b) (entries : es ≡ t.entries) where
  between_is : matrix_between a b es ≡ t
  between_is = λ i. record { rows = sym rows i; columns = sym columns i; entries = entries i }

  pub named_ordered : is_in_order t ≡ true → is_in_order (matrix_between a b es) ≡ true
  named_ordered ordered = ap is_in_order between_is ∙ ordered

  pub named_marked : (r : Result Mark CheckError) → MarkedByRules a b (matrix_of (matrix_between a b es)) r → IsMarked a b (Named t) r
  named_marked r marked = inr ((rows, columns), subst (λ (u : NamedTree). MarkedByRules a b (matrix_of u) r) between_is marked)

-- ---- the marks of a gain table

pub fault_told : (P : CheckError → Type 0) (found : GainFault) (e : CheckError) → BecomesFault found e
    → (found ≡ fault.Wide → P error.Wide) → e ≢ error.Mem → P e
fault_told P fault.Wide e is wide other = subst P (sym is) (wide refl)
fault_told P fault.Mem e is wide other = absurd (other is)

module _ (a b : HyperTree) (t : NamedTable) (made : List Action) (all : AllZip (IsMade a.target) t.actions made) where
  abbrev table : TableTree
  table = table_of a.target t made all

  abbrev IsNarrow : ℕ → Type 0
  IsNarrow m = (a.scale * m ≤ limit) × (b.scale * m ≤ limit)

  pub wide_marked : (AreNarrow a.scale b.scale table → ⊥) → IsMarked a b (No t) (Err error.Wide)
  wide_marked wide = inr (names_values a.target t made all, inl (λ narrow. wide (subst IsNarrow (sym (same_width a.target t made all)) narrow), refl))

  module _ (narrow : AreNarrow a.scale b.scale table) where
    pub separated : Separates table a b → IsMarked a b (No t) (Ok Accepted)
    separated is =
        inr (names_values a.target t made all, inr (subst IsNarrow (same_width a.target t made all) narrow, inr ((table, stands a.target t made all, is), refl)))

    pub not_separated : (Separates table a b → ⊥) → IsMarked a b (No t) (Ok (Rejected rule.Order))
    not_separated never =
        inr (names_values a.target t made all, inr (subst IsNarrow (same_width a.target t made all) narrow, inl (λ is. none is.0 is.1 is.2, refl)))
      where
        none : (other : TableTree) → StandsFor a.target t other → Separates other a b → ⊥
        none other for is = never (subst (λ (u : TableTree). Separates u a b) (one_table a.target t other table for (stands a.target t made all)) is)
