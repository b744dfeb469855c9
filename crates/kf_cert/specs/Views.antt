-- For bodies: what contracts see of certificates, and what they may take for granted.
use Rattle.std.specs.Prelude.{◌≡◌, ◌≢◌, ◌<◌, ◌≤◌, All, ◌∷◌, unsigned_abs, List, [], length, map, flat_map, true}
use Rattle.kf_frac.specs.Fractions.{limit, reduced_num, reduced_den}
use Rattle.kf_value.specs.Targets.{Item, target_value_text}
use Rattle.kf_gain.specs.Gains.{TableTree}
use Rattle.kf_gain.specs.Shapes.{IsTableShape}
use Rattle.kf_refine.specs.Refinements.{Fraction}
use Rattle.kf_refine.specs.Verdicts.{VerdictTree}
use Rattle.kf_refine.specs.Verdicts as verdict
use Rattle.kf_cert.specs.Shapes.{IsWritable}
use Rattle.kf_refine.specs.Views.{fraction_of, matrix_tree}
use Rattle.kf_cert.specs.Certificates.{CertTree, Yes, Named, No, EntryTree, NamedTable, NamedTree}
use Rattle.kf_cert.specs.CertTexts.{named_of}
use Rattle.kf_cert.specs.declared.cert.Cert.{Cert}
use Rattle.kf_cert.specs.declared.cert.Cert.TheVariants as cert
use Rattle.kf_cert.specs.declared.cert.CertGain.{CertGain}
use Rattle.kf_cert.specs.declared.cert.NamedEntry.{NamedEntry}
use Rattle.kf_cert.specs.declared.cert.NamedMatrix.{NamedMatrix}
use Rattle.kf_cert.specs.Order.{is_in_order, widest}

abbrev pub named_table : CertGain → NamedTable
named_table g = record { over = g.over; rest = g.rest; actions = g.actions }

abbrev pub entry_tree : NamedEntry → EntryTree
entry_tree e = record { row = e.row; column = e.column; value = fraction_of e.value }

abbrev pub named_tree : NamedMatrix → NamedTree
named_tree m = record { rows = m.rows; columns = m.columns; entries = map entry_tree m.entries }

abbrev pub cert_tree : Cert → CertTree
cert_tree (cert.Yes m) = Yes (matrix_tree m)
cert_tree (cert.Named m) = Named (named_tree m)
cert_tree (cert.No g) = No (named_table g)

-- what reading a table gives: at least one action, over at least 1, and no number past 2^127 - 1
pub record IsSoundTable (t : NamedTable) : Type 0 where
  pub positive : 0 < t.over
  pub narrow : t.over ≤ limit
  pub some : t.actions ≢ []
  pub within : All (λ z. unsigned_abs z ≤ limit) (t.rest ∷ flat_map (λ a. map (λ e. e.gain) a.gains) t.actions)

-- what reading named entries gives: their places ascend strictly and are places of the matrix
pub record IsSoundNamed (t : NamedTree) : Type 0 where
  pub ordered : is_in_order t ≡ true
  pub positive : All (λ e. 0 < e.value.den) t.entries

abbrev pub IsSound : CertTree → Type 0
IsSound (Yes rows) = All (λ row. All (λ f. 0 < f.den) row) rows
IsSound (Named t) = IsSoundNamed t
IsSound (No t) = IsSoundTable t

-- a fraction in lowest terms, whose parts are at most 2^127 - 1
pub record IsLowest (f : Fraction) : Type 0 where
  pub positive : 0 < f.den
  pub num : f.num ≡ reduced_num f.num f.den
  pub den : f.den ≡ reduced_den f.num f.den
  pub narrow_num : unsigned_abs f.num ≤ limit
  pub narrow_den : f.den ≤ limit

-- a matrix that isn't larger than numbers may be
pub record IsSmall (matrix : List (List Fraction)) : Type 0 where
  pub rows : length matrix ≤ limit
  pub columns : widest matrix ≤ limit

abbrev pub HasSmall : VerdictTree → Type 0
HasSmall (verdict.Yes rows) = IsSmall rows
HasSmall (verdict.No t) = Unit {0}

-- a matrix whose certificate can be read back
pub record IsPrintableMatrix (rows : List (List Fraction)) : Type 0 where
  pub lowest : All (λ row. All IsLowest row) rows
  pub small : IsSmall rows

-- a verdict whose certificate can be read back
abbrev pub IsPrintable : List Item → VerdictTree → Type 0
IsPrintable target (verdict.Yes rows) = IsPrintableMatrix rows
IsPrintable target (verdict.No t) = IsTableShape t × IsWritable target (verdict.No t)

-- a verdict on hypers of a target as its certificate is read back: the matrix by its entries that aren't 0, or the same gains with the
-- texts of their values
abbrev pub named_by : List Item → TableTree → NamedTable
named_by target t = record {
  over = t.over;
  rest = t.rest;
  actions = map (λ a. record {
    name = a.name;
    gains = map (λ e. record { value = target_value_text target e.value; gain = e.gain }) a.gains;
  }) t.actions;
}

abbrev pub read_back : List Item → VerdictTree → CertTree
read_back target (verdict.Yes rows) = Named (named_of rows)
read_back target (verdict.No t) = No (named_by target t)
