-- Believed: whether a certificate proves what it is to prove about two hypers, or the first rule that it breaks.
use Rattle.std.specs.Prelude.{◌≡◌, ℕ, ◌*◌, ◌/◌, ◌<◌, ◌≤◌, max, All, ℤ, pos, ◌*ℤ◌, ◌≤ℤ◌, List, ◌∷◌, map, flat_map, true, Result, Ok, Err}
use Rattle.std.specs.List.{AllZip, list_all}
use Rattle.kf_frac.specs.Divisors.{common_multiple}
use Rattle.kf_frac.specs.Fractions.{limit}
use Rattle.kf_frac.specs.Rules.{Unless}
use Rattle.kf_json.specs.Rules.{are_distinct}
use Rattle.kf_value.specs.Targets.{Item}
use Rattle.kf_gain.specs.Gains.{TableTree}
use Rattle.kf_gain.specs.Tables.{is_value_text, IsAction}
use Rattle.kf_gain.specs.Vulnerabilities.{greatest}
use Rattle.kf_simplex.specs.Base.{total}
use Rattle.kf_refine.specs.Refinements.{HyperTree, count, Fraction, entry, IsShaped, CarriesWeights, Separates}
use Rattle.kf_cert.specs.Certificates.{CertTree, Yes, Named, No, NamedTable, matrix_of}
use Rattle.kf_cert.specs.declared.cert.CertAction.{CertAction}
use Rattle.kf_cert.specs.declared.mark.Mark.{Mark}
use Rattle.kf_cert.specs.declared.mark.Mark.TheVariants.{Accepted, Rejected}
use Rattle.kf_cert.specs.declared.mark.Rule.TheVariants as rule
use Rattle.kf_cert.specs.declared.mark.CheckError.{CheckError}
use Rattle.kf_cert.specs.declared.mark.CheckError.TheVariants as error

-- ---- rules on a matrix

-- no entry is below 0 or above 1
abbrev pub IsInRange : List (List Fraction) → Type 0
IsInRange rows = All (λ row. All (λ f. (pos 0 ≤ℤ f.num) × (f.num ≤ℤ pos f.den)) row) rows

-- the one denominator of all entries
abbrev pub denominator : List (List Fraction) → ℕ
denominator rows = common_multiple (flat_map (λ row. map (λ f. f.den) row) rows)

-- the entries as whole numbers over it
abbrev pub over_one : List (List Fraction) → ℕ → ℕ → ℤ
over_one rows i j = (entry rows i j).num *ℤ pos (denominator rows / (entry rows i j).den)

-- ---- rules on a gain table

abbrev pub value_texts : CertAction → List (List ℕ)
value_texts a = map (λ e. e.value) a.gains

-- each text is that of a target value, and no action names one twice
abbrev pub NamesValues : List Item → NamedTable → Type 0
NamesValues target t = All (λ a. (list_all (is_value_text target) (value_texts a) ≡ true) × (are_distinct (value_texts a) ≡ true)) t.actions

-- the greater of `over` and twice the greatest number: no number of the check passes a scale times this
abbrev pub width : NamedTable → ℕ
width t = max t.over (2 * greatest (t.rest ∷ flat_map (λ a. map (λ e. e.gain) a.gains) t.actions))

-- the gain table that it stands for, in which each action has the numbers of its values
pub record StandsFor (target : List Item) (t : NamedTable) (table : TableTree) : Type 0 where
  pub over : table.over ≡ t.over
  pub rest : table.rest ≡ t.rest
  pub actions : AllZip (λ a. IsAction target a.name (map (λ e. (e.value, e.gain)) a.gains)) t.actions table.actions

-- ---- the rules in their order

-- the rules on the entries of a matrix that has its shape: the third is that each row sums to 1
abbrev pub MarkedByRules : HyperTree → HyperTree → List (List Fraction) → Result Mark CheckError → Type 0
MarkedByRules a b rows =
    Unless (IsInRange rows) (Ok (Rejected rule.Range))
    (Unless (a.scale * denominator rows ≤ limit) (Err error.Wide)
    (Unless ((i : ℕ) → i < count a → total (count b) (over_one rows i) ≡ pos (denominator rows)) (Ok (Rejected rule.Sum))
    (Unless (CarriesWeights a b (denominator rows) (over_one rows)) (Ok (Rejected rule.Cell)) (λ r. r ≡ Ok Accepted))))

-- a matrix has a row for each inner of the first hyper and a column for each of the second, whether it stands row by row or by entries
abbrev pub IsMarked : HyperTree → HyperTree → CertTree → Result Mark CheckError → Type 0
IsMarked a b (Yes rows) = Unless (IsShaped (count a) (count b) rows) (Ok (Rejected rule.Shape)) (MarkedByRules a b rows)
IsMarked a b (Named t) = Unless ((t.rows ≡ count a) × (t.columns ≡ count b)) (Ok (Rejected rule.Shape)) (MarkedByRules a b (matrix_of t))
IsMarked a b (No t) =
    Unless (NamesValues a.target t) (Ok (Rejected rule.Value))
    (Unless ((a.scale * width t ≤ limit) × (b.scale * width t ≤ limit)) (Err error.Wide)
    (Unless ((table : TableTree) × StandsFor a.target t table × Separates table a b) (Ok (Rejected rule.Order)) (λ r. r ≡ Ok Accepted)))
