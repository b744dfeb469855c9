-- For bodies: the rules on the entries of a matrix, and the entries as whole numbers over their one denominator.
use Rattle.std.specs.Prelude.{◌≡◌, ℕ, ◌*◌, ◌/◌, ◌<◌, ◌==◌, All, pos, ◌≤ℤ◌, unsigned_abs, List, map, sum_by, if◌then◌else◌}
use Rattle.kf_frac.specs.declared.frac.Frac.{Frac}
use Rattle.kf_refine.specs.Refinements.{HyperTree, Fraction, count}
use Rattle.kf_refine.specs.Views.{fraction_of}
use Rattle.kf_simplex.specs.Base.{total}
use Rattle.kf_cert.specs.Certificates.{EntryTree, NamedTree}
use Rattle.kf_cert.specs.Marks.{denominator, over_one}
use Rattle.kf_cert.specs.declared.matrix_rules.shares.Share.{Share}

-- what contracts see of a row, and of rows
abbrev pub row_tree : List Frac → List Fraction
row_tree row = map fraction_of row

abbrev pub rows_tree : List (List Frac) → List (List Fraction)
rows_tree rows = map (λ row. map fraction_of row) rows

-- the matrix from a's inners to b's that entries name
abbrev pub matrix_between : HyperTree → HyperTree → List EntryTree → NamedTree
matrix_between a b entries = record { rows = count a; columns = count b; entries = entries }

-- from 0 to 1
abbrev pub IsWithin : Fraction → Type 0
IsWithin f = (pos 0 ≤ℤ f.num) × (f.num ≤ℤ pos f.den)

-- the values of all entries are
abbrev pub AreWithin : List EntryTree → Type 0
AreWithin entries = All (λ e. IsWithin e.value) entries

-- their denominators, one after the other
abbrev pub dens : List EntryTree → List ℕ
dens entries = map (λ e. e.value.den) entries

-- a fraction from 0 to 1 as a whole number over d
abbrev pub amount_of : ℕ → Fraction → ℕ
amount_of d f = unsigned_abs f.num * (d / f.den)

-- an entry so
abbrev pub share_of : ℕ → EntryTree → Share
share_of d e = record { row = e.row; column = e.column; amount = amount_of d e.value }

-- each row of a matrix sums to 1
abbrev pub SumToOne : ℕ → ℕ → List (List Fraction) → Type 0
SumToOne m n rows = (i : ℕ) → i < m → total n (over_one rows i) ≡ pos (denominator rows)

-- what the shares of row i come to
abbrev pub row_amount : List Share → ℕ → ℕ
row_amount shares i = sum_by (λ s. if s.row == i then s.amount else 0) shares

-- those of each of so many rows come to d
abbrev pub SumsToOne : ℕ → ℕ → List Share → Type 0
SumsToOne d rows shares = (i : ℕ) → i < rows → row_amount shares i ≡ d
