-- For bodies: the order of the entries that a certificate names.
use Rattle.std.specs.Prelude.{ℕ, ◌&&◌, ◌==◌, Bool, ◌||◌, nat_lt, max, List, map, length, flat_map}
use Rattle.std.specs.List.{list_all, enumerate_from}
use Rattle.kf_cert.specs.Certificates.{EntryTree, NamedTree, ascends, cert_said, names_in_order}
use Rattle.kf_cert.specs.CertTexts.{row_entries}
use Rattle.serde_json.specs.Data.{Data}
use Rattle.kf_refine.specs.Refinements.{Fraction}
use mathlib.Core.List.{foldr}

-- an entry stands in row i and column j
abbrev pub stands_at : ℕ → ℕ → EntryTree → Bool
stands_at i j e = (e.row == i) && (e.column == j)

-- an entry's place comes before row i and column j: it is in an earlier row, or in the same row and an earlier column
abbrev pub comes_before : ℕ → ℕ → EntryTree → Bool
comes_before i j e = nat_lt e.row i || ((e.row == i) && nat_lt e.column j)

-- each place is one of the matrix
abbrev pub is_inside : ℕ → ℕ → EntryTree → Bool
is_inside rows columns e = nat_lt e.row rows && nat_lt e.column columns

-- the places ascend strictly, and all are places of the matrix
abbrev pub is_in_order : NamedTree → Bool
is_in_order t = ascends t.entries && list_all (is_inside t.rows t.columns) t.entries

-- Form 7: the places of named entries ascend strictly, by row and then by column, and all are places of the matrix
abbrev pub form_7 : Data → Bool
form_7 d = names_in_order (cert_said d)

-- how long its longest row is
abbrev pub widest : List (List Fraction) → ℕ
widest rows = foldr max 0 (map length rows)

-- those of all rows, from row i on
abbrev pub rows_entries : ℕ → List (List Fraction) → List EntryTree
rows_entries i rows = flat_map (λ r. row_entries r.0 0 r.1) (enumerate_from i rows)
