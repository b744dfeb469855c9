-- Believed: certificates as JSON files: which bytes are one, what it says, and the first rule that other bytes break.
use Rattle.std.specs.Prelude.{ℕ, ◌&&◌, ◌||◌, ◌==◌, nat_le, nat_lt, ℤ, pos, int_le, unsigned_abs, List, [], ◌∷◌, map, length, Bool, true, not, None, Some, Result, Ok, Err, codes, if◌then◌else◌}
use Rattle.std.specs.List.{list_all, range_with_len}
use Rattle.serde_json.specs.Data.{Data}
use Rattle.kf_frac.specs.Fractions.{limit}
use Rattle.kf_json.specs.Json.{json_of, has_keys, at_key, is_list, members, at_place, is_text, text_of, is_the_text}
use Rattle.kf_json.specs.Rules.{is_name, first_broken}
use Rattle.kf_refine.specs.Refinements.{Fraction}
use Rattle.kf_cert.specs.Numbers.{is_negative, is_fraction_text, whole_said, numerator_said, denominator_said, fraction_said, is_numeral, past_sign}
use Rattle.kf_cert.specs.declared.cert.CertAction.{CertAction}
use Rattle.kf_cert.specs.declared.cert.CertError.{CertError}
use Rattle.kf_cert.specs.declared.cert.CertError.TheVariants as broken
use Rattle.kf_gain.specs.Tables.{over_at, rest_at, actions_at, name_at, gains_at, is_action}
use mathlib.Core.List.{foldr}

-- a gain table whose values are known by their texts
pub record NamedTable : Type 0 where
  pub over : ℕ
  pub rest : ℤ
  pub actions : List CertAction

-- an entry of a matrix with its place, both counted from 0
pub record EntryTree : Type 0 where
  pub row : ℕ
  pub column : ℕ
  pub value : Fraction

-- a matrix of so many rows and columns by the entries that it names
pub record NamedTree : Type 0 where
  pub rows : ℕ
  pub columns : ℕ
  pub entries : List EntryTree

-- a certificate: the matrix that is to prove a yes, row by row or by named entries, or the table that is to prove a no
pub data CertTree : Type 0 where
  Yes : List (List Fraction) → CertTree
  Named : NamedTree → CertTree
  No : NamedTable → CertTree

-- ---- the matrix of named entries

-- the value that is named for row i and column j; 0 over 1 where none is
abbrev pub value_at : List EntryTree → ℕ → ℕ → Fraction
value_at entries i j =
    foldr (λ (e : EntryTree) other. if (e.row == i) && (e.column == j) then e.value else other) (record { num = pos 0; den = 1 }) entries

-- so many rows and columns, each entry the value that is named for its place
abbrev pub matrix_of : NamedTree → List (List Fraction)
matrix_of t = map (λ i. map (λ j. value_at t.entries i j) (range_with_len 0 t.columns)) (range_with_len 0 t.rows)

-- each place comes before the next: it is in an earlier row, or in the same row and an earlier column
abbrev pub ascends : List EntryTree → Bool
ascends [] = true
ascends (e ∷ []) = true
ascends (e ∷ f ∷ entries) = (nat_lt e.row f.row || ((e.row == f.row) && nat_lt e.column f.column)) && ascends (f ∷ entries)

-- ---- what stands where

abbrev pub says_yes : Data → Bool
says_yes d = is_the_text (codes "yes") (at_key (codes "verdict") d)

-- the keys of a yes whose matrix stands by named entries
abbrev pub has_entry_keys : Data → Bool
has_entry_keys d = has_keys (codes "columns" ∷ codes "entries" ∷ codes "format" ∷ codes "rows" ∷ codes "verdict" ∷ []) d

-- the first format, and the second
abbrev pub is_first_format : Data → Bool
is_first_format d = is_the_text (codes "kuifje-cert-1") (at_key (codes "format") d)

abbrev pub is_second_format : Data → Bool
is_second_format d = is_the_text (codes "kuifje-cert-2") (at_key (codes "format") d)

-- ---- the rules, each over the whole value; a later one presupposes those before it

-- a text that is a fraction
abbrev pub is_fraction : Data → Bool
is_fraction d = is_text d && is_fraction_text (text_of d)

-- a matrix row by row is a list of lists of such
abbrev pub has_rows : Data → Bool
has_rows d =
    is_list (at_key (codes "matrix") d)
    && list_all (λ row. is_list row && list_all is_fraction (members row)) (members (at_key (codes "matrix") d))

-- a text that is a whole number: digits, maybe behind a `-`
abbrev pub is_whole_number : Data → Bool
is_whole_number d = is_text d && is_numeral (past_sign (text_of d))

-- a text that is one, without a `-`
abbrev pub is_size : Data → Bool
is_size d = is_whole_number d && not (is_negative (text_of d))

-- a list of three: the row and the column, which are such, and a fraction
abbrev pub is_entry : Data → Bool
is_entry e = is_list e && ((length (members e) == 3) && (is_size (at_place 0 e) && (is_size (at_place 1 e) && is_fraction (at_place 2 e))))

-- `rows` and `columns` are such, and the named entries are a list of such lists
abbrev pub has_entries : Data → Bool
has_entries d =
    is_size (at_key (codes "rows") d) && (is_size (at_key (codes "columns") d)
    && (is_list (at_key (codes "entries") d) && list_all is_entry (members (at_key (codes "entries") d))))

-- `over` and `rest` are whole numbers, and `over` is at least 1
abbrev pub has_numbers : Data → Bool
has_numbers d = is_whole_number (over_at d) && (is_whole_number (rest_at d) && int_le (pos 1) (whole_said (text_of (over_at d))))

-- the actions are a list of at least one such object
abbrev pub has_actions : Data → Bool
has_actions d = is_list (actions_at d) && (nat_le 1 (length (members (actions_at d))) && list_all is_action (members (actions_at d)))

-- a list of two texts, the second a whole number
abbrev pub is_gain : Data → Bool
is_gain g = is_list g && ((length (members g) == 2) && (is_text (at_place 0 g) && is_whole_number (at_place 1 g)))

-- an action with a name and a list of such
abbrev pub is_named_action : Data → Bool
is_named_action a = is_name (name_at a) && (is_list (gains_at a) && list_all is_gain (members (gains_at a)))

-- at most 2^127 - 1 in absolute value
abbrev pub is_narrow : ℤ → Bool
is_narrow z = nat_le (unsigned_abs z) limit

-- both parts of a fraction are, as they are written
abbrev pub is_narrow_fraction : Data → Bool
is_narrow_fraction d = is_narrow (numerator_said (text_of d)) && nat_le (denominator_said (text_of d)) limit

abbrev pub is_narrow_whole : Data → Bool
is_narrow_whole d = is_narrow (whole_said (text_of d))

-- all numbers of a matrix that stands row by row are
abbrev pub is_narrow_matrix : Data → Bool
is_narrow_matrix d = list_all (λ row. list_all is_narrow_fraction (members row)) (members (at_key (codes "matrix") d))

-- the row, the column and the value of a named entry are
abbrev pub is_narrow_entry : Data → Bool
is_narrow_entry e = is_narrow_whole (at_place 0 e) && (is_narrow_whole (at_place 1 e) && is_narrow_fraction (at_place 2 e))

-- all numbers of a matrix by named entries are
abbrev pub are_narrow_entries : Data → Bool
are_narrow_entries d =
    is_narrow_whole (at_key (codes "rows") d) && (is_narrow_whole (at_key (codes "columns") d)
    && list_all is_narrow_entry (members (at_key (codes "entries") d)))

-- all numbers of a table are
abbrev pub is_narrow_table : Data → Bool
is_narrow_table d =
    is_narrow_whole (over_at d) && (is_narrow_whole (rest_at d)
    && list_all (λ a. list_all (λ g. is_narrow_whole (at_place 1 g)) (members (gains_at a))) (members (actions_at d)))

-- ---- what a certificate says

-- a whole number without a sign
abbrev pub size_said : Data → ℕ
size_said d = unsigned_abs (whole_said (text_of d))

abbrev pub named_said : Data → NamedTree
named_said d = record {
  rows = size_said (at_key (codes "rows") d);
  columns = size_said (at_key (codes "columns") d);
  entries = map (λ e. record {
    row = size_said (at_place 0 e);
    column = size_said (at_place 1 e);
    value = fraction_said (text_of (at_place 2 e));
  }) (members (at_key (codes "entries") d));
}

abbrev pub table_said : Data → NamedTable
table_said d = record {
  over = size_said (over_at d);
  rest = whole_said (text_of (rest_at d));
  actions = map (λ a. record {
    name = text_of (name_at a);
    gains = map (λ g. record { value = text_of (at_place 0 g); gain = whole_said (text_of (at_place 1 g)) }) (members (gains_at a));
  }) (members (actions_at d));
}

abbrev pub cert_said : Data → CertTree
cert_said d =
    let rows = map (λ row. map (λ f. fraction_said (text_of f)) (members row)) (members (at_key (codes "matrix") d)) in
    if says_yes d then (if has_entry_keys d then Named (named_said d) else Yes rows) else No (table_said d)

-- ---- the rules in their order

-- the places of the entries that a certificate names ascend strictly, and all are places of the matrix
abbrev pub names_in_order : CertTree → Bool
names_in_order (Named t) = ascends t.entries && list_all (λ e. nat_lt e.row t.rows && nat_lt e.column t.columns) t.entries
names_in_order c = true

-- the keys of a yes whose matrix stands row by row
abbrev pub has_matrix_keys : Data → Bool
has_matrix_keys d = has_keys (codes "format" ∷ codes "matrix" ∷ codes "verdict" ∷ []) d

-- the keys of a no
abbrev pub has_table_keys : Data → Bool
has_table_keys d = has_keys (codes "actions" ∷ codes "format" ∷ codes "over" ∷ codes "rest" ∷ codes "verdict" ∷ []) d

-- the format of a yes with these keys
abbrev pub has_yes_format : Data → Bool
has_yes_format d = if has_entry_keys d then is_second_format d else is_first_format d

-- the rules in their order, each over the whole value with the answer where it is broken; a later one presupposes those before it: the
-- verdict is one of two texts; the keys are exactly those of one of the two forms of a yes, or those of a no; named entries are of the
-- second format, a matrix row by row is of the first, and a no is of either; a yes has its matrix in the way of its keys; a no has its
-- numbers and actions; its actions have names and gains; no number is too wide; the named entries are in their order
abbrev pub rules : Data → List (Bool × CertError)
rules d =
    (says_yes d || is_the_text (codes "no") (at_key (codes "verdict") d), broken.Form 1)
    ∷ ((if says_yes d then has_matrix_keys d || has_entry_keys d else has_table_keys d), broken.Form 2)
    ∷ ((if says_yes d then has_yes_format d else is_first_format d || is_second_format d), broken.Form 3)
    ∷ (not (says_yes d) || (if has_entry_keys d then has_entries d else has_rows d), broken.Form 4)
    ∷ (says_yes d || (has_numbers d && has_actions d), broken.Form 5)
    ∷ (says_yes d || list_all is_named_action (members (actions_at d)), broken.Form 6)
    ∷ ((if says_yes d then (if has_entry_keys d then are_narrow_entries d else is_narrow_matrix d) else is_narrow_table d), broken.Wide)
    ∷ (names_in_order (cert_said d), broken.Form 7) ∷ []

-- the certificate that a file's bytes are: what their value says, or the first rule that it breaks
abbrev pub cert_of : List ℕ → Result CertTree CertError
cert_of bytes = elim (json_of bytes) [
  | None ↦ Err broken.Json
  | Some d ↦ elim (first_broken (rules d) None) [ None ↦ Ok (cert_said d) | Some e ↦ Err e ]
]
