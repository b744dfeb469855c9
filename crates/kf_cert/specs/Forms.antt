-- For bodies: the rules of certificates one by one.
use Rattle.std.specs.Prelude.{codes, Bool, ◌||◌, if◌then◌else◌, not, ◌&&◌, ℕ, List, bytes_eq}
use Rattle.std.specs.List.{list_all}
use Rattle.serde_json.specs.Data.{Data}
use Rattle.kf_json.specs.Json.{at_key, at_place, is_list, is_the_text, members}
use Rattle.kf_cert.specs.Certificates.{is_fraction, is_narrow_whole, says_yes, has_entry_keys, is_first_format, is_second_format, has_rows, has_entries, has_numbers, has_actions, is_named_action, is_narrow_matrix, are_narrow_entries, is_narrow_table, has_matrix_keys, has_table_keys, has_yes_format}
use Rattle.kf_cert.specs.Numbers.{is_numeral, past_sign}
use Rattle.kf_gain.specs.Tables.{actions_at, gains_at}

abbrev pub verdict_at : Data → Data
verdict_at d = at_key (codes "verdict") d

abbrev pub matrix_at : Data → Data
matrix_at d = at_key (codes "matrix") d

abbrev pub rows_at : Data → Data
rows_at d = at_key (codes "rows") d

abbrev pub columns_at : Data → Data
columns_at d = at_key (codes "columns") d

abbrev pub entries_at : Data → Data
entries_at d = at_key (codes "entries") d

abbrev pub says_no : Data → Bool
says_no d = is_the_text (codes "no") (verdict_at d)

-- Form 1: an object whose verdict is one of two texts
abbrev pub form_1 : Data → Bool
form_1 d = says_yes d || says_no d

-- Form 2: exactly the keys of one of the two forms of a yes, or those of a no
abbrev pub form_2 : Data → Bool
form_2 d = if says_yes d then has_matrix_keys d || has_entry_keys d else has_table_keys d

-- Form 3: named entries are of the second format, a matrix row by row is of the first, and a no is of either
abbrev pub form_3 : Data → Bool
form_3 d = if says_yes d then has_yes_format d else is_first_format d || is_second_format d

-- a list of fractions
abbrev pub is_row : Data → Bool
is_row d = is_list d && list_all is_fraction (members d)

-- the matrix stands in the way of its keys
abbrev pub has_its_matrix : Data → Bool
has_its_matrix d = if has_entry_keys d then has_entries d else has_rows d

-- Form 4: a yes has its matrix in one of these ways
abbrev pub form_4 : Data → Bool
form_4 d = not (says_yes d) || has_its_matrix d

-- Form 5: a no has these
abbrev pub form_5 : Data → Bool
form_5 d = says_yes d || (has_numbers d && has_actions d)

-- Form 6: each action of a no is such
abbrev pub form_6 : Data → Bool
form_6 d = says_yes d || list_all is_named_action (members (actions_at d))

-- all gains of an action are narrow
abbrev pub is_narrow_action : Data → Bool
is_narrow_action a = list_all (λ g. is_narrow_whole (at_place 1 g)) (members (gains_at a))

-- all numbers of a yes are
abbrev pub is_narrow_yes : Data → Bool
is_narrow_yes d = if has_entry_keys d then are_narrow_entries d else is_narrow_matrix d

-- Wide is broken where some number is wider
abbrev pub narrow : Data → Bool
narrow d = if says_yes d then is_narrow_yes d else is_narrow_table d

-- a whole number: digits, maybe behind a `-`
abbrev pub is_whole_text : List ℕ → Bool
is_whole_text text = is_numeral (past_sign text)

-- the digits of a denominator, which isn't 0
abbrev pub is_denominator : List ℕ → Bool
is_denominator digits = is_numeral digits && not (bytes_eq digits (codes "0"))
