-- For bodies: what the steps of reading a certificate give, and what they test.
use Rattle.std.specs.Prelude.{◌&&◌, Bool, if◌then◌else◌}
use Rattle.std.specs.List.{list_all}
use Rattle.serde_json.specs.Data.{Data}
use Rattle.kf_json.specs.Json.{members, at_place, text_of}
use Rattle.kf_cert.specs.Numbers.{is_fraction_text, whole_said}
use Rattle.kf_cert.specs.Certificates.{says_yes, has_entry_keys, is_narrow_fraction, is_narrow_whole}
use Rattle.kf_cert.specs.declared.cert.CertEntry.{CertEntry}
use Rattle.kf_cert.specs.Forms.{matrix_at, rows_at, columns_at, entries_at, is_whole_text}
use Rattle.kf_gain.specs.Tables.{over_at, rest_at, actions_at, gains_at}

-- an entry as it is read
abbrev pub gain_said : Data → CertEntry
gain_said g = record { value = text_of (at_place 0 g); gain = whole_said (text_of (at_place 1 g)) }

-- a fraction, and all of a row or a matrix, are read where no part is too wide
abbrev pub reads_fraction : Data → Bool
reads_fraction d = is_fraction_text (text_of d) && is_narrow_fraction d

abbrev pub reads_row : Data → Bool
reads_row row = list_all reads_fraction (members row)

abbrev pub reads_matrix : Data → Bool
reads_matrix d = list_all reads_row (members (matrix_at d))

-- and so are a whole number, and all of a named entry, an action or a table
abbrev pub reads_whole : Data → Bool
reads_whole d = is_whole_text (text_of d) && is_narrow_whole d

abbrev pub reads_entry : Data → Bool
reads_entry e = reads_whole (at_place 0 e) && (reads_whole (at_place 1 e) && reads_fraction (at_place 2 e))

abbrev pub reads_named : Data → Bool
reads_named d = reads_whole (rows_at d) && (reads_whole (columns_at d) && list_all reads_entry (members (entries_at d)))

abbrev pub reads_gain : Data → Bool
reads_gain g = reads_whole (at_place 1 g)

abbrev pub reads_action : Data → Bool
reads_action a = list_all reads_gain (members (gains_at a))

abbrev pub reads_table : Data → Bool
reads_table d = reads_whole (over_at d) && (reads_whole (rest_at d) && list_all reads_action (members (actions_at d)))

abbrev pub reads_yes : Data → Bool
reads_yes d = if has_entry_keys d then reads_named d else reads_matrix d

abbrev pub reads_cert : Data → Bool
reads_cert d = if says_yes d then reads_yes d else reads_table d
