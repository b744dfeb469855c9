-- For bodies: what parts of certificates say, and how parts of a verdict are written, by the names of the functions that read and write them.
use Rattle.std.specs.Prelude.{List, map, codes, Result, Ok, Err, None, Some, if◌then◌else◌, decimal}
use Rattle.std.specs.Fmt.{signed_decimal}
use Rattle.serde_json.specs.Data.{Data, string, array, object, no_items, item, no_members, member}
use Rattle.kf_frac.specs.Fractions.{fraction_text}
use Rattle.kf_json.specs.Json.{at_key, at_place, members, text_of}
use Rattle.kf_json.specs.Rules.{first_broken}
use Rattle.kf_value.specs.Targets.{Item, target_value_text}
use Rattle.kf_gain.specs.declared.table.GainEntry.{GainEntry}
use Rattle.kf_gain.specs.Gains.{TableTree}
use Rattle.kf_gain.specs.Tables.{gains_at, name_at}
use Rattle.kf_refine.specs.Refinements.{Fraction}
use Rattle.kf_cert.specs.Certificates.{CertTree, Named, Yes, EntryTree, cert_said, has_entry_keys, named_said, rules, size_said}
use Rattle.kf_cert.specs.Numbers.{fraction_said, whole_said}
use Rattle.kf_cert.specs.CertTexts.{action_data, items}
use Rattle.kf_cert.specs.declared.cert.CertAction.{CertAction}
use Rattle.kf_cert.specs.declared.cert.CertError.{CertError}

-- ---- what is read

-- the fractions of a row
abbrev pub row_said : Data → List Fraction
row_said row = map (λ f. fraction_said (text_of f)) (members row)

-- a named entry: its row, its column and its value
abbrev pub entry_said : Data → EntryTree
entry_said e = record {
  row = size_said (at_place 0 e);
  column = size_said (at_place 1 e);
  value = fraction_said (text_of (at_place 2 e));
}

-- an action of a table: its name, and the gains that it names
abbrev pub action_said : Data → CertAction
action_said a = record {
  name = text_of (name_at a);
  gains = map (λ g. record { value = text_of (at_place 0 g); gain = whole_said (text_of (at_place 1 g)) }) (members (gains_at a));
}

-- a yes: its matrix, by named entries or row by row
abbrev pub yes_said : Data → CertTree
yes_said d = if has_entry_keys d then Named (named_said d) else Yes (map row_said (members (at_key (codes "matrix") d)))

-- the first rule that a JSON value breaks, or what it says
abbrev pub cert_in : Data → Result CertTree CertError
cert_in d = elim (first_broken (rules d) None) [ None ↦ Ok (cert_said d) | Some e ↦ Err e ]

-- ---- what is written

-- the text of a value, and that of its gain
abbrev pub gain_data : List Item → GainEntry → Data
gain_data target e = array (item (string (target_value_text target e.value)) (item (string (signed_decimal e.gain)) no_items))

-- a named entry: the texts of its row, its column and its value
abbrev pub entry_data : EntryTree → Data
entry_data e =
    array (item (string (decimal e.row)) (item (string (decimal e.column))
    (item (string (fraction_text e.value.num e.value.den)) no_items)))

-- a no: a gain table
abbrev pub no_data : List Item → TableTree → Data
no_data target t =
    object (member (codes "actions") (array (items (map (action_data target) t.actions)))
    (member (codes "format") (string (codes "kuifje-cert-2"))
    (member (codes "over") (string (decimal t.over))
    (member (codes "rest") (string (signed_decimal t.rest))
    (member (codes "verdict") (string (codes "no")) no_members)))))
