-- Believed: certificates as they are written.
use Rattle.std.specs.Prelude.{ℕ, ◌==◌, max, unsigned_abs, List, [], ◌∷◌, ◌++◌, map, length, codes, if◌then◌else◌, flat_map}
use Rattle.std.specs.Fmt.{decimal, signed_decimal}
use Rattle.std.specs.List.{enumerate_from}
use Rattle.serde_json.specs.Data.{Data, string, array, object, Items, no_items, item, no_members, member}
use Rattle.serde_json.specs.Written.{compact_text}
use Rattle.kf_frac.specs.Fractions.{fraction_text}
use Rattle.kf_value.specs.Targets.{Item, target_value_text}
use Rattle.kf_gain.specs.declared.table.Action.{Action}
use Rattle.kf_refine.specs.Refinements.{Fraction}
use Rattle.kf_refine.specs.Verdicts.{VerdictTree, Yes, No}
use Rattle.kf_cert.specs.Certificates.{EntryTree, NamedTree}
use mathlib.Core.List.{foldr}

abbrev pub items : List Data → Items
items ds = foldr item no_items ds

-- an action: each of its gains is the text of a value, and that of the gain
abbrev pub action_data : List Item → Action → Data
action_data target a =
    let gains = map (λ e. array (item (string (target_value_text target e.value))
    (item (string (signed_decimal e.gain)) no_items))) a.gains in
    object (member (codes "gains") (array (items gains)) (member (codes "name") (string a.name) no_members))

-- a matrix by its entries: each is the texts of its row, its column and its value
abbrev pub named_data : NamedTree → Data
named_data t =
    let entries = map (λ e. array (item (string (decimal e.row)) (item (string (decimal e.column))
    (item (string (fraction_text e.value.num e.value.den)) no_items)))) t.entries in
    object (member (codes "columns") (string (decimal t.columns))
    (member (codes "entries") (array (items entries))
    (member (codes "format") (string (codes "kuifje-cert-2"))
    (member (codes "rows") (string (decimal t.rows))
    (member (codes "verdict") (string (codes "yes")) no_members)))))

-- ---- a matrix by its entries that aren't 0

-- those of row i, from column j on
abbrev pub row_entries : ℕ → ℕ → List Fraction → List EntryTree
row_entries i j row =
    flat_map (λ (c : ℕ × Fraction). if unsigned_abs c.1.num == 0 then [] else record { row = i; column = c.0; value = c.1 } ∷ [])
    (enumerate_from j row)

-- as many rows as there are, as many columns as the longest has, and the entries that aren't 0 in the order of their places
abbrev pub named_of : List (List Fraction) → NamedTree
named_of rows =
    let entries = flat_map (λ r. row_entries r.0 0 r.1) (enumerate_from 0 rows) in
    record { rows = length rows; columns = foldr max 0 (map length rows); entries = entries }

-- ---- the text

-- the JSON value of a verdict on hypers of a target
abbrev pub cert_data : List Item → VerdictTree → Data
cert_data target (Yes rows) = named_data (named_of rows)
cert_data target (No t) =
    object (member (codes "actions") (array (items (map (action_data target) t.actions)))
    (member (codes "format") (string (codes "kuifje-cert-2"))
    (member (codes "over") (string (decimal t.over))
    (member (codes "rest") (string (signed_decimal t.rest))
    (member (codes "verdict") (string (codes "no")) no_members)))))

-- its text without spaces, and LF
abbrev pub cert_text : List Item → VerdictTree → List ℕ
cert_text target v = compact_text (cert_data target v) ++ 10 ∷ []
