-- Believed: the JSON value of a file's bytes, and the words in which rules on such a value are stated.
use Rattle.std.specs.Prelude.{ℕ, ◌==◌, ◌&&◌, ℤ, pos, List, [], ◌∷◌, length, Bool, false, Option, None, Some, is_some, unwrap_or, option_and_then, if◌then◌else◌, bytes_eq}
use Rattle.std.specs.Str.{is_utf8}
use Rattle.std.specs.List.{list_all}
use Rattle.serde_json.specs.Data.{Data, null, Items, no_items, item}
use Rattle.serde_json.specs.Read.{read}
use Rattle.serde_json.specs.Find.{get, at, as_number, as_str, as_array, as_object, as_integer}
use Rattle.serde_json.specs.Events.{members_len}

-- the value that the bytes are, where they are UTF-8 and JSON
abbrev pub json_of : List ℕ → Option Data
json_of bytes = if is_utf8 bytes then read bytes else None

-- ---- objects

-- an object with these keys, which differ, and with no others
abbrev pub has_keys : List (List ℕ) → Data → Bool
has_keys keys d = elim (as_object d) [ None ↦ false | Some ms ↦ (members_len ms == length keys) && list_all (λ k. is_some (get k d)) keys ]

-- what an object has at a key; `null` where it has nothing
abbrev pub at_key : List ℕ → Data → Data
at_key key d = unwrap_or (get key d) null

-- ---- lists

abbrev pub is_list : Data → Bool
is_list d = is_some (as_array d)

abbrev pub listed : Items → List Data
listed no_items = []
listed (item d ds) = d ∷ listed ds

-- the members of a list in their order; none where it is no list
abbrev pub members : Data → List Data
members d = elim (as_array d) [ None ↦ [] | Some ds ↦ listed ds ]

-- the member of a list at a place, from 0; `null` where it has none
abbrev pub at_place : ℕ → Data → Data
at_place place d = unwrap_or (at place d) null

-- ---- texts

abbrev pub is_text : Data → Bool
is_text d = is_some (as_str d)

-- the bytes of a text; none where it is no text
abbrev pub text_of : Data → List ℕ
text_of d = unwrap_or (as_str d) []

-- this text
abbrev pub is_the_text : List ℕ → Data → Bool
is_the_text bytes d = elim (as_str d) [ None ↦ false | Some found ↦ bytes_eq found bytes ]

-- ---- whole numbers: those that the reading keeps as whole, so no fraction, no power of ten, no -0, and none that 64 bits don't hold

abbrev pub as_whole : Data → Option ℤ
as_whole d = option_and_then as_integer (as_number d)

abbrev pub is_whole : Data → Bool
is_whole d = is_some (as_whole d)

-- the number; 0 where it is no whole number
abbrev pub whole_of : Data → ℤ
whole_of d = unwrap_or (as_whole d) (pos 0)
