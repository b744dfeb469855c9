-- Believed: rules on what stands in a JSON file: names, texts that differ, and the first rule that is broken.
use Rattle.std.specs.Prelude.{ℕ, ◌&&◌, ◌||◌, ◌==◌, nat_le, List, [], ◌∷◌, length, Bool, true, not, Option, Some, bytes_eq, if◌then◌else◌}
use Rattle.std.specs.List.{list_all, list_any}
use Rattle.serde_json.specs.Data.{Data}
use Rattle.kf_json.specs.Json.{is_text, text_of}

-- ASCII letters and digits, `_` and `-`
abbrev pub is_name_byte : ℕ → Bool
is_name_byte b = (nat_le 48 b && nat_le b 57) || (nat_le 65 b && nat_le b 90) || (nat_le 97 b && nat_le b 122) || (b == 95) || (b == 45)

-- a text of 1 to 64 of these
abbrev pub is_name : Data → Bool
is_name d = is_text d && nat_le 1 (length (text_of d)) && nat_le (length (text_of d)) 64 && list_all is_name_byte (text_of d)

-- no two of the texts are equal
abbrev pub are_distinct : List (List ℕ) → Bool
are_distinct [] = true
are_distinct (t ∷ ts) = not (list_any (bytes_eq t) ts) && are_distinct ts

-- rules in their order, each with the answer where it is broken: the first that is broken; none where all hold, and then what comes next
abbrev pub first_broken : {E : Type 0} → List (Bool × E) → Option E → Option E
first_broken [] next = next
first_broken (rule ∷ rules) next = if rule.0 then first_broken rules next else Some rule.1
