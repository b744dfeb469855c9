-- For bodies: what readers give of a text that begins with a value's.
use Rattle.std.specs.Prelude.{◌≡◌, ℕ, false, ◌||◌, ◌==◌, List, [], ◌∷◌, ◌++◌, map, slice_get, Option, None, Some, Bool, codes}
use Rattle.std.specs.Borrow.{Bor}
use Rattle.std.specs.Char.{is_ascii_digit}
use Rattle.std.specs.List.{flat_map}
use Rattle.kf_value.specs.Values.{ValueTree}
use Rattle.kf_value.specs.Types.{TypeTree, values, combinations, subsets}
use Rattle.kf_value.specs.Sizes.{HasNumber}
use Rattle.kf_value.specs.Texts.{text, separated}

-- a digit, or the sign of a whole number
abbrev pub is_numeric : ℕ → Bool
is_numeric c = is_ascii_digit c || (c == 45)

-- a text that no whole number goes on in
abbrev pub Stops : List ℕ → Type 0
Stops [] = Unit {0}
Stops (c ∷ r) = is_numeric c ≡ false

-- this is left of a text
abbrev pub IsLeft : Option (Bor (List ℕ)) → List ℕ → Type 0
IsLeft None r = ⊥
IsLeft (Some left) r = left.now ≡ r

-- this number was read, and this is left
abbrev pub IsRead : Option (ℕ × Bor (List ℕ)) → ℕ → List ℕ → Type 0
IsRead None n r = ⊥
IsRead (Some read) n r = (read.0 ≡ n) × (read.1.now ≡ r)

-- the texts of values in a row, then a closing byte and what follows it
abbrev pub row : List ValueTree → ℕ → List ℕ → List ℕ
row vs c r = separated (map text vs) ++ c ∷ r

-- the texts of further values, each behind a comma and a space, then a closing byte and what follows it
abbrev pub further : List ValueTree → ℕ → List ℕ → List ℕ
further vs c r = flat_map (λ u. codes ", " ++ u) (map text vs) ++ c ∷ r

-- each value of the type is read
abbrev pub ReadsValues : TypeTree → List ℕ → Option (ℕ × Bor (List ℕ)) → Type 0
ReadsValues t bytes read = (n : ℕ) (v : ValueTree) (r : List ℕ) → HasNumber t v n → Stops r → bytes ≡ text v ++ r → IsRead read n r

-- each row of values, one of each type, is read up to its closing parenthesis
abbrev pub ReadsRows : List TypeTree → List ℕ → Option (ℕ × Bor (List ℕ)) → Type 0
ReadsRows ts bytes read = (n : ℕ) (vs : List ValueTree) (r : List ℕ) → slice_get (combinations (map values ts)) n ≡ Some vs → bytes ≡ row vs 41 r
    → IsRead read n (41 ∷ r)

-- each part of the list of values is read up to its closing brace
abbrev pub ReadsParts : List ValueTree → List ℕ → ℕ × Bor (List ℕ) → Type 0
ReadsParts base bytes read = (n : ℕ) (vs : List ValueTree) (r : List ℕ) → slice_get (subsets base) n ≡ Some vs → bytes ≡ row vs 125 r
    → (read.0 ≡ n) × (read.1.now ≡ 125 ∷ r)
