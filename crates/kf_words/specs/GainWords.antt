-- Believed: how a word names a gain.
use Rattle.std.specs.Prelude.{ℕ, List, [], ◌∷◌, drop, None, Some, codes, nat_eq, if◌then◌else◌}
use Rattle.std.specs.List.{starts_with}
use Rattle.std.specs.Str.{bytes_eq}
use Rattle.std.specs.Option.{option_map}
use Rattle.std.specs.declared.option.Option.{Option}
use Rattle.kf_gain.specs.Gains.{GainOf, Bayes, Tries, Guessing, Table}
use Rattle.kf_words.specs.Numbers.{number_of}

-- the gain that a word names; a number of tries is 1 to 65,535, and the name of a table's file isn't empty
abbrev pub gain_named : List ℕ → Option (GainOf (List ℕ))
gain_named word =
    if bytes_eq word (codes "bayes") then Some Bayes
    else (if bytes_eq word (codes "guessing") then Some Guessing
    else (if starts_with nat_eq word (codes "tries:") then option_map Tries (number_of (drop 6 word))
    else (if starts_with nat_eq word (codes "table:")
    then elim (drop 6 word) [ [] ↦ None | b ∷ name ↦ Some (Table (b ∷ name)) ] else None)))
