-- Believed: the numbers that words denote.
use Rattle.std.specs.Prelude.{ℕ, ◌+◌, List, [], ◌∷◌, Bool, ◌&&◌, Option, None, Some, codes, drop, length, nat_eq, nat_le, if◌then◌else◌}
use Rattle.std.specs.Prelude.{option_map, option_and_then}
use Rattle.std.specs.Char.{is_ascii_digit}
use Rattle.std.specs.List.{list_all, starts_with}
use Rattle.std.specs.Str.Parse.{digits_value}

-- a word of decimal digits, at least one and at most `most`
abbrev pub is_numeral : ℕ → List ℕ → Bool
is_numeral most word = nat_le 1 (length word) && (nat_le (length word) most && list_all is_ascii_digit word)

-- any number of one to `most` digits
abbrev pub numeral_of : ℕ → List ℕ → Option ℕ
numeral_of most word = if is_numeral most word then Some (digits_value 10 word) else None

-- a number from 1 to 65,535, of one to five digits
abbrev pub number_of : List ℕ → Option ℕ
number_of word = option_and_then (λ n. if nat_le 1 n && nat_le n 65535 then Some n else None) (numeral_of 5 word)

-- what stands before the first such mark and after it
abbrev pub around : List ℕ → List ℕ → Option (List ℕ × List ℕ)
around mark [] = None
around mark (b ∷ bs) =
    if starts_with nat_eq (b ∷ bs) mark then Some ([], drop (length mark) (b ∷ bs)) else option_map (λ p. (b ∷ p.0, p.1)) (around mark bs)

-- two numbers of one to `most` digits with a mark between
abbrev pub pair_of : ℕ → List ℕ → List ℕ → Option (ℕ × ℕ)
pair_of most mark word =
    option_and_then (λ p. option_and_then (λ n. option_map (λ d. (n, d)) (numeral_of most p.1)) (numeral_of most p.0)) (around mark word)

-- two numbers of at most nine digits with a slash between
abbrev pub ratio_of : List ℕ → Option (ℕ × ℕ)
ratio_of word = pair_of 9 (codes "/") word

-- a probability above 0 and below 1
abbrev pub probability_of : List ℕ → Option (ℕ × ℕ)
probability_of word = option_and_then (λ p. if nat_le 1 p.0 && nat_le (p.0 + 1) p.1 then Some p else None) (ratio_of word)

-- a probability above 0 and at most 1
abbrev pub threshold_of : List ℕ → Option (ℕ × ℕ)
threshold_of word = option_and_then (λ p. if nat_le 1 p.0 && nat_le p.0 p.1 then Some p else None) (ratio_of word)

-- a block of statements: two numbers of at most five digits with `..` between, the first below the second
abbrev pub block_of : List ℕ → Option (ℕ × ℕ)
block_of word = option_and_then (λ p. if nat_le (p.0 + 1) p.1 then Some p else None) (pair_of 5 (codes "..") word)
