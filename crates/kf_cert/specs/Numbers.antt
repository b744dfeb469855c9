-- Believed: numbers as certificates write them, in texts of any length.
use Rattle.std.specs.Prelude.{ℕ, ◌&&◌, ◌||◌, ◌==◌, nat_le, ℤ, pos, neg_ℤ, List, [], ◌∷◌, length, Bool, true, false, not, Option, None, Some, codes, bytes_eq, slice_index, if◌then◌else◌, drop}
use Rattle.std.specs.Char.{is_ascii_digit}
use Rattle.std.specs.List.{list_all}
use Rattle.std.specs.Str.Parse.{digits_value}
use Rattle.kf_frac.specs.Fractions.{reduced_num, reduced_den}
use Rattle.kf_refine.specs.Refinements.{Fraction}
use mathlib.Core.List.{foldr}

-- decimal digits, without a 0 before others
abbrev pub is_numeral : List ℕ → Bool
is_numeral digits =
    nat_le 1 (length digits) && (list_all is_ascii_digit digits && ((length digits == 1) || not (slice_index digits 0 == 48)))

-- a `-` stands first
abbrev pub is_negative : List ℕ → Bool
is_negative [] = false
is_negative (b ∷ text) = b == 45

-- what stands behind the `-`, or the whole text
abbrev pub past_sign : List ℕ → List ℕ
past_sign text = if is_negative text then drop 1 text else text

-- what stands before the first `/`
abbrev pub before_bar : List ℕ → List ℕ
before_bar text = foldr (λ b front. if b == 47 then [] else b ∷ front) [] text

-- what stands behind it
abbrev pub behind_bar : List ℕ → Option (List ℕ)
behind_bar [] = None
behind_bar (b ∷ text) = if b == 47 then Some text else behind_bar text

-- a whole number, maybe before a `/` and the digits of a denominator, which isn't 0
abbrev pub is_fraction_text : List ℕ → Bool
is_fraction_text text =
    is_numeral (before_bar (past_sign text))
    && elim (behind_bar text) [ None ↦ true | Some digits ↦ is_numeral digits && not (bytes_eq digits (codes "0")) ]

-- n, or minus n behind a `-`
abbrev pub with_sign : List ℕ → ℕ → ℤ
with_sign text n = if is_negative text then neg_ℤ (pos n) else pos n

-- the whole number that a text is
abbrev pub whole_said : List ℕ → ℤ
whole_said text = with_sign text (digits_value 10 (past_sign text))

-- the numerator and the denominator of a fraction as it is written
abbrev pub numerator_said : List ℕ → ℤ
numerator_said text = with_sign text (digits_value 10 (before_bar (past_sign text)))

abbrev pub denominator_said : List ℕ → ℕ
denominator_said text = elim (behind_bar text) [ None ↦ 1 | Some digits ↦ digits_value 10 digits ]

-- the fraction, in lowest terms
abbrev pub fraction_said : List ℕ → Fraction
fraction_said text = record {
  num = reduced_num (numerator_said text) (denominator_said text);
  den = reduced_den (numerator_said text) (denominator_said text);
}
