-- Numerals: one that does not fit 16 bits says no number from 1 to 65,535, one of nine digits fits 32 bits, and two may stand around a mark.
use Rattle.std.proofs.Common.{◌≡◌, ◌≢◌, ℕ, suc, ◌<◌, ◌≤◌, ◌^◌, List, [], ◌∷◌, ◌++◌, length, drop, get_or, nat_eq, ⊎_elim, Bool, true, false, ◌&&◌, nat_le, None, Some, Option, Result, refl, sym, ◌∙◌, ap, subst, arith, true≢false, leb-true, if◌then◌else◌}
use Rattle.std.specs.Char.{is_ascii_digit, digit_value}
use Rattle.std.specs.List.{list_all, starts_with}
use Rattle.std.specs.Prelude.{option_and_then, option_map}
use Rattle.std.specs.Result.{result_ok}
use Rattle.std.specs.Str.Parse.{AllDigits, IsNumeral, ParsesUnsigned, digits_value, without_leading_plus}
use Rattle.std.proofs.lemmas.Str.{digit_value_digit}
use Rattle.std.proofs.lemmas.Str.Parse.{IsNumeralModel, numerals_by_value, tells_digits, digits_value_short, parse_gives, without_leading_plus_none}
use Rattle.std.proofs.lemmas.Bool.{cases_Bool, lt-leb}
use Rattle.std.proofs.lemmas.Bool.Decides.{Decides-eqb}
use Rattle.std.proofs.lemmas.List.{drop_at}
use Rattle.std.proofs.lemmas.Slice.Eq.{starts_is}
use Rattle.std.specs.Str.Pattern.{FindsText, LacksTextAt}
use Rattle.kf_words.specs.Numbers.{around, pair_of, is_numeral, numeral_of, number_of}
use Rattle.kf_words.specs.OfWords.{in_range}

pub both : (a b : Bool) → (a && b) ≡ true → (a ≡ true) × (b ≡ true)
both true true h = (refl, refl)
both true false h = absurd (true≢false (sym h))
both false b h = absurd (true≢false (sym h))

digit : (c : ℕ) → is_ascii_digit c ≡ true → (48 ≤ c) × (c ≤ 57)
digit c h = let p = both (nat_le 48 c) (nat_le c 57) h in (leb-true 48 c p.0, leb-true c 57 p.1)

below_ten : (c : ℕ) → is_ascii_digit c ≡ true → digit_value c < 10
below_ten c h = let p = digit c h in let v = digit_value_digit c p in omega (arith, v, p.0, p.1)

all_digits : (cs : List ℕ) → list_all is_ascii_digit cs ≡ true → AllDigits 10 cs
all_digits [] h = tt
all_digits (c ∷ cs) h = let p = both (is_ascii_digit c) (list_all is_ascii_digit cs) h in (below_ten c p.0, all_digits cs p.1)

no_plus : (cs : List ℕ) → list_all is_ascii_digit cs ≡ true → get_or cs 0 0 ≢ 43
no_plus [] h e = omega (arith, e)
no_plus (c ∷ cs) h e = let p = digit c (both (is_ascii_digit c) (list_all is_ascii_digit cs) h).0 in omega (arith, e, p.0)

and_false : (b : Bool) → (b && false) ≡ false
and_false true = refl
and_false false = refl

or_else : (v : ℕ) → (v < 65536 → ⊥) → 65535 < v
or_else v not_few = omega (arith, not_few)

past : (v : ℕ) → 65535 < v → in_range v ≡ None
past v far = ap (λ b. if nat_le 1 v && b then Some v else None) (lt-leb v 65535 far) ∙ ap (λ b. if b then Some v else None) (and_false (nat_le 1 v))

-- a numeral is read with no sign
module _ (most : ℕ) (word : List ℕ) (numeral : is_numeral most word ≡ true) where
  long : 1 ≤ length word
  long = leb-true 1 (length word) (both (nat_le 1 (length word)) (nat_le (length word) most && list_all is_ascii_digit word) numeral).0

  short_and_digits : (nat_le (length word) most ≡ true) × (list_all is_ascii_digit word ≡ true)
  short_and_digits =
      both (nat_le (length word) most) (list_all is_ascii_digit word) (both (nat_le 1 (length word)) (nat_le (length word) most && list_all is_ascii_digit word) numeral).1

  short : length word ≤ most
  short = leb-true (length word) most short_and_digits.0

  without_options : without_leading_plus word ≡ word
  without_options = without_leading_plus_none word (no_plus word short_and_digits.1)

-- one of at most five digits
module _ (word : List ℕ) (numeral : is_numeral 5 word ≡ true) where
  is : number_of word ≡ in_range (digits_value 10 word)
  is = ap (λ b. option_and_then in_range (if b then Some (digits_value 10 word) else None)) numeral

  many : ¬ (IsNumeral 10 (without_leading_plus word) × (digits_value 10 (without_leading_plus word) < 65536)) → 65535 < digits_value 10 word
  many none = or_else (digits_value 10 word)
      (λ few. none (subst (λ w. IsNumeral 10 w × (digits_value 10 w < 65536)) (sym (without_options 5 word numeral)) ((long 5 word numeral, all_digits word (short_and_digits 5 word numeral).1), few)))

  pub unread : ¬ (IsNumeral 10 (without_leading_plus word) × (digits_value 10 (without_leading_plus word) < 65536)) → number_of word ≡ None
  unread none = is ∙ past (digits_value 10 word) (many none)

-- one of at most nine digits fits 32 bits
pub read_long : {E : Type 0} (most : ℕ) (word : List ℕ) (r : Result ℕ E) → most ≤ 9 → is_numeral most word ≡ true → ParsesUnsigned 32 10 word r → result_ok r ≡ numeral_of most word
read_long most word r few numeral parsed =
    let digits = all_digits word (short_and_digits most word numeral).1 in
    let own : IsNumeralModel (AllDigits 10) (digits_value 10) = numerals_by_value (AllDigits 10) tells_digits in
    let within = short most word numeral in
    let low = digits_value_short own word 9 digits (omega (arith, few, within)) in
    let fits : digits_value 10 word < 2 ^ 32 = omega (arith, low) in
    ap result_ok (parse_gives own 32 word r parsed digits (long most word numeral) fits) ∙ sym (ap (λ b. if b then Some (digits_value 10 word) else None) numeral)

-- ---- around a mark

stands : (bs mark rest : List ℕ) → bs ≡ mark ++ rest → starts_with nat_eq bs mark ≡ true
stands bs mark rest is = (starts_is Decides-eqb bs mark (starts_with nat_eq bs mark) refl).1 rest is

no_start : (bs mark : List ℕ) → LacksTextAt mark bs 0 → starts_with nat_eq bs mark ≡ false
no_start bs mark lacks =
    ⊎_elim (λ (e : starts_with nat_eq bs mark ≡ true). absurd (lacks (drop (length mark) bs) ((starts_is Decides-eqb bs mark (starts_with nat_eq bs mark) refl).0 e))) (λ e. e)
    (cases_Bool (starts_with nat_eq bs mark))

-- a mark that isn't empty
module _ (m : ℕ) (ms : List ℕ) where
  -- what stands around the mark behind a byte at which it doesn't begin
  behind : (b : ℕ) (bs : List ℕ) → starts_with nat_eq (b ∷ bs) (m ∷ ms) ≡ false → around (m ∷ ms) (b ∷ bs) ≡ option_map (λ p. (b ∷ p.0, p.1)) (around (m ∷ ms) bs)
  behind b bs other = ap (λ t. if t then Some ([], drop (length (m ∷ ms)) (b ∷ bs)) else option_map (λ p. (b ∷ p.0, p.1)) (around (m ∷ ms) bs)) other

  without : (bs : List ℕ) → ((i : ℕ) → i ≤ length bs → LacksTextAt (m ∷ ms) bs i) → around (m ∷ ms) bs ≡ None
  without [] lacks = refl
  without (b ∷ bs) lacks =
      behind b bs (no_start (b ∷ bs) (m ∷ ms) (lacks 0 (omega arith)))
      ∙ ap (option_map (λ p. (b ∷ p.0, p.1))) (without bs (λ i within. lacks (suc i) (omega (arith, within))))

  at_mark : (xs ys : List ℕ) → ((i : ℕ) → i < length xs → LacksTextAt (m ∷ ms) (xs ++ (m ∷ (ms ++ ys))) i) → around (m ∷ ms) (xs ++ (m ∷ (ms ++ ys))) ≡ Some (xs, ys)
  at_mark [] ys lacks =
      ap (λ t. if t then Some ([], drop (length (m ∷ ms)) (m ∷ (ms ++ ys))) else option_map (λ p. (m ∷ p.0, p.1)) (around (m ∷ ms) (ms ++ ys)))
      (stands (m ∷ (ms ++ ys)) (m ∷ ms) ys refl)
      ∙ ap (λ (rest : List ℕ). Some ([], rest)) (drop_at (m ∷ ms) ys (length (m ∷ ms)) refl)
  at_mark (b ∷ xs) ys lacks =
      behind b (xs ++ (m ∷ (ms ++ ys))) (no_start (b ∷ (xs ++ (m ∷ (ms ++ ys)))) (m ∷ ms) (lacks 0 (omega arith)))
      ∙ ap (option_map (λ p. (b ∷ p.0, p.1))) (at_mark xs ys (λ i within. lacks (suc i) (omega (arith, within))))

-- ---- two numbers around a mark

-- two numbers, where both are there
abbrev pub both_numbers : Option ℕ → Option ℕ → Option (ℕ × ℕ)
both_numbers a b = option_and_then (λ n. option_map (λ d. (n, d)) b) a

-- what a word says by what stands around its mark
abbrev by_parts : ℕ → Option (List ℕ × List ℕ) → Option (ℕ × ℕ)
by_parts most parts = option_and_then (λ p. both_numbers (numeral_of most p.0) (numeral_of most p.1)) parts

pub no_parts : (most : ℕ) (mark word : List ℕ) → 0 < length mark → FindsText mark word None → pair_of most mark word ≡ None
no_parts most [] word some lacks = absurd (omega (arith, some))
no_parts most (m ∷ ms) word some lacks = ap (by_parts most) (without m ms word lacks)

pub with_parts : (most : ℕ) (mark word first second : List ℕ) → 0 < length mark → word ≡ first ++ (mark ++ second)
    → ((i : ℕ) → i < length first → LacksTextAt mark word i) → pair_of most mark word ≡ both_numbers (numeral_of most first) (numeral_of most second)
with_parts most [] word first second some is lacks = absurd (omega (arith, some))
with_parts most (m ∷ ms) word first second some is lacks =
    ap (pair_of most (m ∷ ms)) is
    ∙ ap (by_parts most) (at_mark m ms first second (λ i within. subst (λ (w : List ℕ). LacksTextAt (m ∷ ms) w i) is (lacks i within)))
