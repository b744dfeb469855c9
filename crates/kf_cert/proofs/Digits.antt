-- Signs, bars and digits in the texts of numbers.
use Rattle.std.proofs.Common.{◌≡◌, ◌<◌, ◌≤◌, ◌+◌, ◌*◌, ℕ, zero, suc, pos, neg_ℤ, int_le, List, [], ◌∷◌, take, drop, length, Bool, true, false, not, ◌&&◌, ◌||◌, ◌==◌, cond, nat_le, Option, None, Some, Err, refl, sym, ap, ◌∙◌, subst, true≢false, arith, ⊎_elim}
use Rattle.std.specs.Prelude.{◌≢◌, if◌then◌else◌, bytes_eq, codes, slice_index}
use Rattle.std.specs.Char.{is_ascii_digit, digit_value}
use Rattle.std.specs.List.{list_all, position_or_len, before_first, after_first}
use Rattle.std.specs.Str.Parse.{digits_value, digits_value_after, ParsesUnsigned}
use Rattle.std.specs.Str.{all_ascii_digits}
use Rattle.std.specs.Int.{IsInRange}
use Rattle.std.proofs.lemmas.Str.{digit_value_digit}
use Rattle.std.proofs.lemmas.Bool.{cases_eq, ne_eqb, cases_Bool, leb-true, le-leb}
use Rattle.std.proofs.lemmas.Slice.Eq.{bytes_eq-Decides}
use Rattle.std.proofs.lemmas.Str.Parse.{parse_digits, numerals_by_value, tells_all_ascii_digits}
use Rattle.kf_frac.specs.Fractions.{limit}
use Rattle.kf_gain.proofs.Entries.{split_and}
use Rattle.kf_cert.specs.Numbers.{is_numeral, past_sign, before_bar, behind_bar, is_negative, is_fraction_text, whole_said, denominator_said}
use Rattle.kf_cert.specs.Forms.{is_whole_text, is_denominator}

-- a text that doesn't begin with `-` has no sign
pub no_sign : (bs : List ℕ) → ((rest : List ℕ) → bs ≢ 45 ∷ rest) → bs ≡ past_sign bs
no_sign [] h = refl
no_sign (b ∷ text) h =
    ⊎_elim
    (λ (same : b ≡ 45). absurd (h text (ap (λ x. x ∷ text) same)))
    (λ (apart : b ≡ 45 → ⊥). sym (ap (λ t. if t then text else b ∷ text) (ne_eqb b 45 apart)))
    (cases_eq b 45)

abbrev is_bar : ℕ → Bool
is_bar b = b == 47

-- before and behind the bar, in std's words
before_step : (t : Bool) (b n : ℕ) (text : List ℕ) → before_bar text ≡ take n text → (if t then [] else b ∷ before_bar text) ≡ take (cond (not t) (1 + n) 0) (b ∷ text)
before_step true b n text is = refl
before_step false b n text is =
    let one : suc n ≡ 1 + n = omega arith in
    ap (λ ds. b ∷ ds) is ∙ ap (λ k. take k (b ∷ text)) one

pub before_is : (bs : List ℕ) → before_bar bs ≡ before_first is_bar bs
before_is [] = refl
before_is (b ∷ text) = before_step (b == 47) b (position_or_len is_bar text) text (before_is text)

behind_step : (t : Bool) (b n : ℕ) (text : List ℕ) → cond (not t) (1 + n) 0 < suc (length text) → (n < length text → behind_bar text ≡ Some (drop (n + 1) text))
    → (if t then Some text else behind_bar text) ≡ Some (drop (cond (not t) (1 + n) 0 + 1) (b ∷ text))
behind_step true b n text within is = refl
behind_step false b n text within is =
    let one : suc (n + 1) ≡ 1 + n + 1 = omega arith in
    is (omega (arith, within)) ∙ ap (λ k. Some (drop k (b ∷ text))) one

pub behind_is : (bs : List ℕ) → position_or_len is_bar bs < length bs → behind_bar bs ≡ Some (after_first is_bar bs)
behind_is [] within = absurd (omega (arith, within))
behind_is (b ∷ text) within = behind_step (b == 47) b (position_or_len is_bar text) text within (behind_is text)

no_bar_step : (t : Bool) (n : ℕ) (text : List ℕ) → cond (not t) (1 + n) 0 ≡ suc (length text) → (n ≡ length text → behind_bar text ≡ None) → (if t then Some text else behind_bar text) ≡ None
no_bar_step true n text past is = absurd (omega (arith, past))
no_bar_step false n text past is = is (omega (arith, past))

pub no_bar : (bs : List ℕ) → position_or_len is_bar bs ≡ length bs → behind_bar bs ≡ None
no_bar [] past = refl
no_bar (b ∷ text) past = no_bar_step (b == 47) (position_or_len is_bar text) text past (no_bar text)

-- ---- digits

-- digits that can't be parsed are too many
pub too_many : {E : Type 0} (bs : List ℕ) (e : E) → is_numeral bs ≡ true → ParsesUnsigned 128 10 bs (Err e) → false ≡ nat_le (digits_value 10 bs) limit
too_many bs e numeral parsed =
    let some = split_and (nat_le 1 (length bs)) _ numeral in
    let digits = split_and (list_all is_ascii_digit bs) _ some.1 in
    let none = parse_digits (numerals_by_value (λ ds. all_ascii_digits ds ≡ true) tells_all_ascii_digits) 128 bs (Err e) parsed digits.0 in
    ⊎_elim
    (λ (narrow : nat_le (digits_value 10 bs) limit ≡ true).
    let within = leb-true (digits_value 10 bs) limit narrow in absurd (none (leb-true 1 (length bs) some.0, omega (arith, within))))
    (λ (wide : nat_le (digits_value 10 bs) limit ≡ false). sym wide)
    (cases_Bool (nat_le (digits_value 10 bs) limit))

-- more digits only make a number greater
grows : (n : ℕ) (ds : List ℕ) → n ≤ digits_value_after 10 n ds
grows n [] = omega arith
grows n (c ∷ cs) = omega (arith, grows (n * 10 + digit_value c) cs)

not_true : (b : Bool) → not b ≡ true → b ≡ false
not_true true h = absurd (cc)
not_true false h = refl

first_digit : (c : ℕ) (cs : List ℕ) → is_numeral (c ∷ cs) ≡ true → bytes_eq (c ∷ cs) (codes "0") ≡ false → IsInRange 48 57 c × (c ≢ 48)
first_digit c cs numeral apart =
    let some = split_and (nat_le 1 (length (c ∷ cs))) _ numeral in
    let digits = split_and (list_all is_ascii_digit (c ∷ cs)) _ some.1 in
    let one = split_and (is_ascii_digit c) _ digits.0 in
    let low = split_and (nat_le 48 c) _ one.0 in
    ((leb-true 48 c low.0, leb-true c 57 low.1), λ same. not_zero cs same digits.1 apart)
  where
    not_zero : (cs : List ℕ) → c ≡ 48 → ((length (c ∷ cs) == 1) || not (slice_index (c ∷ cs) 0 == 48)) ≡ true → bytes_eq (c ∷ cs) (codes "0") ≡ false → ⊥
    not_zero [] same is apart = true≢false (sym ((bytes_eq-Decides (c ∷ []) (codes "0")).1 (ap (λ x. x ∷ []) same)) ∙ apart)
    not_zero (d ∷ ds) same is apart =
        let many : (length (48 ∷ d ∷ ds) == 1) ≡ false = ne_eqb (length (48 ∷ d ∷ ds)) 1 (λ h. omega (arith, h)) in
        true≢false (sym (subst (λ x. ((length (x ∷ d ∷ ds) == 1) || not (x == 48)) ≡ true) same is) ∙ ap (λ b. b || not (48 == 48)) many)

-- a denominator isn't 0
pub denominator_positive : (digits : List ℕ) → is_denominator digits ≡ true → 1 ≤ digits_value 10 digits
denominator_positive [] is = absurd (cc)
denominator_positive (c ∷ cs) is =
    let parts = split_and (is_numeral (c ∷ cs)) _ is in
    let first = first_digit c cs parts.0 (not_true (bytes_eq (c ∷ cs) (codes "0")) parts.1) in
    let value = digit_value_digit c first.0 in
    let more = grows (0 * 10 + digit_value c) cs in
    let some : c ≡ 48 → ⊥ = first.1 in
    let low = first.0.0 in
    omega (arith, value, more, some, low)

-- ---- whole numbers that are at least 1

no_minus : (text : List ℕ) → is_negative text ≡ false → past_sign text ≡ text
no_minus [] is = refl
no_minus (b ∷ text) is = ap (λ t. if t then text else b ∷ text) is

not_below : (n : ℕ) → int_le (pos 1) (neg_ℤ (pos n)) ≡ false
not_below zero = refl
not_below (suc n) = refl

at_least_one : (n : ℕ) → 1 ≤ n → int_le (pos 1) (pos n) ≡ true
at_least_one n some = le-leb 1 n some

of_digits : (text : List ℕ) → is_numeral text ≡ true → (b : Bool) → bytes_eq text (codes "0") ≡ b → int_le (pos 1) (pos (digits_value 10 text)) ≡ not b
of_digits text numeral true same = ap (λ t. int_le (pos 1) (pos (digits_value 10 t))) ((bytes_eq-Decides text (codes "0")).0 same)
of_digits text numeral false apart =
    at_least_one (digits_value 10 text) (denominator_positive text (ap (λ b. b && not (bytes_eq text (codes "0"))) numeral ∙ ap not apart))

pub positive_whole : (text : List ℕ) → is_whole_text text ≡ true → int_le (pos 1) (whole_said text) ≡ (not (is_negative text) && not (bytes_eq text (codes "0")))
positive_whole text whole = by_sign (is_negative text) refl
  where
    by_sign : (b : Bool) → is_negative text ≡ b
        → int_le (pos 1) (if b then neg_ℤ (pos (digits_value 10 (past_sign text))) else pos (digits_value 10 (past_sign text))) ≡ (not b && not (bytes_eq text (codes "0")))
    by_sign true is = not_below (digits_value 10 (past_sign text))
    by_sign false is =
        let same = no_minus text is in
        ap (λ t. int_le (pos 1) (pos (digits_value 10 t))) same
        ∙ of_digits text (ap is_numeral (sym same) ∙ whole) (bytes_eq text (codes "0")) refl

-- ---- fractions

by_bar : (o : Option (List ℕ)) → elim o [ None ↦ true | Some digits ↦ is_denominator digits ] ≡ true → 1 ≤ elim o [ None ↦ 1 | Some digits ↦ digits_value 10 digits ]
by_bar None is = omega arith
by_bar (Some digits) is = denominator_positive digits is

pub positive : (text : List ℕ) → is_fraction_text text ≡ true → 1 ≤ denominator_said text
positive text is = by_bar (behind_bar text) (split_and (is_numeral (before_bar (past_sign text))) _ is).1
