-- Numbers that are written as words are read as themselves.
use Rattle.std.proofs.Common.{◌≡◌, ℕ, ◌<◌, ◌≤◌, ◌^◌, List, [], ◌∷◌, ◌++◌, length, drop, true, false, ◌&&◌, None, Some, nat_eq, refl, ap, ◌∙◌, arith, if◌then◌else◌}
use Rattle.std.specs.Char.{is_ascii_digit, digit_value}
use Rattle.std.specs.Fmt.{decimal}
use Rattle.std.specs.Cmp.Lexicographic.{pointwise}
use Rattle.std.specs.List.{list_all, starts_with}
use Rattle.std.specs.Prelude.{option_and_then, option_map, take}
use Rattle.std.specs.Str.Parse.{AllDigits, IsNumeral, digits_value}
use Rattle.std.proofs.lemmas.Bool.{le-leb, ne_eqb}
use Rattle.std.proofs.lemmas.Fmt.{decimal_is_IsNumeral, length-decimal-le}
use Rattle.std.proofs.lemmas.Str.Parse.{digit_from_value}
use Rattle.kf_words.specs.Numbers.{around, is_numeral, number_of, numeral_of, pair_of}
use Rattle.kf_words.specs.OfWords.{in_range}

-- ---- digits

digits_pass : (cs : List ℕ) → AllDigits 10 cs → list_all is_ascii_digit cs ≡ true
digits_pass [] h = refl
digits_pass (c ∷ cs) h =
    let r = digit_from_value c h.0 in
    let rest = digits_pass cs h.1 in
    λ i. (le-leb 48 c r.0 i && le-leb c 57 r.1 i) && rest i

module _ (n : ℕ) (wide : n < 2 ^ 64) where
  numeral : IsNumeral 10 (decimal n) × (digits_value 10 (decimal n) ≡ n)
  numeral = decimal_is_IsNumeral n wide

  module _ (most : ℕ) (some : 0 < most) (less : n < 10 ^ most) where
    numeral_passes : is_numeral most (decimal n) ≡ true
    numeral_passes =
        let first = le-leb 1 (length (decimal n)) numeral.0.0 in
        let short = le-leb (length (decimal n)) most (length-decimal-le most n some less wide) in
        let digits = digits_pass (decimal n) numeral.0.1 in
        λ i. first i && (short i && digits i)

    -- a number of so many digits
    pub numeral_read : numeral_of most (decimal n) ≡ Some n
    numeral_read = let passes = numeral_passes in let value = numeral.1 in λ i. if passes i then Some (value i) else None

-- a number from 1 to 65,535
pub number_read : (n : ℕ) → 1 ≤ n → n ≤ 65535 → number_of (decimal n) ≡ Some n
number_read n some few =
    let wide : n < 2 ^ 64 = omega (arith, few) in
    let passes = numeral_passes n wide 5 (omega arith) (omega (arith, few)) in
    let value = (numeral n wide).1 in
    let low = le-leb 1 n some in
    let high = le-leb n 65535 few in
    (λ i. option_and_then in_range (if passes i then Some (value i) else None)) ∙ (λ i. if low i && high i then Some n else None)

-- ---- two numbers around a mark

module _ (m : ℕ) (ms : List ℕ) (below : m < 48) (begins : (ys : List ℕ) → starts_with nat_eq (m ∷ (ms ++ ys)) (m ∷ ms) ≡ true)
    (drops : (ys : List ℕ) → drop (length (m ∷ ms)) (m ∷ (ms ++ ys)) ≡ ys) where
  no_mark : (x : ℕ) (xs : List ℕ) → digit_value x < 10 → starts_with nat_eq (x ∷ xs) (m ∷ ms) ≡ false
  no_mark x xs digit =
      let r = digit_from_value x digit in
      ap (λ b. b && pointwise nat_eq ms (take (length ms) xs)) (ne_eqb m x (λ e. omega (arith, e, r.0, below)))

  around_mark : (xs ys : List ℕ) → AllDigits 10 xs → around (m ∷ ms) (xs ++ (m ∷ (ms ++ ys))) ≡ Some (xs, ys)
  around_mark [] ys digits =
      ap (λ t. if t then Some ([], drop (length (m ∷ ms)) (m ∷ (ms ++ ys))) else option_map (λ p. (m ∷ p.0, p.1)) (around (m ∷ ms) (ms ++ ys))) (begins ys)
      ∙ ap (λ (rest : List ℕ). Some ([], rest)) (drops ys)
  around_mark (x ∷ xs) ys digits =
      ap (λ t. if t then Some ([], drop (length (m ∷ ms)) (x ∷ (xs ++ (m ∷ (ms ++ ys)))))
      else option_map (λ p. (x ∷ p.0, p.1)) (around (m ∷ ms) (xs ++ (m ∷ (ms ++ ys))))) (no_mark x (xs ++ (m ∷ (ms ++ ys))) digits.0)
      ∙ ap (option_map (λ p. (x ∷ p.0, p.1))) (around_mark xs ys digits.1)

  pub pair_read : (most a b : ℕ) → 0 < most → a < 10 ^ most → b < 10 ^ most → a < 2 ^ 64 → b < 2 ^ 64
      → pair_of most (m ∷ ms) (decimal a ++ (m ∷ (ms ++ decimal b))) ≡ Some (a, b)
  pair_read most a b some low high wide wider =
      let parts = around_mark (decimal a) (decimal b) (numeral a wide).0.1 in
      let first = numeral_read a wide most some low in
      let second = numeral_read b wider most some high in
      ap (option_and_then (λ (p : List ℕ × List ℕ). option_and_then (λ n. option_map (λ d. (n, d)) (numeral_of most p.1)) (numeral_of most p.0))) parts
      ∙ (λ i. option_and_then (λ n. option_map (λ d. (n, d)) (second i)) (first i))
