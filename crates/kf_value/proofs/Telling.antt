-- Different values have different texts, whatever stands after them that begins with no digit.
use Rattle.std.proofs.Common.{◌≡◌, ◌≢◌, ℕ, ℤ, suc, pos, negsuc, ◌^◌, ◌<◌, Bool, true, false, cond, List, [], ◌∷◌, ◌++◌, get_or, codes, refl, sym, ap, ◌∙◌, subst, arith}
use Rattle.std.specs.Prelude.{nat_lt, ◌==◌}
use Rattle.std.specs.Int.Signed.{mag}
use Rattle.std.specs.Char.{digit_value}
use Rattle.std.specs.Str.Parse.{AllDigits, IsNumeral}
use Rattle.std.specs.Fmt.{decimal, signed_decimal}
use Rattle.std.specs.List.{flat_map}
use Rattle.std.proofs.lemmas.Fmt.{decimal_is_IsNumeral, decimal_injective}
use Rattle.std.proofs.lemmas.List.{append_assoc}
use Rattle.std.proofs.lemmas.Bool.Decides.{nat_tests}
use Rattle.kf_value.specs.Values.{ValueTree, ValueTrees, Truth, Whole, Tuple, Set, no_value, more_values}
use Rattle.kf_value.specs.Texts.{text, texts, separated}

abbrev pub IsDigit : ℕ → Type 0
IsDigit c = digit_value c < 10

-- a text that begins with no digit
abbrev pub Ends : List ℕ → Type 0
Ends [] = Unit {0}
Ends (c ∷ r) = IsDigit c → ⊥

-- whole numbers of at most 63 bits, at each nesting
abbrev mutual
  pub IsSmall : ValueTree → Type 0
  IsSmall (Truth b) = Unit {0}
  IsSmall (Whole i) = mag i < 2 ^ 63
  IsSmall (Tuple vs) = EachSmall vs
  IsSmall (Set vs) = EachSmall vs

  pub EachSmall : ValueTrees → Type 0
  EachSmall no_value = Unit {0}
  EachSmall (more_values v vs) = IsSmall v × EachSmall vs

-- ---- numbers

span : (ds es r s : List ℕ) → AllDigits 10 ds → AllDigits 10 es → Ends r → Ends s → ds ++ r ≡ es ++ s → (ds ≡ es) × (r ≡ s)
span [] [] r s hd he er es' h = (refl, h)
span [] (e ∷ es) [] s hd he er es' h = (cc)
span [] (e ∷ es) (c ∷ r) s hd he er es' h = let same : e ≡ c = (cc) in absurd (er (subst IsDigit same he.0))
span (d ∷ ds) [] r [] hd he er es' h = (cc)
span (d ∷ ds) [] r (c ∷ s) hd he er es' h = let same : d ≡ c = (cc) in absurd (es' (subst IsDigit same hd.0))
span (d ∷ ds) (e ∷ es) r s hd he er es' h =
    let first : d ≡ e = (cc) in
    let rest = span ds es r s hd.1 he.1 er es' (cc) in
    (cc (first, rest.0), rest.1)

decimals_apart : (m n : ℕ) (r s : List ℕ) → m < 2 ^ 64 → n < 2 ^ 64 → Ends r → Ends s → decimal m ++ r ≡ decimal n ++ s → (m ≡ n) × (r ≡ s)
decimals_apart m n r s small_m small_n er es h =
    let found = span (decimal m) (decimal n) r s (decimal_is_IsNumeral m small_m).0.1 (decimal_is_IsNumeral n small_n).0.1 er es h in
    (decimal_injective m n small_m small_n found.0, found.1)

first_of_numeral : (ds : List ℕ) → IsNumeral 10 ds → (c : ℕ) × (cs : List ℕ) × (ds ≡ c ∷ cs) × IsDigit c
first_of_numeral [] h = absurd (omega (arith, h.0))
first_of_numeral (c ∷ cs) h = (c, cs, refl, h.1.0)

-- ---- what a text begins with

-- 1 for a number, 2 for a tuple, 3 for a set, 4 for a Boolean
abbrev form_of : ℕ → ℕ
form_of c = cond (nat_lt (digit_value c) 10) 1 (cond (c == 45) 1 (cond (c == 40) 2 (cond (c == 123) 3 (cond (c == 116) 4 (cond (c == 102) 4 0)))))

abbrev form : ValueTree → ℕ
form (Truth b) = 4
form (Whole i) = 1
form (Tuple vs) = 2
form (Set vs) = 3

record Begins (v : ValueTree) : Type 0 where
  first : ℕ
  rest : List ℕ
  whole : text v ≡ first ∷ rest
  formed : form_of first ≡ form v

digit_form : (c : ℕ) → IsDigit c → form_of c ≡ 1
digit_form c h =
    let test : nat_lt (digit_value c) 10 ≡ true = grind (arith, nat_tests) in
    ap (λ b. cond b 1 (cond (c == 45) 1 (cond (c == 40) 2 (cond (c == 123) 3 (cond (c == 116) 4 (cond (c == 102) 4 0)))))) test

begins : (v : ValueTree) → IsSmall v → Begins v
begins (Truth true) h = record { first = 116; rest = codes "rue"; whole = refl; formed = refl }
begins (Truth false) h = record { first = 102; rest = codes "alse"; whole = refl; formed = refl }
begins (Whole (pos n)) h =
    let found = first_of_numeral (decimal n) (decimal_is_IsNumeral n (omega arith)).0 in
    record { first = found.0; rest = found.1; whole = found.2; formed = digit_form found.0 found.3 }
begins (Whole (negsuc n)) h = record { first = 45; rest = decimal (suc n); whole = refl; formed = refl }
begins (Tuple vs) h = record { first = 40; rest = separated (texts vs) ++ codes ")"; whole = refl; formed = refl }
begins (Set vs) h = record { first = 123; rest = separated (texts vs) ++ codes "}"; whole = refl; formed = refl }

-- texts that begin alike are of values of one form
one_form : (v w : ValueTree) (r s : List ℕ) → IsSmall v → IsSmall w → text v ++ r ≡ text w ++ s → form v ≡ form w
one_form v w r s hv hw h =
    let bv = begins v hv in
    let bw = begins w hw in
    let left : text v ++ r ≡ bv.first ∷ (bv.rest ++ r) = ap (λ t. t ++ r) bv.whole in
    let right : text w ++ s ≡ bw.first ∷ (bw.rest ++ s) = ap (λ t. t ++ s) bw.whole in
    let same : bv.first ≡ bw.first = cc (left, right, h) in
    sym bv.formed ∙ (ap form_of same ∙ bw.formed)

some_form : (w : ValueTree) → 0 ≡ form w → ⊥
some_form (Truth b) h = (cc)
some_form (Whole i) h = (cc)
some_form (Tuple vs) h = (cc)
some_form (Set vs) h = (cc)

-- a text does not begin with what begins none
pub not_begun : (w : ValueTree) (c : ℕ) (r s : List ℕ) → IsSmall w → form_of c ≡ 0 → c ∷ r ≡ text w ++ s → ⊥
not_begun w c r s hw none h =
    let b = begins w hw in
    let right : text w ++ s ≡ b.first ∷ (b.rest ++ s) = ap (λ t. t ++ s) b.whole in
    let same : c ≡ b.first = cc (right, h) in
    let zero_form : 0 ≡ form w = sym none ∙ (ap form_of same ∙ b.formed) in
    some_form w zero_form

no_minus : (m : ℕ) (r s : List ℕ) → m < 2 ^ 64 → decimal m ++ s ≡ 45 ∷ r → ⊥
no_minus m r s small h =
    let found = first_of_numeral (decimal m) (decimal_is_IsNumeral m small).0 in
    let left : decimal m ++ s ≡ found.0 ∷ (found.1 ++ s) = ap (λ t. t ++ s) found.2 in
    let same : found.0 ≡ 45 = cc (left, h) in
    let digit : IsDigit 45 = subst IsDigit same found.3 in
    omega arith

wholes_apart : (i j : ℤ) (r s : List ℕ) → mag i < 2 ^ 63 → mag j < 2 ^ 63 → Ends r → Ends s → signed_decimal i ++ r ≡ signed_decimal j ++ s → (i ≡ j) × (r ≡ s)
wholes_apart (pos m) (pos n) r s hi hj er es h =
    let found = decimals_apart m n r s (omega arith) (omega arith) er es h in (ap pos found.0, found.1)
wholes_apart (pos m) (negsuc n) r s hi hj er es h = absurd (no_minus m (decimal (suc n) ++ s) r (omega arith) h)
wholes_apart (negsuc m) (pos n) r s hi hj er es h = absurd (no_minus n (decimal (suc m) ++ r) s (omega arith) (sym h))
wholes_apart (negsuc m) (negsuc n) r s hi hj er es h =
    let found = decimals_apart (suc m) (suc n) r s (omega arith) (omega arith) er es (cc) in
    let same : m ≡ n = (cc) in
    (ap negsuc same, found.1)

truths_apart : (b c : Bool) (r s : List ℕ) → text (Truth b) ++ r ≡ text (Truth c) ++ s → (Truth b ≡ Truth c) × (r ≡ s)
truths_apart true true r s h = (refl, (cc))
truths_apart true false r s h = let heads : ◌≡◌ {A = ℕ} 116 102 = ap (λ t. get_or t 0 0) h in absurd (omega arith)
truths_apart false true r s h = let heads : ◌≡◌ {A = ℕ} 102 116 = ap (λ t. get_or t 0 0) h in absurd (omega arith)
truths_apart false false r s h = (refl, (cc))

-- ---- lists between brackets

-- a closing bracket is no digit, no comma, and begins no text
record Closes (c : ℕ) : Type 0 where
  no_digit : IsDigit c → ⊥
  no_comma : c ≢ 44
  no_form : form_of c ≡ 0

round_closes : Closes 41
round_closes = record { no_digit = λ h. omega arith; no_comma = λ h. (cc); no_form = refl }

curly_closes : Closes 125
curly_closes = record { no_digit = λ h. omega arith; no_comma = λ h. (cc); no_form = refl }

abbrev others : ValueTrees → List ℕ
others vs = flat_map (λ u. codes ", " ++ u) (texts vs)

others_end : (vs : ValueTrees) (c : ℕ) (r : List ℕ) → Closes c → Ends (others vs ++ c ∷ r)
others_end no_value c r closes = closes.no_digit
others_end (more_values v vs) c r closes = λ h. omega arith

inner_tuple : (x r : List ℕ) (c : ℕ) → (x ++ c ∷ []) ++ r ≡ x ++ c ∷ r
inner_tuple x r c = append_assoc x (c ∷ []) r

mutual
  pub text_apart : (v : ValueTree) → IsSmall v → (w : ValueTree) → IsSmall w → (r s : List ℕ) → Ends r → Ends s → text v ++ r ≡ text w ++ s
      → (v ≡ w) × (r ≡ s)
  text_apart (Truth b) hv (Truth c) hw r s er es h = truths_apart b c r s h
  text_apart (Whole i) hv (Whole j) hw r s er es h = let found = wholes_apart i j r s hv hw er es h in (ap Whole found.0, found.1)
  text_apart (Tuple vs) hv (Tuple ws) hw r s er es h =
      let tail : (separated (texts vs) ++ 41 ∷ []) ++ r ≡ (separated (texts ws) ++ 41 ∷ []) ++ s = (cc) in
      let found = firsts_apart vs hv ws hw 41 r s round_closes (sym (inner_tuple (separated (texts vs)) r 41) ∙ (tail ∙ inner_tuple (separated (texts ws)) s 41)) in
      (ap Tuple found.0, found.1)
  text_apart (Set vs) hv (Set ws) hw r s er es h =
      let tail : (separated (texts vs) ++ 125 ∷ []) ++ r ≡ (separated (texts ws) ++ 125 ∷ []) ++ s = (cc) in
      let found = firsts_apart vs hv ws hw 125 r s curly_closes (sym (inner_tuple (separated (texts vs)) r 125) ∙ (tail ∙ inner_tuple (separated (texts ws)) s 125)) in
      (ap Set found.0, found.1)
  text_apart v hv w hw r s er es h = let alike = one_form v w r s hv hw h in absurd (cc alike)

  firsts_apart : (vs : ValueTrees) → EachSmall vs → (ws : ValueTrees) → EachSmall ws → (c : ℕ) (r s : List ℕ) → Closes c
      → separated (texts vs) ++ c ∷ r ≡ separated (texts ws) ++ c ∷ s → (vs ≡ ws) × (r ≡ s)
  firsts_apart no_value hv no_value hw c r s closes h = (refl, (cc))
  firsts_apart no_value hv (more_values w ws) hw c r s closes h =
      absurd (not_begun w c r (others ws ++ c ∷ s) hw.0 closes.no_form (h ∙ append_assoc (text w) (others ws) (c ∷ s)))
  firsts_apart (more_values v vs) hv no_value hw c r s closes h =
      absurd (not_begun v c s (others vs ++ c ∷ r) hv.0 closes.no_form (sym h ∙ append_assoc (text v) (others vs) (c ∷ r)))
  firsts_apart (more_values v vs) hv (more_values w ws) hw c r s closes h =
      let both = sym (append_assoc (text v) (others vs) (c ∷ r)) ∙ (h ∙ append_assoc (text w) (others ws) (c ∷ s)) in
      let first = text_apart v hv.0 w hw.0 (others vs ++ c ∷ r) (others ws ++ c ∷ s) (others_end vs c r closes) (others_end ws c s closes) both in
      let rest = others_apart vs hv.1 ws hw.1 c r s closes first.1 in
      (cc (first.0, rest.0), rest.1)

  others_apart : (vs : ValueTrees) → EachSmall vs → (ws : ValueTrees) → EachSmall ws → (c : ℕ) (r s : List ℕ) → Closes c
      → others vs ++ c ∷ r ≡ others ws ++ c ∷ s → (vs ≡ ws) × (r ≡ s)
  others_apart no_value hv no_value hw c r s closes h = (refl, (cc))
  others_apart no_value hv (more_values w ws) hw c r s closes h = let same : c ≡ 44 = (cc) in absurd (closes.no_comma same)
  others_apart (more_values v vs) hv no_value hw c r s closes h = let same : c ≡ 44 = (cc) in absurd (closes.no_comma same)
  others_apart (more_values v vs) hv (more_values w ws) hw c r s closes h =
      let tail : (text v ++ others vs) ++ c ∷ r ≡ (text w ++ others ws) ++ c ∷ s = (cc) in
      let both = sym (append_assoc (text v) (others vs) (c ∷ r)) ∙ (tail ∙ append_assoc (text w) (others ws) (c ∷ s)) in
      let first = text_apart v hv.0 w hw.0 (others vs ++ c ∷ r) (others ws ++ c ∷ s) (others_end vs c r closes) (others_end ws c s closes) both in
      let rest = others_apart vs hv.1 ws hw.1 c r s closes first.1 in
      (cc (first.0, rest.0), rest.1)
