-- All texts in a certificate are UTF-8.
use Rattle.std.proofs.Common.{◌≡◌, ℕ, zero, suc, ◌+◌, ◌/◌, ◌%◌, nat_le, ◌==◌, List, [], ◌∷◌, ◌++◌, length, Bool, true, false, ◌&&◌, None, Some, Option, IsUtf8, codes, ap₂, refl, arith}
use Rattle.std.proofs.Math.IntN.{ℤ, pos, negsuc}
use Rattle.std.specs.Prelude.{decimal, slice_get, flat_map, if◌then◌else◌, nat_lt}
use Rattle.std.specs.Fmt.{signed_decimal, digits, digits_onto, digit_glyph}
use Rattle.std.specs.List.{list_all}
use Rattle.std.proofs.lemmas.Bool.{and_parts, lt-ltb}
use Rattle.std.proofs.lemmas.Str.{IsUtf8-append, IsUtf8-nil}
use Rattle.json.proofs.Printed.Utf8.{IsUtf8-are_ascii, are_ascii}
use Rattle.serde_json.specs.Data.{string}
use Rattle.kf_frac.specs.Fractions.{reduced_num, reduced_den, fraction_text}
use Rattle.kf_frac.specs.Parts.{denominator_text}
use Rattle.kf_value.specs.Values.{ValueTree, ValueTrees, Truth, Whole, Tuple, Set, no_value, more_values, parts}
use Rattle.kf_value.specs.Targets.{Item, target_values, shown, target_value_text}
use Rattle.kf_value.specs.Texts.{text, texts, separated}
use Rattle.kf_json.specs.Rules.{is_name_byte, is_name}

-- ---- numbers

glyph_ascii : (n : ℕ) → nat_lt (digit_glyph false (n % 10)) 128 ≡ true
glyph_ascii n = rw (lt-ltb (n % 10) 10 (omega arith)) (lt-ltb (48 + n % 10) 128 (omega arith))

either_ascii : (b : Bool) (xs ys : List ℕ) → are_ascii xs ≡ true → are_ascii ys ≡ true → are_ascii (if b then xs else ys) ≡ true
either_ascii true xs ys x y = x
either_ascii false xs ys x y = y

digits_ascii : (k n : ℕ) (acc : List ℕ) → are_ascii acc ≡ true → are_ascii (digits_onto k 10 false n acc) ≡ true
digits_ascii zero n acc h = h
digits_ascii (suc k) n acc h =
    let d : ℕ = digit_glyph false (n % 10) in
    let more : are_ascii (d ∷ acc) ≡ true = ap₂ (λ (a b : Bool). a && b) (glyph_ascii n) h in
    either_ascii (n / 10 == 0) (d ∷ acc) (digits_onto k 10 false (n / 10) (d ∷ acc)) more (digits_ascii k (n / 10) (d ∷ acc) more)

pub decimal_utf8 : (n : ℕ) → IsUtf8 (decimal n)
unfolding digits
decimal_utf8 n = IsUtf8-are_ascii (digits_onto 64 10 false n []) (digits_ascii 64 n [] refl)

pub signed_utf8 : (z : ℤ) → IsUtf8 (signed_decimal z)
signed_utf8 (pos n) = decimal_utf8 n
signed_utf8 (negsuc n) = IsUtf8-append (45 ∷ []) (decimal (suc n)) (IsUtf8-are_ascii (45 ∷ []) refl) (decimal_utf8 (suc n))

over_utf8 : (d : ℕ) (one : Bool) → IsUtf8 (if one then [] else codes "/" ++ decimal d)
over_utf8 d true = IsUtf8-nil
over_utf8 d false = IsUtf8-append (codes "/") (decimal d) (IsUtf8-are_ascii (codes "/") refl) (decimal_utf8 d)

pub fraction_utf8 : (n : ℤ) (d : ℕ) → IsUtf8 (fraction_text n d)
unfolding fraction_text
fraction_utf8 n d =
    let e = reduced_den n d in
    IsUtf8-append (signed_decimal (reduced_num n d)) (denominator_text e) (signed_utf8 (reduced_num n d)) (over_utf8 e (e == 1))

-- ---- values

-- each text is
abbrev AreUtf8 : List (List ℕ) → Type 0
AreUtf8 [] = Unit {0}
AreUtf8 (t ∷ ts) = IsUtf8 t × AreUtf8 ts

others_utf8 : (ts : List (List ℕ)) → AreUtf8 ts → IsUtf8 (flat_map (λ (t : List ℕ). codes ", " ++ t) ts)
others_utf8 [] h = IsUtf8-nil
others_utf8 (t ∷ ts) h =
    IsUtf8-append (codes ", " ++ t) (flat_map (λ (u : List ℕ). codes ", " ++ u) ts) (IsUtf8-append (codes ", ") t (IsUtf8-are_ascii (codes ", ") refl) h.0) (others_utf8 ts h.1)

separated_utf8 : (ts : List (List ℕ)) → AreUtf8 ts → IsUtf8 (separated ts)
separated_utf8 [] h = IsUtf8-nil
separated_utf8 (t ∷ ts) h = IsUtf8-append t (flat_map (λ (u : List ℕ). codes ", " ++ u) ts) h.0 (others_utf8 ts h.1)

between : (front back : List ℕ) (inner : List ℕ) → are_ascii front ≡ true → are_ascii back ≡ true → IsUtf8 inner → IsUtf8 (front ++ (inner ++ back))
between front back inner f b utf8 = IsUtf8-append front (inner ++ back) (IsUtf8-are_ascii front f) (IsUtf8-append inner back utf8 (IsUtf8-are_ascii back b))

mutual
  value_utf8 : (v : ValueTree) → IsUtf8 (text v)
  value_utf8 (Truth true) = IsUtf8-are_ascii (codes "true") refl
  value_utf8 (Truth false) = IsUtf8-are_ascii (codes "false") refl
  value_utf8 (Whole i) = signed_utf8 i
  value_utf8 (Tuple vs) = between (codes "(") (codes ")") (separated (texts vs)) refl refl (separated_utf8 (texts vs) (values_utf8 vs))
  value_utf8 (Set vs) = between (codes "{") (codes "}") (separated (texts vs)) refl refl (separated_utf8 (texts vs) (values_utf8 vs))

  values_utf8 : (vs : ValueTrees) → AreUtf8 (texts vs)
  values_utf8 no_value = tt
  values_utf8 (more_values v vs) = (value_utf8 v, values_utf8 vs)

shown_utf8 : (vs : List ValueTree) → IsUtf8 (shown vs)
shown_utf8 [] = value_utf8 (Tuple (parts []))
shown_utf8 (v ∷ []) = value_utf8 v
shown_utf8 (v ∷ w ∷ vs) = value_utf8 (Tuple (parts (v ∷ w ∷ vs)))

of_found : (found : Option (List ValueTree)) → IsUtf8 (elim found [ None ↦ [] | Some vs ↦ shown vs ])
of_found None = IsUtf8-nil
of_found (Some vs) = shown_utf8 vs

pub target_value_utf8 : (target : List Item) (n : ℕ) → IsUtf8 (target_value_text target n)
unfolding target_value_text
target_value_utf8 target n = of_found (slice_get (target_values target) n)

-- ---- names

name_byte_ascii : (b : ℕ) → is_name_byte b ≡ true → nat_lt b 128 ≡ true
name_byte_ascii b h = grind (arith, h)

names_ascii : (bytes : List ℕ) → list_all is_name_byte bytes ≡ true → are_ascii bytes ≡ true
names_ascii [] h = refl
names_ascii (b ∷ bytes) h =
    let p = and_parts (is_name_byte b) (list_all is_name_byte bytes) h in
    rw (name_byte_ascii b p.0, names_ascii bytes p.1)

pub name_utf8 : (bytes : List ℕ) → is_name (string bytes) ≡ true → IsUtf8 bytes
name_utf8 bytes h = IsUtf8-are_ascii bytes (names_ascii bytes (and_parts (nat_le 1 (length bytes) && nat_le (length bytes) 64) (list_all is_name_byte bytes) h).1)
