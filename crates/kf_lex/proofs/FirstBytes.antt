-- Blanks, numbers, words and signs are told apart by their first byte.
use Rattle.std.proofs.Common.{◌≡◌, ◌<◌, ◌≤◌, ◌||◌, ◌==◌, ⊎_elim, ℕ, true, false, cond, List, [], ◌∷◌, ◌++◌, ltb, length, length-append, refl, sym, ap, ◌∙◌, subst, arith}
use Rattle.std.specs.Char.{encode_utf8, is_ascii_alphabetic, is_ascii_digit}
use Rattle.std.specs.Int.{IsInRange}
use Rattle.std.specs.Str.{encode_utf8_all}
use Rattle.std.proofs.lemmas.Bool.Decides.{nat_tests}
use Rattle.std.proofs.lemmas.Str.{char_from_byte, length-encode, len_utf8_bounds}
use Rattle.std.proofs.lemmas.Str.Parse.{digit_from_value}
use Rattle.unicode_ident.proofs.IdentLemmas.{is_xid_start-ascii}
use Rattle.kf_lex.specs.declared.token.Sign.{Sign}
use Rattle.kf_lex.specs.declared.token.Sign.TheVariants as sign
use Rattle.kf_lex.specs.Words.{sign_text}
use Rattle.kf_lex.specs.Lexemes.{IsWord}
use Rattle.kf_lex.specs.Pieces.{IsBlank, is_separator}
use Rattle.kf_lex.specs.Cuts.{IsNumber, begins_name}

-- 0 where a blank may begin, 1 at a digit, 2 where a word may begin, and 3 elsewhere
abbrev pub sort : ℕ → ℕ
sort b = cond (is_separator b || (b == 35)) 0 (cond (is_ascii_digit b) 1 (cond (is_ascii_alphabetic b || (b == 95) || ltb 127 b) 2 3))

-- the text begins with a byte of this sort
pub record Begins (n : ℕ) (text : List ℕ) : Type 0 where
  pub byte : ℕ
  pub others : List ℕ
  pub is : text ≡ byte ∷ others
  pub sorted : sort byte ≡ n

begins_here : (n b : ℕ) (bs : List ℕ) → sort b ≡ n → Begins n (b ∷ bs)
begins_here n b bs h = record { byte = b; others = bs; is = refl; sorted = h }

pub begins-append : (n : ℕ) (text rest : List ℕ) → Begins n text → Begins n (text ++ rest)
begins-append n text rest b = record { byte = b.byte; others = b.others ++ rest; is = ap (λ xs. xs ++ rest) b.is; sorted = b.sorted }

pub same_sort : (m n : ℕ) (text : List ℕ) → Begins m text → Begins n text → m ≡ n
same_sort m n text a b =
    let e : a.byte ∷ a.others ≡ b.byte ∷ b.others = sym a.is ∙ b.is in
    let f : a.byte ≡ b.byte = cc in
    sym a.sorted ∙ ap sort f ∙ b.sorted

-- no text begins with bytes of two sorts
pub clash : (m n : ℕ) (text : List ℕ) → m < n → Begins m text → Begins n text → ⊥
clash m n text less a b = absurd (omega (arith, less, same_sort m n text a b))

separator_sort : (b : ℕ) → is_separator b ≡ true → sort b ≡ 0
separator_sort b h = rw h refl

pub blank_sort : (text rest : List ℕ) → IsBlank text rest → Begins 0 text
blank_sort [] rest h = absurd h
blank_sort (b ∷ line) rest h = record {
  byte = b;
  others = line;
  is = refl;
  sorted = ⊎_elim (λ (s : (is_separator b ≡ true) × (line ≡ [])). separator_sort b s.0) (λ s. rw s.0 refl) h;
}

digit_sort : (b : ℕ) → IsInRange 48 57 b → sort b ≡ 1
digit_sort b h = grind (arith, nat_tests, h.0, h.1)

pub number_sort : (text : List ℕ) → IsNumber text → Begins 1 text
number_sort [] h = absurd (omega (arith, h.0))
number_sort (b ∷ bs) h = record { byte = b; others = bs; is = refl; sorted = digit_sort b (digit_from_value b h.1.0) }

pub sign_sort : (s : Sign) → Begins 3 (sign_text s)
sign_sort sign.Assign = begins_here _ _ _ refl
sign_sort sign.Colon = begins_here _ _ _ refl
sign_sort sign.Semi = begins_here _ _ _ refl
sign_sort sign.Comma = begins_here _ _ _ refl
sign_sort sign.ParenOpen = begins_here _ _ _ refl
sign_sort sign.ParenClose = begins_here _ _ _ refl
sign_sort sign.BraceOpen = begins_here _ _ _ refl
sign_sort sign.BraceClose = begins_here _ _ _ refl
sign_sort sign.Range = begins_here _ _ _ refl
sign_sort sign.Dot = begins_here _ _ _ refl
sign_sort sign.Slash = begins_here _ _ _ refl
sign_sort sign.Equal = begins_here _ _ _ refl
sign_sort sign.NotEqual = begins_here _ _ _ refl
sign_sort sign.AtMost = begins_here _ _ _ refl
sign_sort sign.Less = begins_here _ _ _ refl
sign_sort sign.AtLeast = begins_here _ _ _ refl
sign_sort sign.Greater = begins_here _ _ _ refl
sign_sort sign.Plus = begins_here _ _ _ refl
sign_sort sign.Minus = begins_here _ _ _ refl
sign_sort sign.Star = begins_here _ _ _ refl

letter_sort : (b : ℕ) → (is_ascii_alphabetic b || (b == 95)) ≡ true → sort b ≡ 2
letter_sort b h = grind (arith, nat_tests, h)

high_sort : (b : ℕ) → 128 ≤ b → sort b ≡ 2
high_sort b h = grind (arith, nat_tests, h)

first_sort : (c b : ℕ) (bs rest : List ℕ) → begins_name c ≡ true → b ∷ bs ≡ encode_utf8 c ++ rest → sort b ≡ 2
first_sort c b bs rest begins e =
    elim (ltb b 128) as (λ t. ltb b 128 ≡ t → sort b ≡ 2) [
      | true ↦ λ h.
          let low : b < 128 = grind (arith, nat_tests, h) in
          let same : c ≡ b = char_from_byte (b ∷ bs) rest c e low (omega arith) in
          letter_sort b (subst (λ x. (x || (b == 95)) ≡ true) (is_xid_start-ascii b low) (subst (λ d. begins_name d ≡ true) same begins))
      | false ↦ λ h. high_sort b (grind (arith, nat_tests, h))
    ] refl

char_sort : (c : ℕ) (rest text : List ℕ) → begins_name c ≡ true → text ≡ encode_utf8 c ++ rest → Begins 2 text
char_sort c rest [] begins e = absurd (omega (arith, ap length e, length-append (encode_utf8 c) rest, length-encode c, len_utf8_bounds c))
char_sort c rest (b ∷ bs) begins e = record { byte = b; others = bs; is = refl; sorted = first_sort c b bs rest begins e }

pub word_sort : (text : List ℕ) → IsWord text → Begins 2 text
word_sort text h = char_sort h.0 (encode_utf8_all h.1) text h.2.begins h.3
