-- A text of fragments, each a separator or a token of ASCII characters, is read as their tokens.
use Rattle.std.proofs.Common.{◌≡◌, ◌+◌, ◌<◌, ◌≤◌, ◌&&◌, ◌||◌, ◌==◌, ℕ, Bool, true, false, not, ltb, nat_le, List, [], ◌∷◌, ◌++◌, Some, None, length, append_assoc, inl, refl, sym, ap, ◌∙◌, subst, arith}
use Rattle.std.specs.Char.{IsScalar, encode_utf8, is_ascii_alphabetic, is_ascii_alphanumeric, is_ascii_digit}
use Rattle.std.specs.List.{AllByRecursion}
use Rattle.std.specs.Str.{IsUtf8, all_scalars, encode_utf8_all}
use Rattle.std.specs.Str.Parse.{digits_value}
use Rattle.std.proofs.Math.Utf8.{low_scalar}
use Rattle.std.proofs.lemmas.Bool.Decides.{nat_tests}
use Rattle.std.proofs.lemmas.Str.{IsUtf8-append, char_from_byte, encode_ascii}
use Rattle.unicode_ident.specs.Ident.{is_xid_continue}
use Rattle.unicode_ident.proofs.IdentLemmas.{is_xid_continue-ascii, is_xid_start-ascii}
use Rattle.kf_lex.specs.declared.token.Sign.{Sign}
use Rattle.kf_lex.specs.declared.token.Sign.TheVariants as sign
use Rattle.kf_lex.specs.declared.token.Tok.{Tok}
use Rattle.kf_lex.specs.declared.token.Tok.TheVariants as tok
use Rattle.kf_lex.specs.declared.token.Token.{Token}
use Rattle.kf_lex.specs.declared.token.Word.{Word}
use Rattle.kf_lex.specs.Cuts.{IsBeginning, IsRun, IsNumber, begins_name}
use Rattle.kf_lex.specs.Lexemes.{IsLongest, IsWord, greatest_number}
use Rattle.kf_lex.specs.Pieces.{is_separator}
use Rattle.kf_lex.specs.Readings.{Reads}
use Rattle.kf_lex.specs.Readings as r
use Rattle.kf_lex.specs.Words.{reserved, sign_text}
use Rattle.kf_lex.proofs.Both.{and_first, and_second}
use Rattle.kf_lex.proofs.Cutting.{separator_low}
use Rattle.kf_lex.proofs.LongestCuts.{cut_number, cut_word}
use Rattle.kf_lex.proofs.Runs.{no_char_in_nothing}

-- a separator, a number, a reserved word, a name, or a sign, which ends before this byte
pub data Fragment : Type 0 where
  gap : ℕ → Fragment
  number : List ℕ → Fragment
  word : (w : Word) (text : List ℕ) → reserved text ≡ Some w → Fragment
  name : (text : List ℕ) → reserved text ≡ None → Fragment
  mark : (s : Sign) (next : ℕ) → ((rest : List ℕ) → IsLongest (sign_text s) (next ∷ rest)) → Fragment

abbrev pub text_of : Fragment → List ℕ
text_of (gap b) = b ∷ []
text_of (number text) = text
text_of (word w text is) = text
text_of (name text is) = text
text_of (mark s next ends) = sign_text s

abbrev pub text_of_all : List Fragment → List ℕ
text_of_all [] = []
text_of_all (f ∷ fs) = text_of f ++ text_of_all fs

abbrev pub token_at : Tok → ℕ → ℕ → Token
token_at kind start end = record { kind = kind; start = start; end = end }

-- a fragment's token between two places, and then others
abbrev pub with_token : Fragment → ℕ → ℕ → List Token → List Token
with_token (gap b) start end others = others
with_token (number text) start end others = token_at (tok.Number (digits_value 10 text)) start end ∷ others
with_token (word w text is) start end others = token_at (tok.Word w) start end ∷ others
with_token (name text is) start end others = token_at tok.Name start end ∷ others
with_token (mark s next ends) start end others = token_at (tok.Sign s) start end ∷ others

-- the tokens of fragments that stand so far behind a place, and then others
abbrev pub tokens_of : ℕ → ℕ → List Fragment → List Token → List Token
tokens_of at far [] others = others
tokens_of at far (f ∷ fs) others =
    with_token f (at + far) (at + (far + length (text_of f))) (tokens_of at (far + length (text_of f)) fs others)

-- how far behind the place they end
abbrev pub end_of : ℕ → List Fragment → ℕ
end_of far [] = far
end_of far (f ∷ fs) = end_of (far + length (text_of f)) fs

-- ASCII characters that pass a test
abbrev pub pass : (ℕ → Bool) → List ℕ → Bool
pass p [] = true
pass p (c ∷ cs) = ltb c 128 && (p c && pass p cs)

-- one of the first test, and then such of the second
abbrev pub begin_and_pass : (ℕ → Bool) → (ℕ → Bool) → List ℕ → Bool
begin_and_pass p q [] = false
begin_and_pass p q (c ∷ cs) = p c && pass q (c ∷ cs)

-- the text ends, or goes on with an ASCII character that fails the test
abbrev pub stop : (ℕ → Bool) → List ℕ → Bool
stop p [] = true
stop p (b ∷ rest) = ltb b 128 && not (p b)

abbrev pub is_word_byte : ℕ → Bool
is_word_byte c = is_ascii_alphanumeric c || (c == 95)

-- the test is met by the first byte
abbrev pub begin : (ℕ → Bool) → List ℕ → Bool
begin p [] = false
begin p (b ∷ rest) = p b

-- the fragment is a separator or the longest token where rest follows
abbrev pub fit : Fragment → List ℕ → Bool
fit (gap b) rest = is_separator b
fit (number text) rest =
    begin_and_pass is_ascii_digit is_ascii_digit text && (stop is_ascii_digit rest && nat_le (digits_value 10 text) greatest_number)
fit (word w text is) rest = begin_and_pass is_ascii_alphabetic is_word_byte text && stop is_word_byte rest
fit (name text is) rest = begin_and_pass is_ascii_alphabetic is_word_byte text && stop is_word_byte rest
fit (mark s next ends) rest = begin (λ b. b == next) rest

abbrev pub fit_all : List Fragment → List ℕ → Bool
fit_all [] rest = true
fit_all (f ∷ fs) rest = fit f (text_of_all fs ++ rest) && fit_all fs rest

-- characters that pass
low_of : (c : ℕ) → ltb c 128 ≡ true → c < 128
low_of c h = grind (arith, nat_tests, h)

encoded : (q : ℕ → Bool) (cs : List ℕ) → pass q cs ≡ true → encode_utf8_all cs ≡ cs
encoded q [] h = refl
encoded q (c ∷ cs) h =
    ap (λ x. x ++ encode_utf8_all cs) (encode_ascii c (low_of c (and_first _ _ h))) ∙ ap (λ x. c ∷ x) (encoded q cs (and_second (q c) _ (and_second _ _ h)))

scalars : (q : ℕ → Bool) (cs : List ℕ) → pass q cs ≡ true → all_scalars cs ≡ true
scalars q [] h = refl
scalars q (c ∷ cs) h = rw (low_scalar c (omega (arith, low_of c (and_first _ _ h)))) (scalars q cs (and_second (q c) _ (and_second _ _ h)))

pass_utf8 : (q : ℕ → Bool) (cs : List ℕ) → pass q cs ≡ true → IsUtf8 cs
pass_utf8 q cs h = (cs, (scalars q cs h, encoded q cs h))

begun_pass : (p q : ℕ → Bool) (cs : List ℕ) → begin_and_pass p q cs ≡ true → pass q cs ≡ true
begun_pass p q [] h = cc
begun_pass p q (c ∷ cs) h = and_second (p c) _ h

not_true : (b : Bool) → not b ≡ true → b ≡ false
not_true true h = cc
not_true false h = refl

-- a test that agrees with another one on ASCII
Agree : (ℕ → Bool) → (ℕ → Bool) → Type 0
Agree p q = (c : ℕ) → c < 128 → p c ≡ q c

all_pass : (p q : ℕ → Bool) (cs : List ℕ) → Agree p q → pass q cs ≡ true → AllByRecursion (λ c. p c ≡ true) cs
unfolding Agree
all_pass p q [] agree h = tt
all_pass p q (c ∷ cs) agree h =
    let more = and_second _ _ h in
    (agree c (low_of c (and_first _ _ h)) ∙ and_first (q c) _ more, all_pass p q cs agree (and_second (q c) _ more))

stopped : (p q : ℕ → Bool) (rest : List ℕ) → Agree p q → stop q rest ≡ true
    → (c : ℕ) (more : List ℕ) → IsScalar c → rest ≡ encode_utf8 c ++ more → p c ≡ false
unfolding Agree
stopped p q [] agree h c more scalar e = absurd (no_char_in_nothing c more e)
stopped p q (b ∷ rest) agree h c more scalar e =
    let low : b < 128 = low_of b (and_first _ _ h) in
    let same : c ≡ b = char_from_byte (b ∷ rest) more c e low (omega arith) in
    ap p same ∙ agree b low ∙ not_true (q b) (and_second _ _ h)

run : (p q : ℕ → Bool) (cs rest : List ℕ) → Agree p q → pass q cs ≡ true → stop q rest ≡ true → IsUtf8 rest → IsRun p (cs ++ rest) cs rest
run p q cs rest agree h stops utf8 = record {
  whole = refl;
  chars = cs;
  scalars = scalars q cs h;
  spelt = sym (encoded q cs h);
  passes = all_pass p q cs agree h;
  utf8 = utf8;
  stops = stopped p q rest agree stops;
}

begins : (c : ℕ) (rest : List ℕ) → c < 128 → IsBeginning c (c ∷ rest)
begins c rest low = (low_scalar c (omega (arith, low)), (rest, ap (λ x. x ++ rest) (sym (encode_ascii c low))))

number_longest : (text rest : List ℕ) → begin_and_pass is_ascii_digit is_ascii_digit text ≡ true → stop is_ascii_digit rest ≡ true → IsUtf8 rest
    → IsLongest text rest × IsNumber text
unfolding Agree
number_longest [] rest h stops utf8 = cc
number_longest (c ∷ cs) rest h stops utf8 =
    let all = and_second (is_ascii_digit c) _ h in
    cut_number c (c ∷ (cs ++ rest)) (c ∷ cs) rest (begins c (cs ++ rest) (low_of c (and_first _ _ all))) (and_first _ _ h)
    (run is_ascii_digit is_ascii_digit (c ∷ cs) rest (λ d low. refl) all stops utf8)

letter_begins : (c : ℕ) → c < 128 → is_ascii_alphabetic c ≡ true → begins_name c ≡ true
letter_begins c low h = rw (is_xid_start-ascii c low, h) refl

word_longest : (text rest : List ℕ) → begin_and_pass is_ascii_alphabetic is_word_byte text ≡ true → stop is_word_byte rest ≡ true → IsUtf8 rest
    → IsLongest text rest × IsWord text
unfolding Agree
word_longest [] rest h stops utf8 = cc
word_longest (c ∷ cs) rest h stops utf8 =
    let all = and_second (is_ascii_alphabetic c) _ h in
    let low = low_of c (and_first _ _ all) in
    cut_word c (c ∷ (cs ++ rest)) (c ∷ cs) rest (begins c (cs ++ rest) low) (letter_begins c low (and_first _ _ h))
    (run is_xid_continue is_word_byte (c ∷ cs) rest is_xid_continue-ascii all stops utf8)

sign_utf8 : (s : Sign) → IsUtf8 (sign_text s)
unfolding encode_utf8
sign_utf8 sign.Assign = (sign_text sign.Assign, (refl, refl))
sign_utf8 s = (sign_text s, (refl, refl))

fragment_utf8 : (f : Fragment) (rest : List ℕ) → fit f rest ≡ true → IsUtf8 (text_of f)
fragment_utf8 (gap b) rest fits =
    let low = separator_low b fits in (b ∷ [], (rw (low_scalar b (omega (arith, low))) refl, ap (λ x. x ++ []) (encode_ascii b low)))
fragment_utf8 (number text) rest fits = pass_utf8 is_ascii_digit text (begun_pass is_ascii_digit is_ascii_digit text (and_first _ _ fits))
fragment_utf8 (word w text is) rest fits = pass_utf8 is_word_byte text (begun_pass is_ascii_alphabetic is_word_byte text (and_first _ _ fits))
fragment_utf8 (name text is) rest fits = pass_utf8 is_word_byte text (begun_pass is_ascii_alphabetic is_word_byte text (and_first _ _ fits))
fragment_utf8 (mark s next ends) rest fits = sign_utf8 s

pub utf8_of_all : (fs : List Fragment) (rest : List ℕ) → fit_all fs rest ≡ true → IsUtf8 rest → IsUtf8 (text_of_all fs ++ rest)
utf8_of_all [] rest fits utf8 = utf8
utf8_of_all (f ∷ fs) rest fits utf8 =
    let behind = text_of_all fs ++ rest in
    subst IsUtf8 (sym (append_assoc (text_of f) (text_of_all fs) rest))
    (IsUtf8-append (text_of f) behind (fragment_utf8 f behind (and_first _ _ fits)) (utf8_of_all fs rest (and_second (fit f behind) _ fits) utf8))

-- a sign ends where its next byte stands
mark_longest : (s : Sign) (next : ℕ) (rest : List ℕ) → ((more : List ℕ) → IsLongest (sign_text s) (next ∷ more)) → begin (λ b. b == next) rest ≡ true
    → IsLongest (sign_text s) rest
mark_longest s next [] ends h = cc
mark_longest s next (b ∷ rest) ends h =
    let same : b ≡ next = grind (arith, nat_tests, h) in
    subst (λ x. IsLongest (sign_text s) (x ∷ rest)) (sym same) (ends rest)

module _ (rest : List ℕ) (start end : ℕ) (others : List Token) where
  -- a fragment is read as its token
  read_one : (f : Fragment) → fit f rest ≡ true → IsUtf8 rest → end ≡ start + length (text_of f) → Reads end rest others
      → Reads start (text_of f ++ rest) (with_token f start end others)
  read_one (gap b) fits utf8 e h = r.blank (b ∷ []) rest refl (inl (fits, refl)) (subst (λ x. Reads x rest others) e h)
  read_one (number text) fits utf8 e h =
      let n = digits_value 10 text in
      let more = and_second (begin_and_pass is_ascii_digit is_ascii_digit text) _ fits in
      let size : nat_le n greatest_number ≡ true = and_second (stop is_ascii_digit rest) _ more in
      let small : n ≤ greatest_number = grind (arith, nat_tests, size) in
      let long = number_longest text rest (and_first _ _ fits) (and_first _ _ more) utf8 in
      r.token (token_at (tok.Number n) start end) text rest refl long.0 (long.1, refl, small) refl e h
  read_one (word w text is) fits utf8 e h =
      let long = word_longest text rest (and_first _ _ fits) (and_second (begin_and_pass is_ascii_alphabetic is_word_byte text) _ fits) utf8 in
      r.token (token_at (tok.Word w) start end) text rest refl long.0 is refl e h
  read_one (name text is) fits utf8 e h =
      let long = word_longest text rest (and_first _ _ fits) (and_second (begin_and_pass is_ascii_alphabetic is_word_byte text) _ fits) utf8 in
      r.token (token_at tok.Name start end) text rest refl long.0 (long.1, is) refl e h
  read_one (mark s next ends) fits utf8 e h =
      r.token (token_at (tok.Sign s) start end) (sign_text s) rest refl (mark_longest s next rest ends fits) refl refl e h

-- and so are all
pub read_all : (fs : List Fragment) (at far : ℕ) (rest : List ℕ) (others : List Token) → fit_all fs rest ≡ true → IsUtf8 rest
    → Reads (at + end_of far fs) rest others → Reads (at + far) (text_of_all fs ++ rest) (tokens_of at far fs others)
read_all [] at far rest others fits utf8 h = h
read_all (f ∷ fs) at far rest others fits utf8 h =
    let n = length (text_of f) in
    let behind = text_of_all fs ++ rest in
    let onward = and_second (fit f behind) _ fits in
    subst (λ x. Reads (at + far) x (tokens_of at far (f ∷ fs) others)) (sym (append_assoc (text_of f) (text_of_all fs) rest))
    (read_one behind (at + far) (at + (far + n)) (tokens_of at (far + n) fs others) f (and_first _ _ fits) (utf8_of_all fs rest onward utf8)
    (omega arith) (read_all fs at (far + n) rest others onward utf8 h))
