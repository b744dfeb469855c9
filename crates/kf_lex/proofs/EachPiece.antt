-- Each text begins with a piece, and that is a blank, a token or wrong.
use Rattle.std.proofs.Common.{◌≡◌, ◌≢◌, ◌<◌, ◌≤◌, ◌&&◌, ◌==◌, ⊎_elim, ℕ, Bool, true, false, List, [], ◌∷◌, ◌++◌, Option, Some, None, append_assoc, length, take, drop, refl, sym, ap, ◌∙◌, subst, arith}
use Rattle.std.specs.Char.{encode_utf8, is_ascii_digit}
use Rattle.std.specs.List.{AllByRecursion}
use Rattle.std.specs.Str.{IsUtf8, all_scalars, encode_utf8_all}
use Rattle.std.specs.Str.Parse.{digits_value}
use Rattle.std.proofs.lemmas.Bool.{cases_Bool, cases_lt, false≢true}
use Rattle.std.proofs.lemmas.Bool.Decides.{nat_tests}
use Rattle.std.proofs.lemmas.Str.{IsUtf8-drop, IsUtf8-encode, encode_same}
use Rattle.unicode_ident.specs.Ident.{is_xid_continue}
use Rattle.kf_lex.specs.declared.cuts.TheConstants.{SIGNS}
use Rattle.kf_lex.specs.declared.token.Sign.{Sign}
use Rattle.kf_lex.specs.declared.token.Sign.TheVariants as sign
use Rattle.kf_lex.specs.declared.token.Tok.{Tok}
use Rattle.kf_lex.specs.declared.token.Tok.TheVariants as tok
use Rattle.kf_lex.specs.declared.token.Word.{Word}
use Rattle.kf_lex.specs.Cuts.{IsBeginning, IsRun, first_sign, is_in_line, IsNumber, begins_name}
use Rattle.kf_lex.specs.Words.{reserved, sign_text}
use Rattle.kf_lex.specs.Lexemes.{IsLongest, IsWord, Spells, greatest_number}
use Rattle.kf_lex.specs.Pieces.{IsBlank, IsOther, IsPiece, is_separator}
use Rattle.kf_lex.specs.Pieces as piece
use Rattle.kf_lex.proofs.Both.{and_first}
use Rattle.kf_lex.proofs.Runs.{no_char_in_nothing}
use Rattle.kf_lex.proofs.SignSearch.{sign_front}
use Rattle.kf_lex.proofs.Following.{piece_length}
use Rattle.kf_lex.proofs.Cutting.{cut_comment, cut_separator, cut_whole, separator_boundary}
use Rattle.kf_lex.proofs.LongestCuts.{cut_number, cut_other, cut_sign, cut_word, encodes_front, scalars_behind}

-- characters up to the first that fails the test, and those from it on
record Spans (p : ℕ → Bool) (cs : List ℕ) : Type 0 where
  ahead : List ℕ
  after : List ℕ
  whole : cs ≡ ahead ++ after
  passes : AllByRecursion (λ c. p c ≡ true) ahead
  stops : (d : ℕ) (ds : List ℕ) → after ≡ d ∷ ds → p d ≡ false

spans : (p : ℕ → Bool) (cs : List ℕ) → Spans p cs
spans p [] = record { ahead = []; after = []; whole = refl; passes = tt; stops = λ d ds e. absurd (cc) }
spans p (c ∷ cs) =
    ⊎_elim
    (λ (yes : p c ≡ true).
    let more = spans p cs in
    record { ahead = c ∷ more.ahead; after = more.after; whole = ap (λ x. c ∷ x) more.whole; passes = (yes, more.passes); stops = more.stops })
    (λ (no : p c ≡ false).
    record { ahead = []; after = c ∷ cs; whole = refl; passes = tt; stops = λ d ds e. let same : d ≡ c = cc in ap p same ∙ no })
    (cases_Bool (p c))

encoded : (xs ys : List ℕ) → encode_utf8_all (xs ++ ys) ≡ encode_utf8_all xs ++ encode_utf8_all ys
encoded [] ys = refl
encoded (x ∷ xs) ys =
    ap (λ t. encode_utf8 x ++ t) (encoded xs ys) ∙ sym (append_assoc (encode_utf8 x) (encode_utf8_all xs) (encode_utf8_all ys))

both_true : (a b : Bool) → a ≡ true → b ≡ true → (a && b) ≡ true
both_true a b p q = rw (p, q) refl

scalars_ahead : (front rest : List ℕ) → all_scalars (front ++ rest) ≡ true → all_scalars front ≡ true
scalars_ahead [] rest h = refl
scalars_ahead (x ∷ front) rest h = both_true _ _ (and_first _ _ h) (scalars_ahead front rest (scalars_behind (x ∷ []) (front ++ rest) h))

run_stops : (p : ℕ → Bool) (after : List ℕ) → ((d : ℕ) (ds : List ℕ) → after ≡ d ∷ ds → p d ≡ false) → (c : ℕ) (more : List ℕ)
    → encode_utf8_all after ≡ encode_utf8 c ++ more → p c ≡ false
run_stops p [] stops c more e = absurd (no_char_in_nothing c more e)
run_stops p (d ∷ ds) stops c more e = ap p (sym (encode_same d c (encode_utf8_all ds) more e).0) ∙ stops d ds refl

-- where a run of characters that pass the test cuts a text
record Run (p : ℕ → Bool) (text : List ℕ) : Type 0 where
  front : List ℕ
  rest : List ℕ
  is : IsRun p text front rest

run_of : (p : ℕ → Bool) (text : List ℕ) → IsUtf8 text → Run p text
run_of p text utf8 =
    let s = spans p utf8.0 in
    let scalars : all_scalars (s.ahead ++ s.after) ≡ true = subst (λ cs. all_scalars cs ≡ true) s.whole utf8.1.0 in
    record {
      front = encode_utf8_all s.ahead;
      rest = encode_utf8_all s.after;
      is = record {
        whole = sym utf8.1.1 ∙ ap encode_utf8_all s.whole ∙ encoded s.ahead s.after;
        chars = s.ahead;
        scalars = scalars_ahead s.ahead s.after scalars;
        spelt = refl;
        passes = s.passes;
        utf8 = (s.after, (scalars_behind s.ahead s.after scalars, refl));
        stops = λ c more scalar e. run_stops p s.after s.stops c more e;
      };
    }

-- what follows a text in one that is UTF-8
utf8_behind : (a rest : List ℕ) → IsUtf8 a → IsUtf8 (a ++ rest) → IsUtf8 rest
utf8_behind a rest u v =
    let parts = encodes_front u.0 v.0 rest (v.1.1 ∙ ap (λ x. x ++ rest) (sym u.1.1)) in
    (parts.0, (scalars_behind u.0 parts.0 (subst (λ cs. all_scalars cs ≡ true) parts.1 v.1.0), parts.2))

sign_utf8 : (s : Sign) → IsUtf8 (sign_text s)
unfolding encode_utf8
sign_utf8 sign.Assign = (sign_text sign.Assign, (refl, refl))
sign_utf8 s = (sign_text s, (refl, refl))

-- what a piece is: a blank, a token, a number that is too great or a character that begins no token
pub data Told (a rest : List ℕ) : Type 0 where
  blank : IsBlank a rest → Told a rest
  token : (kind : Tok) → IsLongest a rest → Spells kind a → Told a rest
  great : IsLongest a rest → IsNumber a → greatest_number < digits_value 10 a → Told a rest
  other : IsOther a rest → Told a rest

pub told_piece : (a rest : List ℕ) → Told a rest → IsPiece a rest
told_piece a rest (blank b) = piece.blank b
told_piece a rest (token kind long spelt) = piece.token long
told_piece a rest (great long number big) = piece.token long
told_piece a rest (other o) = piece.other o

-- the piece with which a text begins, and what follows it
pub record First (text : List ℕ) : Type 0 where
  pub front : List ℕ
  pub rest : List ℕ
  pub whole : text ≡ front ++ rest
  pub utf8 : IsUtf8 rest
  pub told : Told front rest

number_told : (a rest : List ℕ) → IsLongest a rest × IsNumber a → Told a rest
number_told a rest h =
    ⊎_elim
    (λ (big : greatest_number < digits_value 10 a). great h.0 h.1 big)
    (λ (small : digits_value 10 a ≤ greatest_number). token (tok.Number (digits_value 10 a)) h.0 (h.1, refl, small))
    (cases_lt greatest_number (digits_value 10 a))

word_told : (a rest : List ℕ) (w : Option Word) → reserved a ≡ w → IsLongest a rest × IsWord a → Told a rest
word_told a rest (Some w) e h = token (tok.Word w) h.0 e
word_told a rest None e h = token tok.Name h.0 (h.1, e)

run_first : (p : ℕ → Bool) (text : List ℕ) (run : Run p text) → Told run.front run.rest → First text
run_first p text run told = record { front = run.front; rest = run.rest; whole = run.is.whole; utf8 = run.is.utf8; told = told }

-- a sign, or a character with which no token begins
sign_first : (c : ℕ) (text : List ℕ) (found : Option Sign) → first_sign SIGNS text ≡ found → IsUtf8 text → IsBeginning c text
    → is_separator c ≡ false → c ≢ 35 → is_ascii_digit c ≡ false → begins_name c ≡ false → First text
sign_first c text (Some s) e utf8 begins separator comment digit name =
    let n = length (sign_text s) in
    let sign = cut_sign text (take n text) (drop n text) s e refl (cut_whole n text) in
    record {
      front = take n text;
      rest = drop n text;
      whole = cut_whole n text;
      utf8 = utf8_behind (sign_text s) (drop n text) (sign_utf8 s) (subst IsUtf8 (sign_front SIGNS text s e) utf8);
      told = token (tok.Sign s) sign.0 sign.1;
    }
sign_first c text None e utf8 begins separator comment digit name = record {
  front = encode_utf8 c;
  rest = begins.1.0;
  whole = begins.1.1;
  utf8 = utf8_behind (encode_utf8 c) begins.1.0 (IsUtf8-encode c begins.0) (subst IsUtf8 begins.1.1 utf8);
  told = other (cut_other c text (encode_utf8 c) begins.1.0 begins separator comment digit name (sym e) refl begins.1.1);
}

separator_first : (c : ℕ) (text : List ℕ) → IsUtf8 text → IsBeginning c text → is_separator c ≡ true → First text
separator_first c text utf8 begins h = record {
  front = take 1 text;
  rest = drop 1 text;
  whole = cut_whole 1 text;
  utf8 = IsUtf8-drop text 1 utf8 (separator_boundary c text utf8 begins h);
  told = blank (cut_separator c text begins h);
}

comment_first : (c : ℕ) (text : List ℕ) → IsUtf8 text → IsBeginning c text → (c == 35) ≡ true → First text
comment_first c text utf8 begins h =
    let same : c ≡ 35 = grind (arith, nat_tests, h) in
    let run = run_of is_in_line text utf8 in
    run_first is_in_line text run (blank (cut_comment text run.front run.rest (subst (λ d. IsBeginning d text) same begins) run.is))

digit_first : (c : ℕ) (text : List ℕ) → IsUtf8 text → IsBeginning c text → is_ascii_digit c ≡ true → First text
digit_first c text utf8 begins h =
    let run = run_of is_ascii_digit text utf8 in
    run_first is_ascii_digit text run (number_told run.front run.rest (cut_number c text run.front run.rest begins h run.is))

word_first : (c : ℕ) (text : List ℕ) → IsUtf8 text → IsBeginning c text → begins_name c ≡ true → First text
word_first c text utf8 begins h =
    let run = run_of is_xid_continue text utf8 in
    run_first is_xid_continue text run (word_told run.front run.rest (reserved run.front) refl (cut_word c text run.front run.rest begins h run.is))

pub first_of_text : (c : ℕ) (text : List ℕ) → IsUtf8 text → IsBeginning c text → First text
first_of_text c text utf8 begins =
    ⊎_elim (λ (yes : is_separator c ≡ true). separator_first c text utf8 begins yes) (λ (separator : is_separator c ≡ false).
    ⊎_elim (λ (yes : (c == 35) ≡ true). comment_first c text utf8 begins yes) (λ (comment : (c == 35) ≡ false).
    ⊎_elim (λ (yes : is_ascii_digit c ≡ true). digit_first c text utf8 begins yes) (λ (digit : is_ascii_digit c ≡ false).
    ⊎_elim (λ (yes : begins_name c ≡ true). word_first c text utf8 begins yes) (λ (name : begins_name c ≡ false).
    sign_first c text (first_sign SIGNS text) refl utf8 begins separator (λ e. false≢true (sym comment ∙ ap (λ d. d == 35) e)) digit name)
    (cases_Bool (begins_name c)))
    (cases_Bool (is_ascii_digit c)))
    (cases_Bool (c == 35)))
    (cases_Bool (is_separator c))

pub told_length : (a rest : List ℕ) → Told a rest → 0 < length a
told_length a rest told = piece_length a rest (told_piece a rest told)
