-- A run of digits, a run of word characters and the sign that is found are the longest tokens at their place.
use Rattle.std.proofs.Common.{◌≡◌, ◌≢◌, ◌<◌, ◌||◌, ◌==◌, ⊎_elim, inl, inr, ℕ, true, false, List, [], ◌∷◌, ◌++◌, Some, None, length, length-append, append_assoc, take, refl, sym, ap, ◌∙◌, subst, arith}
use Rattle.std.specs.Char.{IsScalar, digit_value, encode_utf8, is_ascii_digit}
use Rattle.std.specs.Int.{IsInRange}
use Rattle.std.specs.List.{AllByRecursion}
use Rattle.std.specs.Str.{all_scalars, encode_utf8_all}
use Rattle.std.specs.Str.Parse.{AllDigits}
use Rattle.std.proofs.Math.Utf8.{low_scalar}
use Rattle.std.proofs.lemmas.Bool.{false≢true}
use Rattle.std.proofs.lemmas.Bool.Decides.{nat_tests}
use Rattle.std.proofs.lemmas.Str.{char_from_byte, cons_from_encodes, encode_ascii, encode_same}
use Rattle.std.proofs.lemmas.Str.Parse.{digit_from_value}
use Rattle.std.proofs.Math.Seq.{take-append_seam}
use Rattle.unicode_ident.specs.Ident.{is_xid_continue, is_xid_start}
use Rattle.unicode_ident.proofs.IdentLemmas.{is_xid_continue-ascii, is_xid_start-is_xid_continue}
use Rattle.kf_lex.specs.declared.cuts.TheConstants.{SIGNS}
use Rattle.kf_lex.specs.declared.token.Sign.{Sign}
use Rattle.kf_lex.specs.Cuts.{IsBeginning, IsRun, first_sign, IsSign, IsNumber, begins_name}
use Rattle.kf_lex.specs.Words.{sign_text}
use Rattle.kf_lex.specs.Lexemes.{IsLexeme, IsLongest, IsWord}
use Rattle.kf_lex.specs.Pieces.{IsBlank, IsComment, IsOther, is_separator}
use Rattle.kf_lex.proofs.Both.{all_behind, and_first, and_second}
use Rattle.kf_lex.proofs.FirstBytes.{Begins, begins-append, clash, number_sort, sign_sort, word_sort}
use Rattle.kf_lex.proofs.SignSearch.{found_again, no_sign_front, sign_front, sign_longest}
use Rattle.kf_lex.proofs.Cutting.{run_begins, separator_low}

-- a lexeme is of the kind that its first byte says
number_from : (text : List ℕ) → IsLexeme text → Begins 1 text → IsNumber text
number_from text h b =
    ⊎_elim (λ (s : IsSign text). absurd (clash 1 3 text (omega arith) b (subst (Begins 3) (sym s.1) (sign_sort s.0))))
    (λ h'. ⊎_elim (λ (n : IsNumber text). n) (λ (w : IsWord text). absurd (clash 1 2 text (omega arith) b (word_sort text w))) h') h

word_from : (text : List ℕ) → IsLexeme text → Begins 2 text → IsWord text
word_from text h b =
    ⊎_elim (λ (s : IsSign text). absurd (clash 2 3 text (omega arith) b (subst (Begins 3) (sym s.1) (sign_sort s.0))))
    (λ h'. ⊎_elim (λ (n : IsNumber text). absurd (clash 1 2 text (omega arith) (number_sort text n) b)) (λ (w : IsWord text). w) h') h

sign_from : (text : List ℕ) → IsLexeme text → Begins 3 text → IsSign text
sign_from text h b =
    ⊎_elim (λ (s : IsSign text). s)
    (λ h'. ⊎_elim (λ (n : IsNumber text). absurd (clash 1 3 text (omega arith) (number_sort text n) b))
    (λ (w : IsWord text). absurd (clash 2 3 text (omega arith) (word_sort text w) b)) h') h

-- digits
digit_value_small : (c : ℕ) → is_ascii_digit c ≡ true → digit_value c < 10
digit_value_small c h = grind (arith, nat_tests, h)

digit_low : (c : ℕ) → is_ascii_digit c ≡ true → c < 128
digit_low c h = grind (arith, nat_tests, h)

digit_test : (c : ℕ) → IsInRange 48 57 c → is_ascii_digit c ≡ true
digit_test c h = grind (arith, nat_tests, h.0, h.1)

all_digits : (cs : List ℕ) → AllByRecursion (λ c. is_ascii_digit c ≡ true) cs → (encode_utf8_all cs ≡ cs) × AllDigits 10 cs
all_digits [] h = (refl, tt)
all_digits (c ∷ cs) h =
    let more = all_digits cs h.1 in
    (ap (λ x. x ++ encode_utf8_all cs) (encode_ascii c (digit_low c h.0)) ∙ ap (λ x. c ∷ x) more.0, (digit_value_small c h.0, more.1))

digits_behind : (front rest : List ℕ) → AllDigits 10 (front ++ rest) → AllDigits 10 rest
digits_behind [] rest h = h
digits_behind (x ∷ front) rest h = digits_behind front rest h.1

-- no digit follows
no_digit_follows : (front rest more left : List ℕ) → ((c : ℕ) (more : List ℕ) → IsScalar c → rest ≡ encode_utf8 c ++ more → is_ascii_digit c ≡ false)
    → rest ≡ more ++ left → AllDigits 10 more → more ≡ []
no_digit_follows front rest [] left stops e h = refl
no_digit_follows front rest (b ∷ more) left stops e h =
    let range = digit_from_value b h.0 in
    let ascii = encode_ascii b (omega (arith, range.1)) in
    absurd (false≢true (sym (stops b (more ++ left) (low_scalar b (omega (arith, range.1))) (e ∙ ap (λ x. x ++ (more ++ left)) (sym ascii))) ∙ digit_test b range))

pub cut_number : (c : ℕ) (text front rest : List ℕ) → IsBeginning c text → is_ascii_digit c ≡ true → IsRun is_ascii_digit text front rest
    → IsLongest front rest × IsNumber front
cut_number c text front rest begins digit run =
    let starts = run_begins is_ascii_digit c text front rest run begins digit in
    let digits = all_digits run.chars run.passes in
    let spelt : front ≡ run.chars = run.spelt ∙ digits.0 in
    let number : IsNumber front = rw spelt (omega (arith, ap length starts.1), digits.1) in (
      record {
        lexeme = inr (inl number);
        longest = λ more left e lexeme.
            no_digit_follows front rest more left run.stops e (digits_behind front more (number_from (front ++ more) lexeme (begins-append 1 front more (number_sort front number))).1);
      },
      number,
    )

-- words
continues_too : (c : ℕ) → begins_name c ≡ true → is_xid_continue c ≡ true
continues_too c h =
    elim (is_xid_start c) as (λ b. is_xid_start c ≡ b → (b || (c == 95)) ≡ true → is_xid_continue c ≡ true) [
      | true ↦ λ start _. is_xid_start-is_xid_continue c start
      | false ↦ λ _ underscore. let same : c ≡ 95 = grind (arith, nat_tests, underscore) in rw same (is_xid_continue-ascii 95 (omega arith))
    ] refl h

-- the characters of a text that goes on go on with those of its front
pub encodes_front : (ds cs more : List ℕ) → encode_utf8_all cs ≡ encode_utf8_all ds ++ more → (es : List ℕ) × (cs ≡ ds ++ es) × (encode_utf8_all es ≡ more)
encodes_front [] cs more e = (cs, refl, e)
encodes_front (d ∷ ds) cs more e =
    let first = cons_from_encodes cs (encode_utf8_all ds ++ more) d (e ∙ append_assoc (encode_utf8 d) (encode_utf8_all ds) more) in
    let others = encodes_front ds first.0 more first.2 in
    (others.0, first.1 ∙ ap (λ x. d ∷ x) others.1, others.2)

pub scalars_behind : (front rest : List ℕ) → all_scalars (front ++ rest) ≡ true → all_scalars rest ≡ true
scalars_behind [] rest h = h
scalars_behind (x ∷ front) rest h = scalars_behind front rest (and_second _ _ h)

no_word_follows : (rest more left es : List ℕ) → ((c : ℕ) (more : List ℕ) → IsScalar c → rest ≡ encode_utf8 c ++ more → is_xid_continue c ≡ false)
    → rest ≡ more ++ left → encode_utf8_all es ≡ more → AllByRecursion (λ d. is_xid_continue d ≡ true) es → all_scalars es ≡ true → more ≡ []
no_word_follows rest more left [] stops e spelt h scalars = sym spelt
no_word_follows rest more left (d ∷ es) stops e spelt h scalars =
    let goes_on : rest ≡ encode_utf8 d ++ (encode_utf8_all es ++ left) =
    e ∙ ap (λ x. x ++ left) (sym spelt) ∙ append_assoc (encode_utf8 d) (encode_utf8_all es) left in
    absurd (false≢true (sym (stops d (encode_utf8_all es ++ left) (and_first _ _ scalars) goes_on) ∙ h.0))

word_ends : (text front rest more left : List ℕ) → IsRun is_xid_continue text front rest → rest ≡ more ++ left → IsWord (front ++ more) → more ≡ []
word_ends text front rest more left run e w =
    let parts = encodes_front run.chars (w.0 ∷ w.1) more (sym w.3 ∙ ap (λ x. x ++ more) run.spelt) in
    let all = subst (AllByRecursion (λ d. is_xid_continue d ≡ true)) parts.1 (continues_too w.0 w.2.begins, w.2.continues) in
    let scalars = subst (λ x. all_scalars x ≡ true) parts.1 w.2.scalars in
    no_word_follows rest more left parts.0 run.stops e parts.2 (all_behind (λ d. is_xid_continue d ≡ true) run.chars parts.0 all) (scalars_behind run.chars parts.0 scalars)

pub cut_word : (c : ℕ) (text front rest : List ℕ) → IsBeginning c text → begins_name c ≡ true → IsRun is_xid_continue text front rest
    → IsLongest front rest × IsWord front
cut_word c text front rest begins name run =
    let starts = run_begins is_xid_continue c text front rest run begins (continues_too c name) in
    let passes = subst (AllByRecursion (λ d. is_xid_continue d ≡ true)) starts.1 run.passes in
    let word : IsWord front = (c, starts.0, record { begins = name; continues = passes.1; scalars = subst (λ x. all_scalars x ≡ true) starts.1 run.scalars }, run.spelt ∙ ap encode_utf8_all starts.1) in (
      record {
        lexeme = inr (inr word);
        longest = λ more left e lexeme.
            word_ends text front rest more left run e (word_from (front ++ more) lexeme (begins-append 2 front more (word_sort front word)));
      },
      word,
    )

-- signs
sign_ends : (text more left : List ℕ) (s t : Sign) → first_sign SIGNS text ≡ Some s → text ≡ (sign_text s ++ more) ++ left → sign_text s ++ more ≡ sign_text t → more ≡ []
sign_ends text [] left s t h e f = refl
sign_ends text (b ∷ more) left s t h e f =
    let longest = sign_longest SIGNS text left s t (found_again t) h (e ∙ ap (λ x. x ++ left) f) in
    absurd (omega (arith, longest, ap length f, length-append (sign_text s) (b ∷ more)))

pub cut_sign : (text front rest : List ℕ) (s : Sign) → first_sign SIGNS text ≡ Some s → front ≡ take (length (sign_text s)) text → text ≡ front ++ rest
    → IsLongest front rest × (front ≡ sign_text s)
cut_sign text front rest s h e whole =
    let spelt : front ≡ sign_text s = e ∙ ap (take (length (sign_text s))) (sign_front SIGNS text s h) ∙ take-append_seam (sign_text s) _ in (
      record {
        lexeme = inl (s, spelt);
        longest = λ more left f lexeme.
            let sign = sign_from (front ++ more) lexeme (begins-append 3 front more (subst (Begins 3) (sym spelt) (sign_sort s))) in
            let text_is : text ≡ (sign_text s ++ more) ++ left = whole ∙ ap (λ x. front ++ x) f ∙ sym (append_assoc front more left) ∙ ap (λ x. (x ++ more) ++ left) spelt in
            sign_ends text more left s sign.0 h text_is (ap (λ x. x ++ more) (sym spelt) ∙ sign.1);
      },
      spelt,
    )

-- a character of the text that is one byte
first_byte : (c b : ℕ) (text bs : List ℕ) → IsBeginning c text → text ≡ b ∷ bs → b < 128 → c ≡ b
first_byte c b text bs begins e low =
    char_from_byte (b ∷ bs) begins.1.0 c (sym e ∙ begins.1.1) low (omega arith)

no_blank : (c : ℕ) (text front left : List ℕ) → IsBeginning c text → is_separator c ≡ false → c ≢ 35 → text ≡ front ++ left → IsBlank front left → ⊥
no_blank c text [] left begins separator comment e h = h
no_blank c text (b ∷ line) left begins separator comment e h =
    ⊎_elim
    (λ (s : (is_separator b ≡ true) × (line ≡ [])). false≢true (sym separator ∙ ap is_separator (first_byte c b text (line ++ left) begins e (separator_low b s.0)) ∙ s.0))
    (λ (s : (b ≡ 35) × IsComment line left). comment (first_byte c b text (line ++ left) begins e (omega (arith, s.0)) ∙ s.0)) h

no_number : (c : ℕ) (text front left : List ℕ) → IsBeginning c text → is_ascii_digit c ≡ false → text ≡ front ++ left → IsNumber front → ⊥
no_number c text [] left begins digit e h = absurd (omega (arith, h.0))
no_number c text (b ∷ bs) left begins digit e h =
    let range = digit_from_value b h.1.0 in
    false≢true (sym digit ∙ ap is_ascii_digit (first_byte c b text (bs ++ left) begins e (omega (arith, range.1))) ∙ digit_test b range)

no_word : (c : ℕ) (text front left : List ℕ) → IsBeginning c text → begins_name c ≡ false → text ≡ front ++ left → IsWord front → ⊥
no_word c text front left begins name e w =
    let first : encode_utf8 w.0 ++ (encode_utf8_all w.1 ++ left) ≡ encode_utf8 c ++ begins.1.0 =
    sym (append_assoc (encode_utf8 w.0) (encode_utf8_all w.1) left) ∙ ap (λ x. x ++ left) (sym w.3) ∙ sym e ∙ begins.1.1 in
    let same = (encode_same w.0 c _ _ first).0 in
    false≢true (sym name ∙ ap begins_name (sym same) ∙ w.2.begins)

pub cut_other : (c : ℕ) (text front rest : List ℕ) → IsBeginning c text → is_separator c ≡ false → c ≢ 35 → is_ascii_digit c ≡ false → begins_name c ≡ false
    → None ≡ first_sign SIGNS text → front ≡ encode_utf8 c → text ≡ front ++ rest → IsOther front rest
cut_other c text front rest begins separator comment digit name sign spelt whole = record {
  char = c;
  scalar = begins.0;
  spelt = spelt;
  no_blank = λ a left e. no_blank c text a left begins separator comment (whole ∙ e);
  no_token = λ a left e lexeme.
      ⊎_elim
      (λ (s : IsSign a). no_sign_front SIGNS text left s.0 (found_again s.0) (sym sign) (whole ∙ e ∙ ap (λ x. x ++ left) s.1))
      (λ h. ⊎_elim (λ (n : IsNumber a). no_number c text a left begins digit (whole ∙ e) n) (λ (w : IsWord a). no_word c text a left begins name (whole ∙ e) w) h) lexeme;
}
