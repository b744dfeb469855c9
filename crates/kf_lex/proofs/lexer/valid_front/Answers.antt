use Rattle.std.proofs.Common.{◌≡◌, ℕ, Bor, Err, List, Ok, Result, MatchResult, ap, arith, length, length-take, subst, sym, take, ◌∙◌}
use Rattle.std.specs.Result.{result_unwrap_or}
use Rattle.std.specs.Str.{IsUtf8, IsValidUpTo}
use Rattle.kf_lex.proofs.Faults.{whole_front}
use Rattle.kf_lex.proofs.lexer.valid_front.Goals as goal

-- what is read of bytes that are UTF-8 is those bytes
read_again : {E : Type 0} (r : Result (Bor (List ℕ)) E) (d : Bor (List ℕ)) (bs : List ℕ) (P : E → Type 0) → IsUtf8 bs
    → MatchResult r (λ s. (s.now ≡ bs) × IsUtf8 bs) (λ e. ¬ (IsUtf8 bs) × P e) → (result_unwrap_or r d).now ≡ bs
read_again (Ok s) d bs P utf8 h = h.0
read_again (Err e) d bs P utf8 h = absurd (h.0 utf8)

valid_length : (src text : List ℕ) (n : ℕ) → text ≡ take n src → IsValidUpTo src n → IsValidUpTo src (length text)
valid_length src text n e valid =
    let short = valid.short in
    let size : length text ≡ n = omega (arith, ap length e, length-take n src, short) in
    subst (IsValidUpTo src) (sym size) valid

pub returns-in-Ok-clause-value : goal.returns-in-Ok-clause-value
returns-in-Ok-clause-value c = c.in-Ok.ensures.cases.0 ∙ sym (whole_front c.args.src.now c.in-Ok.ensures.cases.1)

pub returns-in-Err-clause-longest : goal.returns-in-Err-clause-longest
returns-in-Err-clause-longest c = λ short.
    let valid = subst (IsValidUpTo c.args.src.now) (sym c.valid_up_to.ensures) c.in-Err.ensures.cases.1 in
    valid_length c.args.src.now _ c.valid_up_to.result
    (ap (λ s. s.now) c.unwrap_or.ensures ∙ read_again c.from_utf8-in-Err.result _ (take c.valid_up_to.result c.args.src.now) _ valid.front c.from_utf8-in-Err.ensures.cases)
    valid
