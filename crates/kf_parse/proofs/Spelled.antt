-- Names of the source are text.
use Rattle.std.proofs.Common.{◌≡◌, ◌-◌, ℕ, List, ◌∷◌, take, drop, length, slice_range, All, sym, subst, arith, length-drop}
use Rattle.std.proofs.lemmas.List.{take_all}
use Rattle.std.proofs.lemmas.List.Elements.{All-drop, All-head}
use Rattle.std.proofs.lemmas.Str.{IsUtf8-from_is_utf8, is_utf8-from_IsUtf8}
use Rattle.std.specs.Prelude.{IsUtf8, true}
use Rattle.kf_lex.specs.declared.token.Token.{Token}
use Rattle.kf_lex.specs.declared.token.Tok.TheVariants as t
use Rattle.kf_lex.specs.Laws.{HasName, HasSpans}
use Rattle.kf_parse.specs.Reads.{IsSpelled}
use Rattle.kf_parse.specs.Tokens.{is}
use Rattle.kf_parse.proofs.ToldTokens.{is_same}

pub behind_first : (src : List ℕ) (ts : List Token) → All (IsSpelled src) ts → All (IsSpelled src) (take (length ts - 1) (drop 1 ts))
behind_first src ts names =
    let whole : take (length ts - 1) (drop 1 ts) ≡ drop 1 ts = take_all (length ts - 1) (drop 1 ts) (omega (arith, length-drop 1 ts)) in
    let P : List Token → Type 0 = λ us. All (IsSpelled src) us in
    subst P (sym whole) (All-drop (IsSpelled src) 1 ts names)

pub text_of : (src : List ℕ) (ts us : List Token) (o : Token) → All (IsSpelled src) ts → ts ≡ o ∷ us → is t.Name o.kind ≡ true → IsUtf8 (slice_range src o.start o.end)
text_of src ts us o names e name =
    let P : List Token → Type 0 = λ vs. All (IsSpelled src) vs in
    let spelled = All-head (IsSpelled src) o us (subst P e names) (is_same t.Name o.kind name) in
    IsUtf8-from_is_utf8 _ spelled.2

pub all_spelled : (src : List ℕ) (ts : List Token) → HasSpans src ts → All (HasName src) ts → All (IsSpelled src) ts
all_spelled src ts spans names k d below name = let within = spans.within k d below in (omega (arith, within.0), within.1, is_utf8-from_IsUtf8 _ (names k d below name))
