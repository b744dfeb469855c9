-- What the tests of tokens say.
use denote.Enum.Bare.{same_true}
use Rattle.std.proofs.Common.{◌≡◌, true, refl, sym, ap}
use Rattle.std.proofs.lemmas.Bool.{eqb-true}
use Rattle.kf_lex.specs.contracts.token.Sign.{the_type as sign_type}
use Rattle.kf_lex.specs.contracts.token.Word.{the_type as word_type}
use Rattle.kf_lex.specs.declared.token.Tok.{Tok}
use Rattle.kf_lex.specs.declared.token.Tok.TheVariants as t
use Rattle.kf_parse.specs.Tokens.{is}

-- a token of which the test says that it is of this kind
pub is_same : (j k : Tok) → is j k ≡ true → k ≡ j
is_same t.Name t.Name e = refl
is_same (t.Number j) (t.Number k) e = ap t.Number (sym (eqb-true j k e))
is_same (t.Word v) (t.Word w) e = ap t.Word (sym (same_true word_type tt v w e))
is_same (t.Sign r) (t.Sign s) e = ap t.Sign (sym (same_true sign_type tt r s e))
is_same _ _ e = cc
