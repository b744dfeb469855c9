-- What is made of a token that was read, and what is read behind it.
use Rattle.std.proofs.Common.{◌≡◌, Bool, List, sym, ◌∙◌, ap}
use Rattle.kf_lex.specs.declared.token.Token.{Token}
use Rattle.kf_lex.specs.declared.token.Tok.{Tok}
use Rattle.kf_parse.specs.Outcomes.{Outcome, got, stuck, deep, Parser, and_then, pure, expect}
use Rattle.kf_parse.proofs.Failing.{expected}

module _ {A B : Type 0} (test : Tok → Bool) (g : Token → A) (f : A → Parser B) where
  goes_on : (q : Outcome Token) (us : List Token) (a : A) → and_then q (λ o. pure (g o)) ≡ got a us → and_then q (λ o. f (g o)) ≡ f a us
  goes_on (got o vs) us a e = ap (λ v. and_then v f) e
  goes_on (stuck vs) us a e = absurd (cc)
  goes_on deep us a e = absurd (cc)

  pub expect_got : (ts us : List Token) (a : A) → expect test (λ o. pure (g o)) ts ≡ got a us → expect test (λ o. f (g o)) ts ≡ f a us
  expect_got ts us a e = expected test (λ o. f (g o)) ts ∙ goes_on (expect test pure ts) us a (sym (expected test (λ o. pure (g o)) ts) ∙ e)
