-- For bodies: reading from left to right: what was read and the tokens after it, or the tokens at which it is stuck.
use Rattle.std.specs.Prelude.{ℕ, zero, suc, Bool, true, false, List, [], ◌∷◌, length, Option, Some, None}
use Rattle.kf_lex.specs.declared.token.Token.{Token}
use Rattle.kf_lex.specs.declared.token.Tok.{Tok}

pub data Outcome (A : Type 0) : Type 0 where
  -- what was read, and the tokens after it
  got : A → List Token → Outcome A
  -- nothing goes on with the first of these tokens, or with their end
  stuck : List Token → Outcome A
  -- brackets nest deeper than the reader goes
  deep : Outcome A

abbrev pub Parser : Type 0 → Type 0
Parser A = List Token → Outcome A

abbrev pub and_then : {A B : Type 0} → Outcome A → (A → Parser B) → Outcome B
and_then (got a rest) f = f a rest
and_then (stuck rest) f = stuck rest
and_then deep f = deep

infixl 10 ◌>>=◌
abbrev pub ◌>>=◌ : {A B : Type 0} → Parser A → (A → Parser B) → Parser B
p >>= f = λ ts. and_then (p ts) f

abbrev pub pure : {A : Type 0} → A → Parser A
pure a = λ ts. got a ts

abbrev pub refuse : {A : Type 0} → Parser A
refuse = λ ts. stuck ts

abbrev pub too_deep : {A : Type 0} → Parser A
too_deep = λ ts. deep

-- goes on behind the token, or as the other reader does with the token still there
abbrev pub behind : {A : Type 0} → Option (Parser A) → Parser A → Token → Parser A
behind (Some p) q o = p
behind None q o = λ ts. q (o ∷ ts)

-- takes the first token where it says how to go on, or is the other reader
abbrev pub first_or : {A : Type 0} → (Token → Option (Parser A)) → Parser A → Parser A
first_or f q [] = q []
first_or f q (o ∷ ts) = behind (f o) q o ts

abbrev pub first : {A : Type 0} → (Token → Option (Parser A)) → Parser A
first f = first_or f refuse

abbrev pub where_true : {A : Type 0} → Bool → A → Option A
where_true true a = Some a
where_true false a = None

-- a token of which the test says that it is expected, and what comes after it
abbrev pub expect : {A : Type 0} → (Tok → Bool) → (Token → Parser A) → Parser A
expect test f = first (λ o. where_true (test o.kind) (f o))

abbrev pub if_first : {A : Type 0} → (Tok → Bool) → (Token → Parser A) → Parser A → Parser A
if_first test f q = first_or (λ o. where_true (test o.kind) (f o)) q

abbrev pub going_on : {S : Type 0} → (S → Parser S) → Option (Parser S) → Option (Parser S)
going_on k (Some p) = Some (p >>= k)
going_on k None = None

-- steps from one state to the next, as long as the first token says how; the number bounds the steps
unfoldable pub repeated : {S : Type 0} → (Token → S → Option (Parser S)) → ℕ → S → Parser S
repeated step zero s = refuse
repeated step (suc n) s = first_or (λ o. going_on (repeated step n) (step o s)) (pure s)

-- each step takes a token, so that there are no more steps than tokens
unfoldable pub repeat : {S : Type 0} → (Token → S → Option (Parser S)) → S → Parser S
repeat step s = λ ts. repeated step (suc (length ts)) s ts
