-- What reading makes of the count of open brackets: a whole form leaves it, and reading gives up only where it is high.
use Rattle.std.proofs.Common.{◌≡◌, ℕ, zero, suc, ◌+◌, ◌≤◌, Bool, true, List, [], ◌∷◌, ◌++◌, length, refl, sym, ◌∙◌, ap, append_assoc, arith, Option, Some, None, IfSome}
use Rattle.kf_lex.specs.declared.token.Token.{Token}
use Rattle.kf_lex.specs.declared.token.Tok.{Tok}
use Rattle.kf_parse.specs.Depth.{Open, opened}
use Rattle.kf_parse.specs.Outcomes.{Outcome, got, stuck, deep, Parser, and_then, ◌>>=◌, pure, refuse, too_deep, behind, first_or, first, where_true, expect, if_first, going_on, repeated, repeat}
use Rattle.kf_parse.proofs.Told.{where_true_some}
use Rattle.kf_parse.specs.Tokens.{open_after}

-- brackets that stand open, and words `of` behind them
abbrev pub opens : ℕ → ℕ → Open
opens n m = record { brackets = n; ofs = m }

-- so many more than a count
abbrev pub above : ℕ → ℕ → ℕ
above zero n = n
above (suc i) n = suc (above i n)

above_sum : (i n : ℕ) → above i n ≡ i + n
above_sum zero n = omega arith
above_sum (suc i) n = omega (arith, above_sum i n)

abbrev pub total : Open → ℕ
total c = c.brackets + c.ofs

open_append : (c : Open) (a b : List Token) → open_after c (a ++ b) ≡ open_after (open_after c a) b
open_append c [] b = refl
open_append c (o ∷ a) b = open_append (opened c o.kind) a b

-- From any count with so many brackets and words `of` above it, the tokens up to the rest lead back to it.
pub record Passed (i m : ℕ) (ts rest : List Token) : Type 0 where
  pub front : List Token
  pub whole : ts ≡ front ++ rest
  pub back : (n : ℕ) → open_after (opens (above i n) m) front ≡ opens n 0

-- some front of the tokens leads to so many above it
pub record Sunk (i m e : ℕ) (ts : List Token) : Type 0 where
  pub front : List Token
  pub rest : List Token
  pub whole : ts ≡ front ++ rest
  pub stands : (n : ℕ) → n + e ≤ total (open_after (opens (above i n) m) front)

abbrev pub Leveled : {A : Type 0} (i m e : ℕ) → List Token → Outcome A → Type 0
Leveled i m e ts (got a rest) = Passed i m ts rest
Leveled i m e ts (stuck rest) = Unit {0}
Leveled i m e ts deep = Sunk i m e ts

pub record Balanced {A : Type 0} (i m e : ℕ) (p : Parser A) : Type 0 where
  pub leveled : (ts : List Token) → Leveled i m e ts (p ts)

-- the same behind a token
pub record Behind {A : Type 0} (i m e : ℕ) (o : Token) (p : Parser A) : Type 0 where
  pub leveled : (ts : List Token) → Leveled i m e (o ∷ ts) (p ts)

pub pure_balanced : {A : Type 0} (e : ℕ) (a : A) → Balanced 0 0 e (pure a)
pure_balanced e a = record { leveled = λ ts. record { front = []; whole = refl; back = λ n. refl } }

refuse_balanced : {A : Type 0} (i m e : ℕ) → Balanced {A = A} i m e refuse
refuse_balanced i m e = record { leveled = λ ts. tt }

-- as many words `of` as are wanted stand there
pub deep_balanced : {A : Type 0} (m : ℕ) → Balanced {A = A} 0 m m too_deep
deep_balanced m = record { leveled = λ ts. record { front = []; rest = ts; whole = refl; stands = λ n. omega arith } }

-- after tokens that lead from one count to another
leads : {A : Type 0} (i m j k e : ℕ) (a ts rest : List Token) (o : Outcome A) → ((n : ℕ) → open_after (opens (above i n) m) a ≡ opens (above j n) k) → ts ≡ a ++ rest → Leveled j k e rest o → Leveled i m e ts o
leads i m j k e a ts rest (got x end) moves w h = record {
  front = a ++ h.front;
  whole = w ∙ ap (λ z. a ++ z) h.whole ∙ sym (append_assoc a h.front end);
  back = λ n. open_append (opens (above i n) m) a h.front ∙ ap (λ c. open_after c h.front) (moves n) ∙ h.back n;
}
leads i m j k e a ts rest (stuck end) moves w h = tt
leads i m j k e a ts rest deep moves w h = record {
  front = a ++ h.front;
  rest = h.rest;
  whole = w ∙ ap (λ z. a ++ z) h.whole ∙ sym (append_assoc a h.front h.rest);
  stands = λ n. let same : open_after (opens (above i n) m) (a ++ h.front) ≡ open_after (opens (above j n) k) h.front = open_append (opens (above i n) m) a h.front ∙ ap (λ c. open_after c h.front) (moves n) in rw same (h.stands n);
}

-- a form by itself, and what comes behind it under so many brackets
then_leveled : {A B : Type 0} (i m d : ℕ) (ts : List Token) (o : Outcome A) (f : A → Parser B) → Leveled 0 m d ts o → ((a : A) → Balanced i 0 (above i d) (f a)) → Leveled i m (above i d) ts (and_then o f)
then_leveled i m d ts (got a rest) f h go = leads i m i 0 (above i d) h.front ts rest (f a rest) (λ n. h.back (above i n)) h.whole ((go a).leveled rest)
then_leveled i m d ts (stuck rest) f h go = tt
then_leveled i m d ts deep f h go = record { front = h.front; rest = h.rest; whole = h.whole; stands = λ n. let s = h.stands (above i n) in omega (arith, above_sum i n, above_sum i d) }

pub then_balanced : {A B : Type 0} (i m d : ℕ) (p : Parser A) (f : A → Parser B) → Balanced 0 m d p → ((a : A) → Balanced i 0 (above i d) (f a)) → Balanced i m (above i d) (p >>= f)
then_balanced i m d p f h go = record { leveled = λ ts. then_leveled i m d ts (p ts) f (h.leveled ts) go }

-- what a token does to the count
pub record Moves (o : Token) (i m j k : ℕ) : Type 0 where
  pub moved : (n : ℕ) → opened (opens (above i n) m) o.kind ≡ opens (above j n) k

pub moves_as : (o : Token) (i m j k : ℕ) {c : Tok} → o.kind ≡ c → ((n : ℕ) → opened (opens (above i n) m) c ≡ opens (above j n) k) → Moves o i m j k
moves_as o i m j k e h = record { moved = λ n. ap (opened (opens (above i n) m)) e ∙ h n }

pub behind_token : {A : Type 0} (i m j k e : ℕ) (o : Token) (p : Parser A) → Moves o i m j k → Balanced j k e p → Behind i m e o p
behind_token i m j k e o p moves h = record { leveled = λ ts. leads i m j k e (o ∷ []) (o ∷ ts) ts (p ts) moves.moved refl (h.leveled ts) }

pub first_or_balanced : {A : Type 0} (i m e : ℕ) (f : Token → Option (Parser A)) (q : Parser A) → ((o : Token) → IfSome (f o) (λ p. Behind i m e o p)) → Balanced i m e q → Balanced i m e (first_or f q)
first_or_balanced {A = A} i m e f q each h = record { leveled = leveled }
  where
    by_start : (o : Token) (ts : List Token) (w : Option (Parser A)) → IfSome w (λ p. Behind i m e o p) → Leveled i m e (o ∷ ts) (behind w q o ts)
    by_start o ts (Some p) k = k.leveled ts
    by_start o ts None k = h.leveled (o ∷ ts)

    leveled : (ts : List Token) → Leveled i m e ts (first_or f q ts)
    leveled [] = h.leveled []
    leveled (o ∷ ts) = by_start o ts (f o) (each o)

pub first_balanced : {A : Type 0} (i m e : ℕ) (f : Token → Option (Parser A)) → ((o : Token) → IfSome (f o) (λ p. Behind i m e o p)) → Balanced i m e (first f)
first_balanced i m e f each = first_or_balanced i m e f refuse each (refuse_balanced i m e)

pub if_first_balanced : {A : Type 0} (i m e : ℕ) (test : Tok → Bool) (f : Token → Parser A) (q : Parser A) → ((o : Token) → test o.kind ≡ true → Behind i m e o (f o)) → Balanced i m e q → Balanced i m e (if_first test f q)
if_first_balanced i m e test f q on off = first_or_balanced i m e (λ o. where_true (test o.kind) (f o)) q (λ o. where_true_some (test o.kind) (f o) (λ p. Behind i m e o p) (on o)) off

pub expect_balanced : {A : Type 0} (i m e : ℕ) (test : Tok → Bool) (f : Token → Parser A) → ((o : Token) → test o.kind ≡ true → Behind i m e o (f o)) → Balanced i m e (expect test f)
expect_balanced i m e test f on = if_first_balanced i m e test f refuse on (refuse_balanced i m e)

module _ {S : Type 0} (e : ℕ) (step : Token → S → Option (Parser S)) (each : (o : Token) (s : S) → IfSome (step o s) (λ p. Behind 0 0 e o p)) where
  goes_on : (k : S → Parser S) (o : Token) → ((s : S) → Balanced 0 0 e (k s)) → (w : Option (Parser S)) → IfSome w (λ p. Behind 0 0 e o p) → IfSome (going_on k w) (λ p. Behind 0 0 e o p)
  goes_on k o ih (Some p) h = record { leveled = λ ts. then_leveled 0 0 e (o ∷ ts) (p ts) k (h.leveled ts) ih }
  goes_on k o ih None h = tt

  repeated_balanced : (n : ℕ) (s : S) → Balanced 0 0 e (repeated step n s)
  unfolding repeated
  repeated_balanced zero s = refuse_balanced 0 0 e
  repeated_balanced (suc n) s = first_or_balanced 0 0 e (λ o. going_on (repeated step n) (step o s)) (pure s)
      (λ o. goes_on (repeated step n) o (λ t. repeated_balanced n t) (step o s) (each o s)) (pure_balanced e s)

  pub repeat_balanced : (s : S) → Balanced 0 0 e (repeat step s)
  unfolding repeat
  repeat_balanced s = record { leveled = λ ts. (repeated_balanced (suc (length ts)) s).leveled ts }
