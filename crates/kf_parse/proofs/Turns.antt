-- Turns of the code's loops: each takes a token that passes a test and what stands behind it.
use Rattle.std.proofs.Common.{◌≡◌, ◌<◌, Bool, true, false, List, [], ◌∷◌, length, drop, refl, ap, subst, arith, Option}
use Rattle.kf_lex.specs.declared.token.Token.{Token}
use Rattle.kf_lex.specs.declared.token.Tok.{Tok}
use Rattle.kf_parse.specs.Tokens.{is}
use Rattle.kf_parse.specs.Reads.{is_next, passes_next}
use Rattle.kf_parse.specs.Outcomes.{Outcome, got, stuck, deep, Parser, and_then, pure, where_true, repeat}
use Rattle.kf_parse.proofs.Loops.{Shrinks, ShrinksWhere, got_shorter, repeat_turn, repeat_stuck, repeat_deep, repeat_stop, repeat_end}

-- A second test of the token says how what stands behind it is read.
module _ {S : Type 0} (test mark : Tok → Bool) (p : Bool → S → Parser S) (x : S) where
  -- what a turn takes
  abbrev pub marking : Token → S → Option (Parser S)
  marking o y = where_true (test o.kind) (p (mark o.kind) y)

  marked_leaves : (o : Token) → ShrinksWhere (marking o x) → test o.kind ≡ true → Shrinks (p (mark o.kind) x)
  marked_leaves o h there = let P : Bool → Type 0 = λ b. ShrinksWhere (where_true b (p (mark o.kind) x)) in subst P there h

  pub marked_stops : (ts : List Token) → passes_next test ts ≡ false → repeat marking x ts ≡ got x ts
  marked_stops [] off = repeat_end marking x
  marked_stops (o ∷ ts) off = repeat_stop marking o x ts (rw off refl)

  module _ (us : List Token) where
    pub marked_stuck : (ts rest : List Token) → us ≡ drop 1 ts → passes_next test ts ≡ true → p (passes_next mark ts) x us ≡ stuck rest → repeat marking x ts ≡ stuck rest
    marked_stuck [] rest behind there e = absurd (cc)
    marked_stuck (o ∷ ts) rest behind there e = repeat_stuck marking o x ts {p = p (mark o.kind) x} (rw there refl) (rw (← behind) e)

    pub marked_deep : (ts : List Token) → us ≡ drop 1 ts → passes_next test ts ≡ true → p (passes_next mark ts) x us ≡ deep → repeat marking x ts ≡ deep
    marked_deep [] behind there e = absurd (cc)
    marked_deep (o ∷ ts) behind there e = repeat_deep marking o x ts {p = p (mark o.kind) x} (rw there refl) (rw (← behind) e)

    module _ (steps : (o : Token) (y : S) → ShrinksWhere (marking o y)) where
      pub marked_got : (ts rest : List Token) (y : S) → us ≡ drop 1 ts → passes_next test ts ≡ true → p (passes_next mark ts) x us ≡ got y rest → repeat marking x ts ≡ repeat marking y rest
      marked_got [] rest y behind there e = absurd (cc)
      marked_got (o ∷ ts) rest y behind there e = repeat_turn marking steps o x ts {p = p (mark o.kind) x} (rw there refl) (rw (← behind) e)

      pub marked_shorter : (ts rest : List Token) (y : S) → us ≡ drop 1 ts → passes_next test ts ≡ true → p (passes_next mark ts) x us ≡ got y rest → length rest < length ts
      marked_shorter [] rest y behind there e = absurd (cc)
      marked_shorter (o ∷ ts) rest y behind there e =
          let n = got_shorter (p (mark o.kind) x) (marked_leaves o (steps o x) there) us e in
          let l : length us ≡ length ts = ap length behind in
          omega arith

-- A token of one kind, behind which all is read alike.
module _ {S : Type 0} (kind : Tok) (p : S → Parser S) (x : S) where
  -- what a turn takes
  abbrev pub taking : Token → S → Option (Parser S)
  taking o y = where_true (is kind o.kind) (p y)

  pub stops : (ts : List Token) → is_next kind ts ≡ false → repeat taking x ts ≡ got x ts
  stops = marked_stops (is kind) (is kind) (λ b. p) x

  module _ (us : List Token) where
    pub turn_stuck : (ts rest : List Token) → us ≡ drop 1 ts → is_next kind ts ≡ true → p x us ≡ stuck rest → repeat taking x ts ≡ stuck rest
    turn_stuck = marked_stuck (is kind) (is kind) (λ b. p) x us

    pub turn_deep : (ts : List Token) → us ≡ drop 1 ts → is_next kind ts ≡ true → p x us ≡ deep → repeat taking x ts ≡ deep
    turn_deep = marked_deep (is kind) (is kind) (λ b. p) x us

    module _ (steps : (o : Token) (y : S) → ShrinksWhere (taking o y)) where
      pub turn_got : (ts rest : List Token) (y : S) → us ≡ drop 1 ts → is_next kind ts ≡ true → p x us ≡ got y rest → repeat taking x ts ≡ repeat taking y rest
      turn_got = marked_got (is kind) (is kind) (λ b. p) x us steps

      pub turn_shorter : (ts rest : List Token) (y : S) → us ≡ drop 1 ts → is_next kind ts ≡ true → p x us ≡ got y rest → length rest < length ts
      turn_shorter = marked_shorter (is kind) (is kind) (λ b. p) x us steps

-- what is made of an element
pub made : {A B : Type 0} (o : Outcome A) (f : A → B) (a : A) (rest : List Token) → o ≡ got a rest → and_then o (λ y. pure (f y)) ≡ got (f a) rest
made o f a rest e = ap (λ v. and_then v (λ y. pure (f y))) e
