-- What a reader leaves is an end of the tokens that it was given, and loops of such readers go on by whole turns.
use Rattle.std.proofs.Common.{◌≡◌, ℕ, zero, suc, ◌+◌, ◌≤◌, ◌<◌, List, [], ◌∷◌, ◌++◌, length, refl, sym, ◌∙◌, ap, subst, append_assoc, length-append, arith, Option, Some, None}
use Rattle.kf_lex.specs.declared.token.Token.{Token}
use Rattle.kf_parse.specs.Outcomes.{Outcome, got, stuck, deep, Parser, and_then, ◌>>=◌, pure, refuse, behind, first_or, going_on, repeated, repeat}

-- the second list is an end of the first
pub record IsEnd (ts z : List Token) : Type 0 where
  pub front : List Token
  pub whole : ts ≡ front ++ z

-- what is left of the tokens is an end of them
abbrev pub Leaves : {A : Type 0} → List Token → Outcome A → Type 0
Leaves ts (got a rest) = IsEnd ts rest
Leaves ts (stuck rest) = IsEnd ts rest
Leaves ts deep = Unit {0}

abbrev pub Shrinks : {A : Type 0} → Parser A → Type 0
Shrinks p = (ts : List Token) → Leaves ts (p ts)

abbrev pub ShrinksWhere : {A : Type 0} → Option (Parser A) → Type 0
ShrinksWhere (Some p) = Shrinks p
ShrinksWhere None = Unit {0}

pub end_self : (ts : List Token) → IsEnd ts ts
end_self ts = record { front = []; whole = refl }

pub end_trans : (ts us z : List Token) → IsEnd ts us → IsEnd us z → IsEnd ts z
end_trans ts us z h k = record { front = h.front ++ k.front; whole = h.whole ∙ ap (λ w. h.front ++ w) k.whole ∙ sym (append_assoc h.front k.front z) }

pub end_past : (o : Token) (ts z : List Token) → IsEnd ts z → IsEnd (o ∷ ts) z
end_past o ts z h = record { front = o ∷ h.front; whole = ap (λ w. o ∷ w) h.whole }

pub end_shorter : (ts z : List Token) → IsEnd ts z → length z ≤ length ts
end_shorter ts z h = let n : length ts ≡ length (h.front ++ z) = ap length h.whole in let l : length (h.front ++ z) ≡ length h.front + length z = length-append h.front z in omega arith

-- what a reader that shrinks has read, or is stuck at, is no longer than what it was given
pub got_shorter : {A : Type 0} (p : Parser A) → Shrinks p → (ts : List Token) {a : A} {rest : List Token} → p ts ≡ got a rest → length rest ≤ length ts
got_shorter p h ts {a = a} {rest = rest} e = let P : Outcome _ → Type 0 = λ o. Leaves ts o in end_shorter ts rest (subst P e (h ts))

pub stuck_shorter : {A : Type 0} (p : Parser A) → Shrinks p → (ts : List Token) {rest : List Token} → p ts ≡ stuck rest → length rest ≤ length ts
stuck_shorter p h ts {rest = rest} e = let P : Outcome _ → Type 0 = λ o. Leaves ts o in end_shorter ts rest (subst P e (h ts))

leaves_more : {A : Type 0} (ts us : List Token) (o : Outcome A) → IsEnd ts us → Leaves us o → Leaves ts o
leaves_more ts us (got a rest) h k = end_trans ts us rest h k
leaves_more ts us (stuck rest) h k = end_trans ts us rest h k
leaves_more ts us deep h k = tt

pub pure_shrinks : {A : Type 0} (a : A) → Shrinks (pure a)
pure_shrinks a ts = end_self ts

pub refuse_shrinks : (A : Type 0) → Shrinks {A = A} refuse
refuse_shrinks A ts = end_self ts

pub then_shrinks : {A B : Type 0} (p : Parser A) (f : A → Parser B) → Shrinks p → ((a : A) → Shrinks (f a)) → Shrinks (p >>= f)
then_shrinks p f h k ts = go (p ts) (h ts)
  where
    go : (o : Outcome _) → Leaves ts o → Leaves ts (and_then o f)
    go (got a rest) e = leaves_more ts rest (f a rest) e (k a rest)
    go (stuck rest) e = e
    go deep e = tt

pub first_or_shrinks : {A : Type 0} (f : Token → Option (Parser A)) (q : Parser A) → ((o : Token) → ShrinksWhere (f o)) → Shrinks q → Shrinks (first_or f q)
first_or_shrinks f q k h [] = h []
first_or_shrinks f q k h (o ∷ ts) = go (f o) (k o)
  where
    go : (v : Option (Parser _)) → ShrinksWhere v → Leaves (o ∷ ts) (behind v q o ts)
    go (Some p) e = leaves_more (o ∷ ts) ts (p ts) (end_past o ts ts (end_self ts)) (e ts)
    go None e = h (o ∷ ts)

module _ {S : Type 0} (step : Token → S → Option (Parser S)) (shrinks : (o : Token) (s : S) → ShrinksWhere (step o s)) where
  repeated_shrinks : (n : ℕ) (s : S) → Shrinks (repeated step n s)
  unfolding repeated
  repeated_shrinks zero s = refuse_shrinks S
  repeated_shrinks (suc n) s = first_or_shrinks (λ o. going_on (repeated step n) (step o s)) (pure s) (λ o. go (step o s) (shrinks o s) (λ t. repeated_shrinks n t)) (pure_shrinks s)
    where
      go : (v : Option (Parser S)) → ShrinksWhere v → ((t : S) → Shrinks (repeated step n t)) → ShrinksWhere (going_on (repeated step n) v)
      go (Some p) h ih = then_shrinks p (repeated step n) h ih
      go None h ih = tt

  pub repeat_shrinks : (s : S) → Shrinks (repeat step s)
  unfolding repeat
  repeat_shrinks s ts = repeated_shrinks (suc (length ts)) s ts

  -- more steps than there are tokens change nothing
  pub repeated_enough : (n m : ℕ) (s : S) (ts : List Token) → length ts < n → length ts < m → repeated step n s ts ≡ repeated step m s ts
  unfolding repeated
  repeated_enough zero m s ts low high = absurd (omega arith)
  repeated_enough (suc n) zero s ts low high = absurd (omega arith)
  repeated_enough (suc n) (suc m) s [] low high = refl
  repeated_enough (suc n) (suc m) s (o ∷ ts) low high = go (step o s) (shrinks o s) (λ t rest less. repeated_enough n m t rest (omega arith) (omega arith))
    where
      after : (v : Outcome S) → Leaves ts v → ((t : S) (rest : List Token) → length rest ≤ length ts → repeated step n t rest ≡ repeated step m t rest) → and_then v (repeated step n) ≡ and_then v (repeated step m)
      after (got t rest) h ih = ih t rest (end_shorter ts rest h)
      after (stuck rest) h ih = refl
      after deep h ih = refl

      go : (v : Option (Parser S)) → ShrinksWhere v → ((t : S) (rest : List Token) → length rest ≤ length ts → repeated step n t rest ≡ repeated step m t rest)
          → behind (going_on (repeated step n) v) (pure s) o ts ≡ behind (going_on (repeated step m) v) (pure s) o ts
      go (Some p) h ih = after (p ts) (h ts) ih
      go None h ih = refl

  -- a turn whose step is read
  pub repeat_turn : (o : Token) (s : S) (ts : List Token) {p : Parser S} {t : S} {rest : List Token} → step o s ≡ Some p → p ts ≡ got t rest → repeat step s (o ∷ ts) ≡ repeat step t rest
  unfolding repeat repeated
  repeat_turn o s ts {p = p} {t = t} {rest = rest} e h =
      let W : Option (Parser S) → Type 0 = ShrinksWhere in
      let ends : Shrinks p = subst W e (shrinks o s) in
      let less : length rest ≤ length ts = got_shorter p ends ts h in
      rw e (rw h (repeated_enough (length (o ∷ ts)) (suc (length rest)) t rest (omega arith) (omega arith)))

-- a step that is stuck, or nests too deep, ends the loop so
module _ {S : Type 0} (step : Token → S → Option (Parser S)) where
  pub repeat_stuck : (o : Token) (s : S) (ts : List Token) {p : Parser S} {rest : List Token} → step o s ≡ Some p → p ts ≡ stuck rest → repeat step s (o ∷ ts) ≡ stuck rest
  unfolding repeat repeated
  repeat_stuck o s ts e h = rw e (rw h refl)

  pub repeat_deep : (o : Token) (s : S) (ts : List Token) {p : Parser S} → step o s ≡ Some p → p ts ≡ deep → repeat step s (o ∷ ts) ≡ deep
  unfolding repeat repeated
  repeat_deep o s ts e h = rw e (rw h refl)

  pub repeat_stop : (o : Token) (s : S) (ts : List Token) → step o s ≡ None → repeat step s (o ∷ ts) ≡ got s (o ∷ ts)
  unfolding repeat repeated
  repeat_stop o s ts e = rw e refl

  pub repeat_end : (s : S) → repeat step s [] ≡ got s []
  unfolding repeat repeated
  repeat_end s = refl
