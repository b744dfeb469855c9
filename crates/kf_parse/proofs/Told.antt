-- What is read has its form, and where reading is stuck, what was read before can be completed.
use Rattle.std.proofs.Common.{◌≡◌, ℕ, zero, suc, Bool, true, false, List, [], ◌∷◌, ◌++◌, length, refl, sym, ◌∙◌, ap, subst, append_assoc, Option, Some, None, IfSome}
use Rattle.std.proofs.lemmas.List.{append-nil}
use Rattle.kf_lex.specs.declared.token.Token.{Token}
use Rattle.kf_lex.specs.declared.token.Tok.{Tok}
use Rattle.kf_parse.specs.Outcomes.{Outcome, got, stuck, deep, Parser, and_then, ◌>>=◌, pure, refuse, too_deep, behind, first_or, first, where_true, expect, if_first, going_on, repeated, repeat}

-- the tokens begin with a form of this value, and these follow
pub record Found {A : Type 0} (G : List Token → A → Type 0) (ts : List Token) (a : A) (rest : List Token) : Type 0 where
  pub front : List Token
  pub whole : ts ≡ front ++ rest
  pub tells : G front a

-- what comes before the rest can be completed
pub record Begun {A : Type 0} (G : List Token → A → Type 0) (ts : List Token) (rest : List Token) : Type 0 where
  pub front : List Token
  pub whole : ts ≡ front ++ rest
  pub more : List Token
  pub value : A
  pub tells : G (front ++ more) value

-- some tokens have the form
pub record Some_of {A : Type 0} (G : List Token → A → Type 0) : Type 0 where
  pub tokens : List Token
  pub value : A
  pub tells : G tokens value

abbrev pub Told : {A : Type 0} (G : List Token → A → Type 0) → List Token → Outcome A → Type 0
Told G ts (got a rest) = Found G ts a rest
Told G ts (stuck rest) = Begun G ts rest
Told G ts deep = Unit {0}

-- the form with tokens before it
abbrev pub After : {A : Type 0} → List Token → (List Token → A → Type 0) → List Token → A → Type 0
After front G = λ ts a. G (front ++ ts) a

-- a reader of a form that some tokens have
pub record Reader {A : Type 0} (G : List Token → A → Type 0) (p : Parser A) : Type 0 where
  pub told : (ts : List Token) → Told G ts (p ts)
  pub some : Some_of G

shift : {A : Type 0} (G : List Token → A → Type 0) (front ts rest : List Token) (o : Outcome A) → ts ≡ front ++ rest → Told (After front G) rest o → Told G ts o
shift G front ts rest (got a end) e h = record { front = front ++ h.front; whole = e ∙ ap (λ z. front ++ z) h.whole ∙ sym (append_assoc front h.front end); tells = h.tells }
shift G front ts rest (stuck end) e h = record {
  front = front ++ h.front;
  whole = e ∙ ap (λ z. front ++ z) h.whole ∙ sym (append_assoc front h.front end);
  more = h.more;
  value = h.value;
  tells = rw append_assoc h.tells;
}
shift G front ts rest deep e h = tt

some_after : {A : Type 0} (G : List Token → A → Type 0) (front : List Token) → Some_of (After front G) → Some_of G
some_after G front s = record { tokens = front ++ s.tokens; value = s.value; tells = s.tells }

then_told : {A B : Type 0} (F : List Token → A → Type 0) (G : List Token → B → Type 0) (ts : List Token) (o : Outcome A) (f : A → Parser B)
    → Told F ts o
    → ((front : List Token) (a : A) → F front a → Reader (After front G) (f a))
    → Told G ts (and_then o f)
then_told F G ts (got a rest) f h go = shift G h.front ts rest (f a rest) h.whole ((go h.front a h.tells).told rest)
then_told F G ts (stuck rest) f h go =
    let s = (go (h.front ++ h.more) h.value h.tells).some in
    record { front = h.front; whole = h.whole; more = h.more ++ s.tokens; value = s.value; tells = rw (← append_assoc) s.tells }
then_told F G ts deep f h go = tt

pub then_reads : {A B : Type 0} (F : List Token → A → Type 0) (G : List Token → B → Type 0) (p : Parser A) (f : A → Parser B)
    → Reader F p → ((front : List Token) (a : A) → F front a → Reader (After front G) (f a)) → Reader G (p >>= f)
then_reads F G p f h go = record {
  told = λ ts. then_told F G ts (p ts) f (h.told ts) go;
  some = some_after G h.some.tokens (go h.some.tokens h.some.value h.some.tells).some;
}

-- nothing is read, and the form can be had
none_told : {A : Type 0} (G : List Token → A → Type 0) (ts : List Token) → Some_of G → Told G ts (stuck ts)
none_told G ts s = record { front = []; whole = refl; more = s.tokens; value = s.value; tells = s.tells }

refuse_reads : {A : Type 0} (G : List Token → A → Type 0) → Some_of G → Reader G refuse
refuse_reads G s = record { told = λ ts. none_told G ts s; some = s }

pub deep_reads : {A : Type 0} (G : List Token → A → Type 0) → Some_of G → Reader G too_deep
deep_reads G s = record { told = λ ts. tt; some = s }

pub pure_reads : {A : Type 0} (G : List Token → A → Type 0) (a : A) → G [] a → Reader G (pure a)
pure_reads G a h = record { told = λ ts. record { front = []; whole = refl; tells = h }; some = record { tokens = []; value = a; tells = h } }

-- nothing more is wanted
pub done_reads : {A : Type 0} (G : List Token → A → Type 0) (front : List Token) (a : A) → G front a → Reader (After front G) (pure a)
done_reads G front a h = pure_reads (After front G) a (rw append-nil h)

told_as : {A : Type 0} (G H : List Token → A → Type 0) (ts : List Token) (o : Outcome A) → ((us : List Token) (a : A) → G us a → H us a) → Told G ts o → Told H ts o
told_as G H ts (got a rest) f h = record { front = h.front; whole = h.whole; tells = f h.front a h.tells }
told_as G H ts (stuck rest) f h = record { front = h.front; whole = h.whole; more = h.more; value = h.value; tells = f (h.front ++ h.more) h.value h.tells }
told_as G H ts deep f h = tt

pub reads_as : {A : Type 0} (G H : List Token → A → Type 0) (p : Parser A) → ((us : List Token) (a : A) → G us a → H us a) → Reader G p → Reader H p
reads_as G H p f h = record {
  told = λ ts. told_as G H ts (p ts) f (h.told ts);
  some = record { tokens = h.some.tokens; value = h.some.value; tells = f h.some.tokens h.some.value h.some.tells };
}

pub first_or_reads : {A : Type 0} (G : List Token → A → Type 0) (f : Token → Option (Parser A)) (q : Parser A)
    → ((o : Token) → IfSome (f o) (λ p. Reader (After (o ∷ []) G) p)) → Reader G q → Reader G (first_or f q)
first_or_reads {A = A} G f q each h = record { told = told; some = h.some }
  where
    by_start : (o : Token) (ts : List Token) (w : Option (Parser A)) → IfSome w (λ p. Reader (After (o ∷ []) G) p) → Told G (o ∷ ts) (behind w q o ts)
    by_start o ts (Some p) k = shift G (o ∷ []) (o ∷ ts) ts (p ts) refl (k.told ts)
    by_start o ts None k = h.told (o ∷ ts)

    told : (ts : List Token) → Told G ts (first_or f q ts)
    told [] = h.told []
    told (o ∷ ts) = by_start o ts (f o) (each o)

-- there is a token that says how to go on
pub first_reads : {A : Type 0} (G : List Token → A → Type 0) (f : Token → Option (Parser A)) (o : Token) (p : Parser A) → f o ≡ Some p
    → ((u : Token) → IfSome (f u) (λ q. Reader (After (u ∷ []) G) q)) → Reader G (first f)
first_reads {A = A} G f o p e each = first_or_reads G f refuse each (refuse_reads G (some_after G (o ∷ []) here.some))
  where
    Reads : Option (Parser A) → Type 0
    Reads w = IfSome w (λ q. Reader (After (o ∷ []) G) q)

    here : Reader (After (o ∷ []) G) p
    here = subst Reads e (each o)

pub where_true_some : {A : Type 0} (b : Bool) (a : A) (P : A → Type 0) → (b ≡ true → P a) → IfSome (where_true b a) P
where_true_some true a P h = h refl
where_true_some false a P h = tt

pub if_first_reads : {A : Type 0} (G : List Token → A → Type 0) (test : Tok → Bool) (f : Token → Parser A) (q : Parser A)
    → ((o : Token) → test o.kind ≡ true → Reader (After (o ∷ []) G) (f o)) → Reader G q → Reader G (if_first test f q)
if_first_reads G test f q on off = first_or_reads G (λ o. where_true (test o.kind) (f o)) q (λ o. where_true_some (test o.kind) (f o) (λ p. Reader (After (o ∷ []) G) p) (on o)) off

-- a token of a kind that stands nowhere
abbrev pub token_of : Tok → Token
token_of k = record { kind = k; start = 0; end = 0 }

pub expect_reads : {A : Type 0} (G : List Token → A → Type 0) (test : Tok → Bool) (f : Token → Parser A) (k : Tok) → test k ≡ true
    → ((o : Token) → test o.kind ≡ true → Reader (After (o ∷ []) G) (f o)) → Reader G (expect test f)
expect_reads G test f k e on = if_first_reads G test f refuse on (refuse_reads G (some_after G (token_of k ∷ []) (on (token_of k) e).some))

-- what holds of the tokens so far and of the state, and is kept by each step
module _ {S : Type 0} (R : List Token → S → Type 0) (step : Token → S → Option (Parser S))
    (keeps : (front : List Token) (s : S) → R front s → (o : Token) → IfSome (step o s) (λ p. Reader (After (o ∷ []) (After front R)) p)) where
  goes_on : (k : S → Parser S) (front : List Token) (o : Token) → ((us : List Token) (s : S) → R us s → Reader (After us R) (k s))
      → (w : Option (Parser S)) → IfSome w (λ p. Reader (After (o ∷ []) (After front R)) p) → IfSome (going_on k w) (λ p. Reader (After (o ∷ []) (After front R)) p)
  goes_on k front o ih (Some p) h = then_reads (After (o ∷ []) (After front R)) (After (o ∷ []) (After front R)) p k h
      (λ m s r. reads_as (After (front ++ o ∷ m) R) (After m (After (o ∷ []) (After front R))) (k s) (λ us a g. rw (← append_assoc front (o ∷ m) us) g) (ih (front ++ o ∷ m) s r))
  goes_on k front o ih None h = tt

  repeated_reads : (n : ℕ) (front : List Token) (s : S) → R front s → Reader (After front R) (repeated step n s)
  unfolding repeated
  repeated_reads zero front s r = refuse_reads (After front R) (done_reads R front s r).some
  repeated_reads (suc n) front s r = first_or_reads (After front R) (λ o. going_on (repeated step n) (step o s)) (pure s)
      (λ o. goes_on (repeated step n) front o (λ us s' r'. repeated_reads n us s' r') (step o s) (keeps front s r o))
      (done_reads R front s r)

  pub repeat_reads : (s : S) → R [] s → Reader R (repeat step s)
  unfolding repeat
  repeat_reads s r = record { told = λ ts. (repeated_reads (suc (length ts)) [] s r).told ts; some = record { tokens = []; value = s; tells = r } }
